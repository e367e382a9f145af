use Rattle.std.proofs.Common.{ℕ, refl, ap, ◌∙◌, arith}
use Rattle.std.specs.FinMap.{FinMap}
use Rattle.judy_model.specs.Keys.{word_order}
use Rattle.judy_word.specs.Held.{Held, array_in}
use Rattle.judy_word.proofs.ArrayFacts.{one-new}
use Rattle.judy_word.proofs.word_array.judy1.Judy1.of_one.Goals as goal

pub returns-clause-set : goal.returns-clause-set
returns-clause-set c =
    ap (λ (held : Held). array_in held) c.of_one.ensures
    ∙ ap (λ (map : FinMap word_order ℕ). record { limit = 18446744073709551615; map = map }) (one-new c.args.i 0 (omega arith) refl)
