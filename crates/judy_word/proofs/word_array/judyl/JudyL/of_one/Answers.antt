use Rattle.std.proofs.Common.{ℕ, ap, ◌∙◌, arith}
use Rattle.std.specs.FinMap.{FinMap}
use Rattle.judy_model.specs.Keys.{word_order}
use Rattle.judy_word.specs.Held.{Held, array_in}
use Rattle.judy_word.proofs.ArrayFacts.{one-written}
use Rattle.judy_word.proofs.word_array.judyl.JudyL.of_one.Goals as goal

pub returns-clause-put : goal.returns-clause-put
returns-clause-put c =
    ap (λ (held : Held). array_in held) c.of_one.ensures
    ∙ ap (λ (map : FinMap word_order ℕ). record { limit = 18446744073709551615; map = map }) (one-written c.args.i c.args.value (omega arith))
