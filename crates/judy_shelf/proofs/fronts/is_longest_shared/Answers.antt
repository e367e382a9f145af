use Rattle.std.proofs.Common.{◌==◌, ap, ◌∙◌}
use Rattle.std.proofs.lemmas.List.{take_rest}
use Rattle.judy_model.specs.DumpText.{shared_length}
use Rattle.judy_shelf.proofs.SharedLemmas.{longest_shared}
use Rattle.judy_shelf.proofs.fronts.is_longest_shared.Goals as goal

pub returns : goal.returns
returns c =
    let told = c.shared_len.ensures.shared ∙ ap (λ front. shared_length front c.args.suffix.now) (take_rest c.args.before.now c.args.shared) in
    ap (λ n. n == 0) told ∙ longest_shared c.args.before.now c.args.shared c.args.suffix.now c.requires
