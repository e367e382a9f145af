use Rattle.std.proofs.Common.{◌≡◌, ℕ, cond, ap, ◌∙◌, arith, ltb-true, lt-ltb}
use Rattle.std.specs.FinMap.{len}
use Rattle.judy_string_sets.proofs.CountFacts.{kept_most}
use Rattle.judy_string_sets.proofs.fills.exceeds.Goals as goal

pub returns-then-share-limit : goal.returns-then-share-limit
returns-then-share-limit g c =
    let rest = c.args.rest in
    let other = c.args.other.now.map in
    let most = kept_most c.args.which rest c.args.one.now.map other in
    let shared : c.share.result ≡ cond rest (len other) 0 = c.share.ensures ∙ ap (λ (n : ℕ). cond rest n 0) c.len-theirs.ensures.count in
    let ours = c.len-ours.ensures.count in
    let room = c.if-ours-limit.true in
    let left = c.if-share-limit.true in
    (λ never. absurd cc, λ more. absurd (omega (arith, most, shared, ours, room, left, more)))

pub returns : goal.returns
returns g c =
    let counted = c.kept_count.ensures in
    let few = c.requires in (
      λ test. let less = ltb-true _ _ test in omega (arith, counted, few, less),
      λ more. lt-ltb _ _ (omega (arith, counted, few, more)),
    )
