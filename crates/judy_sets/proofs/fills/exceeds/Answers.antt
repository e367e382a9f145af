use Rattle.std.proofs.Common.{◌≡◌, ℕ, ◌-◌, cond, ap, ◌∙◌, refl, arith, ltb-true, lt-ltb}
use Rattle.std.specs.FinMap.{len}
use Rattle.judy_model.specs.TwoMaps.{intersection}
use Rattle.judy_sets.proofs.CountFacts.{common-most, common-rest}
use Rattle.judy_sets.proofs.FillFacts.{kept_most}
use Rattle.judy_sets.proofs.Lengths.{len-kept}
use Rattle.judy_sets.proofs.fills.exceeds.Goals as goal

pub returns-then-share-limit : goal.returns-then-share-limit
returns-then-share-limit g c =
    let keep = c.args.keep in
    let one = c.args.one.now.map in
    let other = c.args.other.now.map in
    let kept_is = len-kept keep one other in
    let most = kept_most keep (len one) (len other) (len (intersection one other)) (common-most one other) in
    let shared : c.share.result ≡ cond keep.right (len other) 0 = c.share.ensures ∙ ap (λ (n : ℕ). cond keep.right n 0) c.len-theirs.ensures.count in
    let ours = c.len-ours.ensures.count in
    let room = c.if-ours-limit.true in
    let rest = c.if-share-limit.true in
    (λ never. absurd cc, λ more. absurd (omega (arith, kept_is, most, shared, ours, room, rest, more)))

pub overflow_sub-ours : goal.overflow_sub-ours
overflow_sub-ours g c =
    let most = common-most c.args.one.now.map c.args.other.now.map in
    let ours = c.len-ours.ensures.count in
    let common = c.common_count-common.ensures in
    omega (arith, most, ours, common)

pub returns-then-limit-front : goal.returns-then-limit-front
returns-then-limit-front g c =
    let keep = c.args.keep in
    let one = c.args.one.now.map in
    let other = c.args.other.now.map in
    let kept_is = len-kept keep one other in
    let both : c.share-2.result ≡ cond keep.both (len (intersection one other)) 0 = c.share-2.ensures ∙ ap (λ (n : ℕ). cond keep.both n 0) c.common_count-common.ensures in
    let left : c.share-3.result ≡ cond keep.left (len one - len (intersection one other)) 0 = c.share-3.ensures ∙
    (λ t. cond keep.left (c.len-ours.ensures.count t - c.common_count-common.ensures t) 0) in
    let more = c.if-limit-front.true in
    (λ _. omega (arith, kept_is, both, left, more), λ _. refl)

pub overflow_sub-theirs : goal.overflow_sub-theirs
overflow_sub-theirs g c =
    let most = common-rest c.args.one.now.map c.args.other.now.map in
    let theirs = c.len-theirs.ensures.count in
    let common = c.common_count-common.ensures in
    omega (arith, most, theirs, common)

pub returns : goal.returns
returns g c =
    let keep = c.args.keep in
    let one = c.args.one.now.map in
    let other = c.args.other.now.map in
    let kept_is = len-kept keep one other in
    let both : c.share-2.result ≡ cond keep.both (len (intersection one other)) 0 = c.share-2.ensures ∙ ap (λ (n : ℕ). cond keep.both n 0) c.common_count-common.ensures in
    let left : c.share-3.result ≡ cond keep.left (len one - len (intersection one other)) 0 = c.share-3.ensures ∙
    (λ t. cond keep.left (c.len-ours.ensures.count t - c.common_count-common.ensures t) 0) in
    let right : c.share-4.result ≡ cond keep.right (len other - len (intersection one other)) 0 = c.share-4.ensures ∙
    (λ t. cond keep.right (c.len-theirs.ensures.count t - c.common_count-common.ensures t) 0) in
    let within = c.if-limit-front.false in (
      λ test. let less = ltb-true _ _ test in omega (arith, kept_is, both, left, right, within, less),
      λ more. lt-ltb _ _ (omega (arith, kept_is, both, left, right, within, more)),
    )
