-- `fill_by_place`: each turn writes the pair at the next place; where there is none, or no room for it, those that fit are written.
use Rattle.std.proofs.Common.{◌≡◌, ◌+◌, ◌-◌, length, take, drop, slice_set, sym, ap, subst, ◌∙◌, arith}
use Rattle.std.proofs.lemmas.List.{drop-drop}
use Rattle.std.specs.FinMap.{entries}
use Rattle.judy_c.specs.KeyWalks.{Pairs, EndsBytes, page_of, fitting}
use Rattle.judy_c.proofs.PageLemmas.{IsSoFar, so_far_none, so_far_all}
use Rattle.judy_c.proofs.PlacePairs.{none_fits, so_far_put, ends_put}
use Rattle.judy_c.proofs.key_walks.fill.fill_by_place.Goals as goal

pub loop-count-init : goal.loop-count-init
loop-count-init c =
    let pairs = entries c.args.array.now.map in
    let before = page_of c.args.bytes.now c.args.entries.now in
    let here : c.args.place ≡ c.args.place + 0 = omega arith in
    (subst (λ n. IsSoFar (drop c.args.place pairs) before 0 0 (drop n pairs) before) here (so_far_none (drop c.args.place pairs) before), tt)

pub loop-count-preserved : goal.loop-count-preserved
loop-count-preserved c =
    let m = c.args.array.now.map in
    let pairs = entries m in
    let all = drop c.args.place pairs in
    let before = page_of c.args.bytes.now c.args.entries.now in
    let now = page_of c.loop-count.bytes c.loop-count.entries in
    let place = c.args.place + c.loop-count.count in
    let put = c.in-Some.ensures in
    let further : place + 1 ≡ c.args.place + (c.loop-count.count + 1) = omega arith in (
      subst (λ (rest : Pairs). IsSoFar all before (c.loop-count.used + c.in-Some.entry.length) (c.loop-count.count + 1) rest
          (page_of c.put_turn.new.bytes (slice_set c.loop-count.entries c.loop-count.count c.in-Some.entry)))
          (drop-drop 1 place pairs ∙ ap (λ n. drop n pairs) further)
          (so_far_put all before c.loop-count.used c.loop-count.count (drop place pairs) now c.in-Some.entry c.put_turn.new.bytes c.loop-count.invariant.0 c.loop-count-test.true
          put.0 put.1 put.2),
      subst (λ n. EndsBytes m n (take (c.loop-count.used + c.in-Some.entry.length) c.put_turn.new.bytes) c.in-Some.entry.length) further
          (ends_put m place c.loop-count.used c.loop-count.bytes c.put_turn.new.bytes c.in-Some.entry put.0 put.1 put.2),
    )

pub returns-in_default : goal.returns-in_default
returns-in_default c =
    let pairs = entries c.args.array.now.map in
    let all = drop c.args.place pairs in
    let before = page_of c.args.bytes.now c.args.entries.now in
    let rest = drop (c.args.place + c.loop-count.count) pairs in
    let none = c.in_default.ensures in
    rw none.1
    (so_far_all all before c.loop-count.used c.loop-count.count rest (page_of c.loop-count.bytes c.loop-count.entries) c.loop-count.invariant.0
    (none_fits (length c.args.bytes.now - c.loop-count.used) (length c.args.entries.now - c.loop-count.count) rest
    (ap (λ n. fitting (n - c.loop-count.used) 1 rest) (sym c.loop-count.invariant.0.as_many_bytes) ∙ none.0)))
