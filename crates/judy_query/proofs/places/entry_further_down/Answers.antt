use Rattle.std.proofs.Common.{◌≡◌, ◌+◌, ◌-◌, ◌^◌, length, Some, sym, ap, ◌∙◌, subst, arith}
use Rattle.std.proofs.lemmas.Option.{same_Some, slice_get-get_or, slice_get_within}
use Rattle.judy_node.specs.Views.{view_pairs}
use Rattle.judy_query.specs.Parts.{IsDown, raised, width_of}
use Rattle.judy_query.proofs.Downs.{down_branch, down_top, start_word, start_child, start_down}
use Rattle.judy_query.proofs.RankFacts.{part-at, at_below}
use Rattle.judy_query.proofs.places.entry_further_down.Goals as goal

pub down-init : goal.down-init
down-init g c = (down_top g.V.Words.WORDS c.args.top c.requires.shown, omega arith, c.requires.inside, omega arith, omega arith)

pub start_of-base-requires-clause-place : goal.start_of-base-requires-clause-place
start_of-base-requires-clause-place g c = slice_get_within c.in-Branch.branch.now.children.items c.holding-at.result.0 c.holding-at.ensures.0 c.holding-at.ensures.1.there

pub overflow_add-base : goal.overflow_add-base
overflow_add-base g c =
    let words = g.V.Words.WORDS in
    let top = view_pairs c.args.top in
    let down = down_branch c.down.invariant.0 c.in-Branch.is in
    let inside = slice_get_within c.in-Branch.branch.now.children.items c.holding-at.result.0 c.holding-at.ensures.0 c.holding-at.ensures.1.there in
    let word = start_word words top c.in-Branch.branch c.down.base down c.holding-at.result.0 c.start_of-base.result inside c.start_of-base.ensures in
    omega arith

pub index-requires : goal.index-requires
index-requires g c =
    let inside = slice_get_within c.in-Branch.branch.now.children.items c.holding-at.result.0 c.holding-at.ensures.0 c.holding-at.ensures.1.there in
    omega (arith, c.in-Branch.branch.now.children.ok.0)

pub enter-view-requires : goal.enter-view-requires
enter-view-requires g c =
    let words = g.V.Words.WORDS in
    let top = view_pairs c.args.top in
    let down = down_branch c.down.invariant.0 c.in-Branch.is in
    let inside = slice_get_within c.in-Branch.branch.now.children.items c.holding-at.result.0 c.holding-at.ensures.0 c.holding-at.ensures.1.there in
    let child = start_child words top c.in-Branch.branch c.down.base down c.holding-at.result.0 c.start_of-base.result inside c.start_of-base.ensures c.index.result.now c.index.ensures in
    let here = ap width_of c.in-Branch.is in
    let some = child.low_width in
    let top_narrow = c.requires.shown.narrow in
    (omega arith, (omega (arith, c.down.invariant.3, c.requires.room), child))

pub down-smaller : goal.down-smaller
down-smaller g c =
    let words = g.V.Words.WORDS in
    let top = view_pairs c.args.top in
    let down = down_branch c.down.invariant.0 c.in-Branch.is in
    let inside = slice_get_within c.in-Branch.branch.now.children.items c.holding-at.result.0 c.holding-at.ensures.0 c.holding-at.ensures.1.there in
    let next = start_down words top c.in-Branch.branch c.down.base down c.holding-at.result.0 c.start_of-base.result inside c.start_of-base.ensures c.index.result.now
    c.index.ensures c.enter-view.result c.enter-view.ensures.view in
    let here = ap width_of c.in-Branch.is in
    let less = next.2 in
    omega arith

pub down-preserved : goal.down-preserved
down-preserved g c =
    let words = g.V.Words.WORDS in
    let top = view_pairs c.args.top in
    let kids = c.in-Branch.branch.now.children.items in
    let at = c.holding-at.result.0 in
    let holds = c.holding-at.ensures.1 in
    let way = subst (λ v. (down : IsDown words top v c.down.base 0) × (c.args.place ≡ length down.front + c.down.left)) c.in-Branch.is (c.down.invariant.0, c.down.invariant.1) in
    let inside = slice_get_within kids at c.holding-at.ensures.0 holds.there in
    let next = start_down words top c.in-Branch.branch c.down.base way.0 at c.start_of-base.result inside c.start_of-base.ensures c.index.result.now c.index.ensures
    c.enter-view.result c.enter-view.ensures.view in
    let same = same_Some c.holding-at.ensures.0 c.index.result.now (sym holds.there ∙ slice_get-get_or kids at c.index.result.now inside ∙ ap Some (sym c.index.ensures)) in
    let long = ap (λ kid. length kid.pairs) same ∙ ap length c.enter-view.ensures.view.pairs in
    let counted = holds.counted in
    let within = holds.inside in
    let so_far = way.1 in
    let front = next.1 in
    let here = ap width_of c.in-Branch.is in
    let less = next.2 in
    let visits = c.enter-view.ensures.visits in
    let room = c.down.invariant.3 in
    (next.0, omega arith, omega arith, omega arith, omega (arith, visits, c.down.invariant.4))

pub overflow_add-result : goal.overflow_add-result
overflow_add-result g c =
    let down = c.down.invariant.0 in
    let fits = down.part.fits in
    let below = at_below g.V.Words.WORDS 0 (256 ^ width_of c.down.view) (view_pairs c.down.view) c.down.left c.entry_in-key.result.0 c.entry_in-key.result.1 down.shown.map c.entry_in-key.ensures in
    omega arith

pub returns : goal.returns
returns g c =
    let words = g.V.Words.WORDS in
    let top = view_pairs c.args.top in
    let down = c.down.invariant.0 in
    let some = down.shown.some in
    let room = c.down.invariant.3 in
    let whole : c.down.base - 0 ≡ c.down.base = omega arith in
    record {
      entry =
          part-at words (256 ^ 8) top (c.down.base - 0) (256 ^ width_of c.down.view) c.down.left c.args.place
          (view_pairs c.down.view) down.front down.back down.part c.down.invariant.1 c.down.invariant.2
          ∙ ap (raised (c.down.base - 0)) c.entry_in-key.ensures ∙ (λ t. Some (whole t + c.entry_in-key.result.0, c.entry_in-key.result.1));
      no_fewer = c.down.invariant.4;
      visits = omega arith;
    }
