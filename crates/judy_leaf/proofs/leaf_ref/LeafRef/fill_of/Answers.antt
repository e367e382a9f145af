use Rattle.std.proofs.Common.{◌+◌, ◌^◌, ◌<◌, length, ◌∙◌, subst, arith}
use Rattle.std.specs.List.{AllByRecursion}
use Rattle.judy_leaf.specs.KeyLists.{keys_of}
use Rattle.judy_leaf.proofs.Bounds.{key_below}
use Rattle.judy_leaf.proofs.Fills.{written_more, all_made}
use Rattle.judy_leaf.proofs.leaf_ref.LeafRef.fill_of.Goals as goal

pub overflow_add-base : goal.overflow_add-base
overflow_add-base g c =
    let inside = c.loop-place-test.true in
    let room = c.requires.inside in
    let below = key_below (256 ^ g.row.W) c.args.self.now.pairs (c.args.at + c.loop-place.place) (subst
    (λ w. AllByRecursion (λ key. key < 256 ^ w) (keys_of c.args.self.now.pairs)) c.requires.width c.len-count.ensures.list.below) (omega arith) in
    omega (arith, c.requires.fits, below, c.key_of-key.ensures)

pub loop-place-preserved : goal.loop-place-preserved
loop-place-preserved g c =
    let inside = c.loop-place-test.true in
    let long = c.loop-place.auto.out in
    written_more g.E.FromPair.made c.args.base c.args.self.now.pairs c.args.at c.loop-place.place c.loop-place.out c.from_pair.result (omega arith) (omega (arith, c.requires.inside))
    (c.from_pair.ensures ∙ (λ t. g.E.FromPair.made (c.args.base + c.key_of-key.ensures t) (c.value_at.ensures t))) c.loop-place.invariant

pub returns : goal.returns
returns g c =
    let past = c.loop-place-test.false in
    let most = c.loop-place.auto.place-end in
    all_made g.E.FromPair.made c.args.base c.args.at c.loop-place.place (length c.args.out.now) c.args.self.now.pairs c.loop-place.out (omega arith)
    (c.loop-place.auto.out ∙ omega arith) c.loop-place.invariant
