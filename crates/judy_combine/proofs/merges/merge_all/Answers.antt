use Rattle.std.proofs.Common.{◌≡◌, ◌^◌, ◌++◌, [], cond, take, drop, sym, ap, ◌∙◌, subst}
use Rattle.judy_node.specs.Trees.{IsMap}
use Rattle.judy_combine.specs.Kept.{AreKept}
use Rattle.judy_combine.proofs.Ends.{whole, whole_map, whole_kept, rest_is}
use Rattle.judy_combine.proofs.merges.merge_all.Goals as goal

pub returns-clause-map : goal.returns-clause-map
returns-clause-map g c =
    let words = g.V.Words.WORDS in
    let keep = c.args.keep in
    let one = c.args.one.now in
    let other = c.args.other.now in
    let passed = c.merge-passed.result in
    let front = take passed.count c.merge-passed.new.out in
    let is : take c.add_if.result c.add_if.new.out ≡ whole keep one other passed.left passed.right front =
    c.add_if.ensures.added
    ∙ (λ t. c.add_if-count.ensures.added t ++ cond keep.right (rest_is other passed.right t) [])
    ∙ ap (λ ps. (front ++ cond keep.left ps []) ++ cond keep.right (drop passed.right other) []) (rest_is one passed.left) in
    let ordered = c.merge-passed.ensures.ordered words (256 ^ c.args.width) c.requires.map c.requires.other_map in
    subst (IsMap words 0 (256 ^ c.args.width)) (sym is)
    (whole_map keep words (256 ^ c.args.width) one other passed.left passed.right front c.requires.map c.requires.other_map c.merge-passed.ensures.end ordered c.merge-passed.ensures.merged)

pub returns-clause-kept : goal.returns-clause-kept
returns-clause-kept g c =
    let words = g.V.Words.WORDS in
    let keep = c.args.keep in
    let one = c.args.one.now in
    let other = c.args.other.now in
    let passed = c.merge-passed.result in
    let front = take passed.count c.merge-passed.new.out in
    let is : take c.add_if.result c.add_if.new.out ≡ whole keep one other passed.left passed.right front =
    c.add_if.ensures.added
    ∙ (λ t. c.add_if-count.ensures.added t ++ cond keep.right (rest_is other passed.right t) [])
    ∙ ap (λ ps. (front ++ cond keep.left ps []) ++ cond keep.right (drop passed.right other) []) (rest_is one passed.left) in
    let ordered = c.merge-passed.ensures.ordered words (256 ^ c.args.width) c.requires.map c.requires.other_map in
    subst (AreKept keep one other) (sym is)
    (whole_kept keep words (256 ^ c.args.width) one other passed.left passed.right front c.requires.map c.requires.other_map c.merge-passed.ensures.end ordered c.merge-passed.ensures.merged)
