use Rattle.std.proofs.Common.{ℕ, ◌^◌, ◌≤◌, List, filter, length, drop, replicate, refl, sym, ap, ◌∙◌, subst, arith}
use Rattle.std.proofs.Math.Nat.{pow-le-pow_right}
use Rattle.judy_model.specs.Ways.{Ascends}
use Rattle.judy_bits.specs.ByteSets as set
use Rattle.judy_leaf.specs.KeyLists.{keys_of}
use Rattle.judy_node.proofs.Maps.{shift-zero}
use Rattle.judy_sets.proofs.LeafPairs.{shifted-ascends, written_keys}
use Rattle.judy_sets.proofs.leaves.common_in.Goals as goal

abbrev page : List ℕ
page = replicate 32 0

pub fill_from-requires-2-clause-fits : goal.fill_from-requires-2-clause-fits
fill_from-requires-2-clause-fits g c =
    let most : 256 ^ c.args.other.now.width ≤ 256 ^ 8 = pow-le-pow_right {n = 256} (omega arith) c.law.ensures.most in
    omega arith

pub count_met-requires-clause-up : goal.count_met-requires-clause-up
count_met-requires-clause-up g c =
    let one = c.args.one.now in
    let n = c.len-count.result in
    subst (Ascends 0) (sym (written_keys c.args.by n one.pairs page c.fill_from.new.out (drop n page) c.len-count.ensures.count c.len-count.ensures.within c.fill_from.ensures))
    (shifted-ascends g.V.Words.WORDS (256 ^ one.width) c.args.by one.pairs c.requires.map)

pub count_met-requires-clause-other_up : goal.count_met-requires-clause-other_up
count_met-requires-clause-other_up g c =
    let other = c.args.other.now in
    let n = c.len-many.result in
    subst (Ascends 0) (sym (written_keys 0 n other.pairs page c.fill_from-2.new.out (drop n page) c.len-many.ensures.count c.len-many.ensures.within c.fill_from-2.ensures))
    (shifted-ascends g.V.Words.WORDS (256 ^ other.width) 0 other.pairs c.requires.other_map)

pub returns-clause-count : goal.returns-clause-count
returns-clause-count g c =
    let one = c.args.one.now in
    let other = c.args.other.now in
    let n = c.len-count.result in
    let m = c.len-many.result in
    let ours = written_keys c.args.by n one.pairs page c.fill_from.new.out (drop n page) c.len-count.ensures.count c.len-count.ensures.within c.fill_from.ensures in
    let theirs = written_keys 0 m other.pairs page c.fill_from-2.new.out (drop m page) c.len-many.ensures.count c.len-many.ensures.within c.fill_from-2.ensures
    ∙ ap keys_of (shift-zero 0 other.pairs refl) in
    c.count_met.ensures.count ∙ (λ t. length (filter (set.has (theirs t)) (ours t)))
