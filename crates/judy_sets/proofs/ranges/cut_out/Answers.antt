use Rattle.std.proofs.Common.{◌≡◌, ◌^◌, length, ap, ◌∙◌, sym, arith}
use Rattle.std.specs.FinMap.{len}
use Rattle.judy_model.specs.Forms.{loose_in}
use Rattle.judy_model.specs.Keys.{word_order}
use Rattle.judy_model.specs.Arrays.{ArrayOf, with_map}
use Rattle.judy_model.specs.Ranges.{within, from_on}
use Rattle.judy_node.specs.Trees.{Tree}
use Rattle.judy_query.specs.Maps.{map_of}
use Rattle.judy_query.proofs.Links.{len_is}
use Rattle.judy_word.specs.WordArrays.{array_of}
use Rattle.judy_sets.proofs.RangeFacts.{within-most}
use Rattle.judy_sets.proofs.Retained.{both_sides}
use Rattle.judy_sets.proofs.ranges.cut_out.Goals as goal

pub of_root-part-requires : goal.of_root-part-requires
of_root-part-requires g c =
    let copied : c.in_ok-root.root ≡ c.root.result.now = c.in_ok-root.ensures in
    let keys : map_of c.in_ok-root.root.pairs ≡ c.args.array.now.map = ap (λ (tree : Tree). map_of tree.pairs) copied ∙ c.root.ensures.keys in
    let long : length c.in_ok-root.root.pairs ≡ len c.args.array.now.map = sym (len_is g.V.Words.WORDS (256 ^ 8) c.in_ok-root.root.pairs c.law.ensures.map) ∙ ap len keys in
    let all = c.len-len.ensures.count in
    let few = c.if-len-limit.false in (
      omega arith,
      (
        omega arith,
        (
          c.requires.some,
          (
            omega (arith, long, all, few),
            ap (λ (tree : Tree). loose_in tree.form) copied ∙ ap loose_in c.root.ensures.nodes ∙ c.is_loose.ensures.tight c.if-is_loose.false,
          ),
        ),
      ),
    )

pub returns : goal.returns
returns g c =
    let copied : c.in_ok-root.root ≡ c.root.result.now = c.in_ok-root.ensures in
    let keys : map_of c.in_ok-root.root.pairs ≡ c.args.array.now.map = ap (λ (tree : Tree). map_of tree.pairs) copied ∙ c.root.ensures.keys in
    let whole : c.of_root-part.result.map ≡ c.args.array.now.map = c.of_root-part.ensures.map ∙ keys in
    let low : array_of c.remove_below.new.array ≡ with_map (array_of c.of_root-part.result) (from_on c.of_root-part.result.map c.args.from) = c.remove_below.ensures in
    let cut : (array_of c.remove_above.new.array).map ≡ within c.of_root-part.result.map c.args.from c.args.to =
    ap (λ (array : ArrayOf word_order). array.map) c.remove_above.ensures
    ∙ (λ t. within (low t).map 0 c.args.to) ∙ both_sides c.of_root-part.result.map c.args.from c.args.to in
    let limits : c.remove_above.new.array.limit ≡ c.of_root-part.result.limit =
    ap (λ (array : ArrayOf word_order). array.limit) c.remove_above.ensures ∙ ap (λ (array : ArrayOf word_order). array.limit) low in
    let all = c.len-len.ensures.count in
    let few = c.if-len-limit.false in
    let most = within-most c.args.from c.args.to c.args.array.now.map in
    record {
      limit = limits ∙ c.of_root-part.ensures.limit;
      map = cut ∙ (λ t. within (whole t) c.args.from c.args.to);
      tight = sym c.is_loose-2.ensures.told ∙ c.if-is_loose-2.false;
      within = omega (arith, all, few, most);
    }
