use Rattle.std.proofs.Common.{◌<◌, ◌^◌, IfSome, ap, ◌∙◌, subst, arith}
use Rattle.judy_model.specs.Forms.{loose_in}
use Rattle.judy_node.specs.Trees.{IsTight}
use Rattle.judy_combine.specs.Kept.{AreKept}
use Rattle.judy_sets.proofs.RootFacts.{kept_map, kept_long, kept_few}
use Rattle.judy_sets.proofs.combine.by_nodes.Goals as goal

pub combined_tree-requires : goal.combined_tree-requires
combined_tree-requires g c =
    let word : c.args.limit < 2 ^ 64 = omega (arith, c.ranges.limit.fits) in (
      omega arith,
      (
        c.requires.one,
        (
          ap loose_in c.root-left.ensures.nodes ∙ c.is_loose.ensures.tight c.if-is_loose.false,
          (
            ap loose_in c.root-right.ensures.nodes ∙ c.is_loose-else-is_loose.ensures.tight c.if-is_loose-2.false,
            kept_few g.V.Words.WORDS c.args.keep c.args.one.now.map c.args.other.now.map c.root-left.result.now.pairs c.root-right.result.now.pairs c.law.ensures.map c.law-2.ensures.map
                c.root-left.ensures.keys c.root-right.ensures.keys c.args.limit word c.requires.within,
          ),
        ),
      ),
    )

pub returns : goal.returns
returns g c =
    let words = g.V.Words.WORDS in
    let keep = c.args.keep in
    let one = c.args.one.now.map in
    let other = c.args.other.now.map in
    let ours = c.root-left.result.now.pairs in
    let theirs = c.root-right.result.now.pairs in
    let is = subst (λ o. IfSome o (λ tree. IsTight tree × AreKept keep ours theirs tree.pairs)) c.in-Some.is c.in_ok-tree.ensures in
    record {
      map = kept_map words keep one other ours theirs c.law.ensures.map c.law-2.ensures.map c.root-left.ensures.keys c.root-right.ensures.keys c.in-Some.tree.pairs c.law-3.ensures.map is.1;
      long = kept_long words keep one other ours theirs c.law.ensures.map c.law-2.ensures.map c.root-left.ensures.keys c.root-right.ensures.keys c.in-Some.tree.pairs c.law-3.ensures.map is.1;
      tight = is.0;
    }
