use Rattle.std.proofs.Common.{◌≡◌, ◌+◌, ◌*◌, ◌^◌, ◌<◌, length, sym, ap, ◌∙◌, subst, arith}
use Rattle.std.specs.List.{insert}
use Rattle.judy_model.specs.WordBytes.{number_of}
use Rattle.judy_model.specs.Forms.{loose_in}
use Rattle.judy_bits.specs.ByteSets.{rank}
use Rattle.judy_bits.proofs.SetLemmas.{with_other}
use Rattle.judy_leaf.proofs.LeafLists.{rank_within}
use Rattle.judy_node.specs.Trees.{branch_tree, forms_in}
use Rattle.judy_node.proofs.Maps.{children-length}
use Rattle.judy_node.proofs.StepFacts.{children-IsByteSet}
use Rattle.judy_change.specs.Inserted.{IsAdded}
use Rattle.judy_change.proofs.BranchInserts.{BranchParts, AreOf, put_branch, put_added, put_long, put_loose}
use Rattle.judy_change.proofs.put.put_key.Goals as goal

pub add_child-requires : goal.add_child-requires
add_child-requires g c =
    let b = c.args.branch.now in
    let is = c.requires.place in
    let long = children-length g.V.Words.WORDS b.width 0 b.bytes b.children.items c.requires.level.parts.children in
    let within = rank_within b.bytes c.args.byte in
    (omega arith, (is, (omega arith, c.requires.spare)))

pub returns : goal.returns
returns g c =
    let words = g.V.Words.WORDS in
    let b = c.args.branch.now in
    let made = c.add_child.ensures in
    let small : c.args.byte < 256 = omega (arith, c.ranges.byte) in
    let set = children-IsByteSet words b.width 0 b.bytes b.children.items c.requires.level.parts.children in
    let bytes = made.bytes ∙ with_other b.bytes c.args.byte set.ascending c.requires.absent in
    let pairs = c.one_key-child.ensures.pairs in
    let same : record {
      width = b.width;
      skip = b.skip;
      bytes = insert b.bytes (rank b.bytes c.args.byte) c.args.byte;
      kids = insert b.children.items (rank b.bytes c.args.byte) c.one_key-child.result;
      count = b.population + 1;
    }
    ≡ record {
      width = c.add_child.new.branch.width;
      skip = c.add_child.new.branch.skip;
      bytes = c.add_child.new.branch.bytes;
      kids = c.add_child.new.branch.children.items;
      count = c.add_child.new.branch.population + 1;
    } =
    λ t. record { width = sym made.width t; skip = sym made.skip t; bytes = sym bytes t; kids = sym made.children t; count = sym made.population t + 1 } in
    record {
      level =
          subst (λ (p : BranchParts). AreOf words p) same (put_branch words b.width b.skip b.bytes b.children.items b.population c.requires.level c.args.byte
          c.args.rest c.requires.fits small c.requires.absent c.args.value c.one_key-child.result pairs c.one_key-child.ensures.tight c.one_key-child.ensures.child);
      skip = made.skip;
      width = made.width;
      population = ap (λ n. n + 1) made.population;
      sums = made.sums;
      wider =
          ap length bytes ∙ put_long words b.width b.skip b.bytes b.children.items b.population c.requires.level c.args.byte c.args.rest c.requires.fits small
          c.requires.absent c.args.value c.one_key-child.result pairs c.one_key-child.ensures.tight;
      loose =
          ap (λ ks. loose_in (forms_in ks)) made.children ∙ put_loose words b.width b.skip b.bytes b.children.items b.population c.requires.level c.args.byte
          c.args.rest c.requires.fits small c.requires.absent c.args.value c.one_key-child.result pairs c.one_key-child.ensures.tight;
      added =
          subst (λ (p : BranchParts). IsAdded ((number_of b.skip * 256 + c.args.byte) * 256 ^ b.width + c.args.rest) c.args.value
          (branch_tree b.width b.skip b.bytes b.children.items b.population) (branch_tree p.width p.skip p.bytes p.kids p.count)) same
          (put_added words b.width b.skip b.bytes b.children.items b.population c.requires.level c.args.byte c.args.rest c.requires.fits small c.requires.absent
          c.args.value c.one_key-child.result pairs c.one_key-child.ensures.tight);
    }
