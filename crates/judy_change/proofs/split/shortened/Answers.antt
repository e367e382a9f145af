use Rattle.std.proofs.Common.{◌≡◌, ◌+◌, ◌*◌, ◌%◌, ◌^◌, ◌≤◌, sym, ap, ◌∙◌, subst, arith}
use Rattle.std.proofs.Math.Nat.{pow-le-pow_right}
use Rattle.std.proofs.lemmas.Nat.{mod_below}
use Rattle.judy_model.specs.WordBytes.{low_bytes}
use Rattle.judy_model.proofs.lemmas.orders.ByteLemmas.{unit_pos}
use Rattle.judy_block.specs.Contents.{Contents}
use Rattle.judy_node.specs.Trees.{IsChild, IsBranch, branch_tree}
use Rattle.judy_node.specs.Kinds.{tree_of, bit_tree, IsLevel, IsBit}
use Rattle.judy_node.specs.Populations.{AreSums}
use Rattle.judy_change.specs.Splits.{IsSkipping, IsShorter}
use Rattle.judy_change.proofs.Shorter.{bit_shorter, bit_shorter_tree, bit_shorter_child, branch_shorter, branch_shorter_tree, branch_shorter_child}
use Rattle.judy_change.proofs.split.shortened.Goals as goal

pub new-requires : goal.new-requires
new-requires g c =
    let words = g.V.Words.WORDS in
    let level = subst (λ kind. IsLevel words kind) c.in-Bit.is c.requires.level in
    let skips = subst (λ kind. IsSkipping c.args.skipped.number c.args.skipped.count c.args.skipped.tail kind) c.in-Bit.is c.requires.skips in
    let wide = skips.1 in
    let most = level.parts.most in
    let less = c.requires.left in
    let short : c.args.left ≤ 7 = omega arith in
    let rest_is = c.low_part-rest.ensures ∙ ap (λ n. c.args.skipped.number % 256 ^ n) c.from.ensures in
    let small = mod_below c.args.skipped.number (256 ^ c.args.left) (unit_pos c.args.left) in
    let bound = pow-le-pow_right {n = 256} (omega arith) short in
    omega arith

pub returns-in-Bit : goal.returns-in-Bit
returns-in-Bit g c =
    let words = g.V.Words.WORDS in
    let number = c.args.skipped.number in
    let block = c.in-Bit.block in
    let level = subst (λ kind. IsLevel words kind) c.in-Bit.is c.requires.level in
    let skips = subst (λ kind. IsSkipping number c.args.skipped.count c.args.skipped.tail kind) c.in-Bit.is c.requires.skips in
    let next = block.tag % 65536 + 65536 * (c.from-in-Bit.result + 1) in
    let next_is : next ≡ block.tag % 65536 + 65536 * (c.args.left + 1) = ap (λ n. block.tag % 65536 + 65536 * (n + 1)) c.from-in-Bit.ensures in
    let rest_is : c.new.result ≡ number % 256 ^ c.args.left = c.new.ensures ∙ c.low_part-rest.ensures ∙ ap (λ n. number % 256 ^ n) c.from.ensures in
    record {
      level =
          subst (λ (b : Contents). IsBit words c.new.result b) (sym c.set_bit_width.ensures) (bit_shorter words number c.args.skipped.count c.args.skipped.tail
          c.args.left c.in-Bit.field-0 c.new.result next block level skips.0 skips.1 skips.2 c.requires.left rest_is next_is);
      child =
          subst (λ (b : Contents). IsChild words (c.args.left + c.args.skipped.tail) (bit_tree words c.new.result b)) (sym c.set_bit_width.ensures)
          (bit_shorter_child words number c.args.skipped.count c.args.skipped.tail c.args.left c.in-Bit.field-0 c.new.result next block level skips.0 skips.1 skips.2 c.requires.left rest_is next_is);
      shorter = subst (λ (b : Contents). IsShorter number c.args.left c.args.skipped.tail (tree_of words c.args.kind) (bit_tree words c.new.result b)) (sym c.set_bit_width.ensures)
          (subst (λ kind. IsShorter number c.args.left c.args.skipped.tail (tree_of words kind) (bit_tree words c.new.result (record block { tag = next }))) (sym c.in-Bit.is)
          (bit_shorter_tree words number c.args.skipped.count c.args.skipped.tail c.args.left c.in-Bit.field-0 c.new.result next block level skips.0 skips.1 skips.2 c.requires.left rest_is next_is));
    }

pub returns-in-Branch : goal.returns-in-Branch
returns-in-Branch g c =
    let words = g.V.Words.WORDS in
    let number = c.args.skipped.number in
    let old = c.in-Branch.branch.value in
    let level = (subst (λ kind. IsLevel words kind) c.in-Branch.is c.requires.level).0 in
    let skips = subst (λ kind. IsSkipping number c.args.skipped.count c.args.skipped.tail kind) c.in-Branch.is c.requires.skips in
    let more_is : c.skip_of.result ≡ low_bytes c.args.left (number % 256 ^ c.args.left) = c.skip_of.ensures ∙
    ap (low_bytes c.args.left) (c.low_part-rest.ensures ∙ ap (λ n. number % 256 ^ n) c.from.ensures) in
    record {
      level = (
        subst (λ b. IsBranch words b.width c.skip_of.result b.bytes b.children.items b.population) (sym c.deref_mut.ensures.value)
            (branch_shorter words number c.args.skipped.count c.args.skipped.tail c.args.left old.width old.skip c.skip_of.result old.bytes old.children.items
            old.population level skips.0 skips.1 skips.2 c.requires.left more_is),
        subst (λ b. AreSums b.sums b.children.items) (sym c.deref_mut.ensures.value) (subst (λ kind. IsLevel words kind) c.in-Branch.is c.requires.level).1,
      );
      child =
          subst (λ b. IsChild words (c.args.left + c.args.skipped.tail) (branch_tree b.width c.skip_of.result b.bytes b.children.items b.population))
          (sym c.deref_mut.ensures.value) (branch_shorter_child words number c.args.skipped.count c.args.skipped.tail c.args.left old.width old.skip c.skip_of.result
          old.bytes old.children.items old.population level skips.0 skips.1 skips.2 c.requires.left more_is);
      shorter =
          subst (λ b. IsShorter number c.args.left c.args.skipped.tail (tree_of words c.args.kind) (branch_tree b.width c.skip_of.result b.bytes b.children.items b.population))
          (sym c.deref_mut.ensures.value)
          (subst (λ kind. IsShorter number c.args.left c.args.skipped.tail (tree_of words kind) (branch_tree old.width c.skip_of.result old.bytes old.children.items old.population))
          (sym c.in-Branch.is)
          (branch_shorter_tree words number c.args.skipped.count c.args.skipped.tail c.args.left old.width old.skip c.skip_of.result old.bytes old.children.items
          old.population level skips.0 skips.1 skips.2 c.requires.left more_is));
    }
