-- How many keys the kinds have.
use Rattle.std.proofs.Common.{◌≡◌, ℕ, zero, suc, ◌*◌, ◌%◌, ◌/◌, length, cond, eqb, sym, ap, ◌∙◌, arith}
use Rattle.std.proofs.lemmas.Bool.{ne_eqb}
use Rattle.judy_block.specs.Contents.{Contents}
use Rattle.judy_leaf.specs.BitLeaves.{bit_list}
use Rattle.judy_node.specs.Kinds.{imm_pairs, IsImm, IsBit, bit_tree}
use Rattle.judy_node.proofs.Maps.{length-shift}
use Rattle.judy_node.proofs.Leaves.{imm_length, bit_long}

pub imm_count : (words head word : ℕ) → IsImm words head word → cond (eqb words 0) (head % 256) 1 ≡ length (imm_pairs words head word)
imm_count zero head word level = sym (imm_length (head / 256) (head % 256) word level)
imm_count (suc words) head word level = ap (λ b. cond b (head % 256) 1) (ne_eqb (suc words) 0 (λ (none : suc words ≡ 0). let never : ⊥ = omega arith in never))

pub bit_count : (words skipped : ℕ) (block : Contents) → IsBit words skipped block → block.tag % 65536 ≡ length (bit_tree words skipped block).pairs
bit_count words skipped block level = sym (length-shift (skipped * 256) (bit_list words block).pairs ∙ bit_long words block level.parts)
