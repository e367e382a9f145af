-- A node that skips one byte more.
use Rattle.std.proofs.Common.{◌≡◌, ℕ, suc, ◌+◌, ◌-◌, ◌*◌, ◌/◌, ◌%◌, ◌^◌, ◌<◌, ◌≤◌, List, [], ◌∷◌, ◌++◌, length, sym, refl, ap, ◌∙◌, subst, arith}
use Rattle.std.proofs.Math.Nat.{mod-eq_of_lt, add-mul, mul_assoc, pow-suc, pow-le-pow_right}
use Rattle.std.proofs.lemmas.Nat.{div-mul-add, mul-add-lt, pow-add}
use Rattle.std.proofs.lemmas.List.Elements.{All-cons}
use Rattle.judy_model.specs.WordBytes.{number_of, low_bytes}
use Rattle.judy_model.specs.Forms.{bitmap_leaf, branch}
use Rattle.judy_model.proofs.lemmas.orders.ByteLemmas.{low_bytes-above}
use Rattle.judy_block.specs.Contents.{Contents}
use Rattle.judy_leaf.specs.KeyLists.{keys_of, shift}
use Rattle.judy_leaf.specs.BitLeaves.{bit_list}
use Rattle.judy_node.specs.Trees.{Tree, join, forms_in, branch_pairs, IsBranch, branch_tree}
use Rattle.judy_node.specs.Kinds.{bit_width, bit_tree, IsBit, behind}
use Rattle.judy_node.proofs.Maps.{length-shift, shift-shift, shift-append}
use Rattle.judy_node.proofs.Leaves.{bit_parts-wider}

-- ---- bitmap leaves

wider_width : (tag : ℕ) → (tag + 65536) / 65536 ≡ suc (tag / 65536)
wider_width tag = omega arith

-- What bytes spell alone.
one_byte : (byte : ℕ) → number_of (byte ∷ []) ≡ byte
one_byte byte = omega arith

pub bit_behind : (words skipped byte : ℕ) (block : Contents) → IsBit words skipped block → byte < 256 → bit_width block + 1 ≤ 8
    → IsBit words (byte * 256 ^ (bit_width block - 1) + skipped) (record block { tag = block.tag + 65536 })
bit_behind words skipped byte block is below room =
    let low = is.parts.some in
    let wide = wider_width block.tag in
    let front = bit_width block - 1 in
    let exponent : suc front ≡ (block.tag + 65536) / 65536 - 1 = omega arith in
    record {
      parts = bit_parts-wider words block is.parts (omega arith);
      some = is.some;
      skips = subst (λ n. byte * 256 ^ front + skipped < 256 ^ n) exponent
          (subst (λ n. byte * 256 ^ front + skipped < n) (sym (pow-suc 256 front)) (mul-add-lt byte (256 ^ front) skipped 256 below is.skips));
    }

pub bit_behind_tree : (words skipped byte : ℕ) (block : Contents) → IsBit words skipped block → byte < 256
    → bit_tree words (byte * 256 ^ (bit_width block - 1) + skipped) (record block { tag = block.tag + 65536 }) ≡ behind (byte ∷ []) (bit_tree words skipped block)
bit_behind_tree words skipped byte block is below =
    let low = is.parts.some in
    let front = bit_width block - 1 in
    let next : Contents = record block { tag = block.tag + 65536 } in
    let wide : (block.tag + 65536) / 65536 ≡ 1 + bit_width block = wider_width block.tag ∙ (let e : suc (bit_width block) ≡ 1 + bit_width block = omega arith in e) in
    let exponent : (block.tag + 65536) / 65536 - 1 ≡ suc front = let w = wider_width block.tag in omega arith in
    let whole : bit_width block ≡ suc front = omega arith in
    let unit : 256 ^ bit_width block ≡ 256 ^ front * 256 = ap (λ n. 256 ^ n) whole ∙ pow-suc 256 front in
    let moved : (byte * 256 ^ front + skipped) * 256 ≡ number_of (byte ∷ []) * 256 ^ bit_width block + skipped * 256 =
    add-mul (byte * 256 ^ front) skipped 256 ∙ ap (λ n. n + skipped * 256) (mul_assoc byte (256 ^ front) 256 ∙ (λ t. sym (one_byte byte) t * sym unit t)) in
    let pairs : shift ((byte * 256 ^ front + skipped) * 256) (bit_list words next).pairs ≡ shift (number_of (byte ∷ []) * 256 ^ bit_width block) (shift (skipped * 256) (bit_list words block).pairs) =
    sym (shift-shift (number_of (byte ∷ []) * 256 ^ bit_width block) (skipped * 256) ((byte * 256 ^ front + skipped) * 256) (bit_list words block).pairs moved) in
    let digit : (byte * 256 ^ front + skipped) / 256 ^ front % 256 ≡ byte = ap (λ n. n % 256) (div-mul-add byte (256 ^ front) skipped is.skips) ∙ mod-eq_of_lt below in
    let bytes : low_bytes ((block.tag + 65536) / 65536 - 1) (byte * 256 ^ front + skipped) ≡ byte ∷ low_bytes front skipped =
    ap (λ n. low_bytes n (byte * 256 ^ front + skipped)) exponent ∙ (λ t. digit t ∷ low_bytes-above front byte skipped t) in
    λ t. record { width = wide t; pairs = pairs t; form = bitmap_leaf (bytes t) (keys_of (bit_list words block).pairs) ∷ [] }

-- ---- branches

pub join-block : (unit more block both : ℕ) (bytes : List ℕ) (kids : List Tree) → both ≡ more + block → join unit both bytes kids ≡ shift (more * unit) (join unit block bytes kids)
join-block unit more block both [] kids is = refl
join-block unit more block both (byte ∷ bytes) [] is = refl
join-block unit more block both (byte ∷ bytes) (kid ∷ kids) is =
    let start : (both + byte) * unit ≡ more * unit + (block + byte) * unit = ap (λ n. n * unit) (let e : both + byte ≡ more + (block + byte) = omega arith in e) ∙ add-mul more (block + byte) unit in
    (λ t. sym (shift-shift (more * unit) ((block + byte) * unit) ((both + byte) * unit) kid.pairs start) t ++ join-block unit more block both bytes kids is t)
    ∙ sym (shift-append (more * unit) (shift ((block + byte) * unit) kid.pairs) (join unit block bytes kids))

branch_behind_pairs : (width byte : ℕ) (skipped bytes : List ℕ) (kids : List Tree)
    → branch_pairs width (byte ∷ skipped) bytes kids ≡ shift (number_of (byte ∷ []) * 256 ^ (length skipped + 1 + width)) (branch_pairs width skipped bytes kids)
branch_behind_pairs width byte skipped bytes kids =
    let more = byte * 256 ^ length skipped * 256 in
    let both : number_of (byte ∷ skipped) * 256 ≡ more + number_of skipped * 256 = add-mul (byte * 256 ^ length skipped) (number_of skipped) 256 in
    let unit : 256 ^ (length skipped + 1 + width) ≡ 256 ^ length skipped * 256 * 256 ^ width =
    pow-add 256 (length skipped + 1) width ∙ ap (λ n. n * 256 ^ width) (pow-add 256 (length skipped) 1) in
    let moved : more * 256 ^ width ≡ number_of (byte ∷ []) * 256 ^ (length skipped + 1 + width) =
    ap (λ n. n * 256 ^ width) (mul_assoc byte (256 ^ length skipped) 256) ∙ mul_assoc byte (256 ^ length skipped * 256) (256 ^ width) ∙ (λ t. sym (one_byte byte) t * sym unit t) in
    join-block (256 ^ width) more (number_of skipped * 256) (number_of (byte ∷ skipped) * 256) bytes kids both
    ∙ ap (λ n. shift n (branch_pairs width skipped bytes kids)) moved

pub branch_behind : (words width byte : ℕ) (skipped bytes : List ℕ) (kids : List Tree) (count : ℕ) → IsBranch words width skipped bytes kids count → byte < 256 → length skipped + 1 + width + 1 ≤ 8
    → IsBranch words width (byte ∷ skipped) bytes kids count
branch_behind words width byte skipped bytes kids count is below room = record {
  parts = record {
    some_width = is.parts.some_width;
    within = omega arith;
    skipped_bytes = All-cons (λ b. b < 256) byte skipped below is.parts.skipped_bytes;
    children = is.parts.children;
    counted = is.parts.counted
        ∙ sym (length-shift (number_of (byte ∷ []) * 256 ^ (length skipped + 1 + width)) (branch_pairs width skipped bytes kids))
        ∙ ap length (sym (branch_behind_pairs width byte skipped bytes kids));
  };
  holds = is.holds;
}

pub branch_behind_tree : (width byte : ℕ) (skipped bytes : List ℕ) (kids : List Tree) (count : ℕ)
    → branch_tree width (byte ∷ skipped) bytes kids count ≡ behind (byte ∷ []) (branch_tree width skipped bytes kids count)
branch_behind_tree width byte skipped bytes kids count =
    let wide : suc (length skipped) + 1 + width ≡ 1 + (length skipped + 1 + width) = omega arith in
    λ t. record { width = wide t; pairs = branch_behind_pairs width byte skipped bytes kids t; form = branch (byte ∷ skipped) bytes count ∷ forms_in kids }

-- What the skipped bytes of a bitmap leaf spell, and one more before them, is a number of seven bytes.
pub bit_number_fits : (words skipped byte : ℕ) (block : Contents) → IsBit words skipped block → byte < 256 → bit_width block + 1 ≤ 8 → byte * 256 ^ (bit_width block - 1) + skipped < 2 ^ 56
bit_number_fits words skipped byte block is below room =
    let low = is.parts.some in
    let front = bit_width block - 1 in
    let here : byte * 256 ^ front + skipped < 256 ^ front * 256 = mul-add-lt byte (256 ^ front) skipped 256 below is.skips in
    let unit = pow-suc 256 front in
    let within : suc front ≤ 7 = omega arith in
    let most : 256 ^ suc front ≤ 256 ^ 7 = pow-le-pow_right {n = 256} (omega arith) within in
    omega arith

-- The same of the numbers that a call gets on its way.
pub front_sum : {width read byte from front skipped number : ℕ} → read ≡ width → from ≡ byte → front ≡ from * 256 ^ (read - 1) → number ≡ skipped → front + number ≡ byte * 256 ^ (width - 1) + skipped
front_sum is_width is_byte is_front is_number = λ t. (is_front ∙ (λ j. is_byte j * 256 ^ (is_width j - 1))) t + is_number t

pub front_fits : (words skipped byte : ℕ) (block : Contents) → IsBit words skipped block → byte < 256 → bit_width block + 1 ≤ 8 → {sum : ℕ} →
    sum ≡ byte * 256 ^ (bit_width block - 1) + skipped → sum < 2 ^ 56
front_fits words skipped byte block is below room same = subst (λ n. n < 2 ^ 56) (sym same) (bit_number_fits words skipped byte block is below room)
