-- Nodes that skip fewer bytes, and a branch above one.
use Rattle.std.proofs.Common.{◌≡◌, ℕ, suc, ◌+◌, ◌-◌, ◌*◌, ◌/◌, ◌%◌, ◌^◌, ◌<◌, ◌≤◌, List, [], ◌∷◌, length, sym, refl, ap, ◌∙◌, subst, arith}
use Rattle.std.proofs.Math.Nat.{add-mul, mul_assoc, pow-suc, mod-eq_of_lt, div-div-eq-div-mul}
use Rattle.std.proofs.lemmas.Nat.{div-add-mod', mod_below, div_below, pow-add}
use Rattle.std.proofs.lemmas.List.{append-nil}
use Rattle.std.proofs.lemmas.Bool.{leb-false}
use Rattle.judy_model.specs.Keys.{IsByteString}
use Rattle.judy_model.specs.WordBytes.{low_bytes, number_of}
use Rattle.judy_model.specs.Forms.{bitmap_leaf, branch, loose_in}
use Rattle.judy_model.proofs.lemmas.orders.ByteLemmas.{unit_pos, number_of-low_bytes, number_of-lt, length-low_bytes}
use Rattle.judy_block.specs.Contents.{Contents}
use Rattle.judy_leaf.specs.KeyLists.{keys_of, shift}
use Rattle.judy_leaf.specs.BitLeaves.{bit_list}
use Rattle.judy_node.specs.Trees.{Tree, forms_in, IsChild, branch_pairs, IsBranch, branch_tree}
use Rattle.judy_node.specs.Kinds.{IsLevel, bit_tree, bit_width, IsBit}
use Rattle.judy_node.specs.declared.child.KindOf.{KindOf}
use Rattle.judy_node.specs.declared.child.KindOf.TheVariants.{Imm, Leaf, Bit, Branch}
use Rattle.judy_node.proofs.Maps.{map-wider, map-shift, map-AllBelow, shift-shift, length-shift, length-keys_of}
use Rattle.judy_node.proofs.Shaped.{branch-child, branch_needed, tight-parts}
use Rattle.judy_node.proofs.Leaves.{bit_map}
use Rattle.judy_node.proofs.KindFacts.{bit-child, low_bytes-are}
use Rattle.judy_node.proofs.Behind.{join-block}
use Rattle.judy_node.proofs.MadeFacts.{unit_above}
use Rattle.judy_change.specs.Splits.{IsSkipping, IsShorter, IsAbove}

-- A number is what stands above its lowest bytes and these.
number_split : (number left rest : ℕ) → rest ≡ number % 256 ^ left → number ≡ number / 256 ^ left * 256 ^ left + rest
number_split number left rest is = sym (div-add-mod' number (256 ^ left)) ∙ ap (λ n. number / 256 ^ left * 256 ^ left + n) (sym is)

-- What the bytes spell that a node skips.
pub number_small : {V : _} (words number count tail : ℕ) (kind : KindOf V) → IsLevel words kind → IsSkipping number count tail kind → number < 256 ^ count
number_small words number count tail (Imm head word) level skips = absurd skips
number_small words number count tail (Leaf size block) level skips = absurd skips
number_small words number count tail (Bit skipped block) level skips =
    let wide = skips.1 in
    subst (λ n. n < 256 ^ count) skips.0 (subst (λ w. skipped < 256 ^ w) (let e : bit_width block - 1 ≡ count = omega arith in e) level.skips)
number_small words number count tail (Branch b) level skips =
    subst (λ n. n < 256 ^ count) skips.0 (subst (λ n. number_of b.value.skip < 256 ^ n) skips.1 (number_of-lt b.value.skip level.0.parts.skipped_bytes))

pub tail_some : {V : _} (number count tail : ℕ) (kind : KindOf V) → IsSkipping number count tail kind → 1 ≤ tail
tail_some number count tail (Imm head word) skips = absurd skips
tail_some number count tail (Leaf size block) skips = absurd skips
tail_some number count tail (Bit skipped block) skips = let one = skips.2 in omega arith
tail_some number count tail (Branch b) skips = let one = skips.2 in omega arith

-- ---- bitmap leaves

tag_parts : (tag left next : ℕ) → next ≡ tag % 65536 + 65536 * (left + 1) → (next / 65536 ≡ left + 1) × (next % 65536 ≡ tag % 65536)
tag_parts tag left next is = (omega arith, omega arith)

block_end : (block blocks : ℕ) → block < blocks → block * 256 + 256 ≤ blocks * 256
block_end block blocks below = omega arith

module _ (words number count tail left skipped rest next : ℕ) (block : Contents) (level : IsBit words skipped block) (is : skipped ≡ number) (wide : bit_width block ≡ count + 1)
    (one : tail ≡ 1) (less : left < count)
    (rest_is : rest ≡ number % 256 ^ left) (next_is : next ≡ block.tag % 65536 + 65536 * (left + 1)) where
  abbrev cut : Contents
  cut = record block { tag = next }

  parts : (next / 65536 ≡ left + 1) × (next % 65536 ≡ block.tag % 65536)
  parts = tag_parts block.tag left next next_is

  small : rest < 256 ^ left
  small = subst (λ n. n < 256 ^ left) (sym rest_is) (mod_below number (256 ^ left) (unit_pos left))

  pub bit_shorter : IsBit words rest cut
  bit_shorter =
      let width = parts.0 in
      let most = level.parts.most in
      record {
        parts = record { one = level.parts.one; some = omega arith; most = omega arith; count = parts.1 ∙ level.parts.count; full = level.parts.full };
        some = level.some;
        skips = subst (λ w. rest < 256 ^ w) (let e : left ≡ next / 65536 - 1 = omega arith in e) small;
      }

  moved : skipped * 256 ≡ number / 256 ^ left * 256 ^ (left + tail) + rest * 256
  moved =
      let unit : 256 ^ (left + tail) ≡ 256 ^ left * 256 = ap (λ n. 256 ^ n) (let e : left + tail ≡ suc left = omega arith in e) ∙ pow-suc 256 left in
      ap (λ n. n * 256) (is ∙ number_split number left rest rest_is)
      ∙ add-mul (number / 256 ^ left * 256 ^ left) rest 256
      ∙ ap (λ n. n + rest * 256) (mul_assoc (number / 256 ^ left) (256 ^ left) 256 ∙ ap (λ n. number / 256 ^ left * n) (sym unit))

  pub bit_shorter_tree : IsShorter number left tail (bit_tree words skipped block) (bit_tree words rest cut)
  bit_shorter_tree =
      let list = (bit_list words block).pairs in
      let width = parts.0 in
      let long = length-shift (skipped * 256) list in
      let keys = length-keys_of list in
      record {
        wide = omega arith;
        pairs = sym (shift-shift (number / 256 ^ left * 256 ^ (left + tail)) (rest * 256) (skipped * 256) list moved);
        loose = refl;
        many = λ tight. let many = leb-false (length (keys_of list)) 32 (tight-parts (bitmap_leaf (low_bytes (bit_width block - 1) skipped) (keys_of list)) [] tight).0 in omega arith;
      }

  pub bit_shorter_child : IsChild words (left + tail) (bit_tree words rest cut)
  bit_shorter_child =
      let list = (bit_list words block).pairs in
      let width = parts.0 in
      let most = level.parts.most in
      let unit : 256 ^ (left + tail) ≡ 256 ^ left * 256 = ap (λ n. 256 ^ n) (let e : left + tail ≡ suc left = omega arith in e) ∙ pow-suc 256 left in
      let top : rest * 256 + 256 ≤ 256 ^ (left + tail) = subst (λ n. rest * 256 + 256 ≤ n) (sym unit) (block_end rest (256 ^ left) small) in
      bit-child words (left + tail) rest cut bit_shorter (record {
        low_width = omega arith;
        high_width = omega arith;
        wide = λ _. (let e : next / 65536 ≡ left + tail = omega arith in e);
        below = map-AllBelow words 0 (256 ^ (left + tail)) (shift (rest * 256) list)
            (map-wider words (rest * 256 + 0) (rest * 256 + 256) 0 (256 ^ (left + tail)) (shift (rest * 256) list) (omega arith) top (map-shift words 0 256 (rest * 256) list (bit_map words block)));
      })

-- ---- branches

module _ (words number count tail left width : ℕ) (skip more bytes : List ℕ) (kids : List Tree) (size : ℕ) (level : IsBranch words width skip bytes kids size)
    (is : number_of skip ≡ number) (long : length skip ≡ count)
    (tail_is : tail ≡ 1 + width) (less : left < count) (more_is : more ≡ low_bytes left (number % 256 ^ left)) where
  abbrev rest : ℕ
  rest = number % 256 ^ left

  spelled : number_of more ≡ rest
  spelled = ap number_of more_is ∙ number_of-low_bytes left rest ∙ mod-eq_of_lt (mod_below number (256 ^ left) (unit_pos left))

  shorter_long : length more ≡ left
  shorter_long = ap length more_is ∙ length-low_bytes left rest

  front : number_of skip * 256 ≡ number / 256 ^ left * 256 ^ left * 256 + number_of more * 256
  front =
      ap (λ n. n * 256) (is ∙ number_split number left rest refl) ∙ add-mul (number / 256 ^ left * 256 ^ left) rest 256
      ∙ ap (λ n. number / 256 ^ left * 256 ^ left * 256 + n * 256) (sym spelled)

  start : number / 256 ^ left * 256 ^ left * 256 * 256 ^ width ≡ number / 256 ^ left * 256 ^ (left + tail)
  start =
      let unit : 256 ^ (left + tail) ≡ 256 ^ left * 256 * 256 ^ width =
      ap (λ n. 256 ^ n) (let e : left + tail ≡ suc left + width = omega arith in e) ∙ pow-add 256 (suc left) width ∙ ap (λ n. n * 256 ^ width) (pow-suc 256 left) in
      ap (λ n. n * 256 ^ width) (mul_assoc (number / 256 ^ left) (256 ^ left) 256) ∙ mul_assoc (number / 256 ^ left) (256 ^ left * 256) (256 ^ width) ∙ ap (λ n. number / 256 ^ left * n) (sym unit)

  pairs_are : branch_pairs width skip bytes kids ≡ shift (number / 256 ^ left * 256 ^ (left + tail)) (branch_pairs width more bytes kids)
  pairs_are =
      join-block (256 ^ width) (number / 256 ^ left * 256 ^ left * 256) (number_of more * 256) (number_of skip * 256) bytes kids front
      ∙ ap (λ n. shift n (branch_pairs width more bytes kids)) start

  pub branch_shorter : IsBranch words width more bytes kids size
  branch_shorter =
      let within = level.parts.within in
      let short = shorter_long in
      record {
        parts = record {
          some_width = level.parts.some_width;
          within = omega arith;
          skipped_bytes = subst IsByteString (sym more_is) (low_bytes-are left rest);
          children = level.parts.children;
          counted = level.parts.counted ∙ ap length pairs_are ∙ length-shift (number / 256 ^ left * 256 ^ (left + tail)) (branch_pairs width more bytes kids);
        };
        holds = level.holds;
      }

  pub branch_shorter_tree : IsShorter number left tail (branch_tree width skip bytes kids size) (branch_tree width more bytes kids size)
  branch_shorter_tree =
      let short = shorter_long in
      let counted = level.parts.counted in
      record {
        wide = omega arith;
        pairs = pairs_are;
        loose = refl;
        many = λ tight. let many = (branch_needed skip bytes size (tight-parts (branch skip bytes size) (forms_in kids) tight).0).0 in omega arith;
      }

  pub branch_shorter_child : IsChild words (left + tail) (branch_tree width more bytes kids size)
  branch_shorter_child =
      let short = shorter_long in
      subst (λ w. IsChild words w (branch_tree width more bytes kids size)) (let e : length more + 1 + width ≡ left + tail = omega arith in e)
      (branch-child words width more bytes kids size branch_shorter)

-- ---- a branch above

module _ (words number count tail left : ℕ) (old new : Tree) (is : IsChild words (count + tail) old) (small : number < 256 ^ count) (less : left < count)
    (some : 1 ≤ tail) (child : IsChild words (left + tail) new) (shorter : IsShorter number left tail old new) where
  abbrev above_skip : List ℕ
  above_skip = low_bytes (count - left - 1) (number / 256 ^ (left + 1))

  abbrev above_byte : ℕ
  above_byte = number / 256 ^ left % 256

  next_digit : number / 256 ^ (left + 1) ≡ number / 256 ^ left / 256
  next_digit = ap (λ n. number / n) (unit_above left) ∙ sym (div-div-eq-div-mul number (256 ^ left) 256)

  above_spelled : number_of above_skip * 256 + above_byte ≡ number / 256 ^ left
  above_spelled =
      let high = ap (λ n. 256 ^ n) (let e : count ≡ count - left - 1 + (left + 1) = omega arith in e) ∙ pow-add 256 (count - left - 1) (left + 1) in
      let room : number / 256 ^ (left + 1) < 256 ^ (count - left - 1) = div_below number (256 ^ (left + 1)) (256 ^ (count - left - 1)) (unit_pos (left + 1)) (subst (λ n. number < n) high small) in
      let spelled : number_of above_skip ≡ number / 256 ^ left / 256 = number_of-low_bytes (count - left - 1) (number / 256 ^ (left + 1)) ∙ mod-eq_of_lt room ∙ next_digit in
      let split = div-add-mod' (number / 256 ^ left) 256 in
      ap (λ n. n * 256 + above_byte) spelled ∙ split

  above_pairs : branch_pairs (left + tail) above_skip (above_byte ∷ []) (new ∷ []) ≡ old.pairs
  above_pairs =
      append-nil (shift ((number_of above_skip * 256 + above_byte) * 256 ^ (left + tail)) new.pairs)
      ∙ ap (λ n. shift (n * 256 ^ (left + tail)) new.pairs) above_spelled ∙ sym shorter.pairs

  above_size : length new.pairs ≡ length old.pairs
  above_size = sym (ap length shorter.pairs ∙ length-shift (number / 256 ^ left * 256 ^ (left + tail)) new.pairs)

  pub above_is : IsAbove words number count tail left old (left + tail) above_skip (above_byte ∷ []) (new ∷ []) (length new.pairs)
  above_is =
      let most = is.high_width in
      let long = length-low_bytes (count - left - 1) (number / 256 ^ (left + 1)) in
      let size = above_size in
      record {
        level = record {
          parts = record {
            some_width = omega arith;
            within = omega arith;
            skipped_bytes = low_bytes-are (count - left - 1) (number / 256 ^ (left + 1));
            children = (omega arith, mod_below (number / 256 ^ left) 256 (omega arith), child, tt);
            counted = above_size ∙ ap length (sym above_pairs);
          };
          holds = omega arith;
        };
        width_is = refl;
        skip_is = refl;
        bytes_are = refl;
        pairs = above_pairs;
        tight = λ tight. ap loose_in (append-nil new.form) ∙ shorter.loose ∙ tight;
        many = λ tight. let many = shorter.many tight in omega arith;
      }
