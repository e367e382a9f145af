-- A set of bytes written into a block as a bitmap leaf without values.
use Rattle.std.proofs.Common.{◌≡◌, ℕ, ◌+◌, ◌*◌, ◌/◌, ◌≤◌, List, [], ◌∷◌, length, take, drop, refl, ap, ◌∙◌, arith}
use Rattle.std.proofs.lemmas.List.{take_all}
use Rattle.judy_block.specs.Contents.{Contents}
use Rattle.judy_model.specs.Ranges.{zeroed}
use Rattle.judy_bits.specs.BitWords.{members_of}
use Rattle.judy_leaf.specs.KeyLists.{keys_of, pairs_of}
use Rattle.judy_leaf.specs.BitLeaves.{bit_keys, bit_list}

-- Keys without values are those of a set.
pub pairs_of-zeroed : (keys : List ℕ) → pairs_of keys [] ≡ zeroed keys
pairs_of-zeroed [] = refl
pairs_of-zeroed (key ∷ keys) = ap (λ rest. (key, 0) ∷ rest) (pairs_of-zeroed keys)

pub keys_of-zeroed : (keys : List ℕ) → keys_of (zeroed keys) ≡ keys
keys_of-zeroed [] = refl
keys_of-zeroed (key ∷ keys) = ap (λ rest. key ∷ rest) (keys_of-zeroed keys)

module _ (words width : ℕ) (keys four : List ℕ) (block : Contents) (none : words ≡ 0) (are : members_of four ≡ keys) (long : length four ≡ 4) (few : length keys ≤ 256)
    (bits : block.words ≡ four) (tagged : block.tag ≡ length keys + 65536 * width) where
  held : bit_keys block ≡ keys
  held = ap (λ ws. members_of (take 4 ws)) bits ∙ ap members_of (take_all 4 four (omega arith)) ∙ are

  no_values : words * length (bit_keys block) ≡ 0
  no_values = ap (λ w. w * length (bit_keys block)) none ∙ omega arith

  -- Its list is the set's keys.
  pub set_list : bit_list words block ≡ record { width = width; pairs = zeroed keys }
  set_list t = record {
    width = (let e : block.tag / 65536 ≡ width = omega arith in e) t;
    pairs = ((λ u. pairs_of (held u) (take (no_values u) (drop 4 block.words))) ∙ pairs_of-zeroed keys) t;
  }
