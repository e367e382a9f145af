-- What the parts of leaves give: their pairs are a map.
use Rattle.std.proofs.Common.{◌≡◌, ℕ, zero, suc, ◌+◌, ◌-◌, ◌*◌, ◌/◌, ◌%◌, ◌^◌, ◌<◌, ◌≤◌, List, [], ◌∷◌, ◌++◌, length, take, drop, replicate, sym, refl, ap, ◌∙◌, subst, ⊎_elim}
use Rattle.std.proofs.Common.{arith, Less, Equal, Greater, nat_cmp}
use Rattle.std.specs.List.{AllByRecursion}
use Rattle.std.specs.List.Sorted.{IsStrictlySortedBy}
use Rattle.std.specs.Cmp.{nat_cmp_is}
use Rattle.std.proofs.lemmas.Bool.{cases_order}
use Rattle.std.proofs.Math.Nat.{mod-eq_of_lt, div-eq_of_lt, pow-suc}
use Rattle.judy_model.specs.Keys.{word_order}
use Rattle.judy_model.proofs.lemmas.orders.WordOrder.{less_word}
use Rattle.judy_bits.proofs.MemberLemmas.{members_of-IsByteSet}
use Rattle.judy_block.specs.Contents.{Contents}
use Rattle.judy_leaf.specs.KeyLists.{keys_of, pairs_of, low_pairs, IsKeyList}
use Rattle.judy_leaf.specs.Packing.{digits, places, places_of, keys_in, IsWidth}
use Rattle.judy_leaf.specs.Leaves.{leaf_list, keys_from, IsLeafParts}
use Rattle.judy_leaf.specs.BitLeaves.{bit_keys, bit_list, IsBitParts}
use Rattle.judy_leaf.specs.Immediates.{parts_list, IsImmParts}
use Rattle.judy_leaf.proofs.Digits.{power_pos}
use Rattle.judy_leaf.proofs.Placed.{per_pos}
use Rattle.judy_leaf.proofs.LeafLists.{leaf_keys, keys_of-pairs_of}
use Rattle.judy_leaf.proofs.Bounds.{bit_keys-below}
use Rattle.judy_leaf.proofs.KeysIn.{keys_below_unit}
use Rattle.judy_leaf.proofs.LeafLists as leaves
use Rattle.judy_leaf.proofs.BitLists as bits
use Rattle.judy_leaf.proofs.ImmLists as imms
use Rattle.judy_node.specs.Trees.{Pairs, IsMap}

less_from : (left right : ℕ) → nat_cmp left right ≡ Less → left < right
less_from left right less = ⊎_elim
    (λ same. let is = nat_cmp_is left right Equal same in cc)
    (λ apart. ⊎_elim (λ below. below) (λ above. let is = nat_cmp_is left right Greater above in cc) apart)
    (cases_order left right)

above_all : (key low : ℕ) (keys : List ℕ) → low ≡ key + 1 → AllByRecursion (λ other. word_order key other ≡ Less) keys → AllByRecursion (λ other. low ≤ other) keys
above_all key low [] is all = tt
above_all key low (other ∷ keys) is all = let here = less_from key other all.0 in (omega arith, above_all key low keys is all.1)

map_from : (words low top : ℕ) (pairs : Pairs) → AllByRecursion (λ key. low ≤ key) (keys_of pairs) → IsStrictlySortedBy word_order (keys_of pairs) → AllByRecursion (λ key. key < top) (keys_of pairs)
    → (words ≡ 0 → AllByRecursion (λ pair. pair.1 ≡ 0) pairs) → IsMap words low top pairs
unfolding IsStrictlySortedBy
map_from words low top [] least ascending below free = tt
map_from words low top (pair ∷ pairs) least ascending below free = (
  least.0,
  below.0,
  (λ none. (free none).0),
  map_from words (pair.0 + 1) top pairs (above_all pair.0 (pair.0 + 1) (keys_of pairs) refl ascending.0) ascending.1 below.1 (λ none. (free none).1),
)

least_zero : (keys : List ℕ) → AllByRecursion (λ key. 0 ≤ key) keys
least_zero [] = tt
least_zero (key ∷ keys) = (omega arith, least_zero keys)

-- ---- pairs of keys and values

-- Keys with values are a map where they ascend, and where there are no values for keys that have none.
pub pairs_map : (words top : ℕ) (keys values : List ℕ) → IsStrictlySortedBy word_order keys → AllByRecursion (λ key. key < top) keys → (words ≡ 0 → values ≡ [])
    → IsMap words 0 top (pairs_of keys values)
pairs_map words top keys values ascending below none =
    let are = keys_of-pairs_of keys values in
    map_from words 0 top (pairs_of keys values) (least_zero (keys_of (pairs_of keys values))) (subst (IsStrictlySortedBy word_order) (sym are) ascending)
    (subst (AllByRecursion (λ key. key < top)) (sym are) below)
    (λ free. subst (λ vs. AllByRecursion (λ pair. pair.1 ≡ 0) (pairs_of keys vs)) (sym (none free)) (all_free keys))
  where
    all_free : (keys : List ℕ) → AllByRecursion (λ (pair : ℕ × ℕ). pair.1 ≡ 0) (pairs_of keys [])
    all_free [] = tt
    all_free (key ∷ keys) = (refl, all_free keys)

no_values : (words count : ℕ) (values : List ℕ) → words ≡ 0 → take (words * count) values ≡ []
no_values words count values none = ap (λ n. take n values) (ap (λ w. w * count) none ∙ (let e : 0 * count ≡ 0 = omega arith in e))

-- ---- leaves

pub leaf_map : (words count : ℕ) (block : Contents) → IsLeafParts words count block → IsMap words 0 (256 ^ block.tag) (leaf_list words count block).pairs
leaf_map words count block is =
    pairs_map words (256 ^ block.tag) (keys_from block.tag count (words * count) block) (take (words * count) block.words) is.ascending
    (keys_below_unit block.tag count (drop (words * count) block.words)) (no_values words count block.words)

pub leaf_width : (words count : ℕ) (block : Contents) → IsLeafParts words count block → (1 ≤ block.tag) × (block.tag ≤ 8)
leaf_width words count block is = (is.keys.packed.is_width.some, is.keys.packed.is_width.most)

pub leaf_long : (words count : ℕ) (block : Contents) → IsLeafParts words count block → length (leaf_list words count block).pairs ≡ count
leaf_long = leaves.leaf_length

-- ---- bitmap leaves

pub bit_map : (words : ℕ) (block : Contents) → IsMap words 0 256 (bit_list words block).pairs
bit_map words block =
    let set = members_of-IsByteSet (take 4 block.words) in
    pairs_map words 256 (bit_keys block) (take (words * length (bit_keys block)) (drop 4 block.words)) set.ascending (bit_keys-below block)
    (no_values words (length (bit_keys block)) (drop 4 block.words))

pub bit_long : (words : ℕ) (block : Contents) → IsBitParts words block → length (bit_list words block).pairs ≡ block.tag % 65536
bit_long words block is = bits.bit_length words block is (bit_list words block) refl ∙ sym is.count

-- A bitmap leaf of wider keys has the same last bytes.
pub bit_parts-wider : (words : ℕ) (block : Contents) → IsBitParts words block → block.tag / 65536 < 8 → IsBitParts words (record block { tag = block.tag + 65536 })
bit_parts-wider words block is room =
    let low = is.some in
    record {
      one = is.one;
      some = omega arith;
      most = omega arith;
      count = (let e : (block.tag + 65536) % 65536 ≡ block.tag % 65536 = omega arith in e) ∙ is.count;
      full = is.full;
    }

-- ---- immediates

-- An immediate without values.
pub imm_map : (width count word : ℕ) → IsImmParts 0 width count word → IsMap 0 0 (256 ^ width) (parts_list 0 width count word).pairs
imm_map width count word is =
    pairs_map 0 (256 ^ width) (keys_in width count (word ∷ [])) (take (0 * count) (0 ∷ [])) is.imm.ascending (keys_below_unit width count (word ∷ [])) (no_values 0 count (0 ∷ []))

pub imm_length : (width count word : ℕ) → IsImmParts 0 width count word → length (parts_list 0 width count word).pairs ≡ count
imm_length width count word is = imms.imm_length 0 width count word 0 is.imm (parts_list 0 width count word) refl

pub imm_width_fits : (width count word : ℕ) → IsImmParts 0 width count word → (1 ≤ width) × (width ≤ 8)
imm_width_fits width count word is = (is.imm.packed.is_width.some, is.imm.packed.is_width.most)

-- It has a key, and no more than a word holds.
pub imm_some : (width count word : ℕ) → IsImmParts 0 width count word → (1 ≤ count) × (count ≤ 8 / width)
imm_some width count word is = let most = is.imm.packed.enough in (is.some, omega arith)

-- One key with its value.
digits-zero : (base count : ℕ) → 0 < base → digits base count 0 ≡ replicate count 0
digits-zero base zero some = refl
digits-zero base (suc count) some = λ t. (let e : 0 % base ≡ 0 = mod-eq_of_lt some in e) t ∷ (ap (digits base count) (let e : 0 / base ≡ 0 = div-eq_of_lt some in e) ∙ digits-zero base count some) t

one_digit : (base per key : ℕ) → 0 < per → key < base → digits base per key ≡ key ∷ replicate (per - 1) 0
one_digit base zero key some below = let never : ⊥ = omega arith in absurd never
one_digit base (suc per) key some below =
    let pos : 0 < base = omega arith in
    let less : per ≡ suc per - 1 = omega arith in
    λ t. (let e : key % base ≡ key = mod-eq_of_lt below in e) t ∷ (ap (digits base per) (let e : key / base ≡ 0 = div-eq_of_lt below in e) ∙ digits-zero base per pos ∙ ap (λ n. replicate n 0) less) t

-- A key is the only one of a word that is it.
one_place : (width key : ℕ) → IsWidth width → key < 256 ^ width → places_of width (key ∷ []) ≡ key ∷ replicate (8 / width - 1) 0
one_place width key is below = append-nil (places width key) ∙ one_digit (256 ^ width) (8 / width) key (per_pos width is) below
  where
    append-nil : (xs : List ℕ) → xs ++ [] ≡ xs
    append-nil [] = refl
    append-nil (x ∷ xs) = ap (λ rest. x ∷ rest) (append-nil xs)

one_fits : (base per key : ℕ) → 0 < per → key < base → key < base ^ per
one_fits base zero key some below = let never : ⊥ = omega arith in absurd never
one_fits base (suc per) key some below =
    let pos = power_pos base (omega arith) per in
    subst (λ n. key < n) (sym (pow-suc base per)) (more (base ^ per) pos)
  where
    more : (n : ℕ) → 0 < n → key < n * base
    more zero some = let never : ⊥ = omega arith in absurd never
    more (suc n) some = omega arith

one_key : (width key : ℕ) → IsWidth width → key < 256 ^ width → keys_in width 1 (key ∷ []) ≡ key ∷ []
one_key width key is below = ap (λ keys. take 1 keys) (one_place width key is below)

pub imm_pair : (words width head word : ℕ) → suc words ≤ 1 → IsWidth width → head < 256 ^ width → parts_list (suc words) width head word ≡ record { width = width; pairs = (head, word) ∷ [] }
imm_pair zero width head word one is below = ap (λ keys. record { width = width; pairs = pairs_of keys (word ∷ []) }) (one_key width head is below)
imm_pair (suc words) width head word one is below = let never : ⊥ = omega arith in absurd never

pub imm_parts_one : (words width head word : ℕ) → suc words ≤ 1 → IsWidth width → head < 256 ^ width → IsImmParts (suc words) width head word
unfolding IsStrictlySortedBy
imm_parts_one zero width head word one is below =
    let some = per_pos width is in
    record {
      imm = record {
        one = one;
        few = λ _. omega arith;
        packed = record {
          is_width = is;
          enough = omega arith;
          clear = ap (λ keys. drop 1 keys) (one_place width head is below) ∙ ap (λ n. replicate n 0) (let e : 8 / width - 1 ≡ 1 * (8 / width) - 1 = omega arith in e);
          tight = (one_fits (256 ^ width) (8 / width) head some below, tt);
        };
        ascending = subst (IsStrictlySortedBy word_order) (sym (one_key width head is below)) (tt, tt);
      };
      some = omega arith;
    }
imm_parts_one (suc words) width head word one is below = let never : ⊥ = omega arith in absurd never

-- ---- and back

less_all : (words key low top : ℕ) (pairs : Pairs) → key < low → IsMap words low top pairs → AllByRecursion (λ other. word_order key other ≡ Less) (keys_of pairs)
less_all words key low top [] below map = tt
less_all words key low top (pair ∷ pairs) below map = let first = map.0 in (less_word key pair.0 (omega arith), less_all words key (pair.0 + 1) top pairs (omega arith) map.3)

pub map_ascends : (words low top : ℕ) (pairs : Pairs) → IsMap words low top pairs → IsStrictlySortedBy word_order (keys_of pairs)
unfolding IsStrictlySortedBy
map_ascends words low top [] map = tt
map_ascends words low top (pair ∷ pairs) map = (less_all words pair.0 (pair.0 + 1) top pairs (omega arith) map.3, map_ascends words (pair.0 + 1) top pairs map.3)

map_below : (words low top : ℕ) (pairs : Pairs) → IsMap words low top pairs → AllByRecursion (λ key. key < top) (keys_of pairs)
map_below words low top [] map = tt
map_below words low top (pair ∷ pairs) map = (map.1, map_below words (pair.0 + 1) top pairs map.3)

-- A map is a key list.
pub map_list : (words width : ℕ) (pairs : Pairs) → 1 ≤ width → width ≤ 8 → IsMap words 0 (256 ^ width) pairs → IsKeyList (record { width = width; pairs = pairs })
map_list words width pairs low high map = record { ascending = map_ascends words 0 (256 ^ width) pairs map; below = map_below words 0 (256 ^ width) pairs map; some = low; most = high }

-- Its values are 0 where keys have none, also before keys were cut to their lowest bytes.
pub map_free : (words low top unit : ℕ) (pairs : Pairs) → IsMap words low top (low_pairs unit pairs) → words ≡ 0 → AllByRecursion (λ pair. pair.1 ≡ 0) pairs
map_free words low top unit [] map none = tt
map_free words low top unit (pair ∷ pairs) map none = (map.2 none, map_free words (pair.0 % unit + 1) top unit pairs map.3 none)
