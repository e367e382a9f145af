-- How many keys are below a word, and which pair stands at a place, in a part of a tree.
use Rattle.std.proofs.Common.{◌≡◌, ℕ, zero, suc, ◌+◌, ◌<◌, ◌≤◌, ⊎_elim, [], ◌∷◌, ◌++◌, length, get_or, Some, slice_get, sym, refl, ap, ◌∙◌, subst, arith}
use Rattle.std.specs.Option.{option_map}
use Rattle.std.proofs.lemmas.Bool.{cases_lt}
use Rattle.judy_bits.specs.ByteSets.{rank}
use Rattle.judy_leaf.specs.KeyLists.{keys_of, values_of, shift}
use Rattle.judy_node.specs.Trees.{Pairs, IsMap}
use Rattle.std.proofs.lemmas.Option.{same_Some}
use Rattle.judy_node.proofs.Maps.{length-shift}
use Rattle.judy_query.specs.Parts.{IsPart, raised}
use Rattle.judy_query.proofs.Splits.{rank-less, rank-more}

-- ---- ranks

rank-front : (words low top : ℕ) (pairs rest : Pairs) (key : ℕ) → top ≤ key → IsMap words low top pairs → rank (keys_of (pairs ++ rest)) key ≡ length pairs + rank (keys_of rest) key
rank-front words low top [] rest key above map = omega arith
rank-front words low top (pair ∷ pairs) rest key above map =
    let last = map.1 in
    let here = rank-less pair.0 key (keys_of (pairs ++ rest)) (omega arith) in
    let others = rank-front words (pair.0 + 1) top pairs rest key above map.3 in
    omega arith

pub rank-above : (words low top : ℕ) (pairs : Pairs) (key : ℕ) → key ≤ low → IsMap words low top pairs → rank (keys_of pairs) key ≡ 0
rank-above words low top [] key below map = refl
rank-above words low top (pair ∷ pairs) key below map =
    let first = map.0 in
    rank-more pair.0 key (keys_of pairs) (omega arith) ∙ rank-above words (pair.0 + 1) top pairs key (omega arith) map.3

pub rank-shift : (by key whole : ℕ) (pairs rest : Pairs) → whole ≡ by + key → rank (keys_of rest) whole ≡ 0 → rank (keys_of (shift by pairs ++ rest)) whole ≡ rank (keys_of pairs) key
rank-shift by key whole [] rest sum none = none
rank-shift by key whole (pair ∷ pairs) rest sum none =
    let others = rank-shift by key whole pairs rest sum none in
    ⊎_elim
    (λ (less : pair.0 < key). rank-less (by + pair.0) whole (keys_of (shift by pairs ++ rest)) (omega arith) ∙ ap suc others ∙ sym (rank-less pair.0 key (keys_of pairs) less))
    (λ (more : key ≤ pair.0). rank-more (by + pair.0) whole (keys_of (shift by pairs ++ rest)) (omega arith) ∙ others ∙ sym (rank-more pair.0 key (keys_of pairs) more))
    (cases_lt pair.0 key)

-- Below a key of a part are the keys in front of the part, and those of the part below what is left of the key.
pub part-rank : (words top : ℕ) (tree : Pairs) (base unit left key : ℕ) (pairs front back : Pairs) → IsPart words top tree base unit pairs front back → key ≡ base + left → left ≤ unit
    → rank (keys_of tree) key ≡ length front + rank (keys_of pairs) left
part-rank words top tree base unit left key pairs front back part sum within =
    ap (λ ps. rank (keys_of ps) key) part.same
    ∙ rank-front words 0 base front (shift base pairs ++ back) key (omega arith) part.before
    ∙ ap (λ n. length front + n) (rank-shift base left key pairs back sum (rank-above words (base + unit) top back key (omega arith) part.after))

-- No more keys are below a word than there are words below it.
pub rank-le : (words low top : ℕ) (pairs : Pairs) (key : ℕ) → low ≤ key → IsMap words low top pairs → low + rank (keys_of pairs) key ≤ key
rank-le words low top [] key above map = omega arith
rank-le words low top (pair ∷ pairs) key above map =
    let first = map.0 in
    ⊎_elim
    (λ (less : pair.0 < key).
    let here = rank-less pair.0 key (keys_of pairs) less in
    let rest = rank-le words (pair.0 + 1) top pairs key (omega arith) map.3 in
    omega arith)
    (λ (more : key ≤ pair.0).
    let here = rank-more pair.0 key (keys_of pairs) more in
    let none = rank-above words (pair.0 + 1) top pairs key (omega arith) map.3 in
    omega arith)
    (cases_lt pair.0 key)

-- ---- places

pub pair_at : (pairs : Pairs) (at key value : ℕ) → at < length pairs → key ≡ get_or (keys_of pairs) at 0 → value ≡ get_or (values_of pairs) at 0 → slice_get pairs at ≡ Some (key, value)
pair_at [] at key value inside is_key is_value = let never : ⊥ = omega arith in absurd never
pair_at (pair ∷ pairs) zero key value inside is_key is_value = λ t. Some (sym is_key t, sym is_value t)
pair_at (pair ∷ pairs) (suc at) key value inside is_key is_value = pair_at pairs at key value (omega arith) is_key is_value

pub key_at : (pairs : Pairs) (at : ℕ) → slice_get (keys_of pairs) at ≡ option_map (λ pair. pair.0) (slice_get pairs at)
key_at [] at = refl
key_at (pair ∷ pairs) zero = refl
key_at (pair ∷ pairs) (suc at) = key_at pairs at

pub at-shift : (by at : ℕ) (pairs : Pairs) → slice_get (shift by pairs) at ≡ raised by (slice_get pairs at)
at-shift by at [] = refl
at-shift by zero (pair ∷ pairs) = refl
at-shift by (suc at) (pair ∷ pairs) = at-shift by at pairs

pub at-append : (at : ℕ) (pairs rest : Pairs) → at < length pairs → slice_get (pairs ++ rest) at ≡ slice_get pairs at
at-append at [] rest inside = let never : ⊥ = omega arith in absurd never
at-append zero (pair ∷ pairs) rest inside = refl
at-append (suc at) (pair ∷ pairs) rest inside = at-append at pairs rest (omega arith)

pub at-behind : (at place : ℕ) (pairs rest : Pairs) → place ≡ length pairs + at → slice_get (pairs ++ rest) place ≡ slice_get rest at
at-behind at place [] rest sum = ap (slice_get rest) (let e : place ≡ at = omega arith in e)
at-behind at zero (pair ∷ pairs) rest sum = let never : ⊥ = omega arith in absurd never
at-behind at (suc place) (pair ∷ pairs) rest sum = at-behind at place pairs rest (omega arith)

-- Behind the pairs in front of a part stand the part's.
pub part-at : (words top : ℕ) (tree : Pairs) (base unit at place : ℕ) (pairs front back : Pairs) → IsPart words top tree base unit pairs front back → place ≡ length front + at → at < length pairs
    → slice_get tree place ≡ raised base (slice_get pairs at)
part-at words top tree base unit at place pairs front back part sum inside =
    let long = length-shift base pairs in
    ap (λ ps. slice_get ps place) part.same
    ∙ at-behind at place front (shift base pairs ++ back) sum
    ∙ at-append at (shift base pairs) back (omega arith)
    ∙ at-shift base at pairs

-- The key of a pair is below the bound of its map.
pub at_below : (words low top : ℕ) (pairs : Pairs) (at key value : ℕ) → IsMap words low top pairs → slice_get pairs at ≡ Some (key, value) → key < top
at_below words low top [] at key value map there = cc
at_below words low top (pair ∷ pairs) zero key value map there = subst (λ n. n < top) (ap (λ (p : ℕ × ℕ). p.0) (same_Some pair (key, value) there)) map.1
at_below words low top (pair ∷ pairs) (suc at) key value map there = at_below words (pair.0 + 1) top pairs at key value map.3 there
