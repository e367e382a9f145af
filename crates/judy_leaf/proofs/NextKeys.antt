-- Where the next key of a bitmap leaf stands.
use Rattle.std.proofs.Common.{◌≡◌, ℕ, ◌+◌, ◌<◌, ◌≤◌, ⊎_elim, List, length, slice_get, get_or, Some, sym, ap, ◌∙◌, subst, arith}
use Rattle.std.specs.List.Sorted.{IsStrictlySortedBy}
use Rattle.std.proofs.lemmas.Bool.{cases_lt}
use Rattle.std.proofs.lemmas.Option.{same_Some, slice_get-get_or}
use Rattle.judy_model.specs.Keys.{word_order}
use Rattle.judy_bits.specs.ByteSets.{IsByteSet, rank, next_from}
use Rattle.judy_bits.proofs.SetLemmas.{has_at, rank_at, next_from-rank}
use Rattle.judy_leaf.specs.KeyLists.{keys_of}
use Rattle.judy_leaf.proofs.BitLists.{bit_rank_above}
use Rattle.judy_leaf.proofs.LeafLists.{length-keys_of}
use Rattle.judy_leaf.proofs.Nearest.{up_to-rank, up_to-member}

-- Below the word behind a key are one key more than in front of it.
pub rank_behind : (keys : List ℕ) (at key : ℕ) → IsStrictlySortedBy word_order keys → slice_get keys at ≡ Some key → rank keys (key + 1) ≡ at + 1
rank_behind keys at key ascending there =
    sym (up_to-rank keys key) ∙ up_to-member keys ascending key (has_at keys ascending at key there) ∙ ap (λ n. n + 1) (rank_at keys ascending at key there)

module _ (pairs : List (ℕ × ℕ)) (ascending : IsStrictlySortedBy word_order (keys_of pairs)) (byte : ℕ) (inside : rank (keys_of pairs) byte < length pairs) where
  some : rank (keys_of pairs) byte < length (keys_of pairs)
  some = subst (λ n. rank (keys_of pairs) byte < n) (sym (length-keys_of pairs)) inside

  -- A key is found where not all are below.
  pub next_there : next_from (keys_of pairs) byte ≡ Some (get_or (keys_of pairs) (rank (keys_of pairs) byte) 0)
  next_there = next_from-rank (keys_of pairs) ascending byte ∙ slice_get-get_or (keys_of pairs) (rank (keys_of pairs) byte) 0 some

  pub next_key : (key : ℕ) → next_from (keys_of pairs) byte ≡ Some key → slice_get (keys_of pairs) (rank (keys_of pairs) byte) ≡ Some key
  next_key key found = sym (next_from-rank (keys_of pairs) ascending byte) ∙ found

-- What stands at a place that is so many keys from the first.
pub key_there : (pairs : List (ℕ × ℕ)) (at place key : ℕ) → place ≡ at → at < length pairs → slice_get (keys_of pairs) place ≡ Some key → key ≡ get_or (keys_of pairs) at 0
key_there pairs at place key same inside there =
    let some = subst (λ n. at < n) (sym (length-keys_of pairs)) inside in
    same_Some key (get_or (keys_of pairs) at 0) (sym there ∙ ap (slice_get (keys_of pairs)) same ∙ slice_get-get_or (keys_of pairs) at 0 some)

-- A byte below which not all keys are is one.
pub is_byte : (pairs : List (ℕ × ℕ)) (byte : ℕ) → IsByteSet (keys_of pairs) → rank (keys_of pairs) byte < length pairs → byte < 256
is_byte pairs byte is inside = ⊎_elim
    (λ (less : byte < 256). less)
    (λ (more : 256 ≤ byte). let all = bit_rank_above pairs byte is more in let never : ⊥ = omega arith in absurd never)
    (cases_lt byte 256)
