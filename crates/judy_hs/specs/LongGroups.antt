-- The keys of one length above 8 bytes: chains of keys with one hash.
use Rattle.std.specs.Prelude.{◌≡◌, ◌≢◌, ◌<◌, ℕ, List, [], ◌∷◌, get_or, length, Option, refl, ◌++◌, ◌≤◌, cond, nat_lt, slice_set, Some, None, IsSome}
use Rattle.std.specs.Coded.{Coded, code_by, coded×, coded_list, coded_ℕ}
use Rattle.std.specs.FinMap.{get, insert, empty, remove}
use Rattle.judy_model.specs.Keys.{word_order}
use Rattle.judy_model.specs.Arrays.{ArrayOf, array_code, with_map}
use Rattle.judy_hs.specs.Chains.{Pairs, value_in, with_value, joined, without}

-- How long the keys are, the array from hashes to the places of chains, and the chains: the keys that share a hash, most often one alone.
pub record Long : Type 0 where
  pub key_length : ℕ
  pub hashes : ArrayOf word_order
  pub chains : List Pairs

-- Pairs are stored as a list.
abbrev pub pairs_code : Coded Pairs
pairs_code = coded_list (coded× (coded_list coded_ℕ) coded_ℕ)

-- A group is stored as its parts.
abbrev pub long_code : Coded Long
long_code =
    code_by ((ℕ × ArrayOf word_order) × List Pairs) (coded× (coded× coded_ℕ (array_code coded_ℕ)) (coded_list pairs_code)) (λ long. ((long.key_length, long.hashes), long.chains))
    (λ parts. record { key_length = parts.0.0; hashes = parts.0.1; chains = parts.1 }) (λ _. refl)

-- The chain at a place: of no key where the place is free or there is none.
abbrev pub chain_at : Long → ℕ → Pairs
chain_at long place = get_or long.chains place []

-- Some hash leads there, or, where it is none, nowhere.
abbrev pub IsLed : Long → Option ℕ → Type 0
IsLed long found = (hash : ℕ) × (found ≡ get long.hashes.map hash)

-- The value of a key, by what its hash leads to.
abbrev pub in_chain : Long → Option ℕ → List ℕ → Option ℕ
in_chain long None key = None
in_chain long (Some place) key = value_in (chain_at long place) key

-- The value of a key with that hash.
abbrev pub in_long : Long → ℕ → List ℕ → Option ℕ
in_long long hash key = in_chain long (get long.hashes.map hash) key

-- The key with that hash stands in the chain at the place.
pub record IsLongPlace (long : Long) (hash : ℕ) (key : List ℕ) (place : ℕ) : Type 0 where
  pub leads : get long.hashes.map hash ≡ Some place
  pub within : place < length long.chains
  pub is_there : IsSome (value_in (chain_at long place) key)

-- The value of a key in the chain at a place.
abbrev pub value_of_place : Long → ℕ → List ℕ → Option ℕ
value_of_place long place key = value_in (chain_at long place) key

-- The array that holds one word with its value and is never full.
abbrev pub one_word : ℕ → ℕ → ArrayOf word_order
one_word word value = record { limit = 18446744073709551615; map = insert empty word value }

-- The group of one key.
abbrev pub one_long : ℕ → List ℕ → Long
one_long hash key = record { key_length = length key; hashes = one_word hash 0; chains = ((key, 0) ∷ []) ∷ [] }

-- A list with an element put at a place within it, or at its end.
abbrev pub put_at : {X : Type 0} → List X → ℕ → X → List X
put_at xs at x = cond (nat_lt at (length xs)) (slice_set xs at x) (xs ++ x ∷ [])

-- A place without a chain: one of the list, or its end where each place has a chain.
pub record IsFreePlace (chains : List Pairs) (place : ℕ) : Type 0 where
  pub within : place ≤ length chains
  pub no_key : get_or chains place [] ≡ []
  pub last : place ≡ length chains → (at : ℕ) → at < length chains → get_or chains at [] ≢ []

-- The group with a chain of one key, at a place under a hash that led nowhere.
abbrev pub with_chain : Long → ℕ → List ℕ → ℕ → Long
with_chain long hash key place = record long { hashes = with_map long.hashes (insert long.hashes.map hash place); chains = put_at long.chains place ((key, 0) ∷ []) }

-- The group with one key more in the chain at a place.
abbrev pub with_key : Long → List ℕ → ℕ → Long
with_key long key place = record long { chains = slice_set long.chains place (joined (chain_at long place) key 0) }

-- What a new key made of the group: a key more in the chain of its hash, or a chain of its own at a free place.
abbrev pub added_long : Long → ℕ → List ℕ → Option ℕ → ℕ → Long
added_long long hash key None place = with_chain long hash key place
added_long long hash key (Some held) place = with_key long key held

-- Where a new key stands: in the chain of its hash, or in a chain of its own.
abbrev pub IsFound : Long → Option ℕ → ℕ → Type 0
IsFound long None place = IsFreePlace long.chains place
IsFound long (Some held) place = place ≡ held

-- A key was added, and stands in the chain at that place.
abbrev pub IsAdded : Long → Long → ℕ → List ℕ → ℕ → Type 0
IsAdded before after hash key place = IsFound before (get before.hashes.map hash) place × (after ≡ added_long before hash key (get before.hashes.map hash) place)

-- The hashes where these pairs are left of a chain: where none is, its hash goes.
abbrev pub hashes_without : Long → ℕ → Pairs → ArrayOf word_order
hashes_without long hash [] = with_map long.hashes (remove long.hashes.map hash)
hashes_without long hash (pair ∷ rest) = long.hashes

-- The group without a key of the chain at a place: a chain that becomes empty goes, with its hash.
abbrev pub without_key : Long → ℕ → ℕ → List ℕ → Long
without_key long hash place key =
    let left = without (chain_at long place) key in
    record long { hashes = hashes_without long hash left; chains = slice_set long.chains place left }

-- A key that stood in the group was taken out.
pub record IsLongLess (before : Long) (hash : ℕ) (key : List ℕ) (after : Long) : Type 0 where
  pub place : ℕ
  pub stood : IsLongPlace before hash key place
  pub less : after ≡ without_key before hash place key

-- The group with a value for a key of one of its chains.
abbrev pub long_with : Long → ℕ → List ℕ → ℕ → Long
long_with long place key value = record long { chains = slice_set long.chains place (with_value (chain_at long place) key value) }
