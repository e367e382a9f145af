-- What a scan of a judysl array, and the n-th key, leaves and answers.
use Rattle.std.proofs.Common.{◌≡◌, ℕ, Bool, true, List, Option, Some, None, Ok, is_some, refl, unwrap_or}
use Rattle.std.specs.Prelude.{◌&&◌}
use Rattle.std.specs.declared.cmp.Ordering.{Ordering}
use Rattle.std.specs.FinMap.{FinMap, get, contains_key, nat_cmp-IsAntisymmetric, slice_cmp-IsAntisymmetric}
use Rattle.std.proofs.lemmas.Bool.{and_parts}
use Rattle.std.proofs.lemmas.Cmp.{nat_list_cmp_total}
use Rattle.judy_model.specs.Keys.{byte_order}
use Rattle.judy_model.specs.Neighbours as neighbours
use Rattle.judy_model.specs.Counts.{by_count}
use Rattle.judy_model.specs.Nearest.{IsLeast}
use Rattle.judy_model.specs.Arrays.{ArrayOf, judysl}
use Rattle.judy_model.specs.CommandWords as command
use Rattle.judy_model.specs.CommandWords.{Neighbour}
use Rattle.judy_model.specs.Replies.{Answer, string_entry}
use Rattle.judy_model.specs.Commands.{entry_or_nothing, neighbour_of, string_key_at, word_at, strings_on_key}
use Rattle.judy_model.proofs.lemmas.queries.NearestLemmas.{first-IsFirst, next-IsNext, last-IsLast, prev-IsPrev}
use Rattle.judy_model.proofs.lemmas.queries.CountsLemmas.{by_count_found}
use Rattle.judy_sl.specs.Scans.{value_found}
use Rattle.judy_command.specs.Replies.{found_entry}
use Rattle.judy_command.specs.Follows.{Follows}

module _ (map : FinMap byte_order ℕ) (from : List ℕ) where
  held : (key : List ℕ) (value : Option ℕ) → get map key ≡ value → is_some value ≡ true → found_entry value key ≡ string_entry key (unwrap_or value 0)
  held key (Some value) there some = refl
  held key None there some = absurd (cc)

  -- a key that is found is a key of the map, so that its value is there
  found : (order : List ℕ → List ℕ → Ordering) (side : List ℕ → Bool) (answer : Option (List ℕ)) → IsLeast order (λ key. contains_key map key && side key) answer →
      found_entry (value_found map answer) (unwrap_or answer from) ≡ entry_or_nothing string_entry map answer
  found order side None least = refl
  found order side (Some key) least = held key (get map key) refl (and_parts (contains_key map key) (side key) least.0).0

  pub first_found : found_entry (value_found map (neighbours.first map from)) (unwrap_or (neighbours.first map from) from) ≡ entry_or_nothing string_entry map (neighbours.first map from)
  first_found = found _ _ (neighbours.first map from) (first-IsFirst nat_list_cmp_total (slice_cmp-IsAntisymmetric nat_cmp-IsAntisymmetric) map from)

  pub next_found : found_entry (value_found map (neighbours.next map from)) (unwrap_or (neighbours.next map from) from) ≡ entry_or_nothing string_entry map (neighbours.next map from)
  next_found = found _ _ (neighbours.next map from) (next-IsNext nat_list_cmp_total (slice_cmp-IsAntisymmetric nat_cmp-IsAntisymmetric) map from)

  pub last_found : found_entry (value_found map (neighbours.last map from)) (unwrap_or (neighbours.last map from) from) ≡ entry_or_nothing string_entry map (neighbours.last map from)
  last_found = found _ _ (neighbours.last map from) (last-IsLast nat_list_cmp_total (slice_cmp-IsAntisymmetric nat_cmp-IsAntisymmetric) map from)

  pub prev_found : found_entry (value_found map (neighbours.prev map from)) (unwrap_or (neighbours.prev map from) from) ≡ entry_or_nothing string_entry map (neighbours.prev map from)
  prev_found = found _ _ (neighbours.prev map from) (prev-IsPrev nat_list_cmp_total (slice_cmp-IsAntisymmetric nat_cmp-IsAntisymmetric) map from)

  pub nth_found : (n : ℕ) → found_entry (value_found map (by_count map n)) (unwrap_or (by_count map n) from) ≡ entry_or_nothing string_entry map (by_count map n)
  nth_found n = by (by_count map n) refl
    where
      by : (answer : Option (List ℕ)) → by_count map n ≡ answer → found_entry (value_found map answer) (unwrap_or answer from) ≡ entry_or_nothing string_entry map answer
      by None is = refl
      by (Some key) is = held key (get map key) refl (by_count_found nat_list_cmp_total (slice_cmp-IsAntisymmetric nat_cmp-IsAntisymmetric) map n key is).0

-- the n-th key, found in the buffer
pub Follows-nth : (array : ArrayOf byte_order) (token : List ℕ) (n : ℕ) (answer : Answer) → word_at token ≡ Ok n → answer ≡ entry_or_nothing string_entry array.map (by_count array.map n) →
    Follows (judysl array) (strings_on_key command.by_count array token) (Ok answer) (judysl array)
Follows-nth array token n answer said is = rw said (is, refl)

-- a neighbour that was found in the buffer of its key
pub Follows-found : (side : Neighbour) (array : ArrayOf byte_order) (token key : List ℕ) (answer : Answer) → string_key_at token ≡ Ok key →
    answer ≡ entry_or_nothing string_entry array.map (neighbour_of side array.map key) → Follows (judysl array) (strings_on_key (command.neighbour side) array token) (Ok answer) (judysl array)
Follows-found side array token key answer said is = rw said (is, refl)
