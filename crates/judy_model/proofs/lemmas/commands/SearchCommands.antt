-- What the commands that search answer, and those of a set.
use Rattle.std.proofs.Common.{◌≡◌, ℕ, ◌<◌, true, false, cond, not, List, [], ◌∷◌, Option, Some, None, Result, Ok, Err, Ordering, refl, ap, ◌∙◌, arith}
use Rattle.std.specs.Prelude.{ok_or, is_some, unwrap_or, codes}
use Rattle.std.specs.Cmp.{nat_cmp_total}
use Rattle.std.specs.FinMap.{FinMap, nat_cmp-IsAntisymmetric, get, contains_key, len}
use Rattle.std.proofs.lemmas.Bool.{ne_eqb, eq-eqb}
use Rattle.judy_model.specs.Keys.{word_order}
use Rattle.judy_model.specs.Arrays.{ArrayOf, ArrayValue, judy1, judyl, judysl, with_map, ins, del}
use Rattle.judy_model.specs.Tokens.{word_of}
use Rattle.judy_model.specs.KeyTokens.{string_key_of}
use Rattle.judy_model.specs.Counts.{count, by_count}
use Rattle.judy_model.specs.Replies.{Answer, Refusal, flag, number, entry, string_entry, nothing, bad_word, bad_key, full}
use Rattle.judy_model.specs.CommandWords as command
use Rattle.judy_model.specs.CommandWords.{KeyCommand}
use Rattle.judy_model.specs.Commands as commands
use Rattle.judy_model.specs.Commands.{Outcome, ◌>>=◌, unchanged, number_or_nothing, entry_or_nothing, value_of, added, removed}
use Rattle.judy_model.specs.CommandLaws.{Answers, Changes, IsRefused, AnswersNumberOrNone, AnswersEntryOrNone, CountsFromTheFirstToTheSecond}
use Rattle.judy_model.proofs.lemmas.maps.ChangesLemmas.{del_absent}
use Rattle.judy_model.proofs.lemmas.maps.Inserts.{ins_present, is_full_present, is_full_absent}
use Rattle.judy_model.proofs.lemmas.commands.CommandLemmas.{Names, key-Changes, key-Answers, key-IsRefused, pair-Answers}

module _ {K S : Type 0} {order : K → K → Ordering} (kind : ArrayOf order → ArrayValue) (said : List ℕ → Option S) (no_key : Refusal) (word : List ℕ) (which : KeyCommand)
    (names : Names word (command.on_key which)) where
  -- a command that shows what a search finds
  searched : {A : Type 0} (search : FinMap order ℕ → S → Option A) (shown : FinMap order ℕ → Option A → Answer) →
      ((token : List ℕ) (array : ArrayOf order) → commands.on_key which token (kind array) ≡ (ok_or (said token) no_key >>=
      (λ key. Ok (unchanged (kind array) (shown array.map (search array.map key)))))) → (array : ArrayOf order) (token : List ℕ) (from : S) (found : Option A) →
      said token ≡ Some from → search array.map from ≡ found → commands.on_key which token (kind array) ≡ Ok (unchanged (kind array) (shown array.map found))
  searched search shown does array token from found is at =
      does token array
      ∙ ap (λ key. ok_or key no_key >>= (λ key. Ok (unchanged (kind array) (shown array.map (search array.map key))))) is
      ∙ ap (λ found. Ok (unchanged (kind array) (shown array.map found))) at

  pub numbers : (search : FinMap order ℕ → S → Option ℕ) → ((token : List ℕ) (array : ArrayOf order) →
      commands.on_key which token (kind array) ≡ (ok_or (said token) no_key >>= (λ key. Ok (unchanged (kind array) (number_or_nothing (search array.map key)))))) →
      AnswersNumberOrNone kind said word search
  numbers search does = (
    λ array token from found is at. key-Answers word which names token (kind array) (number found) (searched search (λ map. number_or_nothing) does array token from (Some found) is at),
    λ array token from is at. key-Answers word which names token (kind array) nothing (searched search (λ map. number_or_nothing) does array token from None is at),
  )

  pub entries : (shown : K → ℕ → Answer) (search : FinMap order ℕ → S → Option K) → ((token : List ℕ) (array : ArrayOf order) →
      commands.on_key which token (kind array) ≡ (ok_or (said token) no_key >>= (λ key. Ok (unchanged (kind array) (entry_or_nothing shown array.map (search array.map key)))))) →
      AnswersEntryOrNone kind said shown word search
  entries shown search does = (
    λ array token from found value is at held. key-Answers word which names token (kind array) (shown found value) (
        searched search (λ map. entry_or_nothing shown map) does array token from (Some found) is at
        ∙ ap (λ value. Ok (unchanged (kind array) (shown found (unwrap_or value 0)))) held),
    λ array token from is at. key-Answers word which names token (kind array) nothing (searched search (λ map. entry_or_nothing shown map) does array token from None is at),
  )

-- a neighbour, an empty neighbour and the n-th key, each by its word
module _ (word : List ℕ) (side : command.Neighbour) where
  pub in_set : Names word (command.on_key (command.neighbour side)) → AnswersNumberOrNone judy1 word_of word (commands.neighbour_of side)
  in_set names = numbers judy1 word_of bad_word word (command.neighbour side) names (commands.neighbour_of side) (λ _ _. refl)

  pub in_words : Names word (command.on_key (command.neighbour side)) → AnswersEntryOrNone judyl word_of entry word (commands.neighbour_of side)
  in_words names = entries judyl word_of bad_word word (command.neighbour side) names entry (commands.neighbour_of side) (λ _ _. refl)

  pub in_strings : Names word (command.on_key (command.neighbour side)) → AnswersEntryOrNone judysl string_key_of string_entry word (commands.neighbour_of side)
  in_strings names = entries judysl string_key_of bad_key word (command.neighbour side) names string_entry (commands.neighbour_of side) (λ _ _. refl)

  pub beside_set : Names word (command.on_key (command.empty side)) → AnswersNumberOrNone judy1 word_of word (commands.empty_neighbour_of side)
  beside_set names = numbers judy1 word_of bad_word word (command.empty side) names (commands.empty_neighbour_of side) (λ _ _. refl)

  pub beside_words : Names word (command.on_key (command.empty side)) → AnswersNumberOrNone judyl word_of word (commands.empty_neighbour_of side)
  beside_words names = numbers judyl word_of bad_word word (command.empty side) names (commands.empty_neighbour_of side) (λ _ _. refl)

by_count_names : Names (codes "bycount") (command.on_key command.by_count)
by_count_names = record { plain = refl; named = refl }

pub by_count_of_set : AnswersNumberOrNone judy1 word_of (codes "bycount") by_count
by_count_of_set = numbers judy1 word_of bad_word (codes "bycount") command.by_count by_count_names by_count (λ _ _. refl)

pub by_count_of_words : AnswersEntryOrNone judyl word_of entry (codes "bycount") by_count
by_count_of_words = entries judyl word_of bad_word (codes "bycount") command.by_count by_count_names entry by_count (λ _ _. refl)

pub by_count_of_strings : AnswersEntryOrNone judysl word_of string_entry (codes "bycount") by_count
by_count_of_strings = entries judysl word_of bad_word (codes "bycount") command.by_count by_count_names string_entry by_count (λ _ _. refl)

-- counts
module _ {K : Type 0} {order : K → K → Ordering} (kind : ArrayOf order → ArrayValue) (said : List ℕ → Option K) (no_key : Refusal)
    (does : (first second : List ℕ) (array : ArrayOf order) → commands.on_pair command.count first second (kind array) ≡
    (ok_or (said first) no_key >>= (λ from. ok_or (said second) no_key >>= (λ to. Ok (unchanged (kind array) (number (count array.map from to))))))) where
  counts_of : CountsFromTheFirstToTheSecond kind said
  counts_of array first second from to is this =
      pair-Answers (codes "count") command.count (record { plain = refl; named = refl }) first second (kind array) (number (count array.map from to)) (
      does first second array
      ∙ ap (λ from. ok_or from no_key >>= (λ from. ok_or (said second) no_key >>= (λ to. Ok (unchanged (kind array) (number (count array.map from to)))))) is
      ∙ ap (λ to. ok_or to no_key >>= (λ to. Ok (unchanged (kind array) (number (count array.map from to))))) this)

pub count_of_set : CountsFromTheFirstToTheSecond judy1 word_of
count_of_set = counts_of judy1 word_of bad_word (λ _ _ _. refl)

pub count_of_words : CountsFromTheFirstToTheSecond judyl word_of
count_of_words = counts_of judyl word_of bad_word (λ _ _ _. refl)

pub count_of_strings : CountsFromTheFirstToTheSecond judysl string_key_of
count_of_strings = counts_of judysl string_key_of bad_key (λ _ _ _. refl)

-- ---- the commands of a set

module _ (set : ArrayOf word_order) (token : List ℕ) (key : ℕ) (is : word_of token ≡ Some key) where
  test_names : Names (codes "test") (command.on_key command.test)
  test_names = record { plain = refl; named = refl }

  tested : (found : Option ℕ) → get set.map key ≡ found → commands.on_key command.test token (judy1 set) ≡ Ok (unchanged (judy1 set) (flag (is_some found)))
  tested found at =
      ap (λ key. ok_or key bad_word >>= (λ key. Ok (unchanged (judy1 set) (flag (contains_key set.map key))))) is
      ∙ ap (λ found. Ok (unchanged (judy1 set) (flag (is_some found)))) at

  pub test_present : (value : ℕ) → get set.map key ≡ Some value → Answers (codes "test") (token ∷ []) (judy1 set) (flag true)
  test_present value at = key-Answers (codes "test") command.test test_names token (judy1 set) (flag true) (tested (Some value) at)

  pub test_absent : get set.map key ≡ None → Answers (codes "test") (token ∷ []) (judy1 set) (flag false)
  test_absent at = key-Answers (codes "test") command.test test_names token (judy1 set) (flag false) (tested None at)

  unset_names : Names (codes "unset") (command.on_key command.unset)
  unset_names = record { plain = refl; named = refl }

  removes : commands.on_key command.unset token (judy1 set) ≡ Ok (removed judy1 set key)
  removes = ap (λ key. ok_or key bad_word >>= (λ key. Ok (removed judy1 set key))) is

  taken : (found : Option ℕ) → get set.map key ≡ found → (let was : Result (Outcome ArrayValue) Refusal = Ok (removed judy1 set key) in was) ≡
      Ok (record { answer = flag (is_some found); after = judy1 (with_map set (del set.map key)); grows = false })
  taken found at = ap (λ found. Ok (record { answer = flag (is_some found); after = judy1 (with_map set (del set.map key)); grows = false })) at

  pub unset_present : (value : ℕ) → get set.map key ≡ Some value → Changes (codes "unset") (token ∷ []) (judy1 set) (flag true) (judy1 (with_map set (del set.map key)))
  unset_present value at = key-Changes (codes "unset") command.unset unset_names token (judy1 set) _ (removes ∙ taken (Some value) at)

  pub unset_absent : get set.map key ≡ None → Answers (codes "unset") (token ∷ []) (judy1 set) (flag false)
  unset_absent at =
      key-Answers (codes "unset") command.unset unset_names token (judy1 set) (flag false) (
      removes ∙ taken None at
      ∙ ap (λ map. Ok (record { answer = flag false; after = judy1 (with_map set map); grows = false })) (del_absent nat_cmp_total set.map key nat_cmp-IsAntisymmetric at))

  set_names : Names (codes "set") (command.on_key command.set)
  set_names = record { plain = refl; named = refl }

  adds : commands.on_key command.set token (judy1 set) ≡ added set key
  adds = ap (λ key. ok_or key bad_word >>= (λ key. added set key)) is

  abbrev added_fits : Option ℕ → FinMap word_order ℕ → Result (Outcome ArrayValue) Refusal
  added_fits found map = Ok (record { answer = flag (not (is_some found)); after = judy1 (with_map set map); grows = not (is_some found) })

  pub set_present : (value : ℕ) → get set.map key ≡ Some value → Answers (codes "set") (token ∷ []) (judy1 set) (flag false)
  set_present value at =
      key-Answers (codes "set") command.set set_names token (judy1 set) (flag false) (
      adds
      ∙ ap (λ b. cond b (Err full) (added_fits (get set.map key) (ins set.map key))) (is_full_present set key value at)
      ∙ ap (added_fits (get set.map key)) (ins_present set.map key value at)
      ∙ ap (λ found. added_fits found set.map) at)

  pub set_absent : get set.map key ≡ None → len set.map < set.limit → Changes (codes "set") (token ∷ []) (judy1 set) (flag true) (judy1 (with_map set (ins set.map key)))
  set_absent at room =
      key-Changes (codes "set") command.set set_names token (judy1 set) _ (
      adds
      ∙ ap (λ b. cond b (Err full) (added_fits (get set.map key) (ins set.map key))) (is_full_absent set key at ∙ ne_eqb (len set.map) set.limit (λ e. omega (arith, e, room)))
      ∙ ap (λ found. added_fits found (ins set.map key)) at)

  pub set_at_limit : get set.map key ≡ None → len set.map ≡ set.limit → IsRefused (codes "set") (token ∷ []) (judy1 set) full
  set_at_limit at reached =
      key-IsRefused (codes "set") command.set set_names token (judy1 set) full (
      adds ∙ ap (λ b. cond b (Err full) (added_fits (get set.map key) (ins set.map key))) (is_full_absent set key at ∙ eq-eqb (len set.map) set.limit reached))
