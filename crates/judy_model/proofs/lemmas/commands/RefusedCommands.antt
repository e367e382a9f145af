-- Commands with a bad argument, and commands that an array's kind doesn't have.
use Rattle.std.proofs.Common.{◌≡◌, ℕ, List, Option, Some, None, Result, Ok, Err, Ordering, refl, ap, ◌∙◌}
use Rattle.std.specs.Prelude.{ok_or, codes}
use Rattle.judy_model.specs.Arrays.{ArrayOf, ArrayValue, judy1, judyl, judysl}
use Rattle.judy_model.specs.Tokens.{word_of}
use Rattle.judy_model.specs.KeyTokens.{string_key_of}
use Rattle.judy_model.specs.Counts.{count, by_count}
use Rattle.judy_model.specs.Replies.{Refusal, number, entry, string_entry, bad_word, bad_key, wrong_kind}
use Rattle.judy_model.specs.CommandWords as command
use Rattle.judy_model.specs.CommandWords.{KeyCommand, PairCommand}
use Rattle.judy_model.specs.Commands as commands
use Rattle.judy_model.specs.Commands.{Outcome, ◌>>=◌, unchanged, number_or_nothing, entry_or_nothing, added, removed}
use Rattle.judy_model.specs.CommandLaws.{RefusesABadKey, RefusesABadFirst, RefusesABadSecond, HasNoCommandOfOne, HasNoCommandOfTwo}
use Rattle.judy_model.proofs.lemmas.commands.CommandLemmas.{Names, key-IsRefused, pair-IsRefused}

module _ {K S : Type 0} {order : K → K → Ordering} (kind : ArrayOf order → ArrayValue) (said : List ℕ → Option S) (no_key : Refusal) (word : List ℕ) where
  -- A command that reads its key before all else refuses a token that says none.
  pub refuses : (which : KeyCommand) → Names word (command.on_key which) → (rest : ArrayOf order → S → Result (Outcome ArrayValue) Refusal) →
      ((token : List ℕ) (array : ArrayOf order) → commands.on_key which token (kind array) ≡ (ok_or (said token) no_key >>= rest array)) → RefusesABadKey kind said no_key word
  refuses which names rest does array token bad = key-IsRefused word which names token (kind array) no_key (does token array ∙ ap (λ key. ok_or key no_key >>= rest array) bad)

module _ {K : Type 0} {order : K → K → Ordering} (kind : ArrayOf order → ArrayValue) (word : List ℕ) where
  -- A command that the kind doesn't have is refused.
  pub lacks_one : (which : KeyCommand) → Names word (command.on_key which) → ((token : List ℕ) (array : ArrayOf order) → commands.on_key which token (kind array) ≡ Err wrong_kind) →
      HasNoCommandOfOne kind word
  lacks_one which names is array token = key-IsRefused word which names token (kind array) wrong_kind (is token array)

  pub lacks_two : (which : PairCommand) → Names word (command.on_pair which) → ((first second : List ℕ) (array : ArrayOf order) →
      commands.on_pair which first second (kind array) ≡ Err wrong_kind) → HasNoCommandOfTwo kind word
  lacks_two which names is array first second = pair-IsRefused word which names first second (kind array) wrong_kind (is first second array)

-- ---- each command of one argument

pub set_bad : RefusesABadKey judy1 word_of bad_word (codes "set")
set_bad = refuses judy1 word_of bad_word (codes "set") command.set (record { plain = refl; named = refl }) added (λ _ _. refl)

pub unset_bad : RefusesABadKey judy1 word_of bad_word (codes "unset")
unset_bad = refuses judy1 word_of bad_word (codes "unset") command.unset (record { plain = refl; named = refl }) (λ array key. Ok (removed judy1 array key)) (λ _ _. refl)

pub test_bad : RefusesABadKey judy1 word_of bad_word (codes "test")
test_bad = refuses judy1 word_of bad_word (codes "test") command.test (record { plain = refl; named = refl }) _ (λ _ _. refl)

module _ (word : List ℕ) (side : command.Neighbour) where
  pub neighbour_in_set_bad : Names word (command.on_key (command.neighbour side)) → RefusesABadKey judy1 word_of bad_word word
  neighbour_in_set_bad names =
      refuses judy1 word_of bad_word word (command.neighbour side) names (λ array key. Ok (unchanged (judy1 array) (number_or_nothing (commands.neighbour_of side array.map key)))) (λ _ _. refl)

  pub neighbour_in_words_bad : Names word (command.on_key (command.neighbour side)) → RefusesABadKey judyl word_of bad_word word
  neighbour_in_words_bad names =
      refuses judyl word_of bad_word word (command.neighbour side) names (λ array key. Ok (unchanged (judyl array)
      (entry_or_nothing entry array.map (commands.neighbour_of side array.map key)))) (λ _ _. refl)

  pub neighbour_in_strings_bad : Names word (command.on_key (command.neighbour side)) → RefusesABadKey judysl string_key_of bad_key word
  neighbour_in_strings_bad names =
      refuses judysl string_key_of bad_key word (command.neighbour side) names (λ array key. Ok (unchanged (judysl array)
      (entry_or_nothing string_entry array.map (commands.neighbour_of side array.map key)))) (λ _ _. refl)

  pub empty_in_set_bad : Names word (command.on_key (command.empty side)) → RefusesABadKey judy1 word_of bad_word word
  empty_in_set_bad names =
      refuses judy1 word_of bad_word word (command.empty side) names (λ array key. Ok (unchanged (judy1 array) (number_or_nothing (commands.empty_neighbour_of side array.map key)))) (λ _ _. refl)

  pub empty_in_words_bad : Names word (command.on_key (command.empty side)) → RefusesABadKey judyl word_of bad_word word
  empty_in_words_bad names =
      refuses judyl word_of bad_word word (command.empty side) names (λ array key. Ok (unchanged (judyl array) (number_or_nothing (commands.empty_neighbour_of side array.map key)))) (λ _ _. refl)

by_count_names : Names (codes "bycount") (command.on_key command.by_count)
by_count_names = record { plain = refl; named = refl }

pub by_count_in_set_bad : RefusesABadKey judy1 word_of bad_word (codes "bycount")
by_count_in_set_bad =
    refuses judy1 word_of bad_word (codes "bycount") command.by_count by_count_names (λ array n. Ok (unchanged (judy1 array) (number_or_nothing (by_count array.map n)))) (λ _ _. refl)

pub by_count_in_words_bad : RefusesABadKey judyl word_of bad_word (codes "bycount")
by_count_in_words_bad =
    refuses judyl word_of bad_word (codes "bycount") command.by_count by_count_names (λ array n. Ok (unchanged (judyl array) (entry_or_nothing entry array.map (by_count array.map n)))) (λ _ _. refl)

pub by_count_in_strings_bad : RefusesABadKey judysl word_of bad_word (codes "bycount")
by_count_in_strings_bad =
    refuses judysl word_of bad_word (codes "bycount") command.by_count by_count_names (λ array n. Ok
    (unchanged (judysl array) (entry_or_nothing string_entry array.map (by_count array.map n)))) (λ _ _. refl)

-- ---- counts

module _ {K : Type 0} {order : K → K → Ordering} (kind : ArrayOf order → ArrayValue) (said : List ℕ → Option K) (no_key : Refusal)
    (does : (first second : List ℕ) (array : ArrayOf order) → commands.on_pair command.count first second (kind array) ≡
    (ok_or (said first) no_key >>= (λ from. ok_or (said second) no_key >>= (λ to. Ok (unchanged (kind array) (number (count array.map from to))))))) where
  count_names : Names (codes "count") (command.on_pair command.count)
  count_names = record { plain = refl; named = refl }

  counted_from : (array : ArrayOf order) (first second : List ℕ) (found : Option K) → said first ≡ found →
      commands.on_pair command.count first second (kind array) ≡ (ok_or found no_key >>= (λ from. ok_or (said second) no_key >>=
      (λ to. Ok (unchanged (kind array) (number (count array.map from to))))))
  counted_from array first second found is =
      does first second array ∙ ap (λ from. ok_or from no_key >>= (λ from. ok_or (said second) no_key >>= (λ to. Ok (unchanged (kind array) (number (count array.map from to)))))) is

  bad_first : RefusesABadFirst kind said no_key (codes "count")
  bad_first array first second bad = pair-IsRefused (codes "count") command.count count_names first second (kind array) no_key (counted_from array first second None bad)

  bad_second : RefusesABadSecond kind said said no_key (codes "count")
  bad_second array first second from is bad =
      pair-IsRefused (codes "count") command.count count_names first second (kind array) no_key (
      counted_from array first second (Some from) is ∙ ap (λ to. ok_or to no_key >>= (λ to. Ok (unchanged (kind array) (number (count array.map from to))))) bad)

pub count_in_set_bad_first : RefusesABadFirst judy1 word_of bad_word (codes "count")
count_in_set_bad_first = bad_first judy1 word_of bad_word (λ _ _ _. refl)

pub count_in_set_bad_second : RefusesABadSecond judy1 word_of word_of bad_word (codes "count")
count_in_set_bad_second = bad_second judy1 word_of bad_word (λ _ _ _. refl)

pub count_in_words_bad_first : RefusesABadFirst judyl word_of bad_word (codes "count")
count_in_words_bad_first = bad_first judyl word_of bad_word (λ _ _ _. refl)

pub count_in_words_bad_second : RefusesABadSecond judyl word_of word_of bad_word (codes "count")
count_in_words_bad_second = bad_second judyl word_of bad_word (λ _ _ _. refl)

pub count_in_strings_bad_first : RefusesABadFirst judysl string_key_of bad_key (codes "count")
count_in_strings_bad_first = bad_first judysl string_key_of bad_key (λ _ _ _. refl)

pub count_in_strings_bad_second : RefusesABadSecond judysl string_key_of string_key_of bad_key (codes "count")
count_in_strings_bad_second = bad_second judysl string_key_of bad_key (λ _ _ _. refl)
