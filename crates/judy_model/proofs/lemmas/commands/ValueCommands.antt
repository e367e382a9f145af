-- What the commands of one key and of a key and its value do to an array that has values.
use Rattle.std.proofs.Common.{◌≡◌, ℕ, false, cond, not, List, Option, Some, None, Result, Ok, Err, Ordering, refl, ap, ◌∙◌, arith}
use Rattle.std.specs.Prelude.{ok_or, is_some, unwrap_or, codes}
use Rattle.std.specs.Cmp.{IsTotalOrder, nat_cmp_total}
use Rattle.std.specs.Cmp.Lexicographic.{nat_list_cmp_total}
use Rattle.std.specs.FinMap.{FinMap, IsAntisymmetric, nat_cmp-IsAntisymmetric, slice_cmp-IsAntisymmetric, get, contains_key, len}
use Rattle.std.proofs.lemmas.Bool.{ne_eqb, eq-eqb}
use Rattle.judy_model.specs.Arrays.{ArrayOf, ArrayValue, judyl, judysl, judyhs, with_map, ins, write, del, is_full}
use Rattle.judy_model.specs.Tokens.{word_of}
use Rattle.judy_model.specs.KeyTokens.{string_key_of, bytes_key_of}
use Rattle.judy_model.specs.Replies.{Refusal, was, flag, number, nothing, bad_word, bad_key, full}
use Rattle.judy_model.specs.CommandWords as command
use Rattle.judy_model.specs.CommandWords.{KeyCommand, PairCommand}
use Rattle.judy_model.specs.Commands as commands
use Rattle.judy_model.specs.Commands.{Outcome, ◌>>=◌, unchanged, number_or_nothing, overwritten, inserted, removed, value_of, map_on_key, map_on_pair, word_at}
use Rattle.judy_model.specs.CommandLaws.{GetAnswersTheValue, GetOfAbsentIsNone, PutWritesAPresentKey, PutLeavesAnAbsentKey, InsWritesAPresentKey, InsAddsAnAbsentKey}
use Rattle.judy_model.specs.CommandLaws.{InsIsRefusedAtTheLimit, TakesOutAPresentKey, LeavesAnAbsentKey, RefusesABadKey, RefusesABadFirst, RefusesABadSecond}
use Rattle.judy_model.proofs.lemmas.maps.ChangesLemmas.{del_absent}
use Rattle.judy_model.proofs.lemmas.maps.Inserts.{get-insert_itself, ins_present, ins_absent, is_full_present, is_full_absent}
use Rattle.judy_model.proofs.lemmas.commands.CommandLemmas.{Names, key-Changes, key-Answers, key-IsRefused, pair-Changes, pair-Answers, pair-IsRefused}

-- The laws of these commands at a kind.
pub record Values {K : Type 0} {order : K → K → Ordering} (kind : ArrayOf order → ArrayValue) (said : List ℕ → Option K) (no_key : Refusal) : Type 0 where
  pub get_present : GetAnswersTheValue kind said
  pub get_absent : GetOfAbsentIsNone kind said
  pub put_present : PutWritesAPresentKey kind said
  pub put_absent : PutLeavesAnAbsentKey kind said
  pub ins_present : InsWritesAPresentKey kind said
  pub ins_absent : InsAddsAnAbsentKey kind said
  pub ins_at_limit : InsIsRefusedAtTheLimit kind said
  pub del_present : TakesOutAPresentKey kind said (codes "del")
  pub del_absent : LeavesAnAbsentKey kind said (codes "del")
  pub get_bad_key : RefusesABadKey kind said no_key (codes "get")
  pub del_bad_key : RefusesABadKey kind said no_key (codes "del")
  pub put_bad_key : RefusesABadFirst kind said no_key (codes "put")
  pub ins_bad_key : RefusesABadFirst kind said no_key (codes "ins")
  pub put_bad_value : RefusesABadSecond kind said word_of bad_word (codes "put")
  pub ins_bad_value : RefusesABadSecond kind said word_of bad_word (codes "ins")

module _ {K : Type 0} {order : K → K → Ordering} (total : IsTotalOrder order) (same : IsAntisymmetric order) (kind : ArrayOf order → ArrayValue) (said : List ℕ → Option K) (no_key : Refusal)
    (get_is : (token : List ℕ) (array : ArrayOf order) → commands.on_key command.get token (kind array) ≡ map_on_key kind command.get array (ok_or (said token) no_key))
    (del_is : (token : List ℕ) (array : ArrayOf order) → commands.on_key command.del token (kind array) ≡ map_on_key kind command.del array (ok_or (said token) no_key))
    (ins_is : (first second : List ℕ) (array : ArrayOf order) → commands.on_pair command.ins first second (kind array) ≡ map_on_pair kind command.ins array (ok_or (said first) no_key) second)
    (put_is : (first second : List ℕ) (array : ArrayOf order) → commands.on_pair command.put first second (kind array) ≡ map_on_pair kind command.put array (ok_or (said first) no_key) second) where
  get_names : Names (codes "get") (command.on_key command.get)
  get_names = record { plain = refl; named = refl }

  put_names : Names (codes "put") (command.on_pair command.put)
  put_names = record { plain = refl; named = refl }

  ins_names : Names (codes "ins") (command.on_pair command.ins)
  ins_names = record { plain = refl; named = refl }

  del_names : Names (codes "del") (command.on_key command.del)
  del_names = record { plain = refl; named = refl }

  -- `get`
  got : (array : ArrayOf order) (token : List ℕ) (key : K) (found : Option ℕ) → said token ≡ Some key → get array.map key ≡ found →
      commands.on_key command.get token (kind array) ≡ Ok (unchanged (kind array) (number_or_nothing found))
  got array token key found is held =
      get_is token array
      ∙ ap (λ key. map_on_key kind command.get array (ok_or key no_key)) is
      ∙ ap (λ found. Ok (unchanged (kind array) (number_or_nothing found))) held

  pub get_answers : GetAnswersTheValue kind said
  get_answers array token key value is held = key-Answers (codes "get") command.get get_names token (kind array) (number value) (got array token key (Some value) is held)

  pub get_none : GetOfAbsentIsNone kind said
  get_none array token key is gone = key-Answers (codes "get") command.get get_names token (kind array) nothing (got array token key None is gone)

  -- `put`
  overwrites : (array : ArrayOf order) (first second : List ℕ) (key : K) (value : ℕ) (found : Option ℕ) → said first ≡ Some key → word_of second ≡ Some value →
      get array.map key ≡ found → commands.on_pair command.put first second (kind array) ≡ Ok (overwritten kind array key value found)
  overwrites array first second key value found is wrote held =
      put_is first second array
      ∙ ap (λ key. map_on_pair kind command.put array (ok_or key no_key) second) is
      ∙ ap (λ value. ok_or value bad_word >>= (λ value. Ok (overwritten kind array key value (get array.map key)))) wrote
      ∙ ap (λ found. Ok (overwritten kind array key value found)) held

  pub put_writes : PutWritesAPresentKey kind said
  put_writes array first second key value before is wrote held =
      pair-Changes (codes "put") command.put put_names first second (kind array) _ (overwrites array first second key value (Some before) is wrote held)

  pub put_leaves : PutLeavesAnAbsentKey kind said
  put_leaves array first second key value is wrote gone =
      pair-Answers (codes "put") command.put put_names first second (kind array) nothing (overwrites array first second key value None is wrote gone)

  -- `ins`
  inserts : (array : ArrayOf order) (first second : List ℕ) (key : K) (value : ℕ) → said first ≡ Some key → word_of second ≡ Some value →
      commands.on_pair command.ins first second (kind array) ≡ inserted kind array key value
  inserts array first second key value is wrote =
      ins_is first second array
      ∙ ap (λ key. map_on_pair kind command.ins array (ok_or key no_key) second) is
      ∙ ap (λ value. ok_or value bad_word >>= (λ value. inserted kind array key value)) wrote

  -- what an insert does where the array isn't full for the key
  abbrev inserted_fits : ArrayOf order → K → ℕ → Result (Outcome ArrayValue) Refusal
  inserted_fits array key value =
      Ok (record { answer = was (value_of (ins array.map key) key); after = kind (with_map array (write (ins array.map key) key value)); grows = not (contains_key array.map key) })

  -- an insert, by whether the array is full for the key and what its slot shows
  inserted_at : (array : ArrayOf order) (key : K) (value shown : ℕ) → is_full array key ≡ false → value_of (ins array.map key) key ≡ shown → (after : FinMap order ℕ) →
      write (ins array.map key) key value ≡ after → inserted kind array key value ≡ Ok (record { answer = was shown; after = kind (with_map array after); grows = not (contains_key array.map key) })
  inserted_at array key value shown fits slot after is =
      ap (λ b. cond b (Err full) (inserted_fits array key value)) fits
      ∙ ap (λ shown. Ok (record { answer = was shown; after = kind (with_map array (write (ins array.map key) key value)); grows = not (contains_key array.map key) })) slot
      ∙ ap (λ after. Ok (record { answer = was shown; after = kind (with_map array after); grows = not (contains_key array.map key) })) is

  pub ins_writes : InsWritesAPresentKey kind said
  ins_writes array first second key value before is wrote held =
      let same_map = ins_present array.map key before held in
      pair-Changes (codes "ins") command.ins ins_names first second (kind array) _ (
      inserts array first second key value is wrote
      ∙ inserted_at array key value before (is_full_present array key before held) (ap (λ map. value_of map key) same_map ∙ ap (λ found. unwrap_or found 0) held) _
      (ap (λ map. write map key value) same_map))

  pub ins_adds : InsAddsAnAbsentKey kind said
  ins_adds array first second key value is wrote gone room =
      pair-Changes (codes "ins") command.ins ins_names first second (kind array) _ (
      inserts array first second key value is wrote
      ∙ inserted_at array key value 0 (is_full_absent array key gone ∙ ne_eqb (len array.map) array.limit (λ e. omega (arith, e, room)))
      (ap (λ map. value_of map key) (ins_absent array.map key gone) ∙ ap (λ found. unwrap_or found 0) (get-insert_itself total array.map key 0)) _ refl)

  pub ins_full : InsIsRefusedAtTheLimit kind said
  ins_full array first second key value is wrote gone reached =
      pair-IsRefused (codes "ins") command.ins ins_names first second (kind array) full (
      inserts array first second key value is wrote ∙ ap (λ b. cond b (Err full) (inserted_fits array key value)) (is_full_absent array key gone ∙ eq-eqb (len array.map) array.limit reached))

  -- `del`
  removes : (array : ArrayOf order) (token : List ℕ) (key : K) → said token ≡ Some key → commands.on_key command.del token (kind array) ≡ Ok (removed kind array key)
  removes array token key is = del_is token array ∙ ap (λ key. map_on_key kind command.del array (ok_or key no_key)) is

  pub del_takes : TakesOutAPresentKey kind said (codes "del")
  del_takes array token key value is held =
      key-Changes (codes "del") command.del del_names token (kind array) _ (
      removes array token key is ∙ ap (λ found. Ok (record { answer = flag (is_some found); after = kind (with_map array (del array.map key)); grows = false })) held)

  pub del_leaves : LeavesAnAbsentKey kind said (codes "del")
  del_leaves array token key is gone =
      key-Answers (codes "del") command.del del_names token (kind array) (flag false) (
      removes array token key is
      ∙ ap (λ found. Ok (record { answer = flag (is_some found); after = kind (with_map array (del array.map key)); grows = false })) gone
      ∙ ap (λ map. Ok (record { answer = flag false; after = kind (with_map array map); grows = false })) (del_absent total array.map key same gone))

  -- ---- bad arguments

  get_bad : RefusesABadKey kind said no_key (codes "get")
  get_bad array token bad =
      key-IsRefused (codes "get") command.get get_names token (kind array) no_key (get_is token array ∙ ap (λ key. map_on_key kind command.get array (ok_or key no_key)) bad)

  del_bad : RefusesABadKey kind said no_key (codes "del")
  del_bad array token bad =
      key-IsRefused (codes "del") command.del del_names token (kind array) no_key (del_is token array ∙ ap (λ key. map_on_key kind command.del array (ok_or key no_key)) bad)

  put_bad_first : RefusesABadFirst kind said no_key (codes "put")
  put_bad_first array first second bad =
      pair-IsRefused (codes "put") command.put put_names first second (kind array) no_key (put_is first second array ∙ ap (λ key. map_on_pair kind command.put array (ok_or key no_key) second) bad)

  ins_bad_first : RefusesABadFirst kind said no_key (codes "ins")
  ins_bad_first array first second bad =
      pair-IsRefused (codes "ins") command.ins ins_names first second (kind array) no_key (ins_is first second array ∙ ap (λ key. map_on_pair kind command.ins array (ok_or key no_key) second) bad)

  put_bad_second : RefusesABadSecond kind said word_of bad_word (codes "put")
  put_bad_second array first second key is bad =
      pair-IsRefused (codes "put") command.put put_names first second (kind array) bad_word (
      put_is first second array
      ∙ ap (λ key. map_on_pair kind command.put array (ok_or key no_key) second) is
      ∙ ap (λ value. ok_or value bad_word >>= (λ value. Ok (overwritten kind array key value (get array.map key)))) bad)

  ins_bad_second : RefusesABadSecond kind said word_of bad_word (codes "ins")
  ins_bad_second array first second key is bad =
      pair-IsRefused (codes "ins") command.ins ins_names first second (kind array) bad_word (
      ins_is first second array
      ∙ ap (λ key. map_on_pair kind command.ins array (ok_or key no_key) second) is
      ∙ ap (λ value. ok_or value bad_word >>= (λ value. inserted kind array key value)) bad)

  values : Values kind said no_key
  values = record {
    get_present = get_answers;
    get_absent = get_none;
    put_present = put_writes;
    put_absent = put_leaves;
    ins_present = ins_writes;
    ins_absent = ins_adds;
    ins_at_limit = ins_full;
    del_present = del_takes;
    del_absent = del_leaves;
    get_bad_key = get_bad;
    del_bad_key = del_bad;
    put_bad_key = put_bad_first;
    ins_bad_key = ins_bad_first;
    put_bad_value = put_bad_second;
    ins_bad_value = ins_bad_second;
  }

pub of_words : Values judyl word_of bad_word
of_words = values nat_cmp_total nat_cmp-IsAntisymmetric judyl word_of bad_word (λ _ _. refl) (λ _ _. refl) (λ _ _ _. refl) (λ _ _ _. refl)

pub of_strings : Values judysl string_key_of bad_key
of_strings = values nat_list_cmp_total (slice_cmp-IsAntisymmetric nat_cmp-IsAntisymmetric) judysl string_key_of bad_key (λ _ _. refl) (λ _ _. refl) (λ _ _ _. refl) (λ _ _ _. refl)

pub of_bytes : Values judyhs bytes_key_of bad_key
of_bytes = values nat_list_cmp_total (slice_cmp-IsAntisymmetric nat_cmp-IsAntisymmetric) judyhs bytes_key_of bad_key (λ _ _. refl) (λ _ _. refl) (λ _ _ _. refl) (λ _ _ _. refl)
