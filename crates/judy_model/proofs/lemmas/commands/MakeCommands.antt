-- What `make` does: its checks, one after the other, and the array that it puts last.
use Rattle.std.proofs.Common.{◌≡◌, ℕ, ◌<◌, ◌≤◌, Bool, true, false, ◌&&◌, cond, List, [], ◌∷◌, length, Option, Some, None, Result, Ok, Err, IsTrue, IsFalse, nat_lt, nat_le, lt-ltb}
use Rattle.std.proofs.Common.{le-leb, refl, ap, ◌∙◌}
use Rattle.std.specs.Prelude.{ok_or, is_none, codes, ◌++◌}
use Rattle.std.proofs.lemmas.Bool.{and_from}
use Rattle.judy_model.specs.Arrays.{ArrayValue}
use Rattle.judy_model.specs.Lines.{Line}
use Rattle.judy_model.specs.Tokens.{is_name, word_of}
use Rattle.judy_model.specs.Kinds.{kind_named}
use Rattle.judy_model.specs.Stores.{Store, array_named, with_new_array}
use Rattle.judy_model.specs.Replies.{done, Refusal, bad_name, wrong_kind, bad_word, bad_limit, exists, too_many_arrays}
use Rattle.judy_model.specs.CommandWords as command
use Rattle.judy_model.specs.Commands.{Outcome, ◌>>=◌, provided, made, limit_at}
use Rattle.judy_model.specs.Steps.{step, settled}
use Rattle.judy_model.specs.CommandLaws.{Says}
use Rattle.judy_model.proofs.lemmas.commands.CommandLemmas.{Names, step-said}

make_names : Names (codes "make") command.make
make_names = record { plain = refl; named = refl }

-- the checks behind the limit, each by its test
abbrev checked : Store → List ℕ → (ℕ → ArrayValue) → ℕ → Bool → Bool → Bool → Result (Outcome Store) Refusal
checked store name empty limit fits new room =
    provided fits bad_limit
    >>= (λ _. provided new exists
    >>= (λ _. provided room too_many_arrays
    >>= (λ _. Ok (record { answer = done; after = with_new_array store name (empty limit); grows = true }))))

abbrev tested : Store → List ℕ → (ℕ → ArrayValue) → ℕ → Result (Outcome Store) Refusal
tested store name empty limit =
    checked store name empty limit (nat_lt 0 limit && nat_le limit 4294967295) (is_none (array_named store name)) (nat_lt (length store) 64)

and_false : (first : Bool) → (first && false) ≡ false
and_false true = refl
and_false false = refl

module _ (store : Store) (name kind : List ℕ) (said : Option (List ℕ)) where
  bad_named : IsFalse (is_name name) → made store name kind said ≡ Err bad_name
  bad_named bad =
      ap (λ b. ok_or (cond b (Some name) None) bad_name >>= (λ name. ok_or (kind_named kind) wrong_kind >>= (λ empty. limit_at said >>= (λ limit. tested store name empty limit)))) bad

  kind_first : IsTrue (is_name name) → made store name kind said ≡ (ok_or (kind_named kind) wrong_kind >>= (λ empty. limit_at said >>= (λ limit. tested store name empty limit)))
  kind_first good =
      ap (λ b. ok_or (cond b (Some name) None) bad_name >>= (λ name. ok_or (kind_named kind) wrong_kind >>= (λ empty. limit_at said >>= (λ limit. tested store name empty limit)))) good

  limit_first : (found : Option (ℕ → ArrayValue)) → IsTrue (is_name name) → kind_named kind ≡ found →
      made store name kind said ≡ (ok_or found wrong_kind >>= (λ empty. limit_at said >>= (λ limit. tested store name empty limit)))
  limit_first found good is = kind_first good ∙ ap (λ found. ok_or found wrong_kind >>= (λ empty. limit_at said >>= (λ limit. tested store name empty limit))) is

  by_limit : (empty : ℕ → ArrayValue) (limit : Result ℕ Refusal) → IsTrue (is_name name) → kind_named kind ≡ Some empty → limit_at said ≡ limit →
      made store name kind said ≡ (limit >>= (λ limit. tested store name empty limit))
  by_limit empty limit good is at = limit_first (Some empty) good is ∙ ap (λ limit. limit >>= (λ limit. tested store name empty limit)) at

fits-from : (limit : ℕ) → 0 < limit → limit ≤ 4294967295 → (nat_lt 0 limit && nat_le limit 4294967295) ≡ true
fits-from limit some most = and_from (nat_lt 0 limit) (nat_le limit 4294967295) (lt-ltb 0 limit some) (le-leb limit 4294967295 most)

tested-by : (store : Store) (name : List ℕ) (empty : ℕ → ArrayValue) (limit : ℕ) (found : Option ArrayValue) (room : Bool) → 0 < limit → limit ≤ 4294967295 →
    array_named store name ≡ found → nat_lt (length store) 64 ≡ room → tested store name empty limit ≡ checked store name empty limit true (is_none found) room
tested-by store name empty limit found room some most here is =
    ap (λ fits. checked store name empty limit fits (is_none (array_named store name)) (nat_lt (length store) 64)) (fits-from limit some most)
    ∙ ap (λ found. checked store name empty limit true (is_none found) (nat_lt (length store) 64)) here
    ∙ ap (λ room. checked store name empty limit true (is_none found) room) is

module _ (store : Store) (name kind : List ℕ) (line : Line) where
  says_limit : (token : List ℕ) → Says line (codes "make" ∷ name ∷ kind ∷ token ∷ []) → step store line ≡ settled store (made store name kind (Some token))
  says_limit token = step-said store line (codes "make") command.make (name ∷ kind ∷ token ∷ []) make_names

  pub made_with_limit : (token : List ℕ) (limit : ℕ) (empty : ℕ → ArrayValue) → IsTrue (is_name name) → kind_named kind ≡ Some empty → word_of token ≡ Some limit → 0 < limit →
      limit ≤ 4294967295 → array_named store name ≡ None → length store < 64 → Says line (codes "make" ∷ name ∷ kind ∷ token ∷ []) → step store line ≡ (Ok done, store ++ (name, empty limit) ∷ [])
  made_with_limit token limit empty good is word some most new room says =
      says_limit token says
      ∙ ap (settled store) (by_limit store name kind (Some token) empty (Ok limit) good is (ap (λ word. ok_or word bad_word) word) ∙
      tested-by store name empty limit None true some most new (lt-ltb (length store) 64 room))

  pub made_without_limit : (empty : ℕ → ArrayValue) → IsTrue (is_name name) → kind_named kind ≡ Some empty → array_named store name ≡ None → length store < 64 →
      Says line (codes "make" ∷ name ∷ kind ∷ []) → step store line ≡ (Ok done, store ++ (name, empty 4294967295) ∷ [])
  made_without_limit empty good is new room says =
      step-said store line (codes "make") command.make (name ∷ kind ∷ []) make_names says
      ∙ ap (settled store) (by_limit store name kind None empty (Ok 4294967295) good is refl
      ∙ ap (λ found. checked store name empty 4294967295 true (is_none found) (nat_lt (length store) 64)) new
      ∙ ap (checked store name empty 4294967295 true true) (lt-ltb (length store) 64 room))

  pub refused_name : (token : List ℕ) → IsFalse (is_name name) → Says line (codes "make" ∷ name ∷ kind ∷ token ∷ []) → step store line ≡ (Err bad_name, store)
  refused_name token bad says = says_limit token says ∙ ap (settled store) (bad_named store name kind (Some token) bad)

  pub refused_kind : (token : List ℕ) → IsTrue (is_name name) → kind_named kind ≡ None → Says line (codes "make" ∷ name ∷ kind ∷ token ∷ []) → step store line ≡ (Err wrong_kind, store)
  refused_kind token good none says = says_limit token says ∙ ap (settled store) (limit_first store name kind (Some token) None good none)

  pub refused_word : (token : List ℕ) (empty : ℕ → ArrayValue) → IsTrue (is_name name) → kind_named kind ≡ Some empty → word_of token ≡ None →
      Says line (codes "make" ∷ name ∷ kind ∷ token ∷ []) → step store line ≡ (Err bad_word, store)
  refused_word token empty good is bad says = says_limit token says ∙ ap (settled store) (by_limit store name kind (Some token) empty (Err bad_word) good is (ap (λ word. ok_or word bad_word) bad))

  pub refused_zero : (token : List ℕ) (empty : ℕ → ArrayValue) → IsTrue (is_name name) → kind_named kind ≡ Some empty → word_of token ≡ Some 0 →
      Says line (codes "make" ∷ name ∷ kind ∷ token ∷ []) → step store line ≡ (Err bad_limit, store)
  refused_zero token empty good is zero says = says_limit token says ∙ ap (settled store) (by_limit store name kind (Some token) empty (Ok 0) good is (ap (λ word. ok_or word bad_word) zero))

  pub refused_limit : (token : List ℕ) (limit : ℕ) (empty : ℕ → ArrayValue) → IsTrue (is_name name) → kind_named kind ≡ Some empty → word_of token ≡ Some limit →
      IsFalse (nat_le limit 4294967295) → Says line (codes "make" ∷ name ∷ kind ∷ token ∷ []) → step store line ≡ (Err bad_limit, store)
  refused_limit token limit empty good is word over says =
      says_limit token says
      ∙ ap (settled store) (by_limit store name kind (Some token) empty (Ok limit) good is (ap (λ word. ok_or word bad_word) word)
      ∙ ap (λ fits. checked store name empty limit fits (is_none (array_named store name)) (nat_lt (length store) 64)) (ap (λ under. nat_lt 0 limit && under) over ∙ and_false (nat_lt 0 limit)))

  pub refused_known : (token : List ℕ) (limit : ℕ) (empty : ℕ → ArrayValue) (array : ArrayValue) → IsTrue (is_name name) → kind_named kind ≡ Some empty →
      word_of token ≡ Some limit → 0 < limit → limit ≤ 4294967295 → array_named store name ≡ Some array → Says line (codes "make" ∷ name ∷ kind ∷ token ∷ []) → step store line ≡ (Err exists, store)
  refused_known token limit empty array good is word some most here says =
      says_limit token says
      ∙ ap (settled store) (by_limit store name kind (Some token) empty (Ok limit) good is (ap (λ word. ok_or word bad_word) word) ∙
      tested-by store name empty limit (Some array) (nat_lt (length store) 64) some most here refl)

  pub refused_many : (token : List ℕ) (limit : ℕ) (empty : ℕ → ArrayValue) → IsTrue (is_name name) → kind_named kind ≡ Some empty → word_of token ≡ Some limit →
      0 < limit → limit ≤ 4294967295 → array_named store name ≡ None → length store ≡ 64 → Says line (codes "make" ∷ name ∷ kind ∷ token ∷ []) → step store line ≡ (Err too_many_arrays, store)
  refused_many token limit empty good is word some most new full says =
      says_limit token says
      ∙ ap (settled store) (by_limit store name kind (Some token) empty (Ok limit) good is (ap (λ word. ok_or word bad_word) word) ∙
      tested-by store name empty limit None false some most new (ap (λ count. nat_lt count 64) full))

  -- ---- without a limit

  says_none : Says line (codes "make" ∷ name ∷ kind ∷ []) → step store line ≡ settled store (made store name kind None)
  says_none = step-said store line (codes "make") command.make (name ∷ kind ∷ []) make_names

  abbrev greatest : (ℕ → ArrayValue) → Bool → Bool → Result (Outcome Store) Refusal
  greatest empty new room = checked store name empty 4294967295 true new room

  pub refused_name_alone : IsFalse (is_name name) → Says line (codes "make" ∷ name ∷ kind ∷ []) → step store line ≡ (Err bad_name, store)
  refused_name_alone bad says = says_none says ∙ ap (settled store) (bad_named store name kind None bad)

  pub refused_kind_alone : IsTrue (is_name name) → kind_named kind ≡ None → Says line (codes "make" ∷ name ∷ kind ∷ []) → step store line ≡ (Err wrong_kind, store)
  refused_kind_alone good none says = says_none says ∙ ap (settled store) (limit_first store name kind None None good none)

  pub refused_known_alone : (empty : ℕ → ArrayValue) (array : ArrayValue) → IsTrue (is_name name) → kind_named kind ≡ Some empty → array_named store name ≡ Some array →
      Says line (codes "make" ∷ name ∷ kind ∷ []) → step store line ≡ (Err exists, store)
  refused_known_alone empty array good is here says =
      says_none says
      ∙ ap (settled store) (by_limit store name kind None empty (Ok 4294967295) good is refl ∙ ap (λ found. greatest empty (is_none found) (nat_lt (length store) 64)) here)

  pub refused_many_alone : (empty : ℕ → ArrayValue) → IsTrue (is_name name) → kind_named kind ≡ Some empty → array_named store name ≡ None → length store ≡ 64 →
      Says line (codes "make" ∷ name ∷ kind ∷ []) → step store line ≡ (Err too_many_arrays, store)
  refused_many_alone empty good is new full says =
      says_none says
      ∙ ap (settled store) (by_limit store name kind None empty (Ok 4294967295) good is refl
      ∙ ap (λ found. greatest empty (is_none found) (nat_lt (length store) 64)) new
      ∙ ap (λ count. greatest empty true (nat_lt count 64)) full)
