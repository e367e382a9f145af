-- Keys behind a shared front as they are read, into a room of their own.
use Rattle.std.proofs.Common.{◌≡◌, ℕ, ◌+◌, ◌-◌, ◌≤◌, List, [], ◌∷◌, ◌++◌, length, take, drop, nat_le, sym, ap, ◌∙◌, append_assoc, arith}
use Rattle.std.proofs.lemmas.List.{take_at, drop_at, length-append, length-drop, length-take-le}
use borrow.Rule.Slice.PartMut.{put_mid}
use Rattle.judy_model.specs.Fields.{bad_key, bad_prefix, Parser, bytes, number, field, ◌>>=◌, done}
use Rattle.judy_model.specs.DumpGrammar as grammar
use Rattle.judy_model.specs.DumpGrammar.{is_without_zero, is_longest_shared}
use Rattle.judy_model.specs.declared.keys.TheConstants.{LONGEST_KEY}
use Rattle.judy_shelf.specs.Reads.{Drawn, Cause, Nowhere, ReadsValue, ReadsFault}
use Rattle.judy_shelf.proofs.ReadLemmas.{fault_first, fault_then, value_then, value_done}

module _ (before : List ℕ) where
  abbrev shared_field : Parser ℕ
  shared_field = field (number 2) (((λ shared. nat_le shared (length before)), bad_prefix) ∷ [])

  abbrev rest_field : ℕ → Parser ℕ
  rest_field shared = field (number 2) (((λ rest. nat_le (shared + rest) LONGEST_KEY), bad_key) ∷ [])

  abbrev pub suffix_field : ℕ → ℕ → Parser (List ℕ)
  suffix_field shared rest = field (bytes rest) ((is_without_zero, bad_key) ∷ (is_longest_shared before shared, bad_prefix) ∷ [])

  abbrev made_of : ℕ → List ℕ → Parser (List ℕ)
  made_of shared suffix = done (take shared before ++ suffix)

  abbrev behind_rest : ℕ → ℕ → Parser (List ℕ)
  behind_rest shared rest = suffix_field shared rest >>= made_of shared

  abbrev behind_shared : ℕ → Parser (List ℕ)
  behind_shared shared = rest_field shared >>= behind_rest shared

  module _ (shared : ℕ) (was one : Drawn) (first : ReadsValue shared_field shared was one) where
    -- How long the rest is couldn't be read.
    pub rest_stopped : (cause : Cause) (two : Drawn) → ReadsFault Nowhere (rest_field shared) cause one two → ReadsFault Nowhere (grammar.string_behind_front before) cause was two
    rest_stopped cause two next = fault_then shared_field behind_shared shared was one first cause two (fault_first (rest_field shared) (behind_rest shared) cause one two next)

    module _ (rest : ℕ) (two : Drawn) (second : ReadsValue (rest_field shared) rest one two) (three : Drawn) where
      -- The rest couldn't be read.
      pub suffix_stopped : (cause : Cause) → ReadsFault Nowhere (suffix_field shared rest) cause two three → ReadsFault Nowhere (grammar.string_behind_front before) cause was three
      suffix_stopped cause next =
          fault_then shared_field behind_shared shared was one first cause three (fault_then (rest_field shared) (behind_rest shared) rest one two second cause three
          (fault_first (suffix_field shared rest) (made_of shared) cause two three next))

      -- The front and the rest are the key.
      pub front_and_suffix : (suffix : List ℕ) → ReadsValue (suffix_field shared rest) suffix two three → ReadsValue (grammar.string_behind_front before) (take shared before ++ suffix) was three
      front_and_suffix suffix next =
          let key = take shared before ++ suffix in
          value_then shared_field behind_shared shared was one first key three (value_then (rest_field shared) (behind_rest shared) rest one two second key three
          (value_then (suffix_field shared rest) (made_of shared) suffix two three next key three (value_done key three)))

-- ---- the room of a key

module _ (shared rest : ℕ) (before room front : List ℕ) (is : front ≡ take shared before) (inside : shared ≤ length before) where
  front_long : length front ≡ shared
  front_long = ap length is ∙ length-take-le shared before inside

  -- Behind the front there is room for the rest.
  pub room_of_rest : shared + rest ≤ length room → length (take (shared + rest - shared) (drop shared (front ++ drop shared room))) ≡ rest
  room_of_rest fits =
      let behind : drop shared (front ++ drop shared room) ≡ drop shared room = drop_at front (drop shared room) shared front_long in
      let left = length-drop shared room in
      let few : shared + rest - shared ≡ rest = omega arith in
      ap (λ n. length (take n (drop shared (front ++ drop shared room)))) few ∙ ap (λ r. length (take rest r)) behind ∙ length-take-le rest (drop shared room) (omega arith)

  -- The front and the rest in the room are the key.
  pub key_in_room : (suffix : List ℕ) → length suffix ≡ rest → take (shared + rest) (put_mid shared (shared + rest - shared) (front ++ drop shared room) suffix) ≡ take shared before ++ suffix
  key_in_room suffix long =
      let filled = front ++ drop shared room in
      let after = drop (shared + rest - shared) (drop shared filled) in
      let both : length (front ++ suffix) ≡ shared + rest = length-append front suffix ∙ (λ t. front_long t + long t) in
      ap (λ f. take (shared + rest) (f ++ (suffix ++ after))) (take_at front (drop shared room) shared front_long)
      ∙ ap (take (shared + rest)) (sym (append_assoc front suffix after))
      ∙ take_at (front ++ suffix) after (shared + rest) both
      ∙ ap (λ f. f ++ suffix) is
