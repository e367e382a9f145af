-- Results of which something holds where they aren't refusals.
use Rattle.std.proofs.Common.{◌≡◌, ℕ, List, Bool, true, false, cond, Option, Some, None, Result, Ok, Err, refl, IsTrue, IfOk, IfSome}
use Rattle.std.specs.Prelude.{ok_or, ⊤}
use Rattle.judy_model.specs.Keys.{IsWord, IsStringKey, IsBytesKey}
use Rattle.judy_model.specs.Arrays.{ArrayValue}
use Rattle.judy_model.specs.Tokens.{word_of}
use Rattle.judy_model.specs.KeyTokens.{string_key_of, bytes_key_of}
use Rattle.judy_model.specs.Stores.{Store, array_named}
use Rattle.judy_model.specs.Replies.{Refusal, bad_word, bad_key, no_such_array}
use Rattle.judy_model.specs.Commands.{◌>>=◌, provided, name_at, word_at, string_key_at, bytes_key_at, array_at}
use Rattle.judy_model.proofs.lemmas.commands.WordLemmas.{word_of-IsWord}
use Rattle.judy_model.proofs.lemmas.commands.KeyTokenLemmas.{string_key_of-IsStringKey, bytes_key_of-IsBytesKey}

module _ {A : Type 0} (P : A → Type 0) where
  -- a choice
  pub chosen : (b : Bool) (x y : Result A Refusal) → (b ≡ true → IfOk x P) → (b ≡ false → IfOk y P) → IfOk (cond b x y) P
  chosen true x y h k = h refl
  chosen false x y h k = k refl

  -- a value that is there
  pub found : (o : Option A) (refusal : Refusal) → IfSome o P → IfOk (ok_or o refusal) P
  found None refusal h = tt
  found (Some value) refusal h = h

-- the rest, where the first gives a value
pub followed : {A B : Type 0} (P : A → Type 0) (Q : B → Type 0) (first : Result A Refusal) (rest : A → Result B Refusal) → IfOk first P →
    ((value : A) → P value → IfOk (rest value) Q) → IfOk (first >>= rest) Q
followed P Q (Ok value) rest h k = k value h
followed P Q (Err refusal) rest h k = tt

-- a check that holds
pub checked : (holds : Bool) (refusal : Refusal) → IfOk (provided holds refusal) (λ _. IsTrue holds)
checked true refusal = refl
checked false refusal = tt

-- a result of which nothing is said
pub anything : {A : Type 0} (result : Result A Refusal) → IfOk result (λ _. ⊤)
anything (Ok value) = tt
anything (Err refusal) = tt

-- a value that is there is the one that is there
pub there : {A : Type 0} (o : Option A) → IfSome o (λ value. o ≡ Some value)
there None = tt
there (Some value) = refl

-- what a token says is a key of the kind
pub word_at-IsWord : (token : List ℕ) → IfOk (word_at token) IsWord
word_at-IsWord token = found IsWord (word_of token) bad_word (word_of-IsWord token)

pub string_key_at-IsStringKey : (token : List ℕ) → IfOk (string_key_at token) IsStringKey
string_key_at-IsStringKey token = found IsStringKey (string_key_of token) bad_key (string_key_of-IsStringKey token)

pub bytes_key_at-IsBytesKey : (token : List ℕ) → IfOk (bytes_key_at token) IsBytesKey
bytes_key_at-IsBytesKey token = found IsBytesKey (bytes_key_of token) bad_key (bytes_key_of-IsBytesKey token)

-- the rest of the checks, by the word that a token says
pub by_word : {A : Type 0} (Q : A → Type 0) (token : List ℕ) (rest : ℕ → Result A Refusal) → ((word : ℕ) → IsWord word → IfOk (rest word) Q) → IfOk (word_at token >>= rest) Q
by_word Q token rest each = followed IsWord Q (word_at token) rest (word_at-IsWord token) each

-- the rest of the checks, by the array of the name that a token says
pub by_name : {A : Type 0} (Q : A → Type 0) (store : Store) (token : List ℕ) (rest : List ℕ → ArrayValue → Result A Refusal) →
    ((name : List ℕ) (array : ArrayValue) → array_named store name ≡ Some array → IfOk (rest name array) Q) → IfOk (name_at token >>= (λ name. array_at store name >>= rest name)) Q
by_name Q store token rest each =
    followed (λ _. ⊤) Q (name_at token) _ (anything (name_at token)) (λ name _.
    followed (λ array. array_named store name ≡ Some array) Q (array_at store name) _ (found (λ array. array_named store name ≡ Some array) (array_named store name) no_such_array
    (there (array_named store name))) (each name))
