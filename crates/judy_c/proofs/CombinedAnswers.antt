-- An array that is handed to a handle is what was wanted.
use Rattle.std.proofs.Common.{◌≡◌, ℕ, zero, suc, ◌<◌, ◌≤◌, Option, Some, Result, Ok, Err, ap, ◌∙◌, subst, arith}
use Rattle.std.specs.Prelude.{unwrap_or}
use Rattle.std.specs.FinMap.{FinMap, len}
use Rattle.judy_model.specs.Keys.{word_order}
use Rattle.judy_model.specs.Arrays.{ArrayOf, with_map}
use Rattle.judy_word.specs.WordArrays.{WordArray, array_of}
use Rattle.judy_word.specs.declared.error.InsertError.{InsertError}
use Rattle.judy_word.specs.declared.error.InsertError.TheVariants.{Full, NoMemory}
use Rattle.judy_sets.specs.Fills as sets
use Rattle.judy_c.specs.Combined.{CombinedKind, combined_words, IsMade, IsRefused, IsCombined, IsTaken, IsCopied, IsChanged}
use Rattle.judy_c.specs.Maps as maps
use Rattle.judy_c.specs.Sorted.{most_keys}

-- What judy_sets makes of arrays of words is made so.
pub made_of_words : (wanted : FinMap word_order ℕ) (made : Result WordArray InsertError) → sets.IsMade most_keys wanted made → IsMade combined_words wanted made
made_of_words wanted (Ok array) is = record { map = is.map; limit = is.limit; within = is.within }
made_of_words wanted (Err Full) is = is
made_of_words wanted (Err NoMemory) is = is

module _ {Array : Type 0} (kind : CombinedKind Array) (none : Array) where
  pub combined : (wanted : FinMap kind.order ℕ) (made : Result Array InsertError) (held : Option Array) (same : Type 0) (answer : ℕ)
      → IsMade kind wanted made → IsTaken made held same answer → IsCombined kind.most wanted (kind.array (unwrap_or held none)) same answer
  combined wanted made held same zero is taken = taken
  combined wanted (Ok array) held same (suc zero) is taken =
      (ap (λ (o : Option Array). (kind.array (unwrap_or o none)).map) taken ∙ is.map, ap (λ (o : Option Array). (kind.array (unwrap_or o none)).limit) taken ∙ is.limit)
  combined wanted (Err error) held same (suc zero) is taken = absurd taken
  combined wanted (Ok array) held same (suc (suc zero)) is taken = (is.within, taken)
  combined wanted (Err error) held same (suc (suc zero)) is taken = (subst (IsRefused kind.most wanted) taken.0 is, taken.1)
  combined wanted (Ok array) held same (suc (suc (suc zero))) is taken = absurd taken
  combined wanted (Err error) held same (suc (suc (suc zero))) is taken = (subst (IsRefused kind.most wanted) taken.0 is, taken.1)
  combined wanted made held same (suc (suc (suc (suc n)))) is taken = taken

-- Where the keys are sure to be few enough, only memory may be wanting.
pub copied : (wanted : FinMap word_order ℕ) (after : ArrayOf word_order) (same : Type 0) (answer : ℕ) → len wanted ≤ most_keys → IsCombined most_keys wanted after same answer →
    IsCopied wanted after same answer
copied wanted after same zero few is = is
copied wanted after same (suc zero) few is = is
copied wanted after same (suc (suc zero)) few is = is.1
copied wanted after same (suc (suc (suc zero))) few is = absurd (let more = is.0 in omega (arith, more, few))
copied wanted after same (suc (suc (suc (suc n)))) few is = is

-- The set that a null handle gets by a change of the empty one, which holds no more keys than it may.
pub first_changed : (before : ArrayOf word_order) (wanted : FinMap word_order ℕ) (made : WordArray) (held : Option WordArray) (same : Type 0) (answer : ℕ)
    → array_of made ≡ with_map before wanted → len made.map ≤ made.limit → IsTaken (Ok made) held same answer → IsChanged before wanted (array_of (maps.array_of held)) same answer
first_changed before wanted made held same zero is few taken = taken
first_changed before wanted made held same (suc zero) is few taken = ap (λ (o : Option WordArray). array_of (maps.array_of o)) taken ∙ is
first_changed before wanted made held same (suc (suc zero)) is few taken =
    let keys = ap (λ (a : ArrayOf word_order). len a.map) is in
    let limit = ap (λ (a : ArrayOf word_order). a.limit) is in
    (omega (arith, keys, limit, few), taken)
first_changed before wanted made held same (suc (suc (suc zero))) is few taken = absurd taken
first_changed before wanted made held same (suc (suc (suc (suc n)))) is few taken = taken
