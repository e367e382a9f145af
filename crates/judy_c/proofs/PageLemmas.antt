-- Pairs that are written to two buffers, one after another.
use Rattle.std.proofs.Common.{◌≡◌, ℕ, zero, suc, ◌+◌, ◌-◌, ◌<◌, ◌≤◌, true, false, nat_le, List, [], ◌∷◌, ◌++◌, length, take, drop, slice_set, refl, sym, ap, subst, ◌∙◌}
use Rattle.std.proofs.Common.{append_assoc, append-nil, length-append, arith}
use Rattle.std.proofs.lemmas.List.{take-append-drop, take_more_set, drop-set-lt, drop-drop, map-append, length-set}
use Rattle.std.proofs.lemmas.Grind.{flat_map-append}
use Rattle.std.proofs.lemmas.Bool.{leb-true}
use Rattle.judy_c.specs.KeyWalks.{Pairs, Page, page_of, fitting, bytes_of, told_of, IsWritten, IsFilled}

-- ---- the pairs that fit

pub fitting_none : (bytes count : ℕ) → fitting bytes count [] ≡ []
fitting_none bytes zero = refl
fitting_none bytes (suc count) = refl

pub fitting_long : (bytes count : ℕ) (pair : List ℕ × ℕ) (rest : Pairs) → nat_le (length pair.0) bytes ≡ false → fitting bytes count (pair ∷ rest) ≡ []
fitting_long bytes zero pair rest long = refl
fitting_long bytes (suc count) pair rest long = rw long refl

fitting_more : (bytes count : ℕ) (pair : List ℕ × ℕ) (rest : Pairs) → nat_le (length pair.0) bytes ≡ true → fitting bytes (suc count) (pair ∷ rest) ≡ pair ∷ fitting (bytes - length pair.0) count rest
fitting_more bytes count pair rest fits = rw fits refl

-- ---- the buffers on the way

-- So many bytes and entries are written, and what comes fits the rest of the buffers as all fits the buffers.
pub record IsSoFar (all : Pairs) (before : Page) (used count : ℕ) (rest : Pairs) (now : Page) : Type 0 where
  pub done : Pairs
  pub split : done ++ fitting (length before.bytes - used) (length before.entries - count) rest ≡ fitting (length before.bytes) (length before.entries) all
  pub counted : count ≡ length done
  pub measured : used ≡ length (bytes_of done)
  pub within : used ≤ length before.bytes
  pub few : count ≤ length before.entries
  pub as_many_bytes : length now.bytes ≡ length before.bytes
  pub as_many_entries : length now.entries ≡ length before.entries
  pub bytes : take used now.bytes ≡ bytes_of done
  pub bytes_behind : drop used now.bytes ≡ drop used before.bytes
  pub entries : take count now.entries ≡ told_of done
  pub entries_behind : drop count now.entries ≡ drop count before.entries

minus_zero : (n : ℕ) → n - 0 ≡ n
minus_zero n = omega arith

-- at the beginning nothing is
pub so_far_none : (all : Pairs) (before : Page) → IsSoFar all before 0 0 all before
so_far_none all before = record {
  done = [];
  split = (λ t. fitting (minus_zero (length before.bytes) t) (minus_zero (length before.entries) t) all);
  counted = refl;
  measured = refl;
  within = omega arith;
  few = omega arith;
  as_many_bytes = refl;
  as_many_entries = refl;
  bytes = refl;
  bytes_behind = refl;
  entries = refl;
  entries_behind = refl;
}

-- where no more fits, those that fit are written
pub so_far_all : (all : Pairs) (before : Page) (used count : ℕ) (rest : Pairs) (now : Page) → IsSoFar all before used count rest now →
    fitting (length before.bytes - used) (length before.entries - count) rest ≡ [] → IsFilled all before count now
so_far_all all before used count rest now so ends =
    let is : so.done ≡ fitting (length before.bytes) (length before.entries) all = sym (append-nil so.done) ∙ ap (λ more. so.done ++ more) (sym ends) ∙ so.split in
    subst (λ (pairs : Pairs). IsWritten pairs before count now) is (
      so.counted,
      sym (take-append-drop used now.bytes) ∙ (λ t. so.bytes t ++ so.bytes_behind t) ∙ ap (λ n. bytes_of so.done ++ drop n before.bytes) so.measured,
      sym (take-append-drop count now.entries) ∙ (λ t. so.entries t ++ so.entries_behind t),
    )

-- where nothing comes, nothing is written
pub nothing_fits : (rest : Pairs) (before : Page) → rest ≡ [] → IsFilled rest before 0 before
nothing_fits rest before none =
    so_far_all rest before 0 0 rest before (so_far_none rest before) (ap (fitting (length before.bytes - 0) (length before.entries - 0)) none ∙
    fitting_none (length before.bytes - 0) (length before.entries - 0))

module _ (all : Pairs) (before : Page) (used count : ℕ) (pair : List ℕ × ℕ) (rest : Pairs) (now : Page) where
  -- a pair that fits is written
  pub so_far_more : IsSoFar all before used count (pair ∷ rest) now → nat_le (length pair.0) (length now.bytes - used) ≡ true → count < length now.entries →
      (after : List ℕ) → take (used + length pair.0) after ≡ take used now.bytes ++ pair.0
      → drop (used + length pair.0) after ≡ drop (used + length pair.0) now.bytes → length after ≡ length now.bytes
      → IsSoFar all before (used + length pair.0) (count + 1) rest (page_of after (slice_set now.entries count (record { length = length pair.0; value = pair.1 })))
  so_far_more so fits room after taken dropped same = record {
    done = so.done ++ pair ∷ [];
    split = append_assoc so.done (pair ∷ []) _ ∙ ap (λ more. so.done ++ more) (sym further) ∙ so.split;
    counted = (let long = length-append so.done (pair ∷ []) in let c = so.counted in omega (arith, long, c));
    measured = (let long = length-append (bytes_of so.done) pair.0 in let c = so.measured in let e : used + length pair.0 ≡ length (bytes_of so.done ++ pair.0) = omega (arith, long, c) in
        e ∙ ap length (sym its_bytes));
    within = (let a = so.as_many_bytes in let w = so.within in let less = leb-true (length pair.0) (length now.bytes - used) fits in omega (arith, a, w, less));
    few = (let a = so.as_many_entries in omega (arith, a, room));
    as_many_bytes = same ∙ so.as_many_bytes;
    as_many_entries = length-set now.entries count _ ∙ so.as_many_entries;
    bytes = taken ∙ ap (λ front. front ++ pair.0) so.bytes ∙ sym its_bytes;
    bytes_behind = dropped ∙ behind now.bytes before.bytes used (length pair.0) so.bytes_behind;
    entries = take_more_set now.entries count _ room ∙ ap (λ front. front ++ record { length = length pair.0; value = pair.1 } ∷ []) so.entries ∙ sym (map-append _ so.done (pair ∷ []));
    entries_behind = drop-set-lt (count + 1) now.entries count _ (omega arith) ∙ behind now.entries before.entries count 1 so.entries_behind;
  }
    where
      its_bytes : bytes_of (so.done ++ pair ∷ []) ≡ bytes_of so.done ++ pair.0
      its_bytes = flat_map-append (λ pair. pair.0) so.done (pair ∷ []) ∙ ap (λ t. bytes_of so.done ++ t) (append-nil pair.0)

      behind : {A : Type 0} (xs ys : List A) (n more : ℕ) → drop n xs ≡ drop n ys → drop (n + more) xs ≡ drop (n + more) ys
      behind xs ys n more same = sym (drop-drop more n xs) ∙ ap (drop more) same ∙ drop-drop more n ys

      further : fitting (length before.bytes - used) (length before.entries - count) (pair ∷ rest) ≡
          pair ∷ fitting (length before.bytes - (used + length pair.0)) (length before.entries - (count + 1)) rest
      further =
          let few = so.few in let same = so.as_many_entries in
          let one : length before.entries - count ≡ suc (length before.entries - (count + 1)) = omega (arith, same, room) in
          let less_room : (length before.bytes - used) - length pair.0 ≡ length before.bytes - (used + length pair.0) = omega arith in
          ap (λ n. fitting (length before.bytes - used) n (pair ∷ rest)) one
          ∙ fitting_more (length before.bytes - used) (length before.entries - (count + 1)) pair rest (ap (λ n. nat_le (length pair.0) (n - used)) (sym so.as_many_bytes) ∙ fits)
          ∙ ap (λ b. pair ∷ fitting b (length before.entries - (count + 1)) rest) less_room
