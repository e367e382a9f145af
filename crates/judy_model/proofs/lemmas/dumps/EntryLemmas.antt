-- Entries in the order of their keys: what is read of them is spelled so, and what is spelled so is read.
use Rattle.std.proofs.Common.{◌≡◌, ℕ, zero, suc, T, IsTrue, IfSome, List, [], ◌∷◌, ◌++◌, length, Option, Some, None, Ok, refl, sym, ap, subst, ◌∙◌, append_assoc, arith, All, Less}
use Rattle.std.specs.declared.cmp.Ordering.{Ordering}
use Rattle.std.specs.Ordering.{is_lt}
use Rattle.std.specs.List.{flat_map}
use Rattle.std.specs.Cmp.{IsTotalOrder}
use Rattle.std.specs.FinMap.{is_sorted}
use Rattle.std.specs.FinMap.Entries.{below_all}
use Rattle.std.proofs.lemmas.List.Elements.{All-nil, All-cons, All-head, All-tail}
use Rattle.judy_model.specs.Keys.{IsByteString}
use Rattle.judy_model.specs.Fields.{bad_order, Parser, ◌>>=◌, done, field}
use Rattle.judy_model.specs.DumpGrammar.{is_above, entry, entries}
use Rattle.judy_model.proofs.lemmas.dumps.FieldLemmas.{IsSpelled, followed_ok, done_ok, field-IsSpelled}
use Rattle.judy_model.proofs.lemmas.maps.Tests.{both, left_of, right_of, is_Less, test_holds, holds_test}

-- ---- keys that ascend

module _ {K : Type 0} (order : K → K → Ordering) where
  -- Each key is greater than the one before.
  abbrev pub Ascends : Option K → List (K × ℕ) → Type 0
  Ascends before [] = Unit {0}
  Ascends before (pair ∷ pairs) = IsTrue (is_above order before pair.0) × Ascends (Some pair.0) pairs

  module _ (total : IsTotalOrder order) where
    below_all-less : (x y : K) (pairs : List (K × ℕ)) → order x y ≡ Less → T (below_all order y pairs) → T (below_all order x pairs)
    below_all-less x y [] less below = tt
    below_all-less x y (pair ∷ pairs) less below =
        both _ _ (subst (λ r. T (is_lt r)) (sym (total.trans x y pair.0 less (is_Less _ (left_of _ _ below)))) tt) (below_all-less x y pairs less (right_of _ _ below))

    below-Ascends : (key : K) (pairs : List (K × ℕ)) → Ascends (Some key) pairs → T (below_all order key pairs)
    below-Ascends key [] ascends = tt
    below-Ascends key (pair ∷ pairs) ascends =
        let here = test_holds (is_lt (order key pair.0)) ascends.0 in
        both _ _ here (below_all-less key pair.0 pairs (is_Less _ here) (below-Ascends pair.0 pairs ascends.1))

    pub sorted-Ascends : (before : Option K) (pairs : List (K × ℕ)) → Ascends before pairs → T (is_sorted order pairs)
    sorted-Ascends before [] ascends = tt
    sorted-Ascends before (pair ∷ pairs) ascends = both _ _ (below-Ascends pair.0 pairs ascends.1) (sorted-Ascends (Some pair.0) pairs ascends.1)

  Ascends-above : (key : K) (pairs : List (K × ℕ)) → T (below_all order key pairs) → T (is_sorted order pairs) → Ascends (Some key) pairs
  Ascends-above key [] below sorted = tt
  Ascends-above key (pair ∷ pairs) below sorted =
      (holds_test _ (left_of _ _ below), Ascends-above pair.0 pairs (left_of _ _ sorted) (right_of _ _ sorted))

  pub Ascends-sorted : (pairs : List (K × ℕ)) → T (is_sorted order pairs) → Ascends None pairs
  Ascends-sorted [] sorted = tt
  Ascends-sorted (pair ∷ pairs) sorted = (refl, Ascends-above pair.0 pairs (left_of _ _ sorted) (right_of _ _ sorted))

-- ---- entries

module _ {K : Type 0} (key_text : Option K → K → List ℕ) (value_text : ℕ → List ℕ) where
  -- Entries, each by the key before it, if there is one.
  abbrev pub entries_text : Option K → List (K × ℕ) → List ℕ
  entries_text before [] = []
  entries_text before (pair ∷ pairs) = (key_text before pair.0 ++ value_text pair.1) ++ entries_text (Some pair.0) pairs

-- Where no key is told by the one before, they are written one after another.
pub entries_text-alike : {K : Type 0} (key_text : K → List ℕ) (value_text : ℕ → List ℕ) (before : Option K) (pairs : List (K × ℕ)) →
    flat_map (λ pair. key_text pair.0 ++ value_text pair.1) pairs ≡ entries_text (λ before. key_text) value_text before pairs
entries_text-alike key_text value_text before [] = refl
entries_text-alike key_text value_text before (pair ∷ pairs) = ap (λ t. (key_text pair.0 ++ value_text pair.1) ++ t) (entries_text-alike key_text value_text (Some pair.0) pairs)

module _ {K : Type 0} (IsKey : K → Type 0) (IsValue : ℕ → Type 0) where
  abbrev pub IsEntry : K × ℕ → Type 0
  IsEntry pair = IsKey pair.0 × IsValue pair.1

module _ {K : Type 0} (order : K → K → Ordering) (IsKey : K → Type 0) (IsValue : ℕ → Type 0) (key_text : Option K → K → List ℕ) (value_text : ℕ → List ℕ)
    (key : Option K → Parser K) (value : Parser ℕ) where
  abbrev Fits : K × ℕ → Type 0
  Fits = IsEntry IsKey IsValue

  abbrev entry_text : Option K → K × ℕ → List ℕ
  entry_text before pair = key_text before pair.0 ++ value_text pair.1

  abbrev texts : Option K → List (K × ℕ) → List ℕ
  texts = entries_text key_text value_text

  module _ (keys : (before : Option K) → IfSome before IsKey → IsSpelled IsKey (key_text before) (key before)) (values : IsSpelled IsValue value_text value) where
    entry-IsSpelled : (before : Option K) → IfSome before IsKey → IsSpelled (λ pair. IsTrue (is_above order before pair.0) × Fits pair) (entry_text before) (entry order key value before)
    entry-IsSpelled before was =
        let first = field-IsSpelled IsKey (key_text before) (key before) ((is_above order before, bad_order) ∷ []) (keys before was) in
        record {
          again = λ pair rest fits.
              let one = first.again pair.0 (value_text pair.1 ++ rest) (fits.1.0, (fits.0, tt)) in
              let two = values.again pair.1 rest fits.1.1 in
              ap (entry order key value before) (append_assoc (key_text before pair.0) (value_text pair.1) rest) ∙ rw (one, two) refl;
          back = λ input pair rest are is.
              let f = followed_ok (field (key before) ((is_above order before, bad_order) ∷ []) input) (λ first. value >>= λ held. done (first, held)) (pair, rest) is in
              let g = followed_ok (value f.0.1) (λ held. done (f.0.0, held)) (pair, rest) f.2 in
              let b = first.back input f.0.0 f.0.1 are f.1 in
              let c = values.back f.0.1 g.0.0 g.0.1 b.2 g.1 in
              let d = done_ok (f.0.0, g.0.0) g.0.1 pair rest g.2 in
              let made : K × ℕ = (f.0.0, g.0.0) in
              subst (λ (p : K × ℕ). (input ≡ entry_text before p ++ rest) × (IsTrue (is_above order before p.0) × Fits p) × IsByteString rest) d.0 (
                b.0 ∙ ap (λ t. key_text before f.0.0 ++ t) (c.0 ∙ ap (λ t. value_text g.0.0 ++ t) d.1) ∙ sym (append_assoc (key_text before f.0.0) (value_text g.0.0) rest),
                (b.1.1.0, (b.1.0, c.1)),
                subst IsByteString d.1 c.2,
              );
        }

    again-none : (before : Option K) (pairs : List (K × ℕ)) (rest : List ℕ) → (length pairs ≡ 0) × Ascends order before pairs × All Fits pairs →
        entries order key value before 0 (texts before pairs ++ rest) ≡ Ok (pairs, rest)
    again-none before [] rest fits = refl
    again-none before (pair ∷ pairs) rest fits = absurd (let l = fits.0 in omega arith)

    again-more : (count : ℕ) (before : Option K) → IfSome before IsKey
        → ((before : Option K) → IfSome before IsKey → IsSpelled (λ pairs. (length pairs ≡ count) × Ascends order before pairs × All Fits pairs) (texts before) (entries order key value before count))
        → (pairs : List (K × ℕ)) (rest : List ℕ) → (length pairs ≡ suc count) × Ascends order before pairs × All Fits pairs →
        entries order key value before (suc count) (texts before pairs ++ rest) ≡ Ok (pairs, rest)
    again-more count before was others [] rest fits = absurd (let l = fits.0 in omega arith)
    again-more count before was others (pair ∷ pairs) rest fits =
        let here = All-head Fits pair pairs fits.2 in
        let regrouped : texts before (pair ∷ pairs) ++ rest ≡ entry_text before pair ++ (texts (Some pair.0) pairs ++ rest) = append_assoc (entry_text before pair) (texts (Some pair.0) pairs) rest in
        let one = (entry-IsSpelled before was).again pair (texts (Some pair.0) pairs ++ rest) (fits.1.0, here) in
        let two = (others (Some pair.0) here.0).again pairs rest (let l = fits.0 in omega arith, fits.1.1, All-tail Fits pair pairs fits.2) in
        ap (entries order key value before (suc count)) regrouped ∙ rw (one, two) refl

    -- So many entries in order.
    pub entries-IsSpelled : (count : ℕ) (before : Option K) → IfSome before IsKey → IsSpelled (λ pairs. (length pairs ≡ count) × Ascends order before pairs × All Fits pairs)
        (texts before) (entries order key value before count)
    entries-IsSpelled zero before was = record {
      again = again-none before;
      back = λ input pairs rest are is.
          let d = done_ok [] input pairs rest is in
          subst (λ (ps : List (K × ℕ)). (input ≡ texts before ps ++ rest) × ((length ps ≡ 0) × Ascends order before ps × All Fits ps) × IsByteString rest) d.0
          (d.1, (refl, tt, All-nil Fits), subst IsByteString d.1 are);
    }
    entries-IsSpelled (suc count) before was = record {
      again = again-more count before was (entries-IsSpelled count);
      back = λ input pairs rest are is.
          let f = followed_ok (entry order key value before input) (λ first. entries order key value (Some first.0) count >>= λ others. done (first ∷ others)) (pairs, rest) is in
          let g = followed_ok (entries order key value (Some f.0.0.0) count f.0.1) (λ others. done (f.0.0 ∷ others)) (pairs, rest) f.2 in
          let b = (entry-IsSpelled before was).back input f.0.0 f.0.1 are f.1 in
          let c = (entries-IsSpelled count (Some f.0.0.0) b.1.1.0).back f.0.1 g.0.0 g.0.1 b.2 g.1 in
          let d = done_ok (f.0.0 ∷ g.0.0) g.0.1 pairs rest g.2 in
          subst (λ (ps : List (K × ℕ)). (input ≡ texts before ps ++ rest) × ((length ps ≡ suc count) × Ascends order before ps × All Fits ps) × IsByteString rest) d.0 (
            b.0 ∙ ap (λ t. entry_text before f.0.0 ++ t) (c.0 ∙ ap (λ t. texts (Some f.0.0.0) g.0.0 ++ t) d.1) ∙ sym (append_assoc (entry_text before f.0.0) (texts (Some f.0.0.0) g.0.0) rest),
            (ap suc c.1.0, (b.1.0, c.1.1), All-cons Fits f.0.0 g.0.0 b.1.1 c.1.2),
            subst IsByteString d.1 c.2,
          );
    }
