-- Values that come or go before the keys.
use Rattle.std.proofs.Common.{◌≡◌, ℕ, zero, suc, ◌+◌, ◌<◌, ◌≤◌, List, [], ◌∷◌, ◌++◌, length, take, drop, set, refl, ap, sym, ◌∙◌, subst, arith}
use Rattle.std.specs.List.{insert, remove}
use Rattle.judy_block.specs.Contents.{Contents, with_gap, without_gap}
use Rattle.judy_leaf.specs.Packing.{keys_in, IsPacked}
use Rattle.judy_leaf.specs.Leaves.{words_for, AreKeysFrom}
use Rattle.judy_leaf.specs.ValueChanges.{IsValueChange}

-- A word put in.
pub put_is : (words : List ℕ) (at value : ℕ) → at ≤ length words → set (with_gap at 1 words) at value ≡ insert words at value
put_is words zero value inside = refl
put_is [] (suc at) value inside = let never : ⊥ = omega arith in absurd never
put_is (x ∷ words) (suc at) value inside = ap (λ rest. x ∷ rest) (put_is words at value (omega arith))

drop-insert : (words : List ℕ) (at count value : ℕ) → at ≤ count → count ≤ length words → drop (suc count) (insert words at value) ≡ drop count words
drop-insert words zero count value place inside = refl
drop-insert words (suc at) zero value place inside = let never : ⊥ = omega arith in absurd never
drop-insert [] (suc at) (suc count) value place inside = let never : ⊥ = omega arith in absurd never
drop-insert (x ∷ words) (suc at) (suc count) value place inside = drop-insert words at count value (omega arith) (omega arith)

take-insert : (words : List ℕ) (at count value : ℕ) → at ≤ count → count ≤ length words → take (suc count) (insert words at value) ≡ insert (take count words) at value
take-insert words zero count value place inside = refl
take-insert words (suc at) zero value place inside = let never : ⊥ = omega arith in absurd never
take-insert [] (suc at) (suc count) value place inside = let never : ⊥ = omega arith in absurd never
take-insert (x ∷ words) (suc at) (suc count) value place inside = ap (λ rest. x ∷ rest) (take-insert words at count value (omega arith) (omega arith))

pub length-insert : (words : List ℕ) (at value : ℕ) → at ≤ length words → length (insert words at value) ≡ suc (length words)
length-insert words zero value place = refl
length-insert [] (suc at) value place = let never : ⊥ = omega arith in absurd never
length-insert (x ∷ words) (suc at) value place = ap suc (length-insert words at value (omega arith))

-- A word taken out.
pub without_is : (words : List ℕ) (at : ℕ) → without_gap at 1 words ≡ remove words at
without_is words at = ap (λ n. take at words ++ drop n words) (let e : at + 1 ≡ suc at = omega arith in e)

drop-remove : (words : List ℕ) (at count : ℕ) → at ≤ count → count < length words → drop count (remove words at) ≡ drop (suc count) words
drop-remove [] at count place inside = let never : ⊥ = omega arith in absurd never
drop-remove (x ∷ words) zero count place inside = refl
drop-remove (x ∷ words) (suc at) zero place inside = let never : ⊥ = omega arith in absurd never
drop-remove (x ∷ words) (suc at) (suc count) place inside = drop-remove words at count (omega arith) (omega arith)

take-remove : (words : List ℕ) (at count : ℕ) → at ≤ count → count < length words → take count (remove words at) ≡ remove (take (suc count) words) at
take-remove [] at count place inside = let never : ⊥ = omega arith in absurd never
take-remove (x ∷ words) zero count place inside = refl
take-remove (x ∷ words) (suc at) zero place inside = let never : ⊥ = omega arith in absurd never
take-remove (x ∷ words) (suc at) (suc count) place inside = ap (λ rest. x ∷ rest) (take-remove words at count (omega arith) (omega arith))

pub length-remove : (words : List ℕ) (at : ℕ) → at < length words → suc (length (remove words at)) ≡ length words
length-remove [] at inside = let never : ⊥ = omega arith in absurd never
length-remove (x ∷ words) zero inside = refl
length-remove (x ∷ words) (suc at) inside = ap suc (length-remove words at (omega arith))

pub value_put : (count at value : ℕ) (before : Contents) (words : List ℕ) → at ≤ count → AreKeysFrom before.tag count count before → words ≡ set (with_gap at 1 before.words) at value
    → IsValueChange count count (count + 1) (λ values. insert values at value) before (record before { words = words })
value_put count at value before words place keys is =
    let exact = keys.exact in
    let new : words ≡ insert before.words at value = is ∙ put_is before.words at value (omega arith) in
    let one : count + 1 ≡ suc count = omega arith in
    let behind : drop (count + 1) words ≡ drop count before.words = (λ t. drop (one t) (new t)) ∙ drop-insert before.words at count value place (omega arith) in
    let long = length-insert before.words at value (omega arith) in
    record {
      capacity = refl;
      tag = refl;
      are = record {
        few = keys.few;
        exact = ap length new ∙ (let e : length (insert before.words at value) ≡ count + 1 + words_for before.tag count = omega arith in e);
        packed = subst (IsPacked before.tag count) (sym behind) keys.packed;
      };
      same = ap (keys_in before.tag count) behind;
      changed = (λ t. take (one t) (new t)) ∙ take-insert before.words at count value place (omega arith);
    }

pub value_taken : (fewer at : ℕ) (before : Contents) (words : List ℕ) → at ≤ fewer → AreKeysFrom before.tag fewer (fewer + 1) before → words ≡ without_gap at 1 before.words
    → IsValueChange fewer (fewer + 1) fewer (λ values. remove values at) before (record before { words = words })
value_taken fewer at before words place keys is =
    let exact = keys.exact in
    let new : words ≡ remove before.words at = is ∙ without_is before.words at in
    let one : suc fewer ≡ fewer + 1 = omega arith in
    let behind : drop fewer words ≡ drop (fewer + 1) before.words = ap (drop fewer) new ∙ drop-remove before.words at fewer place (omega arith) ∙ ap (λ n. drop n before.words) one in
    let long = length-remove before.words at (omega arith) in
    record {
      capacity = refl;
      tag = refl;
      are = record {
        few = keys.few;
        exact = ap length new ∙ (let e : length (remove before.words at) ≡ fewer + words_for before.tag fewer = omega arith in e);
        packed = subst (IsPacked before.tag fewer) (sym behind) keys.packed;
      };
      same = ap (keys_in before.tag fewer) behind;
      changed = ap (take fewer) new ∙ take-remove before.words at fewer place (omega arith) ∙ ap (λ n. remove (take n before.words) at) one;
    }
