-- A part of a map by a test of its keys, as a key is taken out of the map.
use Rattle.std.proofs.Common.{◌≡◌, ◌≢◌, ℕ, ◌+◌, ◌-◌, Bool, true, false, cond, List, Option, None, is_some, refl, sym, ap, ◌∙◌, arith, true≢false, ◌⊎◌, inl, inr, ⊎_elim}
use Rattle.std.proofs.lemmas.Bool.Decides.{eqb_tells}
use Rattle.std.specs.Ordering.{eq_by_cmp}
use Rattle.std.specs.FinMap.{empty, contains_key, get, len, remove, retain_keys, same_map, get-empty, get-remove, len-remove, len-empty, empty_of_len}
use Rattle.judy_model.specs.Keys.{byte_order}
use Rattle.judy_model.proofs.lemmas.maps.TableLemmas.{byte_order_total, byte_order_same}
use Rattle.judy_model.proofs.lemmas.maps.TwoMapsLemmas.{get-kept}
use Rattle.judy_model.proofs.lemmas.orders.Orders.{same_from_tie}
use Rattle.judy_string_sets.specs.Walks.{Strings, IsTaken}

pub same_strings : (one other : Strings) → ((key : List ℕ) → get one key ≡ get other key) → one ≡ other
same_strings one other same = same_map byte_order_total byte_order_same one other same

pub get-part : (m : Strings) (p : List ℕ → Bool) (key : List ℕ) → get (retain_keys m p) key ≡ cond (p key) (get m key) None
get-part m p key = get-kept byte_order_total byte_order_same m p key

pub get-without : (m : Strings) (key at : List ℕ) → get (remove m key) at ≡ cond (eq_by_cmp byte_order at key) None (get m at)
get-without m key at = get-remove byte_order_total m key at

-- ---- one key taken out

passed_at : (b e : Bool) (held : Option ℕ) → (e ≡ true → b ≡ false) → cond b (cond e None held) None ≡ cond b held None
passed_at true true held out = absurd (true≢false (out refl))
passed_at true false held out = refl
passed_at false e held out = refl

swapped : (b e : Bool) (held : Option ℕ) → cond b (cond e None held) None ≡ cond e None (cond b held None)
swapped true e held = refl
swapped false true held = refl
swapped false false held = refl

-- A key that isn't of the part.
pub part-passed : (m : Strings) (p : List ℕ → Bool) (key : List ℕ) → p key ≡ false → retain_keys (remove m key) p ≡ retain_keys m p
part-passed m p key out = same_strings _ _ (λ at.
    get-part (remove m key) p at
    ∙ ap (λ (o : Option ℕ). cond (p at) o None) (get-without m key at)
    ∙ passed_at (p at) (eq_by_cmp byte_order at key) (get m at) (λ tied. ap p (same_from_tie byte_order_same at key tied) ∙ out)
    ∙ sym (get-part m p at))

-- Any key.
pub part-remove : (m : Strings) (p : List ℕ → Bool) (key : List ℕ) → retain_keys (remove m key) p ≡ remove (retain_keys m p) key
part-remove m p key = same_strings _ _ (λ at.
    get-part (remove m key) p at
    ∙ ap (λ (o : Option ℕ). cond (p at) o None) (get-without m key at)
    ∙ swapped (p at) (eq_by_cmp byte_order at key) (get m at)
    ∙ sym (get-without (retain_keys m p) key at ∙ ap (cond (eq_by_cmp byte_order at key) None) (get-part m p at)))

pub zero_or : (n : ℕ) → (n ≡ 0) ⊎ (n ≢ 0)
zero_or n = ⊎_elim (λ h. inl h.1) (λ h. inr h.1) (eqb_tells n 0)

module _ (m : Strings) (key : List ℕ) (value : ℕ) (after : Strings) (taken : IsTaken m key value after) where
  pub taken_passed : (p : List ℕ → Bool) → p key ≡ false → retain_keys after p ≡ retain_keys m p
  taken_passed p out = ap (λ (w : Strings). retain_keys w p) taken.left ∙ part-passed m p key out

  pub taken_part : (p : List ℕ → Bool) → p key ≡ true → IsTaken (retain_keys m p) key value (retain_keys after p)
  taken_part p in_it = record {
    held = get-part m p key ∙ ap (λ b. cond b (get m key) None) in_it ∙ taken.held;
    left = ap (λ (w : Strings). retain_keys w p) taken.left ∙ part-remove m p key;
  }

  -- One fewer is left.
  pub taken_fewer : len after + 1 ≡ len m
  taken_fewer =
      let here : contains_key m key ≡ true = ap is_some taken.held in
      let long = ap len taken.left ∙ len-remove byte_order_total m key ∙ ap (λ b. cond b (len m - 1) (len m)) here in
      ⊎_elim
      (λ (none : len m ≡ 0). absurd (true≢false (sym here ∙ ap is_some (ap (λ (w : Strings). get w key) (empty_of_len m none) ∙ get-empty byte_order key))))
      (λ (some : len m ≢ 0). omega (arith, some, long))
      (zero_or (len m))

pub none_len : (m : Strings) → m ≡ empty → len m ≡ 0
none_len m none = ap len none ∙ len-empty byte_order ℕ
