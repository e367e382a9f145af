-- Whether a key that was given a value was there, by the number of keys before and after.
use Rattle.std.proofs.Common.{◌≡◌, ℕ, ◌+◌, cond, List, Option, Some, None, is_some, refl, sym, ap, ◌∙◌, arith}
use Rattle.std.specs.FinMap.{get, insert, len, len-insert}
use Rattle.judy_model.specs.Keys.{byte_order}
use Rattle.judy_model.specs.Arrays.{ArrayOf, ins}
use Rattle.judy_model.proofs.lemmas.maps.TableLemmas.{byte_order_total}
use Rattle.judy_sl.specs.Lends.{with_value}

more_are_others : (before after : ℕ) → after ≡ before + 1 → after ≡ before → ⊥
more_are_others before after more same = omega arith

module _ (before : ArrayOf byte_order) (key : List ℕ) (value : ℕ) (after : ArrayOf byte_order) (wrote : after ≡ with_value before key value) where
  counted : (found : Option ℕ) → get before.map key ≡ found → len after.map ≡ cond (is_some found) (len before.map) (len before.map + 1)
  counted found is =
      ap (λ (a : ArrayOf byte_order). len a.map) wrote ∙ len-insert byte_order_total before.map key value ∙ ap (λ (f : Option ℕ). cond (is_some f) (len before.map) (len before.map + 1)) is

  held_of : (found : Option ℕ) → get before.map key ≡ found → len after.map ≡ len before.map → (was : ℕ) → Some was ≡ get (ins before.map key) key → Some was ≡ get before.map key
  held_of None is same was held = absurd (more_are_others (len before.map) (len after.map) (counted None is) same)
  held_of (Some old) is same was held = held ∙ ap (λ b. get (cond b before.map (insert before.map key 0)) key) (ap is_some is)

  absent_of : (found : Option ℕ) → get before.map key ≡ found → (len after.map ≡ len before.map → ⊥) → None ≡ get before.map key
  absent_of None is differs = sym is
  absent_of (Some old) is differs = absurd (differs (counted (Some old) is))

  -- as many keys as before: the key was there, with the value that its slot had
  pub held : len after.map ≡ len before.map → (was : ℕ) → Some was ≡ get (ins before.map key) key → Some was ≡ get before.map key
  held same was is = held_of (get before.map key) refl same was is

  -- another number: it was absent
  pub absent : (len after.map ≡ len before.map → ⊥) → None ≡ get before.map key
  absent differs = absent_of (get before.map key) refl differs
