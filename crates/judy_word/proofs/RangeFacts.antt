-- What an array keeps where keys of a range are taken out of its tree.
use Rattle.std.proofs.Common.{◌≡◌, ◌≢◌, ℕ, ◌+◌, ◌-◌, ◌≤◌, ◌^◌, Bool, true, false, not, ◌&&◌, ◌||◌, cond, [], ◌∷◌, None, is_some, refl, sym, ap, ◌∙◌, ⊎_elim, arith}
use Rattle.std.specs.Ordering.{is_le}
use Rattle.std.specs.Cmp.{nat_cmp_total}
use Rattle.std.specs.FinMap.{FinMap, get, contains_key, len, same_map, get-retain_keys, nat_cmp-IsAntisymmetric}
use Rattle.judy_model.specs.Keys.{word_order}
use Rattle.judy_model.specs.Ranges.{outside}
use Rattle.judy_node.specs.Trees.{Pairs, Tree, IsNode}
use Rattle.judy_change.specs.declared.around.Cleared.{Cleared}
use Rattle.judy_change.specs.Removals.{value_in}
use Rattle.judy_change.specs.Around.{is_around, beyond, IsCleared}
use Rattle.judy_change.proofs.Without.{value-same, value-apart}
use Rattle.judy_change.proofs.AroundFacts.{same_order}
use Rattle.judy_query.specs.Maps.{map_of}
use Rattle.judy_query.proofs.Links.{len_is}
use Rattle.judy_word.specs.Held.{IsBounded}
use Rattle.judy_word.proofs.MapFacts.{same_or, get-value}
use Rattle.judy_word.proofs.RemovalFacts.{neither}

abbrev in_range : ℕ → ℕ → ℕ → Bool
in_range from to key = is_le (word_order from key) && is_le (word_order key to)

get-outside : (from to : ℕ) (map : FinMap word_order ℕ) (key : ℕ) → get (outside map from to) key ≡ cond (not (in_range from to key)) (get map key) None
unfolding outside
get-outside from to map key =
    get-retain_keys map (λ k. not (in_range from to k)) key (λ other tied. ap (λ k. not (in_range from to k)) (sym (nat_cmp-IsAntisymmetric key other tied)))

-- The keys around a key of a range, as far as the ends, are those of the range.
around-range : (key from to other : ℕ) → from ≤ key → key ≤ to → is_around key (key - from) (to - key) other ≡ in_range from to other
around-range key from to other low high =
    let below = same_order key (other + (key - from)) from other (λ h. omega (arith, h, low)) (λ h. omega (arith, h, low)) in
    let top : key + (to - key) ≡ to = omega (arith, high) in
    λ t. below t && is_le (word_order other (top t))

-- Other keys keep their values.
value-beyond : (key before after other : ℕ) (pairs : Pairs) → is_around key before after other ≡ false → value_in (beyond key before after pairs) other ≡ value_in pairs other
value-beyond key before after other [] out = refl
value-beyond key before after other (pair ∷ pairs) out =
    let rest = value-beyond key before after other pairs out in
    ⊎_elim
    (λ (same : pair.0 ≡ other).
    ap (λ b. value_in (cond b (beyond key before after pairs) (pair ∷ beyond key before after pairs)) other) (ap (is_around key before after) same ∙ out)
    ∙ value-same pair (beyond key before after pairs) other same ∙ sym (value-same pair pairs other same))
    (λ (apart : pair.0 ≢ other).
    (elim (is_around key before after pair.0) as (λ b. value_in (cond b (beyond key before after pairs) (pair ∷ beyond key before after pairs)) other ≡ value_in pairs other) [
      | true ↦ rest
      | false ↦ value-apart pair (beyond key before after pairs) other apart ∙ rest
    ]) ∙ sym (value-apart pair pairs other apart))
    (same_or pair.0 other)

module _ (words key from to : ℕ) (low : from ≤ key) (high : key ≤ to) (old new : Tree) (cleared : Cleared) (was : IsNode words old) (now : IsNode words new)
    (is : IsCleared key (key - from) (to - key) old new cleared) where
  -- The others of the map stay.
  pub outside-cleared : outside (map_of new.pairs) from to ≡ outside (map_of old.pairs) from to
  outside-cleared = same_map nat_cmp_total nat_cmp-IsAntisymmetric _ _ (λ other.
      get-outside from to (map_of new.pairs) other
      ∙ (elim (in_range from to other) as (λ b. in_range from to other ≡ b → cond (not b) (get (map_of new.pairs) other) None ≡ cond (not b) (get (map_of old.pairs) other) None) [
        | true ↦ λ _. refl
        | false ↦ λ out.
            let apart = around-range key from to other low high ∙ out in
            get-value words (256 ^ 8) new.pairs now.map other ∙ sym (value-beyond key (key - from) (to - key) other new.pairs apart)
            ∙ ap (λ ps. value_in ps other) is.stay
            ∙ value-beyond key (key - from) (to - key) other old.pairs apart ∙ sym (get-value words (256 ^ 8) old.pairs was.map other)
      ] refl)
      ∙ sym (get-outside from to (map_of old.pairs) other))

  pub len-cleared : len (map_of new.pairs) + cleared.count ≡ len (map_of old.pairs)
  len-cleared =
      let before = len_is words (256 ^ 8) old.pairs was.map in
      let after = len_is words (256 ^ 8) new.pairs now.map in
      let counted = is.counted in
      omega (arith, before, after, counted)

  pub some-cleared : cleared.count ≡ 0 → contains_key (map_of old.pairs) key ≡ false
  some-cleared none = ap is_some (get-value words (256 ^ 8) old.pairs was.map key ∙ is.some none)

-- The array holds no more than before, and is tight where it was and the nodes shrank.
pub bounded-cleared : (limit key before after : ℕ) (old new : Tree) (cleared : Cleared) (loose : Bool) → IsCleared key before after old new cleared → IsBounded limit old loose →
    IsBounded limit new (loose || not cleared.shrunk)
bounded-cleared limit key before after old new cleared loose is bounded =
    let counted = is.counted in
    let most = bounded.within_limit in
    record {
      holds_some = bounded.holds_some;
      within_limit = omega (arith, counted, most);
      tight = λ e. is.tight (bounded.tight (neither loose cleared.shrunk e).0) (neither loose cleared.shrunk e).1;
    }
