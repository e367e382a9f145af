-- An array over a tree whose keys have no values is a set.
use Rattle.std.proofs.Common.{◌≡◌, ◌≢◌, ℕ, ◌+◌, ◌^◌, [], ◌∷◌, Some, refl, sym, ◌∙◌, ⊎_elim}
use Rattle.std.proofs.lemmas.Option.{same_Some}
use Rattle.judy_model.proofs.lemmas.maps.ValuesLemmas.{All-values}
use Rattle.judy_node.specs.Trees.{Pairs, IsMap}
use Rattle.judy_change.specs.Removals.{value_in}
use Rattle.judy_change.proofs.Without.{value-same, value-apart}
use Rattle.judy_query.specs.Maps.{map_of}
use Rattle.judy_word.specs.Held.{Held, array_in, IsHeld}
use Rattle.judy_word.specs.Sets.{IsSet}
use Rattle.judy_word.proofs.MapFacts.{get-value, same_or}

zero_value : (low top : ℕ) (pairs : Pairs) (key value : ℕ) → IsMap 0 low top pairs → value_in pairs key ≡ Some value → value ≡ 0
zero_value low top [] key value map held = cc
zero_value low top (pair ∷ pairs) key value map held = ⊎_elim
    (λ (same : pair.0 ≡ key). sym (same_Some pair.1 value (sym (value-same pair pairs key same) ∙ held)) ∙ map.2 refl)
    (λ (apart : pair.0 ≢ key). zero_value (pair.0 + 1) top pairs key value map.3 (sym (value-apart pair pairs key apart) ∙ held))
    (same_or pair.0 key)

pub IsSet-held : (held : Held) → IsHeld 0 held → IsSet (array_in held)
IsSet-held held is = All-values (λ value. value ≡ 0) (map_of held.tree.pairs) (λ key value at.
    zero_value 0 (256 ^ 8) held.tree.pairs key value is.node.map (sym (get-value 0 (256 ^ 8) held.tree.pairs is.node.map key) ∙ at))
