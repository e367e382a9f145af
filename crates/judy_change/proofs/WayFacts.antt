-- The node of 33 keys on the way of a key, and the clause that says it of the keys.
use Rattle.std.proofs.Common.{◌≡◌, ◌↔◌, ℕ, ◌+◌, ◌^◌, ◌≤◌, [], ◌∷◌, subst, sym, arith}
use Rattle.judy_model.specs.Forms.{Form}
use Rattle.judy_model.specs.Shapes.{form_of, AllBelow}
use Rattle.judy_model.specs.Ways.{HoldsOnWay, Ascends}
use Rattle.judy_leaf.specs.KeyLists.{keys_of}
use Rattle.judy_node.specs.Trees.{Pairs, IsMap}
use Rattle.judy_change.specs.Removals.{Has33}
use Rattle.judy_model.proofs.lemmas.forms.WayLemmas.{way_of_33}

map_below : (words low top : ℕ) (pairs : Pairs) → IsMap words low top pairs → AllBelow top (keys_of pairs)
map_below words low top [] map = tt
map_below words low top (pair ∷ pairs) map = (map.1, map_below words (pair.0 + 1) top pairs map.3)

map_ascends : (words low top : ℕ) (pairs : Pairs) → IsMap words low top pairs → Ascends low (keys_of pairs)
map_ascends words low top [] map = tt
map_ascends words low top (pair ∷ pairs) map = (map.0, map_ascends words (pair.0 + 1) top pairs map.3)

pub has-33_on_way : (words key : ℕ) (pairs : Pairs) (form : Form) → IsMap words 0 (256 ^ 8) pairs → form ≡ form_of words 8 (keys_of pairs)
    → Has33 8 pairs key ↔ HoldsOnWay 33 key 8 form
has-33_on_way words key pairs form map shaped =
    let law = way_of_33 words 8 key (keys_of pairs) (let e : 1 ≤ 8 = omega arith in e) (map_below words 0 (256 ^ 8) pairs map) (map_ascends words 0 (256 ^ 8) pairs map) in (
      λ (has : Has33 8 pairs key). subst (λ f. HoldsOnWay 33 key 8 f) (sym shaped) (law.0 (has.bytes, has.within, has.count)),
      λ holds. let found = law.1 (subst (λ f. HoldsOnWay 33 key 8 f) shaped holds) in record { bytes = found.0; within = found.1; count = found.2 },
    )
