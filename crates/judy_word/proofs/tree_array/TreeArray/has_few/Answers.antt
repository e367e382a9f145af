use Rattle.std.proofs.Common.{◌≡◌, ℕ, Option, length, map, is_some, sym, ap, ◌∙◌, arith}
use Rattle.std.specs.FinMap.{get, contains_key}
use Rattle.std.proofs.lemmas.List.{length-map, take_all, take_at}
use Rattle.std.proofs.lemmas.Simd.{map-map}
use Rattle.judy_query.specs.Maps.{map_of}
use Rattle.judy_word.specs.Held.{map_in}
use Rattle.judy_word.proofs.tree_array.TreeArray.has_few.Goals as goal

pub returns : goal.returns
returns g c =
    let keys = c.args.keys.now in
    let told = c.lookup_many.new.values in
    let value_of : ℕ → Option ℕ = λ key. get (map_of c.self.inside.root.pairs) key in
    let long : length told ≡ length keys = ap length c.lookup_many.ensures.values ∙ length-map keys value_of in
    sym (take_all c.there.at c.there.there (omega arith))
    ∙ c.there.invariant.0
    ∙ ap (map is_some) (take_at told _ c.there.at (omega (arith, long)) ∙ c.lookup_many.ensures.values)
    ∙ map-map is_some value_of keys
    ∙ ap (λ held. map (λ key. contains_key (map_in held) key) keys) c.self.view_is
