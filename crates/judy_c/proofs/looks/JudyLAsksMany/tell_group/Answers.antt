use Rattle.std.proofs.Common.{◌≡◌, ℕ, Option, length, map, sym, ap, ◌∙◌, arith}
use Rattle.std.specs.FinMap.{get}
use Rattle.std.proofs.lemmas.List.{length-map, take_all, take_at}
use Rattle.std.proofs.lemmas.Simd.{map-map}
use Rattle.judy_c.specs.Looks.{found_of}
use Rattle.judy_c.proofs.looks.JudyLAsksMany.tell_group.Goals as goal

pub returns : goal.returns
returns c =
    let keys = c.args.keys.now in
    let values = c.get_many.new.values in
    let value_of : ℕ → Option ℕ = λ key. get c.args.self.now.map key in
    let long : length values ≡ length keys = ap length c.get_many.ensures ∙ length-map keys value_of in
    sym (take_all c.told.at c.told.told (omega arith))
    ∙ c.told.invariant.0
    ∙ ap (map found_of) (take_at values _ c.told.at (omega (arith, long)) ∙ c.get_many.ensures)
    ∙ map-map found_of value_of keys
