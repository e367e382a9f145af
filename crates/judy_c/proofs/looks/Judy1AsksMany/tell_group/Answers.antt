use Rattle.std.proofs.Common.{◌≡◌, ℕ, Bool, length, map, sym, ap, ◌∙◌, arith}
use Rattle.std.specs.FinMap.{contains_key}
use Rattle.std.proofs.lemmas.List.{length-map, take_all, take_at}
use Rattle.std.proofs.lemmas.Simd.{map-map}
use Rattle.judy_c.specs.Looks.{byte_of}
use Rattle.judy_c.proofs.looks.Judy1AsksMany.tell_group.Goals as goal

pub returns : goal.returns
returns c =
    let keys = c.args.keys.now in
    let there = c.test_many.new.there in
    let is_there : ℕ → Bool = λ key. contains_key c.args.self.now.map key in
    let long : length there ≡ length keys = ap length c.test_many.ensures ∙ length-map keys is_there in
    sym (take_all c.told.at c.told.told (omega arith))
    ∙ c.told.invariant.0
    ∙ ap (map byte_of) (take_at there _ c.told.at (omega (arith, long)) ∙ c.test_many.ensures)
    ∙ map-map byte_of is_there keys
