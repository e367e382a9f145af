use Rattle.std.proofs.Common.{ℕ, List, ap, subst, ◌∙◌, arith}
use Rattle.std.specs.List.{flat_map}
use Rattle.std.specs.FinMap.{keys, entries, len-entries}
use Rattle.std.proofs.lemmas.List.{length-map}
use Rattle.std.proofs.lemmas.List.Folds.{flat_map-map}
use Rattle.judy_model.specs.DumpText as text
use Rattle.judy_hs.proofs.WalkLemmas.{came_all}
use Rattle.judy_saved.specs.Rooms.{Adds}
use Rattle.judy_saved.proofs.RoomLemmas.{came_within}
use Rattle.judy_saved.proofs.dumps.put_keys.Goals as goal

pub put-end-requires : goal.put-end-requires
put-end-requires c =
    let m = c.args.set.now.map in
    let came = came_within (keys m) c.keys.yielded c.keys.key-iterator c.keys.invariant.came in
    let ends = c.keys.invariant.ends in
    let all = length-map (entries m) (λ (entry : ℕ × ℕ). entry.0) in
    let count = len-entries m in
    omega arith

pub returns : goal.returns
returns c =
    let m = c.args.set.now.map in
    let all = came_all (keys m) c.keys.yielded c.keys.key-iterator c.keys.invariant.came c.in-None.ensures.steps.0 in
    subst (λ (bytes : List ℕ). Adds bytes c.args.at c.args.room.now c.keys.end c.keys.room)
    (ap (flat_map text.word) all ∙ flat_map-map text.word (λ (entry : ℕ × ℕ). entry.0) (entries m)) c.keys.invariant.adds
