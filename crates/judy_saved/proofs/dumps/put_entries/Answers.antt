use Rattle.std.proofs.Common.{ℕ, List, [], ◌∷◌, ◌++◌, length, ap, subst, arith, length-append}
use Rattle.std.specs.FinMap.{entries, len-entries}
use Rattle.judy_model.specs.DumpText as text
use Rattle.judy_hs.proofs.WalkLemmas.{came_on}
use Rattle.judy_saved.specs.Rooms.{Adds}
use Rattle.judy_saved.proofs.RoomLemmas.{came_within, adds_both, adds_more}
use Rattle.judy_saved.proofs.dumps.put_entries.Goals as goal

pub put-end-requires : goal.put-end-requires
put-end-requires c =
    let m = c.args.words.now.map in
    let came = came_within (entries m) c.entries.yielded c.entries.key-iterator c.entries.invariant.came in
    let ends = c.entries.invariant.ends in
    let count = len-entries m in
    omega arith

pub put-end-requires-in-entries : goal.put-end-requires-in-entries
put-end-requires-in-entries c =
    let m = c.args.words.now.map in
    let came = came_within (entries m) c.entries.yielded c.entries.key-iterator c.entries.invariant.came in
    let ends = c.entries.invariant.ends in
    let count = len-entries m in
    let half = c.put-end.ensures.end in
    let eight = ap length c.word_bytes.ensures in
    omega arith

pub entries-preserved : goal.entries-preserved
entries-preserved c =
    let entry : ℕ × ℕ = (c.in-Some.key, c.in-Some.value) in
    let line : ℕ × ℕ → List ℕ = λ entry. text.word entry.0 ++ text.word entry.1 in
    let half = c.put-end.ensures.end in
    let all = c.put-end-in-entries.ensures.end in
    let eight = ap length c.word_bytes.ensures in
    let other = ap length c.word_bytes-in-entries.ensures in
    let ends = c.entries.invariant.ends in
    let more = length-append c.entries.yielded (entry ∷ []) in
    let one = subst (λ (bytes : List ℕ). Adds bytes c.entries.end c.entries.room c.put-end.result c.put-end.new.room) c.word_bytes.ensures c.put-end.ensures.adds in
    let two = subst (λ (bytes : List ℕ). Adds bytes c.put-end.result c.put-end.new.room c.put-end-in-entries.result c.put-end-in-entries.new.room) c.word_bytes-in-entries.ensures
    c.put-end-in-entries.ensures.adds in
    record {
      came = came_on (entries c.args.words.now.map) c.entries.yielded c.entries.key-iterator c.next.new.self entry c.entries.invariant.came c.in-Some.ensures.steps;
      ends = omega arith;
      adds = adds_more line c.entries.yielded entry _ _ _ _ _ _ c.entries.invariant.adds (adds_both (text.word entry.0) (text.word entry.1) _ _ _ _ _ _ one two);
    }
