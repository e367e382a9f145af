use Rattle.std.proofs.Common.{◌<◌, ℕ, suc, List, [], ◌++◌, length, take, unwrap_or, sym, ap, subst, ◌∙◌, arith}
use Rattle.std.specs.List.{flat_map}
use Rattle.std.specs.Cmp.Lexicographic.{nat_list_cmp_total}
use Rattle.std.specs.FinMap.{FinMap, entries, len-entries}
use Rattle.std.proofs.lemmas.Option.{slice_get_within}
use Rattle.judy_model.specs.Keys.{byte_order}
use Rattle.judy_model.specs.Neighbours.{first, next}
use Rattle.judy_model.specs.DumpText as text
use Rattle.judy_model.specs.DumpText.{Version, beside_before}
use Rattle.judy_sl.specs.Scans.{value_found}
use Rattle.judy_shelf.specs.Versions.{format_of}
use Rattle.judy_shelf.proofs.SharedLemmas.{key_before, key_before_first, key_before_next, beside_at, not_beside_at}
use Rattle.judy_shelf.proofs.WalkLemmas.{IsAt, to_come, walk_first_string, walk_on_string, is_at, entry_here, no_entry_there, falls, take_one, take_none}
use Rattle.judy_saved.specs.Rooms.{Adds}
use Rattle.judy_saved.proofs.RoomLemmas.{adds_nothing, adds_both}
use Rattle.judy_saved.proofs.dumps.put_strings.Goals as goal

-- An entry beside the key before it, as text.
abbrev entry_text : Version → List ℕ × (List ℕ × ℕ) → List ℕ
entry_text version beside = text.string_key version beside.0 beside.1.0 ++ text.word beside.1.1

pub keys-init : goal.keys-init
keys-init g c =
    let m = c.args.strings.now.map in
    let old = c.short_cursor-cursor.result.key in record {
      place = 0;
      stands =
          is_at m 0 old c.first-next.new.self.key (first m old) c.first-next.result (ap (first m) c.short_cursor-cursor.ensures.key ∙ walk_first_string m)
          (c.first-next.ensures.key ∙ ap (λ (map : FinMap byte_order ℕ). unwrap_or (first map old) old) c.short_cursor-cursor.ensures.map)
          (c.first-next.ensures.value ∙ ap (λ (map : FinMap byte_order ℕ). value_found map (first map old)) c.short_cursor-cursor.ensures.map);
      ends = omega arith;
      adds = adds_nothing c.args.at c.args.room.now;
      kept = ap (λ last. unwrap_or last []) c.new-last.ensures ∙ sym (key_before_first [] (entries m));
      same = c.first-next.ensures.map ∙ c.short_cursor-cursor.ensures.map;
    }

pub put_key-end-requires-clause-early : goal.put_key-end-requires-clause-early
put_key-end-requires-clause-early g c =
    let m = c.args.strings.now.map in
    let here = subst (λ o. IsAt m c.keys.invariant.place c.keys.cursor.key o) c.in-Some.is c.keys.invariant.stands in
    let within = slice_get_within (entries m) c.keys.invariant.place _ (entry_here m c.keys.invariant.place c.keys.cursor.key c.in-Some.value here) in
    let ends = c.keys.invariant.ends in
    let count = len-entries m in
    omega arith

pub put-end-requires : goal.put-end-requires
put-end-requires g c =
    let m = c.args.strings.now.map in
    let here = subst (λ o. IsAt m c.keys.invariant.place c.keys.cursor.key o) c.in-Some.is c.keys.invariant.stands in
    let within = slice_get_within (entries m) c.keys.invariant.place _ (entry_here m c.keys.invariant.place c.keys.cursor.key c.in-Some.value here) in
    let ends = c.keys.invariant.ends in
    let half = c.put_key-end.ensures.most in
    let count = len-entries m in
    omega arith

pub keys-preserved : goal.keys-preserved
keys-preserved g c =
    let m = c.args.strings.now.map in
    let version = format_of c.args.version in
    let key = c.keys.cursor.key in
    let value = c.in-Some.value in
    let place = c.keys.invariant.place in
    let here = subst (λ o. IsAt m place key o) c.in-Some.is c.keys.invariant.stands in
    let at = entry_here m place key value here in
    let earlier = key_before [] (entries m) place in
    let told = ap (λ b. text.string_key version b c.key.result.now) (c.front.ensures.bytes ∙ c.keys.invariant.kept) ∙ ap (text.string_key version earlier) c.key.ensures.key in
    let one = subst (λ (t : List ℕ). Adds t c.keys.end c.keys.room c.put_key-end.result c.put_key-end.new.room) told c.put_key-end.ensures.adds in
    let two = subst (λ (t : List ℕ). Adds t c.put_key-end.result c.put_key-end.new.room c.put-end.result c.put-end.new.room) c.word_bytes.ensures c.put-end.ensures.adds in
    let both = adds_both (text.string_key version earlier key) (text.word value) _ _ _ _ _ _ one two in
    let items = beside_before [] (entries m) in
    let ends = c.keys.invariant.ends in
    let half = c.put_key-end.ensures.most in
    let whole = c.put-end.ensures.end in
    let eight = ap length c.word_bytes.ensures in record {
      place = suc place;
      stands =
          is_at m (suc place) key c.next-next.new.self.key (next m key) c.next-next.result (walk_on_string m place key here.0)
          (c.next-next.ensures.key ∙ ap (λ (map : FinMap byte_order ℕ). unwrap_or (next map key) key) c.keys.invariant.same)
          (c.next-next.ensures.value ∙ ap (λ (map : FinMap byte_order ℕ). value_found map (next map key)) c.keys.invariant.same);
      ends = omega arith;
      adds =
          subst (λ (t : List ℕ). Adds t c.args.at c.args.room.now c.put-end.result c.put-end.new.room)
          (sym (take_one (entry_text version) items place (earlier, (key, value)) (beside_at [] (entries m) place (key, value) at)))
          (adds_both (flat_map (entry_text version) (take place items)) (entry_text version (earlier, (key, value))) _ _ _ _ _ _ c.keys.invariant.adds both);
      kept = ap (λ last. unwrap_or last []) c.keep.ensures ∙ c.key-in-Some.ensures.key ∙ sym (key_before_next [] (entries m) place (key, value) at);
      same = c.next-next.ensures.map ∙ c.keys.invariant.same;
    }

pub keys-smaller : goal.keys-smaller
keys-smaller g c =
    let m = c.args.strings.now.map in
    let key = c.keys.cursor.key in
    let value = c.in-Some.value in
    let place = c.keys.invariant.place in
    let here = subst (λ o. IsAt m place key o) c.in-Some.is c.keys.invariant.stands in
    let after = c.next-next.new.self.key in
    let there = is_at m (suc place) key after (next m key) c.next-next.result (walk_on_string m place key here.0)
    (c.next-next.ensures.key ∙ ap (λ (map : FinMap byte_order ℕ). unwrap_or (next map key) key) c.keys.invariant.same)
    (c.next-next.ensures.value ∙ ap (λ (map : FinMap byte_order ℕ). value_found map (next map key)) c.keys.invariant.same) in
    subst (λ o. to_come m after c.next-next.result < to_come m key o) (sym c.in-Some.is) (falls m place key after value c.next-next.result here there)

pub returns : goal.returns
returns g c =
    let m = c.args.strings.now.map in
    let place = c.keys.invariant.place in
    let items = beside_before [] (entries m) in
    let none = not_beside_at [] (entries m) place (no_entry_there nat_list_cmp_total m place (subst (λ o. IsAt m place c.keys.cursor.key o) c.in_default.is c.keys.invariant.stands)) in
    subst (λ all. Adds (flat_map (entry_text (format_of c.args.version)) all) c.args.at c.args.room.now c.keys.end c.keys.room) (take_none (entry_text (format_of c.args.version)) items place none)
    c.keys.invariant.adds

pub keep-requires : goal.keep-requires
keep-requires g c = c.key-in-Some.ensures.short
