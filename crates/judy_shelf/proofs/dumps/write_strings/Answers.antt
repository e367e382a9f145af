use Rattle.std.proofs.Common.{◌<◌, ℕ, suc, List, [], ◌++◌, unwrap_or, sym, ap, subst, ◌∙◌}
use Rattle.std.specs.Cmp.Lexicographic.{nat_list_cmp_total}
use Rattle.std.specs.FinMap.{FinMap, entries}
use Rattle.judy_model.specs.Keys.{byte_order}
use Rattle.judy_model.specs.Neighbours.{first, next}
use Rattle.judy_model.specs.DumpText as text
use Rattle.judy_model.specs.DumpText.{Version, beside_before}
use Rattle.judy_sl.specs.Scans.{value_found}
use Rattle.judy_shelf.specs.Versions.{format_of}
use Rattle.judy_shelf.specs.Writes.{sunk, WroteAll, WroteFront}
use Rattle.judy_shelf.proofs.WriteLemmas.{wrote_err, wrote_first, wrote_second, wrote_both}
use Rattle.judy_shelf.proofs.SharedLemmas.{key_before, key_before_first, key_before_next, beside_at, not_beside_at}
use Rattle.judy_shelf.proofs.WalkLemmas.{IsAt, to_come, walk_first_string, walk_on_string, is_at, entry_here, no_entry_there, falls, written_none, written_more, written_stop, written_all}
use Rattle.judy_shelf.proofs.dumps.write_strings.Goals as goal

-- An entry beside the key before it, as text.
abbrev entry_text : Version → List ℕ × (List ℕ × ℕ) → List ℕ
entry_text version beside = text.string_key version beside.0 beside.1.0 ++ text.word beside.1.1

pub keys-init : goal.keys-init
keys-init g c =
    let m = c.args.strings.now.map in
    let old = c.cursor-cursor.result.key in (
      0,
      is_at m 0 old c.first-next.new.self.key (first m old) c.first-next.result (ap (first m) c.cursor-cursor.ensures.key ∙ walk_first_string m)
          (c.first-next.ensures.key ∙ ap (λ (map : FinMap byte_order ℕ). unwrap_or (first map old) old) c.cursor-cursor.ensures.map)
          (c.first-next.ensures.value ∙ ap (λ (map : FinMap byte_order ℕ). value_found map (first map old)) c.cursor-cursor.ensures.map),
      written_none (entry_text (format_of c.args.version)) (beside_before [] (entries m)) (sunk (g.W.Sink.taken c.args.sink.now) (g.W.Sink.tally c.args.sink.now).failures),
      ap (λ last. unwrap_or last []) c.new-last.ensures ∙ sym (key_before_first [] (entries m)),
      c.first-next.ensures.map ∙ c.cursor-cursor.ensures.map,
    )

pub returns-in_err-put_string_after : goal.returns-in_err-put_string_after
returns-in_err-put_string_after g c =
    let before = sunk (g.W.Sink.taken c.args.sink.now) (g.W.Sink.tally c.args.sink.now).failures in
    let mid = sunk (g.W.Sink.taken c.keys.sink) (g.W.Sink.tally c.keys.sink).failures in
    let after = sunk (g.W.Sink.taken c.put_string_after.new.sink) (g.W.Sink.tally c.put_string_after.new.sink).failures in
    let m = c.args.strings.now.map in
    let version = format_of c.args.version in
    let key = c.keys.cursor.key in
    let value = c.in-Some.value in
    let place = c.keys.invariant.0 in
    let here = subst (λ o. IsAt m place key o) c.in-Some.is c.keys.invariant.1 in
    let at = entry_here m place key value here in
    let earlier = key_before [] (entries m) place in
    let keyed = text.string_key version earlier key in
    let told = ap (λ b. text.string_key version b c.key.result.now) (c.front.ensures.bytes ∙ c.keys.invariant.3) ∙ ap (text.string_key version earlier) c.key.ensures.key in
    wrote_err _ before after _ c.from_residual.result c.from_residual.ensures.1
    (written_stop (entry_text version) (beside_before [] (entries m)) before place (earlier, (key, value)) mid after c.keys.invariant.2 (beside_at [] (entries m) place (key, value) at)
    (wrote_first keyed (text.word value) mid after (subst (λ t. WroteFront t mid after) told c.in_err-put_string_after.ensures)))

pub returns-in_err-put_word : goal.returns-in_err-put_word
returns-in_err-put_word g c =
    let before = sunk (g.W.Sink.taken c.args.sink.now) (g.W.Sink.tally c.args.sink.now).failures in
    let mid = sunk (g.W.Sink.taken c.keys.sink) (g.W.Sink.tally c.keys.sink).failures in
    let half = sunk (g.W.Sink.taken c.put_string_after.new.sink) (g.W.Sink.tally c.put_string_after.new.sink).failures in
    let after = sunk (g.W.Sink.taken c.put_word.new.sink) (g.W.Sink.tally c.put_word.new.sink).failures in
    let m = c.args.strings.now.map in
    let version = format_of c.args.version in
    let key = c.keys.cursor.key in
    let value = c.in-Some.value in
    let place = c.keys.invariant.0 in
    let here = subst (λ o. IsAt m place key o) c.in-Some.is c.keys.invariant.1 in
    let at = entry_here m place key value here in
    let earlier = key_before [] (entries m) place in
    let keyed = text.string_key version earlier key in
    let told = ap (λ b. text.string_key version b c.key.result.now) (c.front.ensures.bytes ∙ c.keys.invariant.3) ∙ ap (text.string_key version earlier) c.key.ensures.key in
    wrote_err _ before after _ c.from_residual-in_err-put_word.result c.from_residual-in_err-put_word.ensures.1
    (written_stop (entry_text version) (beside_before [] (entries m)) before place (earlier, (key, value)) mid after c.keys.invariant.2 (beside_at [] (entries m) place (key, value) at)
    (wrote_second keyed (text.word value) mid half after (subst (λ t. WroteAll t mid half) told c.in_ok-put_string_after.ensures) c.in_err-put_word.ensures))

pub keys-preserved : goal.keys-preserved
keys-preserved g c =
    let before = sunk (g.W.Sink.taken c.args.sink.now) (g.W.Sink.tally c.args.sink.now).failures in
    let mid = sunk (g.W.Sink.taken c.keys.sink) (g.W.Sink.tally c.keys.sink).failures in
    let half = sunk (g.W.Sink.taken c.put_string_after.new.sink) (g.W.Sink.tally c.put_string_after.new.sink).failures in
    let after = sunk (g.W.Sink.taken c.put_word.new.sink) (g.W.Sink.tally c.put_word.new.sink).failures in
    let m = c.args.strings.now.map in
    let version = format_of c.args.version in
    let key = c.keys.cursor.key in
    let value = c.in-Some.value in
    let place = c.keys.invariant.0 in
    let here = subst (λ o. IsAt m place key o) c.in-Some.is c.keys.invariant.1 in
    let at = entry_here m place key value here in
    let earlier = key_before [] (entries m) place in
    let keyed = text.string_key version earlier key in
    let told = ap (λ b. text.string_key version b c.key.result.now) (c.front.ensures.bytes ∙ c.keys.invariant.3) ∙ ap (text.string_key version earlier) c.key.ensures.key in (
      suc place,
      is_at m (suc place) key c.next-next.new.self.key (next m key) c.next-next.result (walk_on_string m place key here.0)
          (c.next-next.ensures.key ∙ ap (λ (map : FinMap byte_order ℕ). unwrap_or (next map key) key) c.keys.invariant.4)
          (c.next-next.ensures.value ∙ ap (λ (map : FinMap byte_order ℕ). value_found map (next map key)) c.keys.invariant.4),
      written_more (entry_text version) (beside_before [] (entries m)) before place (earlier, (key, value)) mid after c.keys.invariant.2 (beside_at [] (entries m) place (key, value) at)
          (wrote_both keyed (text.word value) mid half after (subst (λ t. WroteAll t mid half) told c.in_ok-put_string_after.ensures) c.in_ok-put_word.ensures),
      ap (λ last. unwrap_or last []) c.keep.ensures ∙ c.key-in-Some.ensures.key ∙ sym (key_before_next [] (entries m) place (key, value) at),
      c.next-next.ensures.map ∙ c.keys.invariant.4,
    )

pub keys-smaller : goal.keys-smaller
keys-smaller g c =
    let m = c.args.strings.now.map in
    let key = c.keys.cursor.key in
    let value = c.in-Some.value in
    let place = c.keys.invariant.0 in
    let here = subst (λ o. IsAt m place key o) c.in-Some.is c.keys.invariant.1 in
    let after = c.next-next.new.self.key in
    let there = is_at m (suc place) key after (next m key) c.next-next.result (walk_on_string m place key here.0)
    (c.next-next.ensures.key ∙ ap (λ (map : FinMap byte_order ℕ). unwrap_or (next map key) key) c.keys.invariant.4)
    (c.next-next.ensures.value ∙ ap (λ (map : FinMap byte_order ℕ). value_found map (next map key)) c.keys.invariant.4) in
    subst (λ o. to_come m after c.next-next.result < to_come m key o) (sym c.in-Some.is) (falls m place key after value c.next-next.result here there)

pub returns : goal.returns
returns g c =
    let before = sunk (g.W.Sink.taken c.args.sink.now) (g.W.Sink.tally c.args.sink.now).failures in
    let now = sunk (g.W.Sink.taken c.keys.sink) (g.W.Sink.tally c.keys.sink).failures in
    let m = c.args.strings.now.map in
    let place = c.keys.invariant.0 in
    written_all (entry_text (format_of c.args.version)) (beside_before [] (entries m)) before place now c.keys.invariant.2
    (not_beside_at [] (entries m) place (no_entry_there nat_list_cmp_total m place (subst (λ o. IsAt m place c.keys.cursor.key o) c.in_default.is c.keys.invariant.1)))

pub keep-requires : goal.keep-requires
keep-requires g c = c.key-in-Some.ensures.short
