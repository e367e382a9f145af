use Rattle.std.proofs.Common.{◌≡◌, ◌∙◌, ◌++◌, ℕ, ◌-◌, ◌*◌, ◌<◌, List, [], ◌∷◌, length, drop, take, Option, Some, None, IfSome, MatchOption, is_some, true, true≢false, sym, refl, ap, arith, subst}
use Rattle.std.specs.Borrow.{Bor}
use Rattle.std.specs.FinMap.{contains_key}
use Rattle.std.specs.Option.{option_to_list}
use Rattle.std.proofs.lemmas.List.{append-nil, take_rest}
use Rattle.judy_model.specs.Arrays.{ArrayOf}
use Rattle.judy_model.specs.Keys.{word_order}
use Rattle.judy_sl.specs.declared.runs.Run.{Run}
use Rattle.judy_sl.specs.Pieces.{IsText, piece_of}
use Rattle.judy_sl.specs.World.{World}
use Rattle.judy_sl.specs.Arenas.{world_of}
use Rattle.judy_sl.specs.Runs.{AreBeyond, Levels, Stands}
use Rattle.judy_sl.proofs.lemmas.scans.RunWays.{Risen, next_leads, none_above, rise, rise_some}
use Rattle.judy_sl.proofs.arena.Arena.next_entry.Goals as goal

pub returns-in-Some : goal.returns-in-Some
returns-in-Some c =
    next_leads (world_of c.args.self.now) c.args.key.now c.requires.is_text c.levels.above.items c.levels.run.level c.levels.run.entries c.in-Some.entry
    c.next.new.self c.in-Some.ensures.steps c.in-Some.ensures.above c.levels.invariant

-- Where there is no next entry, none was left.
none_left : (old : List (ℕ × ℕ)) (item : Option (ℕ × ℕ)) (new : List (ℕ × ℕ)) → MatchOption item ((old ≡ []) × (new ≡ [])) (λ x. old ≡ x ∷ new) → item ≡ None → (old ≡ []) × (new ≡ [])
none_left old None new steps is = steps
none_left old (Some entry) new steps is = cc

-- Where no level was taken off, there was none above.
none_taken : (old new : Levels) (taken : Option (Option (Bor (ArrayOf word_order)))) → taken ≡ None → old ≡ new ++ option_to_list taken → (0 < length old → is_some taken ≡ true) →
    (old ≡ []) × (new ≡ [])
none_taken [] new taken is are some = (refl, sym (append-nil new) ∙ ap (λ (t : Option (Option (Bor (ArrayOf word_order)))). new ++ option_to_list t) (sym is) ∙ sym are)
none_taken (first ∷ old) new taken is are some = absurd (true≢false (sym (some (omega arith)) ∙ ap (λ (t : Option (Option (Bor (ArrayOf word_order)))). is_some t) is))

-- Where one was, its own piece leads from it to where the key stands.
risen : {world : World} {key : List ℕ} {old new : Levels} {run : Run} {passed : Option (Bor (ArrayOf word_order))} {held : Bor (ArrayOf word_order)} {item : Option (ℕ × ℕ)}
    (others : List (ℕ × ℕ)) → IsText key → old ≡ new ++ passed ∷ [] → passed ≡ Some held → Stands world key old run →
    MatchOption item ((run.entries.0 ≡ []) × (others ≡ [])) (λ x. run.entries.0 ≡ x ∷ others) → item ≡ None → Risen world key new held run.entries.1
risen {world} {key} {old} {new} {run} {passed} {held} {item} others text are is stands steps ended =
    rise world key text old new run held (are ∙ ap (λ (last : Option (Bor (ArrayOf word_order))). new ++ last ∷ []) is) stands (none_left run.entries.0 item others steps ended).0

own_piece : (key : List ℕ) {long count piece : ℕ} → piece ≡ piece_of (take (length key - 8 * long) (drop (8 * long) key)) → long ≡ count → piece ≡ piece_of (drop (8 * count) key)
own_piece key {long} {count} {piece} is same = is ∙ ap piece_of (take_rest key (8 * long)) ∙ ap (λ n. piece_of (drop (8 * n) key)) same

pub returns-in_err-pop : goal.returns-in_err-pop
returns-in_err-pop c =
    let left = none_left c.levels.run.entries.0 c.next.result c.next.new.self.0 c.next.ensures.steps c.in_default.is in
    let both = none_taken c.levels.above.items c.pop.new.self.items c.pop.result c.in_err-pop.was c.pop.ensures.items c.pop.ensures.variant.1 in
    rw c.from_residual.ensures (
      none_above (world_of c.args.self.now) c.args.key.now c.levels.above.items c.levels.run c.levels.invariant left.0 both.0,
      subst (λ (above : Levels). Stands (world_of c.args.self.now) c.args.key.now above (record { level = c.levels.run.level; entries = c.next.new.self })) (both.0 ∙ sym both.1)
          (subst (λ (all : List (ℕ × ℕ) × Option (List (ℕ × ℕ))). Stands (world_of c.args.self.now) c.args.key.now c.levels.above.items
          (record { level = c.levels.run.level; entries = all })) (λ t. ((left.0 ∙ sym left.1) t, sym c.next.ensures.above t)) c.levels.invariant),
    )

pub returns-in_err-run : goal.returns-in_err-run
returns-in_err-run c =
    let are = c.in_ok-pop.ensures.items ∙ ap (λ (item : Option (Bor (ArrayOf word_order))). c.pop.new.self.items ++ item ∷ []) c.in_err-run.was in
    absurd (rise_some (world_of c.args.self.now) c.args.key.now c.levels.above.items c.pop.new.self.items c.levels.run are c.levels.invariant)

pub slice_bounds-first_piece-count : goal.slice_bounds-first_piece-count
slice_bounds-first_piece-count c =
    let up = risen c.next.new.self.0 c.requires.is_text c.in_ok-pop.ensures.items c.in_ok-run.was c.levels.invariant c.next.ensures.steps c.in_default.is in
    omega (arith, up.within, c.len.ensures.value)

pub slice_bounds-first_piece-start : goal.slice_bounds-first_piece-start
slice_bounds-first_piece-start c =
    let up = risen c.next.new.self.0 c.requires.is_text c.in_ok-pop.ensures.items c.in_ok-run.was c.levels.invariant c.next.ensures.steps c.in_default.is in
    omega (arith, up.within, c.len.ensures.value)

pub go_up_beyond-requires-clause-own : goal.go_up_beyond-requires-clause-own
go_up_beyond-requires-clause-own c =
    let up = risen c.next.new.self.0 c.requires.is_text c.in_ok-pop.ensures.items c.in_ok-run.was c.levels.invariant c.next.ensures.steps c.in_default.is in
    ap (contains_key c.in_ok-run.field-0.now.map) (own_piece c.args.key.now c.first_piece-piece.ensures c.len.ensures.value) ∙ up.there

pub go_up_beyond-requires-clause-above : goal.go_up_beyond-requires-clause-above
go_up_beyond-requires-clause-above c =
    let up = risen c.next.new.self.0 c.requires.is_text c.in_ok-pop.ensures.items c.in_ok-run.was c.levels.invariant c.next.ensures.steps c.in_default.is in
    subst (λ (kept : Option (List (ℕ × ℕ))). IfSome kept (AreBeyond c.in_ok-run.field-0.now.map c.first_piece-piece.result)) (sym c.next.ensures.above)
    (subst (λ p. IfSome c.levels.run.entries.1 (AreBeyond c.in_ok-run.field-0.now.map p)) (sym (own_piece c.args.key.now c.first_piece-piece.ensures c.len.ensures.value)) up.are_kept)

pub levels-preserved : goal.levels-preserved
levels-preserved c =
    let up = risen c.next.new.self.0 c.requires.is_text c.in_ok-pop.ensures.items c.in_ok-run.was c.levels.invariant c.next.ensures.steps c.in_default.is in
    up.stands c.go_up_beyond.new.following (subst (λ p. AreBeyond c.in_ok-run.field-0.now.map p c.go_up_beyond.new.following.0)
    (own_piece c.args.key.now c.first_piece-piece.ensures c.len.ensures.value) c.go_up_beyond.ensures.beyond) c.go_up_beyond.ensures.above
