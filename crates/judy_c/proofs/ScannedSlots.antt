-- The four calls of C that scan an array of strings and hand out the slot of the key found, as one walk. Each gives the handle, the buffer and the count to
-- one call and the caller's pointer to the other, each for good, and they differ in the one call and in what it looks for. Assumes `Logic`.
use Rattle.std.proofs.Common.{◌≡◌, ℕ, ◌^◌, ◌==◌, Bool, Option, Some, None, List, [], ◌∷◌, Result, take, refl, sym, ap, subst, w32, MutBor}
use Rattle.std.proofs.raw_atomic.Walks.{proved}
use seplogic.Ra.Ura.{Ura}
use base.Logic.{sep, emp, id⊢}
use base.Fml.{Lft, ftrue, flft}
use mir.Syntax.{Lifetime, named, erased, mut, Callee, Sym, Ty, ty_int, ty_ref, ty_struct, ty_enum, tnil, tcons, ttnil, ttcons, w8, w64, Fn, local, value_local, seq, assign, call}
use mir.Syntax.{aggregate, place, deref, field, addr_of, copy, return}
use mir.Val.{Val, vint}
use contract.Monad.{fact, fact_i}
use contract.Running.{Running, tables}
use prog.Model.{Model}
use prog.Wp.{Closed}
use types.Logic.{Logic, sem}
use types.Kit.{‵, raw, ◌⊛◌, some, later, ◌$◌, ◌∵◌, !, qed, done, move, keep, drop, use0, use1, use2, split, split3, join, pick, await, rewrite, suffices, frame, group, fjoin}
use types.Kit.{fsplit, feq_i, feq_l, flt_i}
use types.Part.{agg, sub, whole}
use types.Run.{enter, addr, stop, fld, hop, from, no_more, and_then, returns}
use types.ByLocal.{alloc_all, pass_all, free_all, look_at, look_in_at, get, get_in, through, sets, lands_as}
use denote.Builtin.{u8, u64, usize}
use denote.Exit.{no}
use denote.Laws.{Is, shows}
use denote.Memory.{lone}
use denote.RattleType.{RattleType}
use denote.Ref.{MutRef, mut_vals, mut_Tells}
use denote.Signature.{Slot, plain, mut_ref_to, mut_slice_of}
use denote.Slice.{MutSlice, mut_slice_vals, mut_slice_Tells}
use denote.Steps.{nothing, heard, peeks}
use denote.Triple.Call.{calls_at}
use denote.Triple.Clauses.{Clauses, closing, Lasts, lasts}
use denote.Triple.Spec.{Meets, triple_of}
use denote.Triple.Statement.{Contract, Triple}
use denote.Triple.Table.{framed}
use denote.Triple.Walked.{Stays, walk_of, says, stay_dropped, gave_ref, gave_slice, Goes-spent_ref, Goes-gave_ref, Goes-gave_slice, ends_at}
use Rattle.std.specs.FinMap.{FinMap}
use Rattle.std.specs.Result.{result_ok}
use Rattle.judy_model.specs.Keys.{byte_order}
use Rattle.judy_c.specs.Answers.{IsSaid}
use Rattle.judy_c.specs.KeyScans.{CallerBuffer, slot_says}
use Rattle.judy_c.specs.ScanSlots.{IsFoundSlot, behind, number_found}
use Rattle.judy_c.specs.StringMaps.{array_in}
use Rattle.judy_c.specs.StringSlots.{LendsSlotOf}
use Rattle.judy_c.specs.Told.{IsTold, lent_where}
use Rattle.judy_c.specs.declared.answers.Missed.{Missed}
use Rattle.judy_c.specs.contracts.answers.Missed.{the_row as Missing}
use Rattle.judy_c.specs.contracts.answers.answer_scan as teller
use Rattle.judy_c.specs.contracts.strings.Strings.{the_row as R}
use Rattle.judy_c.specs.contracts.strings.Strings.first_slot as lender
use Rattle.judy_c.specs.contracts.string_slots.sellumaq_judysl_first_slot as f
use Rattle.judy_c.proofs.answers.Missed.TheLaws.{the_row_laws as missing_laws}
use Rattle.judy_c.proofs.HandsOut.{Lent, Pointer, handed}
use Rattle.judy_c.proofs.Answering as answering

abbrev Look : Type 0
Look = FinMap byte_order ℕ → List ℕ → Option (List ℕ)

-- what is said of a scan's answer
abbrev IsAnswered : Result (MutBor ℕ) Missed → ℕ → MutBor ℕ → MutBor ℕ → Type 0
IsAnswered found told before after = (told ≡ number_found found) × IsTold (result_ok found) (told == 1) before after

is_behind : (found : Option (MutBor ℕ)) (told : Bool) (before after : MutBor ℕ) → IsTold found told before after → behind found before.now ≡ after.now
is_behind None told before after is = sym (ap (λ (s : MutBor ℕ). s.now) is.1)
is_behind (Some slot) told before after is = sym (ap (λ (s : MutBor ℕ). s.now) is.1)

-- what a scan says of the slot that it lends it says of what stands where the caller is told
said : (map : FinMap byte_order ℕ) (look : List ℕ → Option (List ℕ)) (before after : List ℕ × ℕ) (found : Result (MutBor ℕ) Missed) (told : ℕ) (slot last : MutBor ℕ) →
    IsFoundSlot map look before after found → IsAnswered found told slot last
    → IsSaid (slot_says map look (record { buffer = before.0; count = before.1; value = slot.now }) (record { buffer = after.0; count = after.1; value = last.now })) told
said map look before after found told slot last answer is =
    let room : List ℕ × ℕ → ℕ → CallerBuffer = λ at value. record { buffer = at.0; count = at.1; value = value } in
    subst (IsSaid (slot_says map look (room before slot.now) (room after last.now))) (sym is.0)
    (subst (λ value. IsSaid (slot_says map look (room before slot.now) (room after value)) (number_found found)) (is_behind (result_ok found) (told == 1) slot last is.1) (answer slot.now))

abbrev Made : Lft → RattleType
Made = answering.Made Missing missing_laws IsAnswered

abbrev Handle : Slot 4
Handle = mut_ref_to (0 ∷ []) tt (plain (λ _. R))

abbrev Pointed : Slot 4
Pointed = mut_ref_to (0 ∷ []) tt (plain (λ _. u64))

abbrev stayed : Stays f.ended.signature.params f.ended.kept
stayed = (stay_dropped Handle no, (gave_slice (1 ∷ []) tt (plain (λ _. u8)), (gave_ref (2 ∷ []) tt (plain (λ _. usize)), (gave_ref (3 ∷ []) tt Pointed, tt))))

-- the machine code: the handle's type as it is written and as it is spelled out, the names of a slice and of `Result`, and the call that lends
abbrev pub scanning : Ty → Ty → Sym → Sym → Callee → Fn
scanning Handle' handle' Slice Result' lends =
    let word = ty_ref erased mut (ty_int w64) in let bytes : Lifetime → Ty = λ lifetime. ty_struct Slice (tcons (ty_ref lifetime mut (ty_int w8)) (tcons (ty_int w64) tnil)) in record {
      lifetimes = 4;
      outlives = (0, 3) ∷ [];
      ty_params = [];
      givens = 0;
      params = 4;
      locals = local (ty_int w32) value_local ∷ local (ty_ref (named 0) mut Handle') value_local ∷ local (bytes (named 1)) value_local ∷ local (ty_ref (named 2) mut (ty_int w64)) value_local
          ∷ local (ty_ref (named 3) mut (ty_ref (named 0) mut (ty_int w64))) value_local ∷ local (ty_enum Result' (ttcons (tcons word tnil) (ttcons (tcons (lone Missing.mir) tnil) ttnil))) value_local
          ∷ local (ty_ref erased mut Handle') value_local ∷ local (ty_ref erased mut (ty_int w8)) value_local ∷ local (bytes erased) value_local ∷ local word value_local
          ∷ local (ty_ref erased mut word) value_local ∷ [];
      body = seq (assign (place 6 []) (addr_of (place 1 (deref handle' ∷ [])))) (seq (assign (place 7 []) (addr_of (place 2 (field 0 ∷ deref (ty_int w8) ∷ []))))
          (seq (assign (place 8 []) (aggregate (copy (place 7 []) ∷ copy (place 2 (field 1 ∷ [])) ∷ []))) (seq (assign (place 9 []) (addr_of (place 3 (deref (ty_int w64) ∷ []))))
          (seq (call lends (copy (place 6 []) ∷ copy (place 8 []) ∷ copy (place 9 []) ∷ []) (place 5 [])) (seq (assign (place 10 []) (addr_of (place 4 (deref word ∷ []))))
          (seq (call teller.Key.name (copy (place 5 []) ∷ copy (place 10 []) ∷ []) (place 0 [])) return))))));
    }

module _ (look : Look) {M : Type 1} (𝓤 : Ura M) (𝓛 : Logic 𝓤) where
  -- the contract of the call that lends, and that of the one that answers
  abbrev pub lending : Clauses 𝓤 lender.ended
  lending = λ κs a. record {
    ghost = Unit {0};
    requires = λ g. emp 𝓤;
    ensures = λ g found e. sep 𝓤 (sem 𝓛 (LendsSlotOf a.0 (take e.1.1.0.now e.1.0.now) (result_ok found)))
        (fact 𝓤 (IsFoundSlot (array_in a.0.now).map (look (array_in a.0.now).map) (a.1.0.now, a.1.1.0.now) (e.1.0.now, e.1.1.0.now) found));
  }

  abbrev pub handing : Clauses 𝓤 f.ended
  handing = λ κs a. record {
    ghost = Unit {0};
    requires = λ g. emp 𝓤;
    ensures = λ g told e. sep 𝓤 (sem 𝓛 (LendsSlotOf a.0 (take e.1.1.0.now e.1.0.now) (lent_where (told == 1) e.1.1.1.0.now)))
        (sep 𝓤
        (fact 𝓤 (IsSaid (slot_says (array_in a.0.now).map (look (array_in a.0.now).map) (record { buffer = a.1.0.now; count = a.1.1.0.now; value = a.1.1.1.0.now.now })
        (record { buffer = e.1.0.now; count = e.1.1.0.now; value = e.1.1.1.0.now.now })) told))
        (fact 𝓤 (IsTold (lent_where (told == 1) e.1.1.1.0.now) (told == 1) a.1.1.1.0.now e.1.1.1.0.now)));
  }

  abbrev pub Lender : Contract 𝓤
  Lender = triple_of 𝓛 lender.signature (closing 𝓛 lender.ended lending)

  pub scans : (Handle' handle' : Ty) (Slice Result' : Sym) (𝓜 : Model 𝓤 𝓛.H) (𝓡 : Running 𝓤 𝓛.H 𝓜) (k lends : Callee) → let 𝓣 = tables 𝓤 𝓛.H 𝓜 𝓡 𝓡.env in
      Closed 𝓤 𝓛.H 𝓣.C 𝓣.Λ k (scanning Handle' handle' Slice Result' lends) → Triple 𝓤 (𝓣.C lends) Lender → Triple 𝓤 (𝓣.C teller.Key.name) (answering.Teller Missing missing_laws IsAnswered 𝓛)
      → Meets 𝓛 f.signature (𝓣.C k) (closing 𝓛 f.ended handing)
  scans Handle' handle' Slice Result' 𝓜 𝓡 k lends closed met told_met =
      let W = walk_of 𝓛 f.ended stayed handing in let framing = framed 𝓤 𝓛.H 𝓜 (tables 𝓤 𝓛.H 𝓜 𝓡 𝓡.env) in
      proved 𝓛 f.ended stayed handing 𝓜 𝓡
      (Goes-spent_ref 𝓛 4 (0 ∷ []) tt (plain (λ _. R)), (Goes-gave_slice 𝓛 4 1 tt (plain (λ _. u8)), (Goes-gave_ref 𝓛 4 2 tt (plain (λ _. usize)), (Goes-gave_ref 𝓛 4 3 tt Pointed, tt))))
      k (scanning Handle' handle' Slice Result' lends) closed
      (λ κs. (mut_vals, (mut_slice_vals, (mut_vals, (mut_vals, tt)))))
      (λ κs. (mut_Tells (named 0) κs.0 R, (mut_slice_Tells (named 1) κs.1.0 u8, (mut_Tells (named 2) κs.1.1.0 usize, (mut_Tells (named 3) κs.1.1.1.0 (Lent κs.0), tt))))) (λ κs qs bounds a _ are.
      let κ = κs.0 in let κ' = κs.1.1.1.0 in let q = qs.0 in let q' = qs.1.1.1.0 in let handle = a.0 in let buffer = a.1.0 in let count = a.1.1.0 in let slot = a.1.1.1.0 in
      let y : W.Ghost = ((κs, qs, bounds, a, (mut_vals handle, (mut_slice_vals buffer, (mut_vals count, (mut_vals slot, tt))))), tt) in
      let token = ‵ (flft κ q) in let bytes = ‵ (flft κs.1.0 qs.1.0) in let word = ‵ (flft κs.1.1.0 qs.1.1.0) in
      qed 𝓛 (((token ⊛ bytes ⊛ word ⊛ ‵ (flft κ' q') ⊛ ‵ ftrue) ⊛ ‵ ((MutRef (named 0) κ R).own_val handle (mut_vals handle)) ⊛ ‵
      ((MutSlice (named 1) κs.1.0 u8).own_val buffer (mut_slice_vals buffer))
      ⊛ ‵ ((MutRef (named 2) κs.1.1.0 usize).own_val count (mut_vals count)) ⊛ ‵ ((Pointer κ κ').own_val slot (mut_vals slot)) ⊛ ‵ ftrue) ∷ ‵ ftrue ∷ []) ∵
      split ! $ split3 ! $ move ! (2 ∷ []) $ split3 ! $ move ! (5 ∷ []) $ split3 ! $ move ! (2 ∷ []) $ split3 ! $ keep ! (8 ∷ 9 ∷ 5 ∷ 3 ∷ 4 ∷ 0 ∷ 6 ∷ 1 ∷ []) $
      -- [the handle's token; the buffer's; the count's; the handle; the buffer; the count; the pointer's token; the pointer]
      enter ! _ _ _ _ _ $ alloc_all ! (λ l. pass_all ! refl ((tt, tt), ((tt, (tt, (record { fits = are.1.0.0.1.0 }, tt))), ((tt, tt), ((tt, tt), tt)))) $
      sets ! (addr ! (through ! refl (stop !))) refl (tt, tt) $ sets ! (addr ! (from ! (fld ! refl (hop ! (look_in_at ! 2 (sub ! 0 refl (whole !))) (stop !))))) refl (tt, tt) $
      sets ! (agg ! (and_then ! (get ! refl) (and_then ! (get_in ! (fld ! refl (stop !)) (sub ! 1 refl (whole !))) (no_more !)))) refl (tt, (tt, (record { fits = are.1.0.0.1.0 }, tt))) $
      sets ! (addr ! (through ! refl (stop !))) refl (tt, tt) $
      nothing ! $ move ! (4 ∷ 5 ∷ 6 ∷ 0 ∷ []) $ group ! 4 $ nothing ! $ move ! (2 ∷ 3 ∷ 4 ∷ 0 ∷ []) $ group ! 4 $ join ! $ nothing ! $ move ! (1 ∷ 0 ∷ []) $
      let z : Lender.Ghost = (
        ((κ, (κs.1.0, (κs.1.1.0, tt))), (q, (qs.1.0, (qs.1.1.0, tt))), tt, (handle, (buffer, (count, tt))), (mut_vals handle, (mut_slice_vals buffer, (mut_vals count, tt)))),
        tt,
      ) in
      use2 𝓛 (raw (Lender.pre z)) (id⊢ 𝓤 _) $
      calls_at ! framing Lender met z (and_then ! (get ! refl) (and_then ! (get ! refl) (and_then ! (get ! refl) (no_more !)))) (λ v.
      use1 𝓛 (later (some (λ (found : Result (MutBor ℕ) Missed). ((token ⊛ bytes ⊛ word ⊛ ‵ ftrue) ⊛ ‵ ((Made κ).own_val found (v ∷ []))) ⊛ some (λ (ws : Lasts lender.ended z.0.0 z.0.3).
      ‵ (lasts lender.ended z.0.0 z.0.3 ws) ⊛ (‵ (LendsSlotOf handle (take ws.1.1.0 ws.1.0) (result_ok found)) ⊛ raw
      (fact 𝓤 (IsFoundSlot (array_in handle.now).map (look (array_in handle.now).map) (buffer.now, count.now) (ws.1.0, ws.1.1.0) found))))))) (id⊢ 𝓤 _) $
      await ! tt $ pick ! (λ found. split ! $ split ! $ split3 ! $ move ! (2 ∷ []) $ split ! $ move ! (5 ∷ []) $ pick ! (λ ws. split ! $
      fsplit ! $ drop ! $ fsplit ! $ fsplit ! $ fsplit ! $ move ! (1 ∷ []) $ feq_l ! (λ long. fjoin ! $ move ! (1 ∷ []) $ fsplit ! $ move ! (1 ∷ []) $ drop ! $ move !
      (2 ∷ []) $ split ! $ move ! (1 ∷ []) $ heard ! _ (λ scanned.
      -- [what the handle becomes; what is left of the count, and of the buffer; the count's token; nothing; the handle's token; the buffer's; what was found; the pointer's token; the pointer]
      move ! (7 ∷ []) $ peeks ! (Made κ) (Is (Made κ)) (shows 𝓛 (Made κ)) found (v ∷ []) (λ typed. lands_as ! refl refl (answering.made_typed Missing missing_laws IsAnswered 𝓛 κ found v typed) $
      sets ! (addr ! (through ! refl (stop !))) refl (tt, tt) $
      move ! (6 ∷ 8 ∷ 5 ∷ []) $ group ! 3 $ move ! (1 ∷ 7 ∷ 0 ∷ []) $
      answering.answers Missing missing_laws IsAnswered 𝓛 κ κ' q q' bounds.0 found v slot ! framing told_met (and_then ! (get ! refl) (and_then ! (get ! refl) (no_more !))) (λ told last fits is.
      let same = handed (result_ok found) (told == 1) slot.now last is.1 in lands_as ! refl refl (tt, record { fits = fits }) $ returns ! (look_at ! 0 refl) $ free_all ! refl $
      -- [what is left of the pointer; the tokens; what the handle becomes; what is left of the count, and of the buffer; the count's token; the buffer's]
      rewrite ! 2 (λ (o : Option (MutBor ℕ)). ‵ (LendsSlotOf handle (take ws.1.1.0 ws.1.0) o)) (sym same) refl $
      move ! (1 ∷ []) $ split3 ! $ move ! (0 ∷ 8 ∷ 7 ∷ 1 ∷ 2 ∷ []) $ group ! 5 $ move ! (1 ∷ 0 ∷ []) $
      suffices ! _ (ends_at 𝓛 f.ended stayed handing y (vint w32 told) told (tt, (ws.1.0, (ws.1.1.0, (last, tt)))) (tt, (long, (tt, (tt, tt))))) $
      nothing ! $ move ! (1 ∷ 0 ∷ []) $ fjoin ! $ move ! (3 ∷ 0 ∷ []) $ fjoin ! $ move ! (3 ∷ 0 ∷ []) $ fjoin ! $ nothing ! $ fjoin ! $
      flt_i ! told (2 ^ 32) fits $ feq_i ! (List Val) (vint w32 told ∷ []) (vint w32 told ∷ []) refl $ fjoin ! $ move ! (2 ∷ 1 ∷ 0 ∷ []) $
      group ! 3 $ frame ! $ frame ! $ says ! (subst (λ (o : Option (MutBor ℕ)). IsTold o (told == 1) slot.now last) (sym same) is.1) $
      use0 𝓛 (raw (fact 𝓤 (IsSaid (slot_says (array_in handle.now).map (look (array_in handle.now).map) (record { buffer = buffer.now; count = count.now; value = slot.now.now })
      (record { buffer = ws.1.0; count = ws.1.1.0; value = last.now })) told)))
      (fact_i 𝓤 _ (emp 𝓤) (said (array_in handle.now).map (look (array_in handle.now).map) (buffer.now, count.now) (ws.1.0, ws.1.1.0) found told slot.now last scanned is)) $ done !)))))))))
