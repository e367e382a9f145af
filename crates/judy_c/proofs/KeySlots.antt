-- The two calls of C that hand out the slot of a byte string, as one walk. Each gives the handle to one call and the caller's pointer to the other, each for
-- good, and they differ in the handle. Assumes `Logic`.
use Rattle.std.proofs.Common.{◌≡◌, ℕ, Option, List, [], ◌∷◌, refl, sym, ap, subst, ◌∙◌, MutBor}
use Rattle.std.specs.Prelude.{drop as rest}
use Rattle.std.proofs.raw_atomic.Walks.{proved}
use seplogic.Ra.Ura.{Ura}
use base.Logic.{sep, emp, id⊢}
use base.Fml.{ftrue, flft}
use mir.Syntax.{named, erased, mut, imm, Callee, Sym, Ty, ty_int, ty_bool, ty_ref, ty_struct, ty_enum, tnil, tcons, ttnil, ttcons, w8, w64, Fn, local, value_local, seq, assign}
use mir.Syntax.{call, place, deref, addr_of, copy, return}
use mir.Val.{Val, vbool}
use contract.Monad.{fact, fact_i}
use contract.Running.{Running, tables}
use prog.Model.{Model}
use prog.Wp.{Closed}
use types.Logic.{Logic, sem}
use types.Kit.{‵, raw, ◌⊛◌, some, later, ◌$◌, ◌∵◌, !, qed, done, move, keep, drop, use0, use1, use2, split, split3, join, pick, await, rewrite, suffices, frame, group, fjoin, feq_i}
use types.Run.{enter, addr, stop, no_more, and_then, returns}
use types.ByLocal.{alloc_all, pass_all, free_all, look_at, get, through, sets, lands_as}
use denote.Builtin.{u8, u64, RefMutOf, One}
use denote.Exit.{yes, no}
use denote.Laws.{Is, shows}
use denote.RattleType.{RattleType}
use denote.Ref.{MutRef, mut_vals, mut_Tells}
use denote.Signature.{Slot, plain, mut_ref_to, shr_slice_of}
use denote.Slice.{ShrSlice, shr_slice_vals, shr_slice_Tells}
use denote.Steps.{nothing, heard, peeks}
use denote.Triple.Call.{calls_at}
use denote.Triple.Clauses.{Ended, Clauses, closing, Lasts, lasts}
use denote.Triple.Spec.{Meets, triple_of}
use denote.Triple.Statement.{Contract, Triple}
use denote.Triple.Table.{framed}
use denote.Triple.Walked.{Stays, walk_of, says, stay_dropped, gave_ref, Goes-dropped, Goes-spent_ref, Goes-gave_ref, ends_at}
use Rattle.std.specs.Option.{option_copied_mut}
use Rattle.std.specs.FinMap as map
use Rattle.judy_model.specs.Keys.{byte_order}
use Rattle.judy_model.specs.Arrays.{ArrayOf}
use Rattle.judy_c.specs.Told.{IsTold, lent_where}
use Rattle.judy_c.specs.KeySlots.{LendsSlotOf}
use Rattle.judy_c.specs.contracts.strings.Strings.slot as lender
use Rattle.judy_c.specs.contracts.told.hand_out as teller
use Rattle.judy_c.proofs.HandsOut.{Found, Lent, Pointer, Teller, found_typed, hands_out, handed}
use Rattle.judy_c.specs.contracts.judysl.sellumaq_judysl_slot as f

abbrev Key : Slot 3
Key = shr_slice_of (1 ∷ []) tt (plain (λ _. u8))

abbrev Pointed : Slot 3
Pointed = mut_ref_to (0 ∷ []) tt (plain (λ _. u64))

-- the machine code: the handle's type as it is written and as it is spelled out, the names of a slice and of `Option`, and the call that lends
abbrev pub slotting : Ty → Ty → Sym → Sym → Callee → Fn
slotting Handle' handle' Slice Option' lends =
    let word = ty_ref erased mut (ty_int w64) in record {
      lifetimes = 3;
      outlives = (0, 2) ∷ [];
      ty_params = [];
      givens = 0;
      params = 3;
      locals = local ty_bool value_local ∷ local (ty_ref (named 0) mut Handle') value_local ∷ local (ty_struct Slice (tcons (ty_ref (named 1) imm (ty_int w8)) (tcons (ty_int w64) tnil))) value_local
          ∷ local (ty_ref (named 2) mut (ty_ref (named 0) mut (ty_int w64))) value_local ∷ local (ty_enum Option' (ttcons tnil (ttcons (tcons word tnil) ttnil))) value_local
          ∷ local (ty_ref erased mut Handle') value_local ∷ local (ty_ref erased mut word) value_local ∷ [];
      body = seq (assign (place 5 []) (addr_of (place 1 (deref handle' ∷ [])))) (seq (call lends (copy (place 5 []) ∷ copy (place 2 []) ∷ []) (place 4 []))
          (seq (assign (place 6 []) (addr_of (place 3 (deref word ∷ [])))) (seq (call teller.Key.name (copy (place 4 []) ∷ copy (place 6 []) ∷ []) (place 0 [])) return)));
    }

module _ (R : RattleType) (one : One R.mir) (array_in : R.Denot → ArrayOf byte_order) where
  -- the call that lends, and the one that hands out, of a handle of the type
  abbrev pub lent : Ended
  lent = record {
    signature = record {
      lifetimes = 2;
      outlives = lender.signature.outlives;
      params = RefMutOf (0 ∷ []) tt (plain (λ κs. R)) (λ κs. one) ∷ rest 1 lender.signature.params;
      result = lender.signature.result;
    };
    kept = lender.ended.kept;
  }

  abbrev pub handed_out : Ended
  handed_out = record {
    signature = record {
      lifetimes = 3;
      outlives = f.signature.outlives;
      params = RefMutOf (0 ∷ []) tt (plain (λ κs. R)) (λ κs. one) ∷ rest 1 f.signature.params;
      result = f.signature.result;
    };
    kept = f.ended.kept;
  }

  abbrev Handle : Slot 3
  Handle = mut_ref_to (0 ∷ []) tt (plain (λ _. R))

  abbrev stayed : Stays handed_out.signature.params handed_out.kept
  stayed = (stay_dropped Handle no, (stay_dropped Key yes, (gave_ref (2 ∷ []) tt Pointed, tt)))

  module _ {M : Type 1} (𝓤 : Ura M) (𝓛 : Logic 𝓤) where
    -- their contracts
    abbrev pub lending : Clauses 𝓤 lent
    lending = λ κs a. record {
      ghost = Unit {0};
      requires = λ g. emp 𝓤;
      ensures = λ g found e. sep 𝓤 (sem 𝓛 (LendsSlotOf R array_in a.0 a.1.0.now found)) (fact 𝓤 (option_copied_mut found ≡ map.get (array_in a.0.now).map a.1.0.now));
    }

    abbrev pub handing : Clauses 𝓤 handed_out
    handing = λ κs a. record {
      ghost = Unit {0};
      requires = λ g. emp 𝓤;
      ensures = λ g told e. sep 𝓤 (sem 𝓛 (LendsSlotOf R array_in a.0 a.1.0.now (lent_where told e.1.1.0.now)))
          (sep 𝓤 (fact 𝓤 (option_copied_mut (lent_where told e.1.1.0.now) ≡ map.get (array_in a.0.now).map a.1.0.now)) (fact 𝓤 (IsTold (lent_where told e.1.1.0.now) told a.1.1.0.now e.1.1.0.now)));
    }

    abbrev pub Lender : Contract 𝓤
    Lender = triple_of 𝓛 lent.signature (closing 𝓛 lent lending)

    pub hands_out_slot : (Handle' handle' : Ty) (Slice Option' : Sym) (𝓜 : Model 𝓤 𝓛.H) (𝓡 : Running 𝓤 𝓛.H 𝓜) (k lends : Callee) → let 𝓣 = tables 𝓤 𝓛.H 𝓜 𝓡 𝓡.env in
        Closed 𝓤 𝓛.H 𝓣.C 𝓣.Λ k (slotting Handle' handle' Slice Option' lends) → Triple 𝓤 (𝓣.C lends) Lender → Triple 𝓤 (𝓣.C teller.Key.name) (Teller 𝓛 𝓜.mem 𝓡.returns)
        → Meets 𝓛 handed_out.signature (𝓣.C k) (closing 𝓛 handed_out handing)
    hands_out_slot Handle' handle' Slice Option' 𝓜 𝓡 k lends closed met told_met =
        let W = walk_of 𝓛 handed_out stayed handing in let framing = framed 𝓤 𝓛.H 𝓜 (tables 𝓤 𝓛.H 𝓜 𝓡 𝓡.env) in
        proved 𝓛 handed_out stayed handing 𝓜 𝓡 (Goes-spent_ref 𝓛 3 (0 ∷ []) tt (plain (λ _. R)), (Goes-dropped 𝓛 3 Key yes (λ κs x w. refl), (Goes-gave_ref 𝓛 3 2 tt Pointed, tt)))
        k (slotting Handle' handle' Slice Option' lends) closed
        (λ κs. (mut_vals, (shr_slice_vals, (mut_vals, tt)))) (λ κs. (mut_Tells (named 0) κs.0 R, (shr_slice_Tells (named 1) κs.1.0 u8, (mut_Tells (named 2) κs.1.1.0 (Lent κs.0), tt))))
        (λ κs qs bounds a _ are.
        let κ = κs.0 in let κ' = κs.1.1.0 in let q = qs.0 in let q' = qs.1.1.0 in let handle = a.0 in let key = a.1.0 in let slot = a.1.1.0 in
        let y : W.Ghost = ((κs, qs, bounds, a, (mut_vals handle, (shr_slice_vals key, (mut_vals slot, tt)))), tt) in
        let token = ‵ (flft κ q) in let read = ‵ (flft κs.1.0 qs.1.0) in
        qed 𝓛 (((token ⊛ read ⊛ ‵ (flft κ' q') ⊛ ‵ ftrue) ⊛ ‵ ((MutRef (named 0) κ R).own_val handle (mut_vals handle)) ⊛ ‵ ((ShrSlice (named 1) κs.1.0 u8).own_val key (shr_slice_vals key))
        ⊛ ‵ ((Pointer κ κ').own_val slot (mut_vals slot)) ⊛ ‵ ftrue) ∷ ‵ ftrue ∷ []) ∵
        split ! $ split3 ! $ move ! (2 ∷ []) $ split ! $ move ! (4 ∷ []) $ split3 ! $ move ! (2 ∷ []) $ split ! $ keep ! (6 ∷ 7 ∷ 2 ∷ 3 ∷ 4 ∷ 0 ∷ []) $
        -- [the handle's token; the key's token; the handle; the key; the pointer's token; the pointer]
        enter ! _ _ _ _ _ $ alloc_all ! (λ l. pass_all ! refl ((tt, tt), ((tt, (tt, (record { fits = are.1.0.0.1.0 }, tt))), ((tt, tt), tt))) $
        sets ! (addr ! (through ! refl (stop !))) refl (tt, tt) $
        nothing ! $ move ! (3 ∷ 4 ∷ 0 ∷ []) $ group ! 3 $ nothing ! $ move ! (2 ∷ 3 ∷ 0 ∷ []) $ group ! 3 $ join ! $ nothing ! $ move ! (1 ∷ 0 ∷ []) $
        let z : Lender.Ghost = (((κ, (κs.1.0, tt)), (q, (qs.1.0, tt)), tt, (handle, (key, tt)), (mut_vals handle, (shr_slice_vals key, tt))), tt) in
        use2 𝓛 (raw (Lender.pre z)) (id⊢ 𝓤 _) $
        calls_at ! framing Lender met z (and_then ! (get ! refl) (and_then ! (get ! refl) (no_more !))) (λ v.
        use1 𝓛 (later (some (λ (found : Option (MutBor ℕ)). ((token ⊛ read ⊛ ‵ ftrue) ⊛ ‵ ((Found κ).own_val found (v ∷ []))) ⊛ some (λ (ws : Lasts lent z.0.0 z.0.3).
        ‵ (lasts lent z.0.0 z.0.3 ws) ⊛ (‵ (LendsSlotOf R array_in handle key.now found) ⊛ raw (fact 𝓤 (option_copied_mut found ≡ map.get (array_in handle.now).map key.now))))))) (id⊢ 𝓤 _) $
        await ! tt $ pick ! (λ found. split ! $ split ! $ split3 ! $ move ! (4 ∷ []) $ pick ! (λ _. split ! $ drop ! $ split ! $ move ! (1 ∷ []) $ heard ! _ (λ value.
        -- [what the handle becomes; its token; the key's token; nothing; the slot or none; the pointer's token; the pointer]
        move ! (4 ∷ []) $ peeks ! (Found κ) (Is (Found κ)) (shows 𝓛 (Found κ)) found (v ∷ []) (λ is. lands_as ! refl refl (found_typed 𝓛 κ found v is) $
        sets ! (addr ! (through ! refl (stop !))) refl (tt, tt) $
        move ! (2 ∷ 5 ∷ 4 ∷ []) $ group ! 3 $ move ! (1 ∷ 4 ∷ 0 ∷ []) $
        hands_out 𝓛 𝓜.mem 𝓡.returns κ κ' q q' bounds.0 found v slot ! framing told_met (and_then ! (get ! refl) (and_then ! (get ! refl) (no_more !))) (λ told last is_told.
        let same = handed found told slot.now last is_told in lands_as ! refl refl (tt, tt) $ returns ! (look_at ! 0 refl) $ free_all ! refl $
        -- [what is left of the pointer; the tokens; what the handle becomes; the key's token]
        rewrite ! 2 (λ (o : Option (MutBor ℕ)). ‵ (LendsSlotOf R array_in handle key.now o)) (sym same) refl $
        move ! (1 ∷ []) $ split3 ! $ move ! (0 ∷ 5 ∷ 1 ∷ 2 ∷ []) $ group ! 4 $ move ! (1 ∷ 0 ∷ []) $
        suffices ! _ (ends_at 𝓛 handed_out stayed handing y (vbool told) told (tt, (tt, (last, tt))) (tt, (tt, (tt, tt)))) $
        nothing ! $ move ! (1 ∷ 0 ∷ []) $ fjoin ! $ nothing ! $ fjoin ! $ nothing ! $ fjoin ! $ feq_i ! (List Val) (vbool told ∷ []) (vbool told ∷ []) refl $ move ! (2 ∷ 1 ∷ 0 ∷ []) $
        group ! 3 $ frame ! $ frame ! $ says ! (subst (λ (o : Option (MutBor ℕ)). IsTold o told slot.now last) (sym same) is_told) $
        use0 𝓛 (raw (fact 𝓤 (option_copied_mut (lent_where told last) ≡ map.get (array_in handle.now).map key.now))) (fact_i 𝓤 _ (emp 𝓤) (ap option_copied_mut same ∙ value)) $ done !))))))))
