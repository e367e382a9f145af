-- The two calls of C that put a byte string in and hand its slot out, as one walk, as `KeySlots` is of those that look one up. Assumes `Logic`.
use Rattle.std.proofs.Common.{◌≡◌, ℕ, ◌^◌, Option, Some, List, [], ◌∷◌, Result, refl, sym, subst, w32, MutBor}
use Rattle.std.specs.Prelude.{◌++◌, take as front, drop as rest}
use Rattle.std.proofs.raw_atomic.Walks.{proved}
use seplogic.Ra.Ura.{Ura}
use base.Logic.{sep, emp, id⊢}
use base.Fml.{Lft, ftrue, flft}
use mir.Syntax.{named, erased, mut, imm, Callee, Sym, Ty, ty_int, ty_ref, ty_struct, ty_enum, tnil, tcons, ttnil, ttcons, w8, w64, Fn, local, value_local, seq, assign, call, place}
use mir.Syntax.{deref, addr_of, copy, return}
use mir.Val.{Val, vint}
use contract.Monad.{fact, fact_i}
use contract.Running.{Running, tables}
use prog.Model.{Model}
use prog.Wp.{Closed}
use types.Logic.{Logic, sem}
use types.Kit.{‵, raw, ◌⊛◌, some, later, ◌$◌, ◌∵◌, !, qed, done, move, keep, drop, use0, use1, use2, split, split3, join, pick, await, rewrite, suffices, frame, group, fjoin, feq_i, flt_i}
use types.Run.{enter, addr, stop, no_more, and_then, returns}
use types.ByLocal.{alloc_all, pass_all, free_all, look_at, get, through, sets, lands_as}
use denote.Builtin.{u8, u64, RefMutOf, One}
use denote.Exit.{yes, no}
use denote.Laws.{Is, shows}
use denote.Memory.{lone}
use denote.RattleType.{RattleType}
use denote.Ref.{MutRef, mut_vals, mut_Tells}
use denote.Signature.{Slot, plain, mut_ref_to, shr_slice_of}
use denote.Slice.{ShrSlice, shr_slice_vals, shr_slice_Tells}
use denote.Steps.{nothing, heard, peeks}
use denote.Triple.Call.{calls_at}
use denote.Triple.Clauses.{Ended, Clauses, closing, Lasts, lasts}
use denote.Triple.Spec.{Meets, triple_of}
use denote.Triple.Statement.{Contract, Triple}
use denote.Triple.Table.{framed}
use denote.Triple.Walked.{Stays, walk_of, says, stay_dropped, gave_ref, Goes-dropped, Goes-spent_ref, Goes-gave_ref, ends_at}
use Rattle.std_heap.specs.contracts.Global.{the_row as Heap}
use Rattle.std_heap.proofs.Handle.{heap_val, heap_Tells}
use Rattle.judy_model.specs.Keys.{byte_order}
use Rattle.judy_model.specs.Arrays.{ArrayOf}
use Rattle.judy_c.specs.Answers.{answered, IsHanded}
use Rattle.judy_c.specs.KeyInserts.{IsMade, IsMadeAs}
use Rattle.judy_c.specs.KeySlots.{LendsInsOf, LendsAnswered}
use Rattle.judy_c.specs.declared.answers.InsertRefusal.{InsertRefusal}
use Rattle.judy_c.specs.contracts.answers.InsertRefusal.{the_row as Refused}
use Rattle.judy_c.specs.contracts.answers.answer_insert as teller
use Rattle.judy_c.specs.contracts.strings.Strings.ins as lender
use Rattle.judy_c.proofs.HandsOut.{Lent, Pointer, heap_typed}
use Rattle.judy_c.proofs.answers.InsertRefusal.TheLaws.{the_row_laws as refused_laws}
use Rattle.judy_c.proofs.Answering as answering_made
use Rattle.judy_c.specs.contracts.judysl.sellumaq_judysl_ins as f

abbrev Key : Slot 3
Key = shr_slice_of (1 ∷ []) tt (plain (λ _. u8))

-- what is said of an insert's answer
abbrev IsAnswered : Result (MutBor ℕ) InsertRefusal → ℕ → MutBor ℕ → MutBor ℕ → Type 0
IsAnswered made told before after = (answered told after ≡ Some made) × IsHanded (Some made) before after

abbrev Made : Lft → RattleType
Made = answering_made.Made Refused refused_laws IsAnswered

abbrev Pointed : Slot 3
Pointed = mut_ref_to (0 ∷ []) tt (plain (λ _. u64))

-- the machine code: the handle's type as it is written and as it is spelled out, the names of a slice and of `Result`, and the call that lends
abbrev pub inserting : Ty → Ty → Sym → Sym → Callee → Fn
inserting Handle' handle' Slice Result' lends =
    let word = ty_ref erased mut (ty_int w64) in record {
      lifetimes = 3;
      outlives = (0, 2) ∷ [];
      ty_params = [];
      givens = 0;
      params = 4;
      locals = local (ty_int w32) value_local ∷ local (lone Heap.mir) value_local ∷ local (ty_ref (named 0) mut Handle') value_local
          ∷ local (ty_struct Slice (tcons (ty_ref (named 1) imm (ty_int w8)) (tcons (ty_int w64) tnil))) value_local ∷ local (ty_ref (named 2) mut (ty_ref (named 0) mut (ty_int w64))) value_local
          ∷ local (ty_enum Result' (ttcons (tcons word tnil) (ttcons (tcons (lone Refused.mir) tnil) ttnil))) value_local
          ∷ local (ty_ref erased mut Handle') value_local ∷ local (ty_ref erased mut word) value_local ∷ [];
      body = seq (assign (place 6 []) (addr_of (place 2 (deref handle' ∷ [])))) (seq (call lends (copy (place 6 []) ∷ copy (place 1 []) ∷ copy (place 3 []) ∷ []) (place 5 []))
          (seq (assign (place 7 []) (addr_of (place 4 (deref word ∷ [])))) (seq (call teller.Key.name (copy (place 5 []) ∷ copy (place 7 []) ∷ []) (place 0 [])) return)));
    }

module _ (R : RattleType) (one : One R.mir) (array_in : R.Denot → ArrayOf byte_order) (IsKey : List ℕ → Type 0) where
  -- the call that lends, and the one that answers, of a handle of the type
  abbrev pub lent : Ended
  lent = record {
    signature = record {
      lifetimes = 2;
      outlives = lender.signature.outlives;
      params = RefMutOf (0 ∷ []) tt (plain (λ κs. R)) (λ κs. one) ∷ rest 1 lender.signature.params;
      result = lender.signature.result;
    };
    kept = lender.ended.kept;
  }

  abbrev pub answered_by : Ended
  answered_by = record {
    signature = record {
      lifetimes = 3;
      outlives = f.signature.outlives;
      params = front 1 f.signature.params ++ RefMutOf (0 ∷ []) tt (plain (λ κs. R)) (λ κs. one) ∷ rest 2 f.signature.params;
      result = f.signature.result;
    };
    kept = f.ended.kept;
  }

  abbrev Handle : Slot 3
  Handle = mut_ref_to (0 ∷ []) tt (plain (λ _. R))

  abbrev stayed : Stays answered_by.signature.params answered_by.kept
  stayed = (stay_dropped (plain (λ _. Heap)) yes, (stay_dropped Handle no, (stay_dropped Key yes, (gave_ref (2 ∷ []) tt Pointed, tt))))

  module _ {M : Type 1} (𝓤 : Ura M) (𝓛 : Logic 𝓤) where
    -- their contracts
    abbrev pub lending : Clauses 𝓤 lent
    lending = λ κs a. record {
      ghost = Unit {0};
      requires = λ g. emp 𝓤;
      ensures = λ g made e. sep 𝓤 (sem 𝓛 (LendsInsOf R array_in a.0 a.1.1.0.now made)) (fact 𝓤 (IsMade IsKey (array_in a.0.now) a.1.1.0.now made));
    }

    abbrev pub answering : Clauses 𝓤 answered_by
    answering = λ κs a. record {
      ghost = Unit {0};
      requires = λ g. emp 𝓤;
      ensures = λ g told e. sep 𝓤 (sem 𝓛 (LendsAnswered R array_in a.1.0 a.1.1.0.now (answered told e.1.1.1.0.now)))
          (sep 𝓤 (fact 𝓤 (IsMadeAs IsKey (array_in a.1.0.now) a.1.1.0.now (answered told e.1.1.1.0.now))) (fact 𝓤 (IsHanded (answered told e.1.1.1.0.now) a.1.1.1.0.now e.1.1.1.0.now)));
    }

    abbrev pub Lender : Contract 𝓤
    Lender = triple_of 𝓛 lent.signature (closing 𝓛 lent lending)

    pub answers_slot : (Handle' handle' : Ty) (Slice Result' : Sym) (𝓜 : Model 𝓤 𝓛.H) (𝓡 : Running 𝓤 𝓛.H 𝓜) (k lends : Callee) → let 𝓣 = tables 𝓤 𝓛.H 𝓜 𝓡 𝓡.env in
        Closed 𝓤 𝓛.H 𝓣.C 𝓣.Λ k (inserting Handle' handle' Slice Result' lends) → Triple 𝓤 (𝓣.C lends) Lender → Triple 𝓤 (𝓣.C teller.Key.name) (answering_made.Teller Refused refused_laws IsAnswered 𝓛)
        → Meets 𝓛 answered_by.signature (𝓣.C k) (closing 𝓛 answered_by answering)
    answers_slot Handle' handle' Slice Result' 𝓜 𝓡 k lends closed met told_met =
        let W = walk_of 𝓛 answered_by stayed answering in let framing = framed 𝓤 𝓛.H 𝓜 (tables 𝓤 𝓛.H 𝓜 𝓡 𝓡.env) in
        proved 𝓛 answered_by stayed answering 𝓜 𝓡 (
          Goes-dropped 𝓛 3 (plain (λ _. Heap)) yes (λ κs x w. refl),
          (Goes-spent_ref 𝓛 3 (0 ∷ []) tt (plain (λ _. R)), (Goes-dropped 𝓛 3 Key yes (λ κs x w. refl), (Goes-gave_ref 𝓛 3 2 tt Pointed, tt))),
        )
        k (inserting Handle' handle' Slice Result' lends) closed
        (λ κs. ((λ _. heap_val ∷ []), (mut_vals, (shr_slice_vals, (mut_vals, tt))))) (λ κs. (
          heap_Tells,
          (mut_Tells (named 0) κs.0 R, (shr_slice_Tells (named 1) κs.1.0 u8, (mut_Tells (named 2) κs.1.1.0 (Lent κs.0), tt))),
        )) (λ κs qs bounds a _ are.
        let κ = κs.0 in let κ' = κs.1.1.0 in let q = qs.0 in let q' = qs.1.1.0 in let alloc = a.0 in let handle = a.1.0 in let key = a.1.1.0 in let slot = a.1.1.1.0 in
        let y : W.Ghost = ((κs, qs, bounds, a, (heap_val ∷ [], (mut_vals handle, (shr_slice_vals key, (mut_vals slot, tt))))), tt) in
        let token = ‵ (flft κ q) in let read = ‵ (flft κs.1.0 qs.1.0) in
        qed 𝓛 (((token ⊛ read ⊛ ‵ (flft κ' q') ⊛ ‵ ftrue) ⊛ ‵ (Heap.own_val alloc (heap_val ∷ [])) ⊛ ‵ ((MutRef (named 0) κ R).own_val handle (mut_vals handle)) ⊛ ‵
        ((ShrSlice (named 1) κs.1.0 u8).own_val key (shr_slice_vals key))
        ⊛ ‵ ((Pointer κ κ').own_val slot (mut_vals slot)) ⊛ ‵ ftrue) ∷ ‵ ftrue ∷ []) ∵
        split ! $ split3 ! $ move ! (2 ∷ []) $ split ! $ move ! (4 ∷ []) $ split3 ! $ move ! (2 ∷ []) $ split3 ! $ keep ! (7 ∷ 8 ∷ 3 ∷ 4 ∷ 0 ∷ 5 ∷ 1 ∷ []) $
        -- [the handle's token; the key's token; the allocator; the handle; the key; the pointer's token; the pointer]
        enter ! _ _ _ _ _ $ alloc_all ! (λ l. pass_all ! refl ((heap_typed 𝓛 alloc are.0, ((tt, tt), ((tt, (tt, (record { fits = are.1.1.0.0.1.0 }, tt))), ((tt, tt), tt))))) $
        sets ! (addr ! (through ! refl (stop !))) refl (tt, tt) $
        nothing ! $ move ! (4 ∷ 3 ∷ 5 ∷ 0 ∷ []) $ group ! 4 $ nothing ! $ move ! (2 ∷ 3 ∷ 0 ∷ []) $ group ! 3 $ join ! $ nothing ! $ move ! (1 ∷ 0 ∷ []) $
        let z : Lender.Ghost = (((κ, (κs.1.0, tt)), (q, (qs.1.0, tt)), tt, (handle, (alloc, (key, tt))), (mut_vals handle, (heap_val ∷ [], (shr_slice_vals key, tt)))), tt) in
        use2 𝓛 (raw (Lender.pre z)) (id⊢ 𝓤 _) $
        calls_at ! framing Lender met z (and_then ! (get ! refl) (and_then ! (get ! refl) (and_then ! (get ! refl) (no_more !)))) (λ v.
        use1 𝓛 (later (some (λ (made : Result (MutBor ℕ) InsertRefusal). ((token ⊛ read ⊛ ‵ ftrue) ⊛ ‵ ((Made κ).own_val made (v ∷ []))) ⊛ some (λ (ws : Lasts lent z.0.0 z.0.3).
        ‵ (lasts lent z.0.0 z.0.3 ws) ⊛ (‵ (LendsInsOf R array_in handle key.now made) ⊛ raw (fact 𝓤 (IsMade IsKey (array_in handle.now) key.now made))))))) (id⊢ 𝓤 _) $
        await ! tt $ pick ! (λ made. split ! $ split ! $ split3 ! $ move ! (4 ∷ []) $ pick ! (λ _. split ! $ drop ! $ split ! $ move ! (1 ∷ []) $ heard ! _ (λ value.
        -- [what the handle becomes; its token; the key's token; nothing; what the insert made; the pointer's token; the pointer]
        move ! (4 ∷ []) $ peeks ! (Made κ) (Is (Made κ)) (shows 𝓛 (Made κ)) made (v ∷ []) (λ is. lands_as ! refl refl (answering_made.made_typed Refused refused_laws IsAnswered 𝓛 κ made v is) $
        sets ! (addr ! (through ! refl (stop !))) refl (tt, tt) $
        move ! (2 ∷ 5 ∷ 4 ∷ []) $ group ! 3 $ move ! (1 ∷ 4 ∷ 0 ∷ []) $
        answering_made.answers Refused refused_laws IsAnswered 𝓛 κ κ' q q' bounds.0 made v slot ! framing told_met (and_then ! (get ! refl) (and_then ! (get ! refl) (no_more !)))
        (λ told last fits handed.
        lands_as ! refl refl (tt, record { fits = fits }) $ returns ! (look_at ! 0 refl) $ free_all ! refl $
        -- [what is left of the pointer; the tokens; what the handle becomes; the key's token]
        rewrite ! 2 (λ (o : Option (Result (MutBor ℕ) InsertRefusal)). ‵ (LendsAnswered R array_in handle key.now o)) (sym handed.0) refl $
        move ! (1 ∷ []) $ split3 ! $ move ! (0 ∷ 5 ∷ 1 ∷ 2 ∷ []) $ group ! 4 $ move ! (1 ∷ 0 ∷ []) $
        suffices ! _ (ends_at 𝓛 answered_by stayed answering y (vint w32 told) told (tt, (tt, (tt, (last, tt)))) (tt, (tt, (tt, (tt, tt))))) $
        nothing ! $ move ! (1 ∷ 0 ∷ []) $ fjoin ! $ nothing ! $ fjoin ! $ nothing ! $ fjoin ! $ nothing ! $ fjoin ! $
        flt_i ! told (2 ^ 32) fits $ feq_i ! (List Val) (vint w32 told ∷ []) (vint w32 told ∷ []) refl $ fjoin ! $ move ! (2 ∷ 1 ∷ 0 ∷ []) $
        group ! 3 $ frame ! $ frame ! $ says ! (subst (λ (o : Option (Result (MutBor ℕ) InsertRefusal)). IsHanded o slot.now last) (sym handed.0) handed.1) $
        use0 𝓛 (raw (fact 𝓤 (IsMadeAs IsKey (array_in handle.now) key.now (answered told last)))) (fact_i 𝓤 _ (emp 𝓤)
        (subst (IsMadeAs IsKey (array_in handle.now) key.now) (sym handed.0) value)) $ done !))))))))
