-- `sellumaq_judyl_ins` gives the handle to the one call and the caller's pointer to the other, each for good. Assumes `Logic`.
use Rattle.std.proofs.Common.{ℕ, Option, List, [], ◌∷◌, refl, sym, subst, w64, MutBor}
use Rattle.std.proofs.raw_atomic.Walks.{proved}
use base.Logic.{emp, id⊢}
use base.Fml.{ftrue, flft}
use mir.Syntax.{named}
use mir.Val.{Val, vbool}
use contract.Monad.{fact, fact_i}
use contract.Running.{tables}
use types.Kit.{‵, raw, ◌⊛◌, some, later, ◌$◌, ◌∵◌, !, qed, done, move, keep, drop, use0, use1, use2, split, split3, join, pick, await, rewrite, suffices, frame, group, fjoin, feq_i}
use types.Run.{enter, addr, stop, no_more, and_then, returns}
use types.ByLocal.{alloc_all, pass_all, free_all, look_at, get, through, sets, lands_as}
use denote.Builtin.{u64}
use denote.Exit.{yes, no}
use denote.Laws.{Is, shows}
use denote.Plain.{uint_vals, uint_Tells}
use denote.Ref.{MutRef, mut_vals, mut_Tells}
use denote.Signature.{Slot, plain, mut_ref_to}
use denote.Steps.{nothing, heard, peeks}
use denote.Triple.Call.{calls_at}
use denote.Triple.Clauses.{Lasts, lasts}
use denote.Triple.Spec.{triple_of}
use denote.Triple.Table.{framed}
use denote.Triple.Walked.{Stays, walk_of, says, stay_dropped, gave_ref, Goes-dropped, Goes-spent_ref, Goes-gave_ref, ends_at}
use Rattle.std_heap.specs.contracts.Global.{the_row as Heap}
use Rattle.std_heap.proofs.Handle.{heap_val, heap_Tells}
use Rattle.judy_c.specs.Puts.{IsMade}
use Rattle.judy_c.specs.Maps.{map_of}
use Rattle.judy_c.specs.Told.{IsTold, lent_where}
use Rattle.judy_c.specs.SlotLends.{LendsSlotOf}
use Rattle.judy_c.specs.contracts.map.Map.{the_row as R}
use Rattle.judy_c.specs.contracts.map.Map.ins as lender
use Rattle.judy_c.proofs.map.Map.ins.Met.{met as lender_met}
use Rattle.judy_c.proofs.told.hand_out.Met.{met as teller_met}
use Rattle.judy_c.proofs.HandsOut.{Found, Lent, Pointer, found_typed, heap_typed, hands_out, handed}
use Rattle.judy_c.specs.contracts.judyl.sellumaq_judyl_ins as f
use Rattle.judy_c.proofs.judyl.sellumaq_judyl_ins.Statement.{statement}
use Rattle.judy_c.proofs.judyl.sellumaq_judyl_ins.Code as code

abbrev Handle : Slot 2
Handle = mut_ref_to (0 ∷ []) tt (plain (λ _. R))

abbrev Pointed : Slot 2
Pointed = mut_ref_to (0 ∷ []) tt (plain (λ _. u64))

abbrev stayed : Stays f.ended.signature.params f.ended.kept
stayed = (stay_dropped (plain (λ _. Heap)) yes, (stay_dropped Handle no, (stay_dropped (plain (λ _. u64)) yes, (gave_ref (1 ∷ []) tt Pointed, tt))))

pub sellumaq_judyl_ins_spec : {M : Type 1} → statement M
sellumaq_judyl_ins_spec 𝓤 𝓛 𝓜 𝓡 wired =
    let c = f.clauses 𝓛 𝓜.mem 𝓡.returns in let W = walk_of 𝓛 f.ended stayed c in let framing = framed 𝓤 𝓛.H 𝓜 (tables 𝓤 𝓛.H 𝓜 𝓡 𝓡.env) in
    proved 𝓛 f.ended stayed c 𝓜 𝓡 (
      Goes-dropped 𝓛 2 (plain (λ _. Heap)) yes (λ κs x w. refl),
      (Goes-spent_ref 𝓛 2 (0 ∷ []) tt (plain (λ _. R)), (Goes-dropped 𝓛 2 (plain (λ _. u64)) yes (λ κs x w. refl), (Goes-gave_ref 𝓛 2 1 tt Pointed, tt))),
    )
    f.Key.name code.function (code.unfolded 𝓤 𝓛.H 𝓜 𝓡 wired)
    (λ κs. ((λ _. heap_val ∷ []), (mut_vals, (uint_vals w64, (mut_vals, tt))))) (λ κs. (
      heap_Tells,
      (mut_Tells (named 0) κs.0 R, (uint_Tells w64, (mut_Tells (named 1) κs.1.0 (Lent κs.0), tt))),
    )) (λ κs qs bounds a _ are.
    let κ = κs.0 in let κ' = κs.1.0 in let q = qs.0 in let q' = qs.1.0 in let alloc = a.0 in let handle = a.1.0 in let key = a.1.1.0 in let slot = a.1.1.1.0 in
    let y : W.Ghost = ((κs, qs, bounds, a, (heap_val ∷ [], (mut_vals handle, (uint_vals w64 key, (mut_vals slot, tt))))), tt) in
    let token = ‵ (flft κ q) in
    qed 𝓛 (((token ⊛ ‵ (flft κ' q') ⊛ ‵ ftrue) ⊛ ‵ (Heap.own_val alloc (heap_val ∷ [])) ⊛ ‵ ((MutRef (named 0) κ R).own_val handle (mut_vals handle)) ⊛ ‵ (u64.own_val key (uint_vals w64 key))
    ⊛ ‵ ((Pointer κ κ').own_val slot (mut_vals slot)) ⊛ ‵ ftrue) ∷ ‵ ftrue ∷ []) ∵
    split ! $ split3 ! $ move ! (3 ∷ []) $ split3 ! $ move ! (2 ∷ []) $ split3 ! $ keep ! (5 ∷ 3 ∷ 4 ∷ 0 ∷ 6 ∷ 1 ∷ []) $
    -- [the handle's token; the allocator; the handle; the key; the pointer's token; the pointer]
    enter ! _ _ _ _ _ $ alloc_all ! (λ l. pass_all ! refl ((heap_typed 𝓛 alloc are.0, ((tt, tt), ((tt, record { fits = are.1.1.0.1 }), ((tt, tt), tt))))) $
    sets ! (addr ! (through ! refl (stop !))) refl (tt, tt) $
    nothing ! $ move ! (3 ∷ 2 ∷ 4 ∷ 0 ∷ []) $ group ! 4 $ nothing ! $ move ! (2 ∷ 0 ∷ []) $ join ! $ join ! $ nothing ! $ move ! (1 ∷ 0 ∷ []) $
    let G = triple_of 𝓛 lender.signature (lender.spec 𝓛 𝓜.mem 𝓡.returns) in
    let z : G.Ghost = (((κ, tt), (q, tt), tt, (handle, (alloc, (key, tt))), (mut_vals handle, (heap_val ∷ [], (uint_vals w64 key, tt)))), tt) in
    use2 𝓛 (raw (G.pre z)) (id⊢ 𝓤 _) $
    calls_at ! framing G (lender_met 𝓤 𝓛 𝓜 𝓡 (code.calls-judy_c::map::Map::ins 𝓡.env wired)) z (and_then ! (get ! refl) (and_then ! (get ! refl) (and_then ! (get ! refl) (no_more !)))) (λ v.
    use1 𝓛 (later (some (λ (found : Option (MutBor ℕ)). ((token ⊛ ‵ ftrue) ⊛ ‵ ((Found κ).own_val found (v ∷ []))) ⊛ some (λ (ws : Lasts lender.ended z.0.0 z.0.3).
    ‵ (lasts lender.ended z.0.0 z.0.3 ws) ⊛ (‵ (LendsSlotOf handle key found) ⊛ raw (fact 𝓤 (IsMade (map_of handle.now) key found))))))) (id⊢ 𝓤 _) $
    await ! tt $ pick ! (λ found. split ! $ split ! $ split ! $ move ! (3 ∷ []) $ pick ! (λ _. split ! $ drop ! $ split ! $ move ! (1 ∷ []) $ heard ! _ (λ value.
    -- [what the handle becomes; its token; nothing; the slot or none; the pointer's token; the pointer]
    move ! (3 ∷ []) $ peeks ! (Found κ) (Is (Found κ)) (shows 𝓛 (Found κ)) found (v ∷ []) (λ typed. lands_as ! refl refl (found_typed 𝓛 κ found v typed) $
    sets ! (addr ! (through ! refl (stop !))) refl (tt, tt) $
    move ! (2 ∷ 4 ∷ 3 ∷ []) $ group ! 3 $ move ! (1 ∷ 3 ∷ 0 ∷ []) $
    hands_out 𝓛 𝓜.mem 𝓡.returns κ κ' q q' bounds.0 found v slot ! framing (teller_met 𝓤 𝓛 𝓜 𝓡 (code.calls-judy_c::told::hand_out 𝓡.env wired))
    (and_then ! (get ! refl) (and_then ! (get ! refl) (no_more !))) (λ told last is_told.
    let is = handed found told slot.now last is_told in lands_as ! refl refl (tt, tt) $ returns ! (look_at ! 0 refl) $ free_all ! refl $
    -- [what is left of the pointer; the tokens; what the handle becomes]
    rewrite ! 2 (λ (o : Option (MutBor ℕ)). ‵ (LendsSlotOf handle key o)) (sym is) refl $
    suffices ! _ (ends_at 𝓛 f.ended stayed c y (vbool told) told (tt, (tt, (tt, (last, tt)))) (tt, (tt, (tt, (tt, tt))))) $
    nothing ! $ move ! (1 ∷ 0 ∷ []) $ fjoin ! $ nothing ! $ fjoin ! $ nothing ! $ fjoin ! $ nothing ! $ fjoin ! $ feq_i ! (List Val) (vbool told ∷ [])
    (vbool told ∷ []) refl $ move ! (2 ∷ 1 ∷ 0 ∷ []) $
    group ! 3 $ frame ! $ frame ! $ says ! (subst (λ (o : Option (MutBor ℕ)). IsTold o told slot.now last) (sym is) is_told) $
    use0 𝓛 (raw (fact 𝓤 (IsMade (map_of handle.now) key (lent_where told last)))) (fact_i 𝓤 _ (emp 𝓤) (subst (IsMade (map_of handle.now) key) (sym is) value)) $ done !))))))))
