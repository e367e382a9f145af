-- The five calls of C that hand out the slot of a key that they find, as one walk. Each gives the handle and the key's word to one call and the caller's
-- pointer to the other, each for good, and they differ in the one call and in what it finds. Assumes `Logic`.
use Rattle.std.proofs.Common.{◌≡◌, ℕ, Option, List, [], ◌∷◌, refl, sym, ap, subst, ◌∙◌, w64, MutBor, unwrap_or, option_and_then}
use Rattle.std.proofs.raw_atomic.Walks.{proved}
use seplogic.Ra.Ura.{Ura}
use base.Logic.{sep, emp, id⊢}
use base.Fml.{ftrue, flft}
use mir.Syntax.{named, erased, mut, Callee, Sym, Ty, ty_int, ty_bool, ty_ref, ty_enum, tnil, tcons, ttnil, ttcons, Fn, local, value_local, seq, assign, call, place, deref, addr_of, copy, return}
use mir.Val.{Val, vbool}
use contract.Monad.{fact, fact_i}
use contract.Running.{Running, tables}
use prog.Model.{Model}
use prog.Wp.{Closed}
use types.Logic.{Logic, sem}
use types.Kit.{‵, raw, ◌⊛◌, some, later, ◌$◌, ◌∵◌, !, qed, done, move, keep, drop, use0, use1, use2, split, split3, join, pick, await, rewrite, suffices, frame, group, fjoin, fsplit, feq_i}
use types.Run.{enter, addr, stop, no_more, and_then, returns}
use types.ByLocal.{alloc_all, pass_all, free_all, look_at, get, through, sets, lands_as}
use denote.Builtin.{u64}
use denote.Exit.{yes, no}
use denote.Laws.{Is, shows}
use denote.Plain.{uint_vals, uint_Tells}
use denote.Ref.{MutRef, mut_vals, mut_Tells}
use denote.Signature.{Slot, plain, mut_ref_to}
use denote.Steps.{nothing, heard, peeks}
use denote.Triple.Call.{calls_at}
use denote.Triple.Clauses.{Clauses, closing, Lasts, lasts}
use denote.Triple.Spec.{Meets, triple_of}
use denote.Triple.Statement.{Contract, Triple}
use denote.Triple.Table.{framed}
use denote.Triple.Walked.{Stays, walk_of, says, stay_dropped, gave_ref, Goes-dropped, Goes-spent_ref, Goes-gave_ref, ends_at}
use Rattle.std.specs.Option.{option_copied_mut}
use Rattle.std.specs.FinMap as map
use Rattle.std.specs.FinMap.{FinMap}
use Rattle.judy_model.specs.Keys.{word_order}
use Rattle.judy_c.specs.Maps.{map_of}
use Rattle.judy_c.specs.Told.{IsTold, lent_where}
use Rattle.judy_c.specs.SlotLends.{LendsSlotOf}
use Rattle.judy_c.specs.contracts.map.Map.{the_row as R}
use Rattle.judy_c.specs.contracts.map.Map.first_slot as lender
use Rattle.judy_c.specs.contracts.told.hand_out as teller
use Rattle.judy_c.proofs.HandsOut.{Found, Lent, Pointer, Teller, found_typed, hands_out, handed}
use Rattle.judy_c.specs.contracts.nearest_slots.sellumaq_judyl_first_slot as f

abbrev Handle : Slot 3
Handle = mut_ref_to (0 ∷ []) tt (plain (λ _. R))

abbrev Pointed : Slot 3
Pointed = mut_ref_to (0 ∷ []) tt (plain (λ _. u64))

abbrev stayed : Stays f.ended.signature.params f.ended.kept
stayed = (stay_dropped Handle no, (stay_dropped (plain (λ _. u64)) yes, (gave_ref (1 ∷ []) tt (plain (λ _. u64)), (gave_ref (2 ∷ []) tt Pointed, tt))))

-- the machine code: the handle's type as it is written and as it is spelled out, the name of `Option` and its type as it is written, and the call that lends
abbrev pub searching : Ty → Ty → Sym → Callee → Fn
searching Handle' handle' Option' lends =
    let word = ty_ref erased mut (ty_int w64) in record {
      lifetimes = 3;
      outlives = (0, 2) ∷ [];
      ty_params = [];
      givens = 0;
      params = 4;
      locals = local ty_bool value_local ∷ local (ty_ref (named 0) mut Handle') value_local ∷ local (ty_int w64) value_local ∷ local (ty_ref (named 1) mut (ty_int w64)) value_local
          ∷ local (ty_ref (named 2) mut (ty_ref (named 0) mut (ty_int w64))) value_local ∷ local (ty_enum Option' (ttcons tnil (ttcons (tcons word tnil) ttnil))) value_local
          ∷ local (ty_ref erased mut Handle') value_local ∷ local word value_local ∷ local (ty_ref erased mut word) value_local ∷ [];
      body = seq (assign (place 6 []) (addr_of (place 1 (deref handle' ∷ [])))) (seq (assign (place 7 []) (addr_of (place 3 (deref (ty_int w64) ∷ []))))
          (seq (call lends (copy (place 6 []) ∷ copy (place 2 []) ∷ copy (place 7 []) ∷ []) (place 5 [])) (seq (assign (place 8 []) (addr_of (place 4 (deref word ∷ []))))
          (seq (call teller.Key.name (copy (place 5 []) ∷ copy (place 8 []) ∷ []) (place 0 [])) return))));
    }

module _ (find : FinMap word_order ℕ → ℕ → Option ℕ) {M : Type 1} (𝓤 : Ura M) (𝓛 : Logic 𝓤) where
  -- the contract of the call that lends, and that of the one that hands out
  abbrev pub lending : Clauses 𝓤 lender.ended
  lending = λ κs a. record {
    ghost = Unit {0};
    requires = λ g. emp 𝓤;
    ensures = λ g found e. sep 𝓤 (sem 𝓛 (LendsSlotOf a.0 e.1.1.0.now found)) (sep 𝓤 (fact 𝓤 (e.1.1.0.now ≡ unwrap_or (find (map_of a.0.now) a.1.0) a.1.1.0.now))
        (fact 𝓤 (option_copied_mut found ≡ option_and_then (map.get (map_of a.0.now)) (find (map_of a.0.now) a.1.0))));
  }

  abbrev pub handing : Clauses 𝓤 f.ended
  handing = λ κs a. record {
    ghost = Unit {0};
    requires = λ g. emp 𝓤;
    ensures = λ g told e. sep 𝓤 (sem 𝓛 (LendsSlotOf a.0 e.1.1.0.now (lent_where told e.1.1.1.0.now))) (sep 𝓤 (fact 𝓤 (e.1.1.0.now ≡ unwrap_or (find (map_of a.0.now) a.1.0) a.1.1.0.now))
        (sep 𝓤 (fact 𝓤 (option_copied_mut (lent_where told e.1.1.1.0.now) ≡ option_and_then (map.get (map_of a.0.now)) (find (map_of a.0.now) a.1.0)))
        (fact 𝓤 (IsTold (lent_where told e.1.1.1.0.now) told a.1.1.1.0.now e.1.1.1.0.now))));
  }

  abbrev pub Lender : Contract 𝓤
  Lender = triple_of 𝓛 lender.signature (closing 𝓛 lender.ended lending)

  pub searches : (Handle' handle' : Ty) (Option' : Sym) (𝓜 : Model 𝓤 𝓛.H) (𝓡 : Running 𝓤 𝓛.H 𝓜) (k lends : Callee) → let 𝓣 = tables 𝓤 𝓛.H 𝓜 𝓡 𝓡.env in
      Closed 𝓤 𝓛.H 𝓣.C 𝓣.Λ k (searching Handle' handle' Option' lends) → Triple 𝓤 (𝓣.C lends) Lender → Triple 𝓤 (𝓣.C teller.Key.name) (Teller 𝓛 𝓜.mem 𝓡.returns)
      → Meets 𝓛 f.signature (𝓣.C k) (closing 𝓛 f.ended handing)
  searches Handle' handle' Option' 𝓜 𝓡 k lends closed met told_met =
      let W = walk_of 𝓛 f.ended stayed handing in let framing = framed 𝓤 𝓛.H 𝓜 (tables 𝓤 𝓛.H 𝓜 𝓡 𝓡.env) in
      proved 𝓛 f.ended stayed handing 𝓜 𝓡
      (Goes-spent_ref 𝓛 3 (0 ∷ []) tt (plain (λ _. R)), (Goes-dropped 𝓛 3 (plain (λ _. u64)) yes (λ κs x w. refl), (Goes-gave_ref 𝓛 3 1 tt (plain (λ _. u64)), (Goes-gave_ref 𝓛 3 2 tt Pointed, tt))))
      k (searching Handle' handle' Option' lends) closed
      (λ κs. (mut_vals, (uint_vals w64, (mut_vals, (mut_vals, tt)))))
      (λ κs. (mut_Tells (named 0) κs.0 R, (uint_Tells w64, (mut_Tells (named 1) κs.1.0 u64, (mut_Tells (named 2) κs.1.1.0 (Lent κs.0), tt))))) (λ κs qs bounds a _ are.
      let κ = κs.0 in let κ' = κs.1.1.0 in let q = qs.0 in let q' = qs.1.1.0 in let handle = a.0 in let from = a.1.0 in let key = a.1.1.0 in let slot = a.1.1.1.0 in
      let y : W.Ghost = ((κs, qs, bounds, a, (mut_vals handle, (uint_vals w64 from, (mut_vals key, (mut_vals slot, tt))))), tt) in
      let token = ‵ (flft κ q) in let word = ‵ (flft κs.1.0 qs.1.0) in
      qed 𝓛 (((token ⊛ word ⊛ ‵ (flft κ' q') ⊛ ‵ ftrue) ⊛ ‵ ((MutRef (named 0) κ R).own_val handle (mut_vals handle)) ⊛ ‵ (u64.own_val from (uint_vals w64 from))
      ⊛ ‵ ((MutRef (named 1) κs.1.0 u64).own_val key (mut_vals key)) ⊛ ‵ ((Pointer κ κ').own_val slot (mut_vals slot)) ⊛ ‵ ftrue) ∷ ‵ ftrue ∷ []) ∵
      split ! $ split3 ! $ move ! (2 ∷ []) $ split ! $ move ! (4 ∷ []) $ split3 ! $ move ! (2 ∷ []) $ split3 ! $ keep ! (7 ∷ 8 ∷ 3 ∷ 4 ∷ 0 ∷ 5 ∷ 1 ∷ []) $
      -- [the handle's token; the word's token; the handle; where the search begins; the word; the pointer's token; the pointer]
      enter ! _ _ _ _ _ $ alloc_all ! (λ l. pass_all ! refl ((tt, tt), ((tt, record { fits = are.1.0.1 }), ((tt, tt), ((tt, tt), tt)))) $
      sets ! (addr ! (through ! refl (stop !))) refl (tt, tt) $ sets ! (addr ! (through ! refl (stop !))) refl (tt, tt) $
      nothing ! $ move ! (3 ∷ 4 ∷ 5 ∷ 0 ∷ []) $ group ! 4 $ nothing ! $ move ! (2 ∷ 3 ∷ 0 ∷ []) $ group ! 3 $ join ! $ nothing ! $ move ! (1 ∷ 0 ∷ []) $
      let z : Lender.Ghost = (((κ, (κs.1.0, tt)), (q, (qs.1.0, tt)), tt, (handle, (from, (key, tt))), (mut_vals handle, (uint_vals w64 from, (mut_vals key, tt)))), tt) in
      use2 𝓛 (raw (Lender.pre z)) (id⊢ 𝓤 _) $
      calls_at ! framing Lender met z (and_then ! (get ! refl) (and_then ! (get ! refl) (and_then ! (get ! refl) (no_more !)))) (λ v.
      use1 𝓛 (later (some (λ (found : Option (MutBor ℕ)). ((token ⊛ word ⊛ ‵ ftrue) ⊛ ‵ ((Found κ).own_val found (v ∷ []))) ⊛ some (λ (ws : Lasts lender.ended z.0.0 z.0.3).
      ‵ (lasts lender.ended z.0.0 z.0.3 ws) ⊛ (‵ (LendsSlotOf handle ws.1.1.0 found) ⊛ (raw (fact 𝓤 (ws.1.1.0 ≡ unwrap_or (find (map_of handle.now) from) key.now)) ⊛ raw
      (fact 𝓤 (option_copied_mut found ≡ option_and_then (map.get (map_of handle.now)) (find (map_of handle.now) from))))))))) (id⊢ 𝓤 _) $
      await ! tt $ pick ! (λ found. split ! $ split ! $ split3 ! $ move ! (4 ∷ []) $ pick ! (λ ws. split ! $ fsplit ! $ drop ! $ fsplit ! $ drop ! $ fsplit ! $ move ! (1 ∷ []) $ drop ! $
      move ! (1 ∷ []) $ split ! $ move ! (1 ∷ []) $ split ! $ heard ! _ (λ is_key. heard ! _ (λ value.
      -- [what the handle becomes; what is left of the word; its token; the word's token; nothing; the slot or none; the pointer's token; the pointer]
      move ! (5 ∷ []) $ peeks ! (Found κ) (Is (Found κ)) (shows 𝓛 (Found κ)) found (v ∷ []) (λ typed. lands_as ! refl refl (found_typed 𝓛 κ found v typed) $
      sets ! (addr ! (through ! refl (stop !))) refl (tt, tt) $
      move ! (3 ∷ 6 ∷ 5 ∷ []) $ group ! 3 $ move ! (1 ∷ 5 ∷ 0 ∷ []) $
      hands_out 𝓛 𝓜.mem 𝓡.returns κ κ' q q' bounds.0 found v slot ! framing told_met (and_then ! (get ! refl) (and_then ! (get ! refl) (no_more !))) (λ told last is_told.
      let is = handed found told slot.now last is_told in lands_as ! refl refl (tt, tt) $ returns ! (look_at ! 0 refl) $ free_all ! refl $
      -- [what is left of the pointer; the tokens; what the handle becomes; what is left of the word; the word's token]
      rewrite ! 2 (λ (o : Option (MutBor ℕ)). ‵ (LendsSlotOf handle ws.1.1.0 o)) (sym is) refl $
      move ! (1 ∷ []) $ split3 ! $ move ! (0 ∷ 6 ∷ 1 ∷ 2 ∷ []) $ group ! 4 $ move ! (1 ∷ 0 ∷ []) $
      suffices ! _ (ends_at 𝓛 f.ended stayed handing y (vbool told) told (tt, (tt, (ws.1.1.0, (last, tt)))) (tt, (tt, (tt, (tt, tt))))) $
      nothing ! $ move ! (1 ∷ 0 ∷ []) $ fjoin ! $ move ! (3 ∷ 0 ∷ []) $ fjoin ! $ nothing ! $ fjoin ! $ nothing ! $ fjoin ! $ feq_i ! (List Val) (vbool told ∷ [])
      (vbool told ∷ []) refl $ move ! (2 ∷ 1 ∷ 0 ∷ []) $
      group ! 3 $ frame ! $ frame ! $ use0 𝓛 (raw (fact 𝓤 (ws.1.1.0 ≡ unwrap_or (find (map_of handle.now) from) key.now))) (fact_i 𝓤 _ (emp 𝓤) is_key) $ frame ! $
      says ! (subst (λ (o : Option (MutBor ℕ)). IsTold o told slot.now last) (sym is) is_told) $
      use0 𝓛 (raw (fact 𝓤 (option_copied_mut (lent_where told last) ≡ option_and_then (map.get (map_of handle.now)) (find (map_of handle.now) from))))
      (fact_i 𝓤 _ (emp 𝓤) (ap option_copied_mut is ∙ value)) $ done !)))))))))
