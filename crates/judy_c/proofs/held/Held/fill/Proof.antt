-- `fill` moves a pointer to where there was none, and what it owns goes with it. Assumes `Logic`.
use Rattle.std.proofs.Common.{◌≡◌, List, [], ◌∷◌, ◌++◌, refl, sym, subst, Some, None}
use Rattle.std.proofs.raw_atomic.Walks.{proved_at}
use base.Fraction.{full_share}
use base.Logic.{SProp, ent, id⊢}
use base.Fml.{ftrue, flft}
use mir.MapTy.{inst_fn}
use mir.Val.{Val, vptr, vunit}
use prog.Wp.{WpFn}
use contract.BorrowLft.{◌⊑◌}
use contract.Monad.{fact}
use contract.Running.{tables}
use types.Kit.{‵, raw, ◌⊛◌, ◌$◌, ◌∵◌, !, qed, done, move, keep, drop, split, split3, fsplit3, fjoin, fjoin3, feq_i, feq_l, rewrite, suffices, frame, group}
use types.Part.{whole, sub, store_in}
use types.Run.{enter, of_opd, fld, stop, returns, assigns, unit_lit}
use types.ByLocal.{alloc_all, pass_all, free_all, look_at, get, get_in, through, sets}
use denote.Exit.{no}
use denote.Memory.{cell_at}
use denote.RattleType.{RattleType, owns}
use denote.RawPtr.{block_ptr}
use denote.Signature.{types_at, plain}
use denote.Steps.{nothing, heard, opens, closes}
use denote.Triple.Walked.{Stays, walk_of, says, stay_ref, stay_dropped, Goes-ref, ends_at}
use Rattle.core.proofs.alloc.Calls.{Goes-blank}
use Rattle.std_alloc.proofs.BoxSteps.Form as box
use Rattle.std_alloc.proofs.BoxSteps.Steps.{box_out}
use Rattle.judy_c.proofs.HeldMemory.{args, S, LooseR, E, word, held_out, held_in}
use Rattle.judy_c.specs.declared.held.Held.{Held}
use Rattle.judy_c.specs.contracts.held.Held.fill as f
use Rattle.judy_c.specs.contracts.held.Held.fill.Key.{name as #self}
use Rattle.judy_c.proofs.held.Held.fill.Statement.{statement}
use Rattle.judy_c.proofs.held.Held.fill.Code as code

abbrev stayed : (X : RattleType) → Stays (f.ended X).signature.params (f.ended X).kept
stayed X = (stay_ref (0 ∷ []) tt (plain (λ _. S X)), (stay_dropped (plain (λ _. LooseR X)) no, tt))

pub fill_spec : {M : Type 1} → statement M
fill_spec 𝓤 𝓛 𝓜 𝓡 wired X L =
    let c = f.clauses X 𝓛 𝓜.mem 𝓡.returns in let W = walk_of 𝓛 (f.ended X) (stayed X) c in let H = 𝓛.H in let 𝓣 = tables 𝓤 𝓛.H 𝓜 𝓡 𝓡.env in
    let fn = inst_fn (args X) code.function in let B : box.Bx = E X L in
    proved_at 𝓛 (f.ended X) (stayed X) c 𝓜 𝓡 (Goes-ref 𝓛 2 0 tt (plain (λ _. S X)), (Goes-blank 𝓛 2 (plain (λ _. LooseR X)) no (λ κs x f. tt), tt))
    (#self (args X)) fn (code.unfolded 𝓤 𝓛.H 𝓜 𝓡 wired (X, tt)) (λ z are.
    let κs = z.0.0 in let qs = z.0.1 in let κ = κs.0 in let q = qs.0 in let s = z.0.3.0 in let l = z.0.3.1.0 in let d : Held X.Denot = s.now in let rb = s.ref_ptr.0 in let ro = s.ref_ptr.1 in
    let v : box.D B = record { ptr = l.at; alloc = l.alloc; value = l.value } in
    let Post : Val → SProp 𝓤 = W.post z in let Run : List Val → SProp 𝓤 = λ ws. WpFn 𝓤 H 𝓣.C 𝓣.Λ fn ws Post in
    qed 𝓛 (((‵ (flft κ q) ⊛ ‵ (flft κs.1.0 qs.1.0) ⊛ ‵ ftrue) ⊛ ‵ (owns (types_at (f.ended X).signature.params κs) z.0.3 z.0.4)) ∷ raw (fact 𝓤 (κs.1.0 ⊑ X.lives)) ∷ raw
    (fact 𝓤 (d.array ≡ None)) ∷ []) ∵
    split ! $ move ! (3 ∷ []) $ heard ! (d.array ≡ None) (λ empty. move ! (1 ∷ []) $ fsplit3 ! $
    -- [the `&mut`; the pieces; true; the tokens]
    fsplit3 ! $ feq_l ! (λ us. move ! (2 ∷ []) $ box_out B ! v z.0.4.1.0 (λ b o h e ws fits. fjoin ! $ let w = box.word B h b o in
    move ! (5 ∷ []) $ split3 ! $ keep ! (5 ∷ 6 ∷ 0 ∷ 1 ∷ 3 ∷ []) $
    suffices ! (Run (vptr rb ro ∷ w ∷ [])) (subst (λ (xs : List Val). ent 𝓤 (Run (vptr rb ro ∷ w ∷ [])) (Run (xs ++ (z.0.4.1.0 ++ [])))) (sym us)
    (subst (λ (xs : List Val). ent 𝓤 (Run (vptr rb ro ∷ w ∷ [])) (Run (vptr rb ro ∷ (xs ++ [])))) (sym ws) (id⊢ 𝓤 (Run (vptr rb ro ∷ w ∷ []))))) $
    enter ! 𝓣.C 𝓣.Λ fn (vptr rb ro ∷ w ∷ []) Post $ alloc_all ! (λ ls. pass_all ! refl ((tt, tt), (box.box_typed B h b o fits, tt)) $
    opens ! tt (S X) {h = d} rb ro (λ vs. move ! (1 ∷ []) $ held_out X ! d vs (λ is. drop ! $
    -- [the cell; the open borrow, in three entries; the array's token; what the box owns]
    let d' : Held X.Denot = record { at = block_ptr b o; array = Some l.value } in
    rewrite ! 0 (λ (xs : List Val). ‵ (cell_at full_share (S X).mir xs rb ro)) is refl $
    sets ! (of_opd ! (get_in ! (fld ! refl (stop !)) (sub ! 0 refl (whole !)))) refl (tt, tt) $
    assigns ! (of_opd ! (get ! refl)) (through ! refl (fld ! refl (stop !))) (store_in ! 0 (sub ! 0 refl (whole !)) (tt, tt)) $
    sets ! (of_opd ! (unit_lit !)) refl (tt, tt) $
    -- what is held at the new pointer
    move ! (5 ∷ []) $ held_in X ! d' $ move ! (1 ∷ 0 ∷ []) $ closes ! tt (S X) d' (word (block_ptr b o) ∷ []) rb ro $
    returns ! (look_at ! 0 refl) $ free_all ! refl $
    suffices ! _ (ends_at 𝓛 (f.ended X) (stayed X) c z vunit tt (d', (tt, tt)) (tt, (tt, tt))) $ says ! refl $
    nothing ! $ move ! (3 ∷ 4 ∷ 0 ∷ []) $ group ! 3 $ frame ! $ feq_i ! (List Val) (vunit ∷ []) (vunit ∷ []) refl $ move ! (1 ∷ 2 ∷ 0 ∷ []) $
    feq_i ! (List Val) z.0.4.0 (vptr rb ro ∷ []) us $ fjoin3 ! $ nothing ! $ nothing ! $ fjoin ! $ move ! (1 ∷ 0 ∷ []) $ fjoin ! $ done !)))))))
