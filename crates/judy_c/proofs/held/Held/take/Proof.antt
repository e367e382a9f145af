-- `take` moves the pointer out, with what it owns, and leaves null there. Assumes `Logic`.
use Rattle.std.proofs.Common.{List, [], ◌∷◌, ◌++◌, refl, sym, ap, subst, Option, None, IsSome, lit<}
use Rattle.std.proofs.raw_atomic.Walks.{proved_at}
use base.Fraction.{full_share}
use base.Logic.{SProp, ent, id⊢}
use base.Fml.{ftrue, flft}
use mir.MapTy.{inst_fn}
use mir.Val.{Val, vptr}
use prog.Wp.{WpFn}
use contract.BorrowLft.{◌⊑◌}
use contract.Monad.{fact}
use contract.Running.{tables}
use types.Kit.{‵, raw, ◌⊛◌, ◌$◌, ◌∵◌, !, qed, done, move, keep, split, split3, fsplit, fsplit3, fjoin, fjoin3, feq_i, feq_l, rewrite, suffices, frame, group}
use types.Part.{whole, sub, agg, look_in, store_in}
use types.Run.{enter, of_opd, load, fld, stop, returns, assigns, lit, no_more, and_then}
use types.ByLocal.{alloc_all, pass_all, free_all, look_at, get, through, sets, is}
use denote.Exit.{yes}
use denote.Memory.{cell_at}
use denote.RattleType.{RattleType, owns}
use denote.RawPtr.{block_ptr, null_ptr, ptr_val, in_a_block}
use denote.Signature.{types_at, plain}
use denote.Steps.{nothing, heard, opens, closes}
use denote.Triple.Walked.{Stays, walk_of, says, stay_ref, stay_dropped, Goes-ref, Goes-dropped, ends_at}
use Rattle.core.proofs.alloc.Calls.{handle_tells}
use Rattle.std_alloc.proofs.BoxSteps.Form as box
use Rattle.std_alloc.proofs.BoxSteps.Steps.{box_in}
use Rattle.std_heap.specs.contracts.Global as heap
use Rattle.judy_c.proofs.HeldMemory.{args, R, S, E, word, held_out, held_in}
use Rattle.judy_c.proofs.Holding.{null_holds_none, is_some_of, the_some}
use Rattle.judy_c.specs.Owned.{held}
use Rattle.judy_c.specs.declared.held.Held.{Held}
use Rattle.judy_c.specs.contracts.held.Held.take as f
use Rattle.judy_c.specs.contracts.held.Held.take.Key.{name as #self}
use Rattle.judy_c.proofs.held.Held.take.Statement.{statement}
use Rattle.judy_c.proofs.held.Held.take.Code as code

abbrev stayed : (X : RattleType) → Stays (f.ended X).signature.params (f.ended X).kept
stayed X = (stay_ref (0 ∷ []) tt (plain (λ _. S X)), (stay_dropped (plain (λ _. heap.the_row)) yes, tt))

pub take_spec : {M : Type 1} → statement M
take_spec 𝓤 𝓛 𝓜 𝓡 wired X L =
    let c = f.clauses X 𝓛 𝓜.mem 𝓡.returns in let W = walk_of 𝓛 (f.ended X) (stayed X) c in let H = 𝓛.H in let 𝓣 = tables 𝓤 𝓛.H 𝓜 𝓡 𝓡.env in
    let fn = inst_fn (args X) code.function in let B : box.Bx = E X L in
    proved_at 𝓛 (f.ended X) (stayed X) c 𝓜 𝓡 (Goes-ref 𝓛 2 0 tt (plain (λ _. S X)), (Goes-dropped 𝓛 2 (plain (λ _. heap.the_row)) yes (λ κs x f. refl), tt))
    (#self (args X)) fn (code.unfolded 𝓤 𝓛.H 𝓜 𝓡 wired (X, tt)) (λ z are.
    let κs = z.0.0 in let qs = z.0.1 in let κ = κs.0 in let q = qs.0 in let s = z.0.3.0 in let a = z.0.3.1.0 in let d : Held X.Denot = s.now in let rb = s.ref_ptr.0 in let ro = s.ref_ptr.1 in
    let Post : Val → SProp 𝓤 = W.post z in let Run : List Val → SProp 𝓤 = λ ws. WpFn 𝓤 H 𝓣.C 𝓣.Λ fn ws Post in
    qed 𝓛 (((‵ (flft κ q) ⊛ ‵ (flft κs.1.0 qs.1.0) ⊛ ‵ ftrue) ⊛ ‵ (owns (types_at (f.ended X).signature.params κs) z.0.3 z.0.4)) ∷ raw (fact 𝓤 (κs.1.0 ⊑ X.lives)) ∷ raw
    (fact 𝓤 (IsSome d.array)) ∷ []) ∵
    split ! $ move ! (3 ∷ []) $ heard ! (IsSome d.array) (λ stands. move ! (1 ∷ []) $ fsplit3 ! $
    -- [the `&mut`; the allocator; true; the tokens]
    fsplit3 ! $ feq_l ! (λ us. move ! (2 ∷ []) $ handle_tells B.al ! a z.0.4.1.0 (λ h ws fits.
    move ! (4 ∷ []) $ split3 ! $ keep ! (4 ∷ 5 ∷ 0 ∷ 1 ∷ 3 ∷ []) $
    suffices ! (Run (vptr rb ro ∷ h ∷ [])) (subst (λ (xs : List Val). ent 𝓤 (Run (vptr rb ro ∷ h ∷ [])) (Run (xs ++ (z.0.4.1.0 ++ [])))) (sym us)
    (subst (λ (xs : List Val). ent 𝓤 (Run (vptr rb ro ∷ h ∷ [])) (Run (vptr rb ro ∷ (xs ++ [])))) (sym ws) (id⊢ 𝓤 (Run (vptr rb ro ∷ h ∷ []))))) $
    enter ! 𝓣.C 𝓣.Λ fn (vptr rb ro ∷ h ∷ []) Post $ alloc_all ! (λ ls. pass_all ! refl ((tt, tt), (fits, tt)) $
    opens ! tt (S X) {h = d} rb ro (λ vs. move ! (1 ∷ []) $ held_out X ! d vs (λ words.
    -- [what the pointer owns; the cell; the open borrow, in three entries; the array's token; the allocator]
    in_a_block ! d.at (λ p. held (R X) p d.array) (null_holds_none (R X) 𝓛 d.array stands) (λ b o e. rewrite ! 0 (λ (u : Option X.Denot). ‵ (held (R X) (block_ptr b o) u))
    (is_some_of (R X) d.array stands) refl $
    let x = the_some (R X) d.array stands in let d' : Held X.Denot = record { at = null_ptr; array = None } in
    rewrite ! 1 (λ (us : List Val). ‵ (cell_at full_share (S X).mir us rb ro)) words refl $
    sets ! (is ! (of_opd ! (load ! (through ! refl (fld ! refl (stop !))) (look_in ! 1 (sub ! 0 refl (whole !))))) (ap ptr_val e)) refl (tt, tt) $
    assigns ! (of_opd ! (lit ! tt)) (through ! refl (fld ! refl (stop !))) (store_in ! 1 (sub ! 0 refl (whole !)) (tt, record { fits = lit< tt })) $
    sets ! (agg ! (and_then ! (get ! refl) (and_then ! (get ! refl) (no_more !)))) refl (box.box_typed B h b o fits) $
    -- nothing is held at null, and the borrow is closed
    nothing ! $ held_in X ! d' $ move ! (2 ∷ 0 ∷ 3 ∷ 4 ∷ 5 ∷ []) $ closes ! tt (S X) d' (word null_ptr ∷ []) rb ro $
    -- [the `&mut` in two parts; the tokens; what the box owns; the allocator]: the pieces of the box
    move ! (3 ∷ []) $ fsplit ! $ move ! (0 ∷ 1 ∷ 6 ∷ []) $ box_in B ! (record { ptr = block_ptr b o; alloc = a; value = x }) b o x refl refl $
    returns ! (look_at ! 0 refl) $ free_all ! refl $
    suffices ! _ (ends_at 𝓛 (f.ended X) (stayed X) c z (box.word B h b o) (record { at = block_ptr b o; alloc = a; value = x }) (d', (tt, tt)) (tt, (tt, tt))) $ says !
    (sym (is_some_of (R X) d.array stands), refl) $
    nothing ! $ move ! (4 ∷ 5 ∷ 0 ∷ []) $ group ! 3 $ frame ! $ move ! (1 ∷ 2 ∷ 0 ∷ []) $
    feq_i ! (List Val) z.0.4.0 (vptr rb ro ∷ []) us $ fjoin3 ! $ nothing ! $ nothing ! $ fjoin ! $ move ! (1 ∷ 0 ∷ []) $ fjoin ! $ done !))))))))
