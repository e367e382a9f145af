-- `lend` lends the array behind the pointer, and what is held follows it. Assumes `Logic`.
use Rattle.std.proofs.Common.{◌≡◌, ◌∙◌, ℕ, List, [], ◌∷◌, refl, sym, ap}
use Rattle.std.specs.Prelude.{Option, Some, IsSome}
use Rattle.std.proofs.raw_atomic.Walks.{proved}
use seplogic.Ra.Ura.{Ura}
use base.Fraction.{full_share}
use base.Logic.{ent, sep, id⊢}
use base.Fml.{GName, Fml, ftrue, fsep, flft}
use mir.MapTy.{inst_fn}
use mir.Raw.{raw as bare}
use mir.Syntax.{Fn, named}
use mir.Val.{Val, vptr}
use contract.BorrowLft.{◌⊑◌}
use contract.Monad.{fact}
use contract.Running.{tables}
use types.Logic.{Logic, sem}
use types.Kit.{‵, raw, ◌⊛◌, some, later, at_ret, ◌$◌, ◌∵◌, !, qed, done, move, keep, drop as skip, use1, join, split, split3, fsplit, fsplit3, fjoin, fpack, pick, await, rewrite}
use types.Kit.{suffices, frame, group}
use types.Part.{whole, sub, look_in}
use types.Run.{enter, of_opd, addr, fld, hop, stop, first, blocks, exec, returns}
use types.ByLocal.{alloc_all, pass_all, free_all, look_at, get, through, sets, sets_last, env}
use denote.Exit.{no}
use denote.Follow.{follows, Part, lends_Part}
use denote.Memory.{mem, cell_at, part_of, lone}
use denote.RattleType.{RattleType, owns}
use denote.RawPtr.{Ptr, block_ptr, in_a_block}
use denote.Ref.{MutBor, MutRef, mut_vals, mut_Tells}
use denote.Signature.{Slot, plain, mut_ref_to}
use denote.Steps.{nothing, heard, opens}
use denote.Triple.Walked.{Stays, walk_of, says, stay_dropped, Goes-spent_ref, ends_at}
use Rattle.std_heap.specs.contracts.GlobalAllocator.TheImpl.{ghosts}
use Rattle.core.proofs.alloc.Shapes.{after}
use Rattle.judy_c.proofs.HeldMemory.{args, R, S, word, held_out, held_in}
use Rattle.judy_c.proofs.Holding.{null_holds_none, is_some_of, the_some}
use Rattle.judy_c.specs.HeldLends.{with_array}
use Rattle.judy_c.specs.Owned.{held, heap}
use Rattle.judy_c.specs.declared.held.Held.{Held}
use Rattle.judy_c.specs.contracts.held.Held.lend as f
use Rattle.judy_c.specs.contracts.held.Held.lend.Key.{name as #self}
use Rattle.judy_c.proofs.held.Held.lend.Statement.{statement}
use Rattle.judy_c.proofs.held.Held.lend.Code as code

module _ (X : RattleType) where
  abbrev function : Fn
  function = inst_fn (args X) code.function

  abbrev Self : Slot 2
  Self = mut_ref_to (0 ∷ []) tt (plain (λ _. S X))

  abbrev stayed : Stays (f.ended X).signature.params (f.ended X).kept
  stayed = (stay_dropped Self no, tt)

module _ (X : RattleType) {M : Type 1} {𝓤 : Ura M} (𝓛 : Logic 𝓤) (d : Held X.Denot) (rb ro b o : ℕ) where
  -- the right to free the box, and the pointer in its place
  abbrev Rest : Fml
  Rest = fsep (ghosts.dealloc_token heap (bare (lone (R X).mir)) (block_ptr b o)) (cell_at full_share (S X).mir (word d.at ∷ []) rb ro)

  -- whatever the array has become, with the rest it is what is held then
  back : d.at ≡ block_ptr b o → (w : X.Denot) → ent 𝓤 (sep 𝓤 (sem 𝓛 ((mem (R X)).own_at w b o)) (sem 𝓛 Rest)) (sem 𝓛 ((mem (S X)).own_at (with_array d w) rb ro))
  unfolding part_of
  back e w =
      qed 𝓛 (‵ ((mem (R X)).own_at w b o) ∷ ‵ Rest ∷ []) ∵ move ! (1 ∷ []) $ fsplit ! $ move ! (2 ∷ 0 ∷ []) $ fjoin ! $
      rewrite ! 0 (λ (p : Ptr). ‵ (held (R X) p (Some w))) (sym e) refl $ held_in X ! (with_array d w) $ move ! (1 ∷ 0 ∷ []) $ fjoin ! $
      fpack ! (List Val) (λ us. fsep (cell_at full_share (S X).mir us rb ro) ((S X).own_val (with_array d w) us)) (word d.at ∷ []) $ done !

pub lend_spec : {M : Type 1} → statement M
lend_spec 𝓤 𝓛 𝓜 𝓡 wired X L =
    let c = f.clauses X 𝓛 𝓜.mem 𝓡.returns in let W = walk_of 𝓛 (f.ended X) (stayed X) c in let 𝓣 = tables 𝓤 𝓛.H 𝓜 𝓡 𝓡.env in
    proved 𝓛 (f.ended X) (stayed X) c 𝓜 𝓡 (Goes-spent_ref 𝓛 2 (0 ∷ []) tt (plain (λ _. S X)), tt)
    (#self (args X)) (function X) (code.unfolded 𝓤 𝓛.H 𝓜 𝓡 wired (X, tt))
    (λ κs. (mut_vals, tt)) (λ κs. (mut_Tells (named 0) κs.0 (S X), tt)) (λ κs qs bounds a g are.
    let κ = κs.0 in let q = qs.0 in let rb = a.0.ref_ptr.0 in let ro = a.0.ref_ptr.1 in let γ = a.0.ghost_name in let d : Held X.Denot = a.0.now in
    let y : W.Ghost = ((κs, qs, bounds, a, (mut_vals a.0, tt)), tt) in
    qed 𝓛 (((‵ (flft κ q) ⊛ ‵ (flft κs.1.0 qs.1.0) ⊛ ‵ ftrue) ⊛ ‵ (owns (MutRef (named 0) κ (S X) ∷ []) a y.0.4)) ∷ raw (fact 𝓤 (κs.1.0 ⊑ X.lives)) ∷ raw (fact 𝓤 (IsSome d.array)) ∷ []) ∵
    move ! (2 ∷ []) $ heard ! (IsSome d.array) (λ stands. split ! $ split3 ! $ move ! (3 ∷ []) $ fsplit ! $ fsplit3 ! $ skip ! $ keep ! (0 ∷ 1 ∷ 3 ∷ 4 ∷ []) $
    -- [two parts of the `&mut`; its token; the array's]
    enter ! _ _ _ _ _ $ alloc_all ! (λ l. pass_all ! refl ((tt, tt), tt) $
    opens ! tt (S X) {h = d} rb ro (λ vs. move ! (1 ∷ []) $ held_out X ! d vs (λ ws.
    -- [what the pointer owns; the cell; the open borrow, in three entries; the array's token]
    in_a_block ! d.at (λ p. held (R X) p d.array) (null_holds_none (R X) 𝓛 d.array stands) (λ b o e.
    rewrite ! 0 (λ (u : Option X.Denot). ‵ (held (R X) (block_ptr b o) u)) (is_some_of (R X) d.array stands) refl $ fsplit ! $
    let x = the_some (R X) d.array stands in
    let Cell = λ (us : List Val). ‵ (cell_at full_share (S X).mir us rb ro) in let at = λ (p : Ptr). word p ∷ [] in
    -- `unsafe { &mut *self.at }`
    rewrite ! 2 Cell (ws ∙ ap at e) refl $
    first ! $ blocks ! $ sets_last ! (addr ! (through ! refl (fld ! refl (hop ! (look_in ! 2 (sub ! 0 refl (whole !))) (stop !))))) refl (tt, tt) $
    exec ! 𝓣.C 𝓣.Λ (env (function X).locals l) (after 1 (function X).body) (at_ret _ (W.post y)) $ sets ! (of_opd ! (get ! refl)) refl (tt, tt) $
    rewrite ! 2 Cell (ap at (sym e)) refl $
    -- the array leaves under a name of its own
    move ! (1 ∷ 2 ∷ []) $ fjoin ! $ move ! (2 ∷ 3 ∷ 4 ∷ 1 ∷ 0 ∷ []) $ group ! 5 $ let mark = (S X).coded.code d in
    use1 𝓛 (later (some (λ (δ : GName). raw (Part 𝓛 (S X) (R X) (with_array d) (named 0) κ q rb ro b o γ (sem 𝓛 (Rest X 𝓛 d rb ro b o)) (back X 𝓛 d rb ro b o e) x δ))))
    (lends_Part 𝓛 (S X) (R X) (with_array d) (named 0) κ q rb ro b o γ (sem 𝓛 (Rest X 𝓛 d rb ro b o)) (back X 𝓛 d rb ro b o e) mark mark x) $ await ! tt $ pick ! (λ δ.
    -- the return: [the reference; its token; that what is held follows the array; the array's token]
    returns ! (look_at ! 0 refl) $ free_all ! refl $ keep ! (0 ∷ 1 ∷ []) $
    let r : MutBor X.Denot = record { ref_ptr = (b, o); ghost_name = δ; now = x } in
    use1 𝓛 (‵ ((MutRef (named 0) κ (R X)).own_val r (vptr b o ∷ [])) ⊛ ‵ (flft κ q) ⊛ ‵ (follows (S X) (R X) γ δ (with_array d))) (id⊢ 𝓤 _) $ split3 ! $
    suffices ! _ (ends_at 𝓛 (f.ended X) (stayed X) c y (vptr b o) r (tt, tt) (tt, tt)) $
    nothing ! $ nothing ! $ fjoin ! $ join ! $ nothing ! $ move ! (2 ∷ 4 ∷ 0 ∷ []) $ group ! 3 $ join ! $ frame ! $ says ! (sym (is_some_of (R X) d.array stands)) $ done !)))))))
