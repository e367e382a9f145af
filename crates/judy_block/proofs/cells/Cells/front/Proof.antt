-- `front` reads the pointer through the `&`, and shows the first words behind it. How to read it: Lib.antt. Assumes `Logic`.
use Rattle.std.proofs.Common.{◌≡◌, ℕ, ◌+◌, ◌*◌, ◌≤◌, ◌^◌, List, [], ◌∷◌, length, take, drop, refl, sym, ap, subst, arith, w64, length-take, take-append-drop}
use Rattle.std.proofs.raw_atomic.Walks.{proved}
use Rattle.std.proofs.Words.{pointer_in, pointer_out}
use seplogic.Ra.Ura.{Ura}
use base.Logic.{ent, sep, id⊢, never}
use base.Fml.{Lft, Fml, ftrue, flft, fhide}
use mir.Syntax.{named}
use mir.Val.{Val}
use contract.Monad.{fact}
use contract.Running.{tables}
use types.Logic.{Logic, sem}
use types.Kit.{‵, raw, ◌⊛◌, at_ret, ◌$◌, ◌∵◌, !, qed, done, move, keep, drop as skip, use1, join, split, fsplit, fjoin, feq_i, flt_i, flt_l, rewrite, suffices, frame}
use types.Part.{agg}
use types.Run.{enter, of_opd, load, look, fld, stop, no_more, and_then, first, blocks, exec, returns}
use types.ByLocal.{alloc_all, pass_all, free_all, look_at, get, through, sets, sets_last, env}
use denote.Builtin.{u64, usize, RefOf}
use denote.Exit.{yes}
use denote.Memory.{hidden_shr}
use denote.Opens.{shr_dup, unhide, hide}
use denote.Plain.{uint_vals, uint_Tells}
use denote.RattleType.{RattleType, owns}
use denote.RawPtr.{Ptr, RawPtr, InBlock, block_ptr, block_of, count_of, in_a_block, ptr_row_laws}
use denote.Ref.{ShrRef, shr_vals, shr_Tells}
use denote.Signature.{Slot, plain}
use denote.Slice.{slice_val, elements_shared}
use denote.Steps.{nothing, heard}
use denote.Struct.Lending.{lent_out}
use denote.Struct.Owning.{shape}
use denote.Struct.Struct.{Struct, Struct-row_laws}
use denote.Triple.Walked.{Stays, walk_of, says, stay_dropped, Goes-dropped, ends_at}
use Rattle.judy_block.specs.Ownership.{words_lent}
use Rattle.judy_block.specs.contracts.cells.Cells as C
use Rattle.judy_block.specs.contracts.cells.Cells.front as f
use Rattle.judy_block.proofs.Cutting.{seen}
use Rattle.judy_block.proofs.cells.Cells.front.Statement.{statement}
use Rattle.judy_block.proofs.cells.Cells.front.Code as code

abbrev R : RattleType
R = C.the_row

abbrev Ref : Slot 1
Ref = RefOf (0 ∷ []) tt (plain (λ _. R)) (λ _. tt)

abbrev stayed : Stays f.ended.signature.params f.ended.kept
stayed = (stay_dropped Ref yes, (stay_dropped _ yes, tt))

-- the pointer is all that the struct has for a field
abbrev Fields : RattleType
Fields = Struct (shape C.the_type)

-- a `&` to it is in hand beside the `&` to the struct
module _ {M : Type 1} {𝓤 : Ura M} (𝓛 : Logic 𝓤) (κ : Lft) (p : Ptr) (b o : ℕ) where
  abbrev S : Fml
  S = hidden_shr Fields κ (p, tt) b o

  shows_head : ent 𝓤 (sem 𝓛 S) (sep 𝓤 (sem 𝓛 (hidden_shr RawPtr κ p b (o + 0))) (sem 𝓛 S))
  shows_head = qed 𝓛 (‵ S ∷ []) ∵ shr_dup ! Fields (Struct-row_laws (shape C.the_type) (ptr_row_laws, tt)) (p, tt) b o κ $ unhide ! $ fsplit ! $ fsplit ! $ hide ! $ keep ! (0 ∷ 3 ∷ []) $ done !

pub front_spec : {M : Type 1} → statement M
front_spec 𝓤 𝓛 𝓜 𝓡 wired =
    let c = f.clauses 𝓛 𝓜.mem 𝓡.returns in let W = walk_of 𝓛 f.ended stayed c in let 𝓣 = tables 𝓤 𝓛.H 𝓜 𝓡 𝓡.env in
    proved 𝓛 f.ended stayed c 𝓜 𝓡 (Goes-dropped 𝓛 1 Ref yes (λ κs x w. refl), (Goes-dropped 𝓛 1 (plain (λ _. usize)) yes (λ κs x w. refl), tt))
    f.Key.name code.function (code.unfolded 𝓤 𝓛.H 𝓜 𝓡 wired)
    (λ κs. (shr_vals, (uint_vals w64, tt))) (λ κs. (shr_Tells (named 0) κs.0 R, (uint_Tells w64, tt))) (λ κs qs bounds a g are.
    let κ = κs.0 in let rb = a.0.ref_ptr.0 in let ro = a.0.ref_ptr.1 in let d = a.0.now in let n : ℕ = a.1.0 in let ws = take n d.items in let fits = are.1.0.1 in
    let y : W.Ghost = ((κs, qs, bounds, a, (shr_vals a.0, (uint_vals w64 n, tt))), tt) in
    qed 𝓛 (((‵ (flft κ qs.0) ⊛ ‵ ftrue) ⊛ ‵ (owns (ShrRef (named 0) κ R ∷ usize ∷ []) a y.0.4)) ∷ raw (fact 𝓤 (n ≤ length d.items)) ∷ []) ∵
    split ! $ split ! $ move ! (3 ∷ []) $ heard ! (n ≤ length d.items) (λ within. move ! (2 ∷ []) $ fsplit ! $ fsplit ! $ skip ! $ keep ! (0 ∷ 2 ∷ []) $
    -- [the `&`; its token]
    enter ! _ _ _ _ _ $ alloc_all ! (λ l. pass_all ! refl ((tt, tt), ((tt, record { fits = fits }), tt)) $
    use1 𝓛 (‵ (hidden_shr Fields κ (d.head, tt) rb ro) ⊛ ‵ (fhide (C.the_lent d (block_ptr rb ro) κ))) (lent_out 𝓛 C.struct C.the_codes C.the_heap C.the_lent κ d rb ro) $ split ! $
    -- the words behind the pointer, of which the first n are shown
    move ! (1 ∷ []) $ unhide ! $ in_a_block ! d.head (λ p. words_lent p d.items κ) (id⊢ 𝓤 (never 𝓤)) (λ b o e. fsplit ! $ flt_l ! (λ few.
    let inb : InBlock d.head = subst InBlock (sym e) tt in let at : ℕ × ℕ = (block_of d.head, count_of d.head) in
    rewrite ! 0 (λ (l : List ℕ). ‵ (elements_shared u64 l b o κ)) (sym (take-append-drop n d.items)) refl $ use1 𝓛 (‵ (elements_shared u64 ws b o κ)) (seen 𝓛 b κ ws (drop n d.items) o) $
    rewrite ! 0 (λ (p : Ptr). ‵ (elements_shared u64 ws (block_of p) (count_of p) κ)) {x = d.head} (sym e) refl $ hide ! $
    -- into `unsafe { .. }`: `self.head` is read
    move ! (1 ∷ 2 ∷ []) $ first ! $ blocks ! $ pointer_in ! tt d.head inb rb (ro + 0) (shows_head 𝓛 κ d.head rb ro) (λ q.
    sets ! (of_opd ! (load ! (through ! refl (fld ! refl (stop !))) (look ! 1 refl))) refl (tt, tt) $ pointer_out ! tt d.head inb rb (ro + 0) $
    -- `from_raw_parts`: the pointer and the count make the slice
    sets_last ! (agg ! (and_then ! (get ! refl) (and_then ! (get ! refl) (no_more !)))) refl (tt, (tt, (record { fits = fits }, tt))) $
    exec ! 𝓣.C 𝓣.Λ (env code.Mir.locals l) code.Mir.t-2 (at_ret _ (W.post y)) $ sets ! (of_opd ! (get ! refl)) refl (tt, (tt, (record { fits = fits }, tt))) $
    -- the return: the words shown are what the slice owns
    returns ! (look_at ! 0 refl) $ free_all ! refl $ keep ! (2 ∷ 0 ∷ []) $
    let long : length ws ≡ n = omega (arith, length-take n d.items) in
    flt_i ! (length ws * 8) (2 ^ 63) (omega arith) $ flt_i ! (length ws) (2 ^ 64) (omega arith) $ fjoin ! $
    feq_i ! (List Val) (slice_val at n ∷ []) (slice_val at (length ws) ∷ []) (ap (λ k. slice_val at k ∷ []) (sym long)) $ fjoin ! $ fjoin ! $
    suffices ! _ (ends_at 𝓛 f.ended stayed c y (slice_val at n) (record { ref_ptr = at; now = ws }) (tt, (tt, tt)) (tt, (tt, tt))) $ says ! refl $
    nothing ! $ move ! (2 ∷ 0 ∷ []) $ join ! $ frame ! $ nothing ! $ nothing ! $ fjoin ! $ nothing ! $ fjoin ! $ done !))))))
