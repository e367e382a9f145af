-- `word_mut` lends one word behind the pointer, and the struct follows it. How to read it: Lib.antt. Assumes `Logic`.
use Rattle.std.proofs.Common.{◌≡◌, ℕ, ◌+◌, ◌*◌, ◌<◌, ◌^◌, ◌∙◌, List, [], ◌∷◌, length, refl, sym, ap, arith, w64}
use Rattle.std.proofs.raw_atomic.Walks.{proved}
use lib.ListN.{set, get_or, length-set}
use seplogic.Ra.Ura.{Ura}
use base.Fraction.{full_share}
use base.Logic.{ent, sep, id⊢, never}
use base.Fml.{GName, Fml, ftrue, fsep, flft}
use mir.Syntax.{named}
use mir.Val.{Val, vptr}
use contract.Monad.{fact}
use contract.Running.{tables}
use types.Logic.{Logic, sem}
use types.Kit.{‵, raw, ◌⊛◌, some, later, at_ret, ◌$◌, ◌∵◌, !, qed, done, move, keep, drop as skip, use1, use2, join, split, split3, fsplit, fsplit3, fjoin, fjoin3, fpack, pick}
use types.Kit.{await, flt_i, flt_l, rewrite, suffices, frame, group}
use types.Part.{whole, sub, look_in}
use types.Run.{enter, of_opd, bin, lit, addr, load, fld, stop, first, blocks, exec, returns}
use types.ByLocal.{alloc_all, pass_all, free_all, look_at, get, through, sets, sets_last, env}
use types.SemTy.{cells}
use denote.Builtin.{u64, usize}
use denote.Exit.{yes, no}
use denote.Follow.{follows, Part, lends_Part}
use denote.Laws.{shows}
use denote.Memory.{mem, cell_at, part_at, part_of}
use denote.Plain.{uint_vals, uint_Tells}
use denote.RattleType.{RattleType, owns}
use denote.RawPtr.{Ptr, block_ptr, in_a_block}
use denote.Ref.{MutBor, MutRef, mut_vals, mut_Tells}
use denote.Signature.{Slot, plain, mut_ref_to}
use denote.Steps.{nothing, heard, opens, peeks}
use denote.Struct.Owning.{shape}
use denote.Struct.Struct.{Struct}
use denote.Triple.Walked.{Stays, walk_of, says, stay_dropped, Goes-dropped, Goes-spent_ref, ends_at}
use Rattle.judy_block.specs.Lends.{with_items}
use Rattle.judy_block.specs.Ownership.{words_own}
use Rattle.judy_block.specs.declared.cells.Cells.{Cells}
use Rattle.judy_block.specs.contracts.cells.Cells as C
use Rattle.judy_block.specs.contracts.cells.Cells.word_mut as f
use Rattle.judy_block.proofs.Cutting.{Besides, word_out, word_in}
use Rattle.judy_block.proofs.cells.Cells.TheLaws.{lowers}
use Rattle.judy_block.proofs.cells.Cells.word_mut.Statement.{statement}
use Rattle.judy_block.proofs.cells.Cells.word_mut.Code as code

abbrev R : RattleType
R = C.the_row

abbrev Self : Slot 1
Self = mut_ref_to (0 ∷ []) tt (plain (λ _. R))

abbrev stayed : Stays f.ended.signature.params f.ended.kept
stayed = (stay_dropped Self no, (stay_dropped _ yes, tt))

-- what the struct is once the word i has ended as w
abbrev new : Cells → ℕ → ℕ → Cells
new d i w = with_items d (set d.items i w)

module _ {M : Type 1} {𝓤 : Ura M} (𝓛 : Logic 𝓤) (d : Cells) (i rb ro b o at : ℕ) (place : at ≡ i * 8 + o) (within : i < length d.items) (vs : List Val) where
  -- the other words, and the pointer in its place
  abbrev Rest : Fml
  Rest = fsep (Besides 𝓛 b d.items i o at place within) (fsep ((Struct (shape C.the_type)).own_val (d.head, tt) vs) (cell_at full_share R.mir vs rb ro))

  -- whatever the word has become, with the rest it is the struct at `new`
  back : d.head ≡ block_ptr b o → length d.items < 65537 → (w : ℕ) → ent 𝓤 (sep 𝓤 (sem 𝓛 ((mem u64).own_at w b at)) (sem 𝓛 Rest)) (sem 𝓛 ((mem R).own_at (new d i w) rb ro))
  unfolding part_of
  back e few w =
      let long = length-set d.items i w in
      qed 𝓛 (‵ ((mem u64).own_at w b at) ∷ ‵ Rest ∷ []) ∵ move ! (1 ∷ []) $ fsplit3 ! $ move ! (3 ∷ 0 ∷ []) $
      use2 𝓛 (‵ (cells (mem u64) (new d i w).items b o)) (word_in 𝓛 b d.items i o at place within w) $
      flt_i ! (length (new d i w).items) 65537 (omega arith) $ fjoin ! $
      rewrite ! 0 (λ (p : Ptr). ‵ (words_own p (new d i w).items)) (sym e) refl $ move ! (1 ∷ 0 ∷ []) $ fjoin ! $ move ! (1 ∷ 0 ∷ []) $ fjoin ! $
      fpack ! (List Val) (λ us. fsep (cell_at full_share R.mir us rb ro) (R.own_val (new d i w) us)) vs $ done !

pub word_mut_spec : {M : Type 1} → statement M
word_mut_spec 𝓤 𝓛 𝓜 𝓡 wired =
    let c = f.clauses 𝓛 𝓜.mem 𝓡.returns in let W = walk_of 𝓛 f.ended stayed c in let 𝓣 = tables 𝓤 𝓛.H 𝓜 𝓡 𝓡.env in
    proved 𝓛 f.ended stayed c 𝓜 𝓡 (Goes-spent_ref 𝓛 1 (0 ∷ []) tt (plain (λ _. R)), (Goes-dropped 𝓛 1 (plain (λ _. usize)) yes (λ κs x w. refl), tt))
    f.Key.name code.function (code.unfolded 𝓤 𝓛.H 𝓜 𝓡 wired)
    (λ κs. (mut_vals, (uint_vals w64, tt))) (λ κs. (mut_Tells (named 0) κs.0 R, (uint_Tells w64, tt))) (λ κs qs bounds a g are.
    let κ = κs.0 in let q = qs.0 in let rb = a.0.ref_ptr.0 in let ro = a.0.ref_ptr.1 in let γ = a.0.ghost_name in let d : Cells = a.0.now in let i : ℕ = a.1.0 in
    let w = get_or d.items i 0 in let fits = are.1.0.1 in
    let y : W.Ghost = ((κs, qs, bounds, a, (mut_vals a.0, (uint_vals w64 i, tt))), tt) in
    qed 𝓛 (((‵ (flft κ q) ⊛ ‵ ftrue) ⊛ ‵ (owns (MutRef (named 0) κ R ∷ usize ∷ []) a y.0.4)) ∷ raw (fact 𝓤 (i < length d.items)) ∷ []) ∵
    split ! $ split ! $ move ! (3 ∷ []) $ heard ! (i < length d.items) (λ within. move ! (2 ∷ []) $ fsplit ! $ fsplit3 ! $ skip ! $ keep ! (0 ∷ 1 ∷ 3 ∷ []) $
    -- [two parts of the `&mut`; its token]
    enter ! _ _ _ _ _ $ alloc_all ! (λ l. pass_all ! refl ((tt, tt), ((tt, record { fits = fits }), tt)) $
    -- the borrow is opened
    opens ! tt R {h = d} rb ro (λ vs. move ! (1 ∷ []) $ peeks ! R _ (shows 𝓛 R) d vs (λ is. fsplit ! $ move ! (1 ∷ []) $
    -- [the words; what the pointer owns; the struct's cell; the open borrow, in three entries]
    in_a_block ! d.head (λ p. words_own p d.items) (id⊢ 𝓤 (never 𝓤)) (λ b o e. fsplit ! $ flt_l ! (λ few.
    let word = lowers.val_is d vs is ∙ ap (λ (p : Ptr). lowers.lowered (record d { head = p }) ∷ []) e in
    let Cell = λ (us : List Val). ‵ (cell_at full_share R.mir us rb ro) in let far : i * 8 < 2 ^ 64 = omega arith in let at : ℕ = i * 8 + o in
    -- into `unsafe { .. }`: `self.head` is read, `.add(i)` moves it on to the word, and `&mut *` makes the reference
    rewrite ! 2 Cell word refl $ first ! $ blocks ! $ sets ! (of_opd ! (load ! (through ! refl (fld ! refl (stop !))) (look_in ! 2 (sub ! 0 refl (whole !))))) refl
    (tt, tt) $ rewrite ! 2 Cell (sym word) refl $
    sets ! (bin ! (get ! refl) (lit ! tt) (record { fits = far })) refl (tt, record { fits = far }) $ sets ! (bin ! (get ! refl) (get ! refl) tt) refl (tt, tt) $
    sets_last ! (addr ! (through ! refl (stop !))) refl (tt, tt) $ exec ! 𝓣.C 𝓣.Λ (env code.Mir.locals l) code.Mir.t-2 (at_ret _ (W.post y)) $ sets ! (of_opd ! (get ! refl)) refl (tt, tt) $
    -- the word is taken out of the others, and leaves under a name of its own
    use1 𝓛 (‵ (part_at u64 full_share w b at) ⊛ ‵ (Besides 𝓛 b d.items i o at refl within)) (word_out 𝓛 b d.items i o at refl within) $ split ! $
    move ! (1 ∷ 2 ∷ 3 ∷ []) $ fjoin3 ! $ move ! (2 ∷ 3 ∷ 4 ∷ 1 ∷ 0 ∷ []) $ group ! 5 $ let mark = R.coded.code d in
    use1 𝓛 (later (some (λ (δ : GName). raw (Part 𝓛 R u64 (new d i) (named 0) κ q rb ro b at γ (sem 𝓛 (Rest 𝓛 d i rb ro b o at refl within vs)) (back 𝓛 d i rb ro b o at refl within vs e few) w δ))))
    (lends_Part 𝓛 R u64 (new d i) (named 0) κ q rb ro b at γ (sem 𝓛 (Rest 𝓛 d i rb ro b o at refl within vs)) (back 𝓛 d i rb ro b o at refl within vs e few) mark mark w) $ await ! tt $ pick ! (λ δ.
    -- the return: [the reference; the token; that the struct follows the word]
    returns ! (look_at ! 0 refl) $ free_all ! refl $ keep ! (0 ∷ []) $
    let r : MutBor ℕ = record { ref_ptr = (b, at); ghost_name = δ; now = w } in
    use1 𝓛 (‵ ((MutRef (named 0) κ u64).own_val r (vptr b at ∷ [])) ⊛ ‵ (flft κ q) ⊛ ‵ (follows R u64 γ δ (new d i))) (id⊢ 𝓤 _) $ split3 ! $
    suffices ! _ (ends_at 𝓛 f.ended stayed c y (vptr b at) r (tt, (tt, tt)) (tt, (tt, tt))) $
    nothing ! $ nothing ! $ fjoin ! $ nothing ! $ fjoin ! $ join ! $ nothing ! $ move ! (2 ∷ 0 ∷ []) $ join ! $ join ! $ frame ! $ says ! refl $ done !))))))))
