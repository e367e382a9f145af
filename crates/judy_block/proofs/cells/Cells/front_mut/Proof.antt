-- `front_mut` lends the first words behind the pointer, and the struct follows them. How to read it: Lib.antt. Assumes `Logic`.
use Rattle.std.proofs.Common.{◌≡◌, ℕ, ◌+◌, ◌*◌, ◌<◌, ◌≤◌, ◌^◌, ◌∙◌, List, [], ◌∷◌, ◌++◌, length, take, drop, refl, sym, ap, arith, w64, length-take, length-drop, length-append, take-append-drop}
use Rattle.std.proofs.raw_atomic.Walks.{proved}
use Rattle.std.specs.List.{refill}
use lib.Seq.{take_at}
use seplogic.Ra.Ura.{Ura}
use base.Fraction.{full_share}
use base.Logic.{ent, sep, id⊢, never}
use base.Fml.{GName, Fml, ftrue, fsep, flft}
use mir.Syntax.{named}
use mir.Val.{Val}
use contract.Monad.{fact}
use contract.Running.{tables}
use types.Logic.{Logic, sem}
use types.Kit.{‵, raw, ◌⊛◌, some, later, at_ret, ◌$◌, ◌∵◌, !, qed, done, move, keep, drop as skip, use1, use2, join, split, split3, fsplit, fsplit3, fjoin, fjoin3, fpack, pick}
use types.Kit.{await, flt_i, flt_l, rewrite, suffices, frame, group}
use types.Part.{whole, sub, look_in, agg}
use types.Run.{enter, of_opd, load, fld, stop, no_more, and_then, first, blocks, exec, returns}
use types.ByLocal.{alloc_all, pass_all, free_all, look_at, get, through, sets, sets_last, env}
use types.SemTy.{cells}
use denote.Array.{Array}
use denote.Builtin.{u64, usize}
use denote.Exit.{yes, no}
use denote.Follow.{follows}
use denote.FollowSlice.{Elements, lends_Elements}
use denote.Laws.{shows}
use denote.Memory.{mem, cell_at, part_of}
use denote.Plain.{uint_vals, uint_Tells}
use denote.RattleType.{RattleType, owns}
use denote.RawPtr.{Ptr, block_ptr, in_a_block}
use denote.Ref.{MutBor, MutRef, mut_vals, mut_Tells}
use denote.Signature.{Slot, plain, mut_ref_to}
use denote.Slice.{MutSlice, slice_val}
use denote.Steps.{nothing, heard, opens, peeks}
use denote.Struct.Owning.{shape}
use denote.Struct.Struct.{Struct}
use denote.Triple.Walked.{Stays, walk_of, says, stay_dropped, Goes-dropped, Goes-spent_ref, ends_at}
use Rattle.judy_block.specs.Lends.{with_items}
use Rattle.judy_block.specs.Ownership.{words_own}
use Rattle.judy_block.specs.declared.cells.Cells.{Cells}
use Rattle.judy_block.specs.contracts.cells.Cells as C
use Rattle.judy_block.specs.contracts.cells.Cells.front_mut as f
use Rattle.judy_block.proofs.Cutting.{cut, glue}
use Rattle.judy_block.proofs.cells.Cells.TheLaws.{lowers}
use Rattle.judy_block.proofs.cells.Cells.front_mut.Statement.{statement}
use Rattle.judy_block.proofs.cells.Cells.front_mut.Code as code

abbrev R : RattleType
R = C.the_row

abbrev Self : Slot 1
Self = mut_ref_to (0 ∷ []) tt (plain (λ _. R))

abbrev stayed : Stays f.ended.signature.params f.ended.kept
stayed = (stay_dropped Self no, (stay_dropped _ yes, tt))

-- what the struct is once the first n words have ended as ws
abbrev new : Cells → ℕ → List ℕ → Cells
new d n ws = with_items d (refill n (take n d.items) ws ++ drop n d.items)

module _ {M : Type 1} {𝓤 : Ura M} (𝓛 : Logic 𝓤) (d : Cells) (n rb ro b o at : ℕ) (vs : List Val) where
  -- the other words, and the pointer in its place
  abbrev Rest : Fml
  Rest = fsep (cells (mem u64) (drop n d.items) b at) (fsep ((Struct (shape C.the_type)).own_val (d.head, tt) vs) (cell_at full_share R.mir vs rb ro))

  -- whatever the n words have become, with the rest they are the struct at `new`
  back : d.head ≡ block_ptr b o → at ≡ n * 8 + o → n ≤ length d.items → length d.items < 65537 → (ws : List ℕ) → length ws ≡ length (take n d.items)
      → ent 𝓤 (sep 𝓤 (sem 𝓛 (cells (mem u64) ws b o)) (sem 𝓛 Rest)) (sem 𝓛 ((mem R).own_at (new d n ws) rb ro))
  unfolding part_of
  back e place within few ws same =
      let count : length ws ≡ n = omega (arith, same, length-take n d.items) in
      let all : refill n (take n d.items) ws ≡ ws = take_at ws (drop (length ws) (take n d.items)) n count in
      let long : length (new d n ws).items ≡ length d.items = ap (λ l. length (l ++ drop n d.items)) all ∙ omega (arith, length-append ws (drop n d.items), length-drop n d.items) in
      qed 𝓛 (‵ (cells (mem u64) ws b o) ∷ ‵ Rest ∷ []) ∵ move ! (1 ∷ []) $ fsplit3 ! $ move ! (3 ∷ 0 ∷ []) $
      use2 𝓛 (‵ (cells (mem u64) (ws ++ drop n d.items) b o)) (glue 𝓛 b ws (drop n d.items) o at (omega arith)) $
      rewrite ! 0 (λ (l : List ℕ). ‵ (cells (mem u64) (l ++ drop n d.items) b o)) (sym all) refl $
      flt_i ! (length (new d n ws).items) 65537 (omega arith) $ fjoin ! $
      rewrite ! 0 (λ (p : Ptr). ‵ (words_own p (new d n ws).items)) (sym e) refl $ move ! (1 ∷ 0 ∷ []) $ fjoin ! $ move ! (1 ∷ 0 ∷ []) $ fjoin ! $
      fpack ! (List Val) (λ us. fsep (cell_at full_share R.mir us rb ro) (R.own_val (new d n ws) us)) vs $ done !

pub front_mut_spec : {M : Type 1} → statement M
front_mut_spec 𝓤 𝓛 𝓜 𝓡 wired =
    let A = 𝓛.A in let c = f.clauses 𝓛 𝓜.mem 𝓡.returns in let W = walk_of 𝓛 f.ended stayed c in let 𝓣 = tables 𝓤 𝓛.H 𝓜 𝓡 𝓡.env in
    proved 𝓛 f.ended stayed c 𝓜 𝓡 (Goes-spent_ref 𝓛 1 (0 ∷ []) tt (plain (λ _. R)), (Goes-dropped 𝓛 1 (plain (λ _. usize)) yes (λ κs x w. refl), tt))
    f.Key.name code.function (code.unfolded 𝓤 𝓛.H 𝓜 𝓡 wired)
    (λ κs. (mut_vals, (uint_vals w64, tt))) (λ κs. (mut_Tells (named 0) κs.0 R, (uint_Tells w64, tt))) (λ κs qs bounds a g are.
    let κ = κs.0 in let q = qs.0 in let rb = a.0.ref_ptr.0 in let ro = a.0.ref_ptr.1 in let γ = a.0.ghost_name in let d : Cells = a.0.now in let n : ℕ = a.1.0 in
    let ws = take n d.items in let fits = are.1.0.1 in
    let y : W.Ghost = ((κs, qs, bounds, a, (mut_vals a.0, (uint_vals w64 n, tt))), tt) in
    qed 𝓛 (((‵ (flft κ q) ⊛ ‵ ftrue) ⊛ ‵ (owns (MutRef (named 0) κ R ∷ usize ∷ []) a y.0.4)) ∷ raw (fact 𝓤 (n ≤ length d.items)) ∷ []) ∵
    split ! $ split ! $ move ! (3 ∷ []) $ heard ! (n ≤ length d.items) (λ within. move ! (2 ∷ []) $ fsplit ! $ fsplit3 ! $ skip ! $ keep ! (0 ∷ 1 ∷ 3 ∷ []) $
    -- [two parts of the `&mut`; its token]
    enter ! _ _ _ _ _ $ alloc_all ! (λ l. pass_all ! refl ((tt, tt), ((tt, record { fits = fits }), tt)) $
    -- the borrow is opened
    opens ! tt R {h = d} rb ro (λ vs. move ! (1 ∷ []) $ peeks ! R _ (shows 𝓛 R) d vs (λ is. fsplit ! $ move ! (1 ∷ []) $
    -- [the words; what the pointer owns; the struct's cell; the open borrow, in three entries]
    in_a_block ! d.head (λ p. words_own p d.items) (id⊢ 𝓤 (never 𝓤)) (λ b o e. fsplit ! $ flt_l ! (λ few.
    let word = lowers.val_is d vs is ∙ ap (λ (p : Ptr). lowers.lowered (record d { head = p }) ∷ []) e in
    let Cell = λ (us : List Val). ‵ (cell_at full_share R.mir us rb ro) in
    -- into `unsafe { .. }`: `self.head` is read, and `from_raw_parts_mut` makes the slice of it and the count
    rewrite ! 2 Cell word refl $ first ! $ blocks ! $ sets ! (of_opd ! (load ! (through ! refl (fld ! refl (stop !))) (look_in ! 2 (sub ! 0 refl (whole !))))) refl
    (tt, tt) $ rewrite ! 2 Cell (sym word) refl $
    sets_last ! (agg ! (and_then ! (get ! refl) (and_then ! (get ! refl) (no_more !)))) refl (tt, (tt, (record { fits = fits }, tt))) $
    exec ! 𝓣.C 𝓣.Λ (env code.Mir.locals l) code.Mir.t-2 (at_ret _ (W.post y)) $ sets ! (of_opd ! (get ! refl)) refl (tt, (tt, (record { fits = fits }, tt))) $
    -- the words are cut after the first n, which leave under a name of their own
    let long : length ws ≡ n = omega (arith, length-take n d.items) in let at : ℕ = n * 8 + o in
    rewrite ! 0 (λ (l : List ℕ). ‵ (cells (mem u64) l b o)) (sym (take-append-drop n d.items)) refl $
    use1 𝓛 (‵ (cells (mem u64) ws b o) ⊛ ‵ (cells (mem u64) (drop n d.items) b at)) (cut 𝓛 b ws (drop n d.items) o at (omega arith)) $ split ! $
    move ! (1 ∷ 2 ∷ 3 ∷ []) $ fjoin3 ! $ move ! (2 ∷ 3 ∷ 4 ∷ 1 ∷ 0 ∷ []) $ group ! 5 $
    let few' : length ws < 2 ^ 64 = omega arith in let fitting : length ws * 8 < 2 ^ 63 = omega arith in let mark = R.coded.code d in
    let Lent = Elements 𝓛 R u64 (new d n) (named 0) κ q rb ro b o γ ws (few', fitting) (sem 𝓛 (Rest 𝓛 d n rb ro b o at vs)) (back 𝓛 d n rb ro b o at vs e refl within few) in
    use1 𝓛 (later (some (λ (δ : GName). raw (Lent δ))))
    (lends_Elements 𝓛 R u64 (new d n) (named 0) κ q rb ro b o γ ws (few', fitting) (sem 𝓛 (Rest 𝓛 d n rb ro b o at vs)) (back 𝓛 d n rb ro b o at vs e refl within few) mark mark)
    $ await ! tt $ pick ! (λ δ.
    -- the return: [the slice; the token; that the struct follows the slice]
    returns ! (look_at ! 0 refl) $ free_all ! refl $ keep ! (0 ∷ []) $
    let r : MutBor (List ℕ) = record { ref_ptr = (b, o); ghost_name = δ; now = ws } in
    use1 𝓛 (‵ ((MutSlice (named 0) κ u64).own_val r (slice_val (b, o) (length ws) ∷ [])) ⊛ ‵ (flft κ q) ⊛ ‵ (follows R (Array u64 0) γ δ (new d n))) (id⊢ 𝓤 _) $ split3 ! $
    rewrite ! 0 (λ (k : ℕ). ‵ ((MutSlice (named 0) κ u64).own_val r (slice_val (b, o) k ∷ []))) long refl $
    suffices ! _ (ends_at 𝓛 f.ended stayed c y (slice_val (b, o) n) r (tt, (tt, tt)) (tt, (tt, tt))) $
    nothing ! $ nothing ! $ fjoin ! $ nothing ! $ fjoin ! $ join ! $ nothing ! $ move ! (2 ∷ 0 ∷ []) $ join ! $ join ! $ frame ! $ says ! refl $ done !))))))))
