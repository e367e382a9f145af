-- `release` gives the allocator its block and its token. How to read it: Lib.antt. Assumes `Logic`.
use Rattle.std.proofs.Common.{◌≡◌, ℕ, ◌*◌, ◌<◌, ◌^◌, List, [], ◌∷◌, ◌++◌, length, refl, sym, ap, subst, ◌∙◌, arith, lit<, T, w64}
use Rattle.std.proofs.raw_atomic.Walks.{proved_at, leaves}
use Rattle.std.proofs.alloc.Calls.{Al, seen, Goes-blank, Gives, at_gives, Gives-goes, Gives-Gives}
use Rattle.std.proofs.alloc.Shapes.{after}
use base.Logic.{SProp, never, id⊢}
use base.Fml.{Lft, Share, ftrue, flft, froom}
use mir.Syntax.{Fn, Args, a_type, dcons, dnil, ty_unit}
use mir.Val.{Val, vint, vptr, vunit, has_ty, WT}
use mir.MapTy.{inst_fn}
use prog.Capped.{capped_is}
use prog.Wp.{Env, WpFn}
use contract.BorrowLft.{◌⊑◌, ⊑_trans}
use contract.Monad.{fact}
use contract.Running.{tables}
use types.Kit.{‵, raw, ◌⊛◌, given, later, prop, at_ret, ◌$◌, ◌∵◌, !, qed, by, move, drop, use1, split, split3, join, learn, rewrite, regoal, fsplit, fsplit3, fjoin, feq_i, flt_l, await, group}
use types.Part.{whole, sub}
use types.Run.{stop, fld, lit, unit_lit, of_opd, bin, no_more, and_then, first, blocks, exec, returns, enter}
use types.ByLocal.{alloc_all, pass_all, free_all, look_at, get, get_in, sets, lands_last, env}
use denote.RattleType.{owns}
use denote.RawPtr.{Ptr, block_ptr, in_a_block}
use denote.Param.{bounded}
use denote.Signature.{types_at}
use denote.Steps.{nothing, heard}
use denote.Triple.Entry.{alive}
use denote.Triple.Call.{calls_at_last}
use denote.Triple.Table.{framed}
use denote.Triple.Walked.{Stays, stay_dropped, walk_of, Goes-dropped}
use Rattle.judy_block.specs.Deeds.{IsDeedOf}
use Rattle.judy_block.specs.Ownership.{words_type, words_own}
use Rattle.judy_block.specs.contracts.cells.Cells.release as f
use Rattle.judy_block.proofs.Cutting.{to_room}
use Rattle.judy_block.proofs.Values.{slot_at, cells_val, cells_told, deed_val, deed_told}
use Rattle.judy_block.proofs.cells.Cells.release.Statement.{statement}
use Rattle.judy_block.proofs.cells.Cells.release.Code as code

pub release_spec : {M : Type 1} → statement M
release_spec 𝓤 𝓛 𝓜 𝓡 wired A L g d dd met md =
    let E = f.ended A g d dd in let c = f.clauses A g d dd 𝓛 𝓜.mem 𝓡.returns in
    let args : Args = bounded (a_type ∷ []) (A, tt) (dcons d (dcons dd dnil)) in let fn : Fn = inst_fn args code.function in
    let stays : Stays E.signature.params E.kept = (
      stay_dropped (slot_at 0 E.signature.params) E.kept.0,
      (
        stay_dropped (slot_at 1 E.signature.params) E.kept.1.0,
        (stay_dropped (slot_at 2 E.signature.params) E.kept.1.1.0, (stay_dropped (slot_at 3 E.signature.params) E.kept.1.1.1.0, tt)),
      ),
    ) in
    let 𝓣 = tables 𝓤 𝓛.H 𝓜 𝓡 𝓡.env in
    proved_at 𝓛 E stays c 𝓜 𝓡 (
      Goes-dropped 𝓛 2 (slot_at 0 E.signature.params) E.kept.0 (λ κs x w. refl),
      (
        Goes-blank 𝓛 2 (slot_at 1 E.signature.params) E.kept.1.0 (λ κs x w. tt),
        (Goes-blank 𝓛 2 (slot_at 2 E.signature.params) E.kept.1.1.0 (λ κs x w. tt), (Goes-dropped 𝓛 2 (slot_at 3 E.signature.params) E.kept.1.1.1.0 (λ κs x w. refl), tt)),
      ),
    )
    (f.Key.name args) fn (code.unfolded 𝓤 𝓛.H 𝓜 𝓡 wired (A, tt) d dd) (λ z are.
    -- the premises: κ is the lifetime of the `&` to the handle, x the cells, k the deed, h the handle, n the count
    let Post : Val → SProp 𝓤 = (walk_of 𝓛 E stays c).post z in let a = z.0.3 in let vss = z.0.4 in
    let Y : Al = record { row = A; laws = L; g = g; d = d; drops = dd } in
    let κ : Lft = z.0.0.0 in let q : Share = z.0.1.0 in let x = a.0 in let k = a.1.0 in let h = a.1.1.0.now in let at = a.1.1.0.ref_ptr in let n : ℕ = a.1.1.1.0 in
    let fits = are.1.1.1.0.1 in
    let Its : Type 0 = IsDeedOf k h x in let All : Type 0 = length x.items ≡ n in
    qed 𝓛 ((raw (alive 𝓛 E.signature z.0.0 z.0.1) ⊛ ‵ (owns (types_at E.signature.params z.0.0) a vss)) ∷ (raw (fact 𝓤 (z.0.0.1.0 ⊑ A.lives)) ⊛ raw (fact 𝓤 Its) ⊛ raw (fact 𝓤 All)) ∷ []) ∵
    move ! (1 ∷ []) $ split3 ! $ heard ! (z.0.0.1.0 ⊑ A.lives) (λ le. heard ! Its (λ its. heard ! All (λ all. split ! $
    -- [the cells; the deed; the `&` to the handle, and the count; the tokens], of the cells the words, in a block b from o on
    move ! (1 ∷ []) $ fsplit3 ! $ fsplit ! $ drop ! $ in_a_block ! x.head (λ p. words_own p x.items) (id⊢ 𝓤 (never 𝓤)) (λ b o e. fsplit ! $ flt_l ! (λ few.
    let bytes : n * 8 < 2 ^ 64 = omega (arith, all) in let y = at_gives Y 𝓛 𝓜.mem 𝓡.returns κ q at h b o (n * 8) 8 (words_type n) in
    -- the words are room for as many
    use1 𝓛 (‵ (froom (words_type (length x.items)) b o)) (to_room 𝓛 b x.items o) $ rewrite ! 0 (λ (m : ℕ). ‵ (froom (words_type m) b o)) all refl $
    -- the deed is the token for it
    move ! (1 ∷ []) $ fsplit ! $ drop ! $ rewrite ! 0 (λ (u : A.Denot × Ptr × ℕ). ‵ (g.dealloc_token u.0 (words_type u.2) u.1)) (λ i. (its.0 i, (its.1 ∙ e) i, (its.2 ∙ all) i)) refl $
    move ! (2 ∷ []) $ fsplit ! $ fsplit ! $ drop ! $ use1 𝓛 (‵ (seen Y κ at h)) (id⊢ 𝓤 _) $ move ! (1 ∷ []) $ drop ! $
    move ! (3 ∷ []) $ use1 𝓛 (‵ (flft κ q) ⊛ ‵ (flft z.0.0.1.0 z.0.1.1.0) ⊛ ‵ ftrue) (id⊢ 𝓤 _) $ split ! $ move ! (4 ∷ 3 ∷ 2 ∷ 0 ∷ 1 ∷ []) $
    -- [the room; the token; the `&` to the handle; its lifetime; the other lifetime]
    regoal ! (λ (us : List Val). prop (WpFn 𝓤 𝓛.H 𝓣.C 𝓣.Λ fn us Post))
    (λ i. (cells_told x.head vss.0 are.0.0 ∙ ap (λ (p : Ptr). cells_val p ∷ []) e) i ++ (deed_told vss.1.0 are.1.0.0 i ++ (are.1.1.0.0 i ++ (are.1.1.1.0.0 i ++ [])))) refl $
    enter ! 𝓣.C 𝓣.Λ fn (cells_val (block_ptr b o) ∷ deed_val ∷ vptr at.0 at.1 ∷ vint w64 n ∷ []) Post $
    alloc_all ! (λ l. pass_all ! refl ((tt, (tt, tt)), ((tt, (tt, tt)), ((tt, tt), ((tt, record { fits = fits }), tt)))) $ let En : Env 𝓤 𝓛.H = env fn.locals l in
    -- `let Cells { head } = self;`
    sets ! (of_opd ! (get_in ! (fld ! refl (stop !)) (sub ! 0 refl (whole !)))) refl (tt, tt) $
    -- into `unsafe { .. }`: the two arguments, the pointer and the bytes
    first ! $ blocks ! $
    sets ! (of_opd ! (get ! refl)) refl (tt, tt) $ sets ! (bin ! (get ! refl) (lit ! tt) (record { fits = bytes })) refl (tt, record { fits = bytes }) $
    -- what `deallocate` requires is these four entries; the call takes them and leaves the lifetime
    group ! 4 $ use1 𝓛 (raw ((Gives Y 𝓛 𝓜.mem 𝓡.returns).pre y))
    (Gives-goes Y 𝓛 𝓜.mem 𝓡.returns κ q at h (⊑_trans κ z.0.0.1.0 A.lives z.0.2.0 le) b o (n * 8) 8 (words_type n) (capped_is (n * 8) bytes) refl bytes (lit< tt)) $
    calls_at_last ! (framed 𝓤 𝓛.H 𝓜 𝓣) (Gives Y 𝓛 𝓜.mem 𝓡.returns) (met.deallocate dd) y (and_then ! (get ! refl)
    (and_then ! (get ! refl) (and_then ! (get ! refl) (and_then ! (lit ! tt) (no_more !))))) (λ v.
    use1 𝓛 (later (given (v ≡ vunit) (‵ (flft κ q)))) (Gives-Gives Y 𝓛 𝓜.mem 𝓡.returns κ q at h b o (n * 8) 8 (words_type n) v) $ await ! tt $ learn ! (λ done_with. join ! $
    lands_last ! refl (subst (λ (u : Val). T (has_ty ty_unit u) × WT u) (sym done_with) (tt, tt)) $ exec ! 𝓣.C 𝓣.Λ En (after 2 fn.body) (at_ret En Post) $
    -- the return: no part of the parameters is left
    sets ! (of_opd ! (unit_lit !)) refl (tt, tt) $ returns ! (look_at ! 0 refl) $ free_all ! refl $
    feq_i ! (List Val) (vunit ∷ []) (vunit ∷ []) refl $ nothing ! $ nothing ! $ nothing ! $ fjoin ! $ nothing ! $ fjoin ! $ nothing ! $ fjoin ! $ nothing ! $ fjoin ! $ move ! (3 ∷ 0 ∷ 2 ∷ 1 ∷ []) $
    by ! (leaves 𝓛 E stays c z vunit tt (tt, (tt, (tt, (tt, tt)))) (tt, (tt, (tt, (tt, tt))))))))))))))
