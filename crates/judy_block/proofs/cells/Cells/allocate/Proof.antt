-- `allocate` takes room for the words, has them zeroed, and keeps the right to free them. How to read it: Lib.antt. Assumes `Logic`.
use Rattle.std.proofs.Common.{◌≡◌, ℕ, ◌*◌, ◌<◌, ◌^◌, List, [], ◌∷◌, ◌++◌, replicate, refl, sym, ap, subst, arith, lit<, T, w64, Ok, Err}
use Rattle.std.proofs.lemmas.List.{length-replicate}
use Rattle.std.proofs.raw_atomic.Walks.{proved_at, leaves}
use Rattle.std.proofs.alloc.Calls.{Al, seen, Takes, at_takes, Answered, Answer-typed, Takes-goes, Takes-gives, answers}
use Rattle.std.proofs.alloc.Shapes.{after, head, arm_body}
use Rattle.std.proofs.ResultValues.{ok_of, err_of}
use mathlib.Core.Bool.{true, false}
use base.Logic.{SProp, emp, id⊢}
use base.Fml.{Lft, Share, ftrue, flft}
use mir.Syntax.{Fn, Args, a_type, dcons, dnil, ty_unit}
use mir.Val.{Val, vint, vptr, vstruct, vcons, vnil, has_ty, WT}
use mir.MapTy.{inst_fn}
use prog.Capped.{capped_is}
use prog.Wp.{Env, WpFn, Wp, at_return, after_seq}
use contract.BorrowLft.{◌⊑◌, ⊑_trans}
use contract.Monad.{fact, fact_i}
use contract.Running.{tables}
use types.Kit.{‵, raw, ◌⊛◌, some, later, prop, at_ret, any_q, Post as After, ◌$◌, ◌∵◌, !, qed, by, move, drop, use0, use1, use2, split, join, pick, regoal, fsplit, fjoin, feq_i, feq_l, flt_i, await}
use types.Part.{whole, agg}
use types.Match.{live, vrt, in_variant}
use types.Run.{stop, fld, lit, of_opd, bin, no_more, and_then, first, blocks, switches_on, exec, returns, enter}
use types.ByLocal.{alloc_all, pass_all, free_all, look_at, get, get_in, get_tag, sets, sets_last, lands_as, lands_last, env}
use denote.Builtin.{unit}
use denote.Laws.{Is}
use denote.RattleType.{RattleType, owns}
use denote.RawPtr.{Ptr, block_ptr}
use denote.Param.{param, bounded}
use denote.Signature.{types_at}
use denote.Steps.{nothing, heard, owned, only}
use denote.Struct.Declared as Declared
use denote.Struct.Struct.{Struct, Struct-Makes}
use denote.Struct.Tuple.{Tuple}
use denote.Triple.Clauses.{lasts}
use denote.Triple.Entry.{alive}
use denote.Triple.Call.{calls_at, calls_at_last}
use denote.Triple.Spec.{triple_of}
use denote.Triple.Table.{framed}
use denote.Triple.Walked.{Stays, stay_dropped, walk_of, Goes-dropped}
use Rattle.std.specs.contracts.alloc.AllocError as AE
use Rattle.std.specs.contracts.result.Result as RS
use Rattle.judy_block.specs.Deeds.{IsDeedOf}
use Rattle.judy_block.specs.Ownership.{words_type, words_own}
use Rattle.judy_block.specs.contracts.cells.Cells as C
use Rattle.judy_block.specs.contracts.cells.Deed as D
use Rattle.judy_block.specs.contracts.cells.Cells.allocate as f
use Rattle.judy_block.specs.contracts.cells.zero as g-zero
use Rattle.judy_block.proofs.cells.zero.Met as zeroed
use Rattle.judy_block.proofs.Values.{slot_at, cells_val, cells_own, cells_made, deed_val, deed_own, deed_made, pair_val, pair_of}
use Rattle.judy_block.proofs.cells.Cells.allocate.Statement.{statement}
use Rattle.judy_block.proofs.cells.Cells.allocate.Code as code

pub allocate_spec : {M : Type 1} → statement M
allocate_spec 𝓤 𝓛 𝓜 𝓡 wired A L g d dd met md =
    let E = f.ended A g d dd in let c = f.clauses A g d dd 𝓛 𝓜.mem 𝓡.returns in
    let args : Args = bounded (a_type ∷ []) (A, tt) (dcons d (dcons dd dnil)) in let fn : Fn = inst_fn args code.function in
    let stays : Stays E.signature.params E.kept = (stay_dropped (slot_at 0 E.signature.params) E.kept.0, (stay_dropped (slot_at 1 E.signature.params) E.kept.1.0, tt)) in
    let 𝓣 = tables 𝓤 𝓛.H 𝓜 𝓡 𝓡.env in let H = 𝓛.H in
    proved_at 𝓛 E stays c 𝓜 𝓡 (Goes-dropped 𝓛 2 (slot_at 0 E.signature.params) E.kept.0 (λ κs x w. refl), (Goes-dropped 𝓛 2 (slot_at 1 E.signature.params) E.kept.1.0 (λ κs x w. refl), tt))
    (f.Key.name args) fn (code.unfolded 𝓤 𝓛.H 𝓜 𝓡 wired (A, tt) d dd) (λ z are.
    -- the premises: κ is the lifetime of the `&` to the handle, h the handle, n the count
    let Post : Val → SProp 𝓤 = (walk_of 𝓛 E stays c).post z in let a = z.0.3 in let vss = z.0.4 in
    let Y : Al = record { row = A; laws = L; g = g; d = d; drops = dd } in
    let κ : Lft = z.0.0.0 in let q : Share = z.0.1.0 in let h = a.0.now in let at = a.0.ref_ptr in let n : ℕ = a.1.0 in let fits = are.1.0.1 in
    let Asked : Type 0 = n < 65537 in let Z : RattleType = param 0 A in let Pair : RattleType = Tuple (C.the_row ∷ D.the_row Z g ∷ []) in let Out : RattleType = RS.the_row Pair AE.the_row in
    qed 𝓛 ((raw (alive 𝓛 E.signature z.0.0 z.0.1) ⊛ ‵ (owns (types_at E.signature.params z.0.0) a vss)) ∷ (raw (fact 𝓤 (z.0.0.1.0 ⊑ A.lives)) ⊛ raw (fact 𝓤 Asked)) ∷ []) ∵
    move ! (1 ∷ []) $ split ! $ heard ! (z.0.0.1.0 ⊑ A.lives) (λ le. heard ! Asked (λ few. split ! $ move ! (1 ∷ []) $
    fsplit ! $ fsplit ! $ drop ! $ use1 𝓛 (‵ (seen Y κ at h)) (id⊢ 𝓤 _) $ move ! (1 ∷ []) $ drop ! $
    move ! (1 ∷ []) $ use1 𝓛 (‵ (flft κ q) ⊛ ‵ (flft z.0.0.1.0 z.0.1.1.0) ⊛ ‵ ftrue) (id⊢ 𝓤 _) $ split ! $ move ! (2 ∷ 0 ∷ []) $
    -- [the `&` to the handle; its lifetime; the other lifetime]
    let bytes : n * 8 < 2 ^ 64 = omega arith in let y = at_takes Y 𝓛 𝓜.mem 𝓡.returns κ q at h (n * 8) 8 (words_type n) in
    regoal ! (λ (us : List Val). prop (WpFn 𝓤 𝓛.H 𝓣.C 𝓣.Λ fn us Post)) (λ i. are.0.0 i ++ (are.1.0.0 i ++ [])) refl $
    enter ! 𝓣.C 𝓣.Λ fn (vptr at.0 at.1 ∷ vint w64 n ∷ []) Post $ alloc_all ! (λ l. pass_all ! refl ((tt, tt), ((tt, record { fits = fits }), tt)) $ let En : Env 𝓤 𝓛.H = env fn.locals l in
    let Then : After 𝓤 H = any_q (after_seq 𝓤 H (Wp 𝓤 H 𝓣.C 𝓣.Λ En (after 3 fn.body) (at_return 𝓤 H En Post)) (at_return 𝓤 H En Post)) in let both = head (after 2 fn.body) in
    -- `count * size_of::<u64>()`
    sets ! (bin ! (get ! refl) (lit ! tt) (record { fits = bytes })) refl (tt, record { fits = bytes }) $
    -- the call of `alloc.allocate`, and the two cases of its answer
    use2 𝓛 (raw ((Takes Y 𝓛 𝓜.mem 𝓡.returns).pre y))
    (Takes-goes Y 𝓛 𝓜.mem 𝓡.returns κ q at h (⊑_trans κ z.0.0.1.0 A.lives z.0.2.0 le) (n * 8) 8 (words_type n) (capped_is (n * 8) bytes) refl bytes (lit< tt)) $
    calls_at ! (framed 𝓤 𝓛.H 𝓜 𝓣) (Takes Y 𝓛 𝓜.mem 𝓡.returns) (met.allocate dd) y (and_then ! (get ! refl) (and_then ! (get ! refl) (and_then ! (lit ! tt) (no_more !)))) (λ v.
    use1 𝓛 (later (raw (Answered Y 𝓛 𝓜.mem 𝓡.returns h (words_type n) v) ⊛ ‵ (flft κ q))) (Takes-gives Y 𝓛 𝓜.mem 𝓡.returns κ q at h (n * 8) 8 (words_type n) v) $ await ! tt $ split ! $
    answers Y ! 𝓜.mem 𝓡.returns h (words_type n) v
    -- a block: [the room; the token; the two lifetimes]
    (λ b o e. move ! (2 ∷ 3 ∷ []) $ join ! $ move ! (1 ∷ 2 ∷ []) $ lands_as ! e refl (Answer-typed true b o) $
    let p : Ptr = block_ptr b o in let zeros = replicate n 0 in
    -- into the arm `Ok(memory)`: `memory` and `head`
    first ! $ switches_on ! (get_tag ! (vrt ! refl (fld ! refl (stop !))) (whole !)) $ exec ! 𝓣.C 𝓣.Λ En (arm_body 0 both) Then $
    sets ! (of_opd ! (get_in ! (vrt ! refl (fld ! refl (stop !))) (in_variant ! 0 0 refl refl (whole !)))) refl (tt, tt) $ sets ! (of_opd ! (get ! refl)) refl (tt, tt) $
    -- `unsafe { zero(head, count) }`: it takes the arguments, the bound and the room, and gives the words
    first ! $ blocks ! $ let G = triple_of 𝓛 g-zero.signature (g-zero.spec 𝓛 𝓜.mem 𝓡.returns) in
    let at_zero : G.Ghost = ((tt, tt, tt, (p, (n, tt)), (vptr b o ∷ [], (vint w64 n ∷ [], tt))), tt) in
    use0 𝓛 (raw (fact 𝓤 Asked)) (fact_i 𝓤 Asked (emp 𝓤) few) $ join ! $
    nothing ! $ flt_i ! n (2 ^ 64) fits $ feq_i ! (List Val) (vint w64 n ∷ []) (vint w64 n ∷ []) refl $ fjoin ! $ fjoin ! $ feq_i ! (List Val) (vptr b o ∷ []) (vptr b o ∷ []) refl $ fjoin ! $
    nothing ! $ join ! $ use2 𝓛 (raw (G.pre at_zero)) (id⊢ 𝓤 _) $
    calls_at_last ! (framed 𝓤 𝓛.H 𝓜 𝓣) G (zeroed.met 𝓤 𝓛 𝓜 𝓡 (code.calls-judy_block::cells::zero 𝓡.env wired)) at_zero (and_then ! (get ! refl) (and_then ! (get ! refl) (no_more !))) (λ u.
    use1 𝓛 (later (some (λ (r : Unit {0}). (‵ ftrue ⊛ ‵ (unit.own_val r (u ∷ []))) ⊛ some (λ (ws : Unit {0} × (Unit {0} × Unit {0})). ‵ (lasts g-zero.ended tt at_zero.0.3 ws) ⊛ ‵
    (words_own p zeros))))) (id⊢ 𝓤 _) $
    await ! tt $ pick ! (λ r. split ! $ split ! $ drop ! $ feq_l ! (λ is_unit. pick ! (λ ws. split ! $ drop ! $
    lands_last ! refl (subst (λ (x : Val). T (has_ty ty_unit x) × WT x) (sym (ap only is_unit)) (tt, tt)) $ exec ! 𝓣.C 𝓣.Λ En (after 3 (arm_body 0 both)) Then $
    -- [the words; the token; the two lifetimes]. `Ok((Cells { head }, Deed { mark: PhantomData }))`: both structs, the pair, the `Result`
    let made : Val = pair_val (cells_val p) deed_val in
    sets ! (agg ! (and_then ! (get ! refl) (no_more !))) refl (tt, (tt, tt)) $ sets ! (agg ! (no_more !)) refl (tt, tt) $ sets ! (agg ! (and_then ! (get ! refl) (no_more !))) refl (tt, (tt, tt)) $
    sets ! (agg ! (and_then ! (get ! refl) (and_then ! (get ! refl) (no_more !)))) refl (tt, ((tt, tt), ((tt, tt), tt))) $
    sets_last ! (agg ! (and_then ! (lit ! tt) (and_then ! (get ! refl) (no_more !)))) refl (tt, (record { fits = lit< tt }, (((tt, tt), ((tt, tt), tt)), tt))) $
    exec ! 𝓣.C 𝓣.Λ En (after 3 fn.body) (at_ret En Post) $ sets ! (of_opd ! (get ! refl)) refl (tt, (record { fits = lit< tt }, (((tt, tt), ((tt, tt), tt)), tt))) $
    returns ! (look_at ! 0 refl) $ free_all ! refl $
    -- the return: the words make the cells what they own, and the token the deed
    let x : (C.the_row).Denot = record { head = p; items = zeros } in let k : (D.the_row Z g).Denot = record { mark = record {}; alloc = h; at = p; len = n } in
    use0 𝓛 (‵ (cells_own p (cells_val p ∷ []))) (cells_made 𝓛 p) $ fjoin ! $ move ! (1 ∷ []) $ use0 𝓛 (‵ (deed_own (deed_val ∷ []))) (deed_made 𝓛) $ fjoin ! $ move ! (1 ∷ 0 ∷ []) $
    use2 𝓛 (‵ (Pair.own_val (x, k) (made ∷ []))) (pair_of 𝓛 C.the_row (D.the_row Z g) x k (cells_val p) deed_val) $
    use1 𝓛 (‵ (Out.own_val (Ok (x, k)) (live 0 (vcons made vnil) ∷ []))) (ok_of 𝓛 Pair AE.the_row (x, k) made) $
    use0 𝓛 (raw (fact 𝓤 (IsDeedOf k h x))) (fact_i 𝓤 (IsDeedOf k h x) (emp 𝓤) (refl, refl, sym (length-replicate {A = ℕ} n 0))) $
    use0 𝓛 (raw (fact 𝓤 (zeros ≡ zeros))) (fact_i 𝓤 (zeros ≡ zeros) (emp 𝓤) refl) $ join ! $
    nothing ! $ nothing ! $ fjoin ! $ nothing ! $ fjoin ! $ move ! (3 ∷ 0 ∷ 2 ∷ 1 ∷ []) $
    by ! (leaves 𝓛 E stays c z (live 0 (vcons made vnil)) (Ok (x, k)) (tt, (tt, tt)) (tt, (tt, tt))))))))
    -- none: [the two lifetimes]
    (λ e. join ! $ lands_as ! e refl (Answer-typed false 0 0) $
    let Refusal : RattleType = Struct (Declared.shape AE.the_type) in let none : Val = live 1 (vcons (vstruct vnil) vnil) in
    -- into the arm `Err(error)`, which hands the error on
    first ! $ switches_on ! (get_tag ! (vrt ! refl (fld ! refl (stop !))) (whole !)) $ exec ! 𝓣.C 𝓣.Λ En (arm_body 1 both) Then $
    sets ! (of_opd ! (get_in ! (vrt ! refl (fld ! refl (stop !))) (in_variant ! 1 0 refl refl (whole !)))) refl (tt, tt) $
    sets_last ! (agg ! (and_then ! (lit ! tt) (and_then ! (get ! refl) (no_more !)))) refl (tt, (record { fits = lit< tt }, (tt, tt))) $
    exec ! 𝓣.C 𝓣.Λ En (after 3 fn.body) (at_ret En Post) $ sets ! (of_opd ! (get ! refl)) refl (tt, (record { fits = lit< tt }, (tt, tt))) $
    returns ! (look_at ! 0 refl) $ free_all ! refl $
    owned ! Refusal (Is Refusal) (Struct-Makes 𝓛 (Declared.shape AE.the_type) tt) tt (vstruct vnil ∷ []) (tt, (refl, tt)) $
    use1 𝓛 (‵ (Out.own_val (Err (record {})) (none ∷ []))) (err_of 𝓛 Pair AE.the_row (record {}) (vstruct vnil)) $
    use0 𝓛 (raw (fact 𝓤 (Unit {0}))) (fact_i 𝓤 (Unit {0}) (emp 𝓤) tt) $ use0 𝓛 (raw (fact 𝓤 (Unit {0})))
    (fact_i 𝓤 (Unit {0}) (emp 𝓤) tt) $ join ! $ nothing ! $ nothing ! $ fjoin ! $ nothing ! $ fjoin ! $ move ! (3 ∷ 0 ∷ 2 ∷ 1 ∷ []) $
    by ! (leaves 𝓛 E stays c z none (Err (record {})) (tt, (tt, tt)) (tt, (tt, tt)))))))))
