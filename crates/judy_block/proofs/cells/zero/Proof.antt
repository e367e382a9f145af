-- `zero` writes one word after the other. How to read it: Lib.antt. Assumes `Logic`.
use Rattle.std.proofs.Common.{◌≡◌, ℕ, suc, ◌+◌, ◌-◌, ◌*◌, ◌<◌, ◌≤◌, ◌^◌, List, [], ◌∷◌, ◌++◌, replicate, length, refl, arith, lit<, w64, ltb→lt, nltb→le}
use Rattle.std.proofs.lemmas.List.{length-replicate, replicate_more}
use Rattle.std.proofs.raw_atomic.Walks.{proved}
use Rattle.std.proofs.alloc.Shapes.{after}
use mathlib.Core.WellFounded.InvImage
use lib.WfN.{lt-wf_rel}
use seplogic.Ra.Ura.{Ura}
use base.Fraction.{full_share}
use base.Logic.{SProp, ent, id⊢}
use base.Fml.{froom}
use mir.Syntax.{Body, ty_int}
use mir.Val.{Val, vunit, vint, vptr}
use prog.Wp.{Env, Out, Wp, WpFn, Tables, at_return, after_seq, after_block, after_turn}
use contract.Monad.{fact}
use contract.Running.{tables, tables_of}
use types.Logic.{Logic, sem}
use types.Kit.{Item, Sq, any_q, runs, ‵, raw, ◌⊛◌, prop, at_ret, ◌$◌, ◌∵◌, !, qed, by, done, move, keep, drop, use1, use2, join, split, fjoin, feq_i, flt_i, rewrite, regoal, suffices}
use types.Run.{enter, of_opd, lit, unit_lit, bin, init, stop, first, blocks, skips, jumps, branches, exec, returns, loops, again, Below, assigns_last}
use types.ByLocal.{alloc_all, pass_all, free_all, look_at, get, through, sets, sets_last, env, holding, forget_but}
use types.SemTy.{cells}
use denote.Builtin.{u64, usize}
use denote.Exit.{yes}
use denote.Memory.{mem, part_at}
use denote.Plain.{uint_in, uint_vals, uint_Tells}
use denote.RawPtr.{Ptr, RawPtr, block_ptr, room_for, in_a_block, rawptr_vals, rawptr_Tells}
use denote.Signature.{plain}
use denote.Steps.{nothing, heard}
use denote.Triple.Entry.{on_entry}
use denote.Triple.Walked.{Stays, walk_of, stay_dropped, Goes-dropped, ends_at}
use Rattle.judy_block.specs.Ownership.{words_type, words_own}
use Rattle.judy_block.specs.contracts.cells.zero as f
use Rattle.judy_block.proofs.Cutting.{snoc}
use Rattle.judy_block.proofs.cells.zero.Statement.{statement}
use Rattle.judy_block.proofs.cells.zero.Code as code

abbrev stayed : Stays f.ended.signature.params f.ended.kept
stayed = (stay_dropped _ yes, (stay_dropped _ yes, tt))

-- one turn of the loop
abbrev turn : Body
turn = code.Mir.turn-1

module _ {M : Type 1} {𝓤 : Ura M} (𝓛 : Logic 𝓤) (𝓣 : Tables 𝓤 𝓛.H) (Post : Val → SProp 𝓤) (b o n : ℕ) (few : n < 65537)
    (ends : ent 𝓤 (sem 𝓛 (words_own (block_ptr b o) (replicate n 0))) (Post vunit)) where
  open 𝓛 use {H}

  -- how many words are written
  abbrev Written : Type 0
  Written = (i : ℕ) × (i ≤ n)

  abbrev Nearer : Written → Written → Type 0
  Nearer t u = n - t.0 < n - u.0

  module _ (l : ℕ → ℕ) where
    abbrev En : Env 𝓤 H
    En = env code.function.locals l

    -- [the words written; the room for the rest; the locals]
    abbrev Now : Written → List (Item 𝓤)
    Now t = ‵ (cells (mem u64) (replicate t.0 0) b o) ∷ ‵ (froom (words_type (n - t.0)) b (t.0 * 8 + o)) ∷ holding 𝓛 En ((1, vptr b o) ∷ (2, vint w64 n) ∷ (3, vint w64 t.0) ∷ [])

    abbrev Turned : Written → Out → SProp 𝓤
    Turned t = after_turn 𝓤 H (Below 𝓛 Nearer Now t) (after_block 𝓤 H (after_seq 𝓤 H (Wp 𝓤 H 𝓣.C 𝓣.Λ En code.Mir.t-3 (at_return 𝓤 H En Post)) (at_return 𝓤 H En Post)))

    turns : (t : Written) → Sq 𝓛 (Now t) (runs 𝓣.C 𝓣.Λ En turn (any_q (Turned t)))
    unfolding after_turn
    turns t =
        let i : ℕ = t.0 in let le = t.1 in
        -- `while i < count`
        sets ! (bin ! (get ! refl) (get ! refl) tt) refl (tt, tt) $ first ! $ branches ! (get ! refl)
        (λ less. let h : i < n = ltb→lt i n less in let far : i * 8 < 2 ^ 64 = omega arith in let next : i + 1 < 2 ^ 64 = omega arith in
        skips ! $ exec ! 𝓣.C 𝓣.Λ En (after 2 turn) (any_q (Turned t)) $ first ! $ blocks ! $
        -- into `unsafe { .. }`: `head.add(i)`
        sets ! (bin ! (get ! refl) (lit ! tt) (record { fits = far })) refl (tt, record { fits = far }) $ sets ! (bin ! (get ! refl) (get ! refl) tt) refl (tt, tt) $
        -- `.write(0)`: the room is cut after one word, which is written
        move ! (1 ∷ []) $ rewrite ! 0 (λ (k : ℕ). ‵ (froom (words_type k) b (i * 8 + o))) {x = suc (n - suc i)} (omega arith) refl $
        use1 𝓛 (‵ (froom (ty_int w64) b (i * 8 + o)) ⊛ ‵ (froom (words_type (n - suc i)) b (i * 8 + o + 8))) (𝓛.laws.room_uncons (ty_int w64) (n - suc i) b (i * 8 + o)) $ split ! $
        assigns_last ! (of_opd ! (lit ! tt)) (through ! refl (stop !)) (init ! 0 refl (tt, record { fits = lit< tt })) $
        -- `i += 1`
        exec ! 𝓣.C 𝓣.Λ En (after 3 turn) (any_q (Turned t)) $ sets_last ! (bin ! (get ! refl) (lit ! tt) (record { fits = next })) refl (tt, record { fits = next }) $
        -- the word goes to the words written, and the turn ends nearer to n
        use1 𝓛 (‵ (part_at u64 full_share 0 b (i * 8 + o))) (uint_in 𝓛 full_share w64 0 b (i * 8 + o)) $ move ! (2 ∷ 0 ∷ []) $
        use2 𝓛 (‵ (cells (mem u64) (replicate i 0 ++ 0 ∷ []) b o)) (snoc 𝓛 b (replicate i 0) 0 o (i * 8 + o) (omega (arith, length-replicate {A = ℕ} i 0))) $
        rewrite ! 0 (λ (ws : List ℕ). ‵ (cells (mem u64) ws b o)) (replicate_more i 0) refl $
        rewrite ! 1 (λ (k : ℕ). ‵ (froom (words_type (n - suc i)) b k)) {x = (i + 1) * 8 + o} (omega arith) refl $
        rewrite ! 1 (λ (k : ℕ). ‵ (froom (words_type k) b ((i + 1) * 8 + o))) {x = n - (i + 1)} (omega arith) refl $
        forget_but ! En (1 ∷ 2 ∷ 3 ∷ []) refl $ again ! Nearer Now t (i + 1, omega arith) (omega arith))
        -- the loop is over: all n are written, and the function returns
        (λ over. let all : i ≡ n = omega (arith, nltb→le i n over) in
        jumps ! $ exec ! 𝓣.C 𝓣.Λ En code.Mir.t-3 (at_ret En Post) $ sets ! (of_opd ! (unit_lit !)) refl (tt, tt) $
        returns ! (look_at ! 0 refl) $ free_all ! refl $ keep ! (0 ∷ []) $
        rewrite ! 0 (λ (k : ℕ). ‵ (cells (mem u64) (replicate k 0) b o)) all refl $
        flt_i ! (length (replicate n 0)) 65537 (omega (arith, length-replicate {A = ℕ} n 0)) $ fjoin ! $ by ! ends)

  runs_whole : n < 2 ^ 64 → Sq 𝓛 (‵ (froom (words_type n) b o) ∷ []) (prop (WpFn 𝓤 H 𝓣.C 𝓣.Λ code.function (vptr b o ∷ vint w64 n ∷ []) Post))
  runs_whole fits =
      enter ! 𝓣.C 𝓣.Λ code.function (vptr b o ∷ vint w64 n ∷ []) Post $ alloc_all ! (λ l. pass_all ! refl ((tt, tt), ((tt, record { fits = fits }), tt)) $
      -- `let mut i = 0;`, and the loop from no word written on
      sets ! (of_opd ! (lit ! tt)) refl (tt, record { fits = lit< tt }) $
      rewrite ! 0 (λ (k : ℕ). ‵ (froom (words_type k) b o)) {x = n - 0} (omega arith) refl $ rewrite ! 0 (λ (k : ℕ). ‵ (froom (words_type (n - 0)) b k)) {x = 0 * 8 + o} (omega arith) refl $
      nothing ! $ first ! $ blocks ! $ loops ! 𝓣 Nearer (InvImage.wf (λ (t : Written). n - t.0) lt-wf_rel.wf) (Now l) (turns l) (0, omega arith))

pub zero_spec : {M : Type 1} → statement M
unfolding tables_of
zero_spec 𝓤 𝓛 𝓜 𝓡 wired =
    let c = f.clauses 𝓛 𝓜.mem 𝓡.returns in let W = walk_of 𝓛 f.ended stayed c in let 𝓣 : Tables 𝓤 𝓛.H = tables_of 𝓤 𝓛.H 𝓜 (tables 𝓤 𝓛.H 𝓜 𝓡 𝓡.env) in
    proved 𝓛 f.ended stayed c 𝓜 𝓡 (Goes-dropped 𝓛 0 (plain (λ _. RawPtr)) yes (λ κs x w. refl), (Goes-dropped 𝓛 0 (plain (λ _. usize)) yes (λ κs x w. refl), tt))
    f.Key.name code.function (code.unfolded 𝓤 𝓛.H 𝓜 𝓡 wired)
    (λ κs. (rawptr_vals, (uint_vals w64, tt))) (λ κs. (rawptr_Tells, (uint_Tells w64, tt))) (λ κs qs bounds a g are.
    let n : ℕ = a.1.0 in
    let y : Ptr → W.Ghost = λ p. ((κs, qs, bounds, (p, (n, tt)), (rawptr_vals p, (uint_vals w64 n, tt))), tt) in
    qed 𝓛 (raw (on_entry 𝓛 f.signature κs qs a (y a.0).0.4) ∷ (raw (fact 𝓤 (n < 65537)) ⊛ ‵ (room_for (words_type n) a.0)) ∷ []) ∵ drop ! $ split ! $ heard ! (n < 65537) (λ few.
    in_a_block ! a.0 (λ p. room_for (words_type n) p) (id⊢ 𝓤 _) (λ b o e.
    regoal ! (λ p. prop (WpFn 𝓤 𝓛.H 𝓣.C 𝓣.Λ code.function (rawptr_vals p ++ (uint_vals w64 n ++ [])) (W.post (y p)))) e refl $
    runs_whole 𝓛 𝓣 (W.post (y (block_ptr b o))) b o n few
    (qed 𝓛 (‵ (words_own (block_ptr b o) (replicate n 0)) ∷ []) ∵
    suffices ! _ (ends_at 𝓛 f.ended stayed c (y (block_ptr b o)) vunit tt (tt, (tt, tt)) (tt, (tt, tt))) $
    feq_i ! (List Val) (vunit ∷ []) (vunit ∷ []) refl $ nothing ! $ nothing ! $ fjoin ! $ nothing ! $ fjoin ! $ join ! $ nothing ! $ join ! $ done !)
    are.1.0.1)))
