-- `get_mut` lends the value in the array. The borrow checker does not cover an element of an array that goes to the caller, so
-- this proof walks the code by hand. Assumes `Logic`.
use mathlib.Core.Path.{◌≡◌, refl, sym, ap, subst}
use Prim.Native.Nat.{ℕ, ◌+◌, ◌*◌, ◌^◌, ◌<◌}
use native.Mathlib.Nat.{zero-mul}
use native.Mathlib.Omega.{arith}
use mathlib.Core.List.{List, [], ◌∷◌}
use lib.ListN.{length}
use seplogic.Ra.Ura.{Ura}
use mir.Syntax.{Fn, named, w64}
use mir.MapTy.{inst_fn}
use prog.Memory.{capped, size}
use mir.Val.{Val, vptr, vint}
use base.Logic.{SProp, ent, sep, ex, guard}
use base.Fml.{Lft, GName, Share, ftrue, flft}
use types.Logic.{Logic, sem}
use types.Mut.{open_ref}
use types.SemTy.{cells}
use types.Kit.{Item, ‵, ◌⊛◌, raw, given, some, later, ◌$◌, ◌∵◌, !, qed, move, keep, drop, split, split3, join, learn, fsplit, fsplit3, fjoin, use1, use2, await, pick, suffices}
use types.Kit.{frame, done, updating, group, now, show, rewrite, check}
use types.Run.{stop, fld, addr, bin, lit, size_word, returns, enter}
use types.ByLocal.{alloc_all, pass_all, free_all, look_at, get, through, sets, is}
use contract.Running.{tables}
use denote.Exit.{no}
use denote.Follow.{follows, Part, lends_Part}
use denote.Memory.{mem}
use denote.Param.{layout}
use denote.Param.Laws.{Laws}
use denote.RattleType.{RattleType, owns}
use denote.Ref.{MutRef, mut_vals, mut_Tells}
use denote.Signature.{Slot, plain, mut_ref_to}
use denote.Steps.{nothing}
use denote.Triple.Walked.{Stays, walk_of, says, stay_dropped, Goes-spent_ref, ends_at}
use Rattle.std.proofs.raw_atomic.Walks.{proved}
use Rattle.judy_node.specs.Bundles.{bundled}
use Rattle.judy_node.proofs.BundleMemory.{args, R, S, start, Left, items_out, value_in, the_one, is_one}
use Rattle.judy_node.specs.contracts.bundle.Bundle.get_mut as F
use Rattle.judy_node.specs.contracts.bundle.Bundle.get_mut.Key.{name as #self}
use Rattle.judy_node.proofs.bundle.Bundle.get_mut.Statement.{statement}
use Rattle.judy_node.proofs.bundle.Bundle.get_mut.Code as code

module _ (X : RattleType) where
  abbrev function : Fn
  function = inst_fn (args X) code.function

  abbrev Self : Slot 2
  Self = mut_ref_to (0 ∷ []) tt (plain (λ _. S X))

  abbrev stayed : Stays (F.ended X).signature.params (F.ended X).kept
  stayed = (stay_dropped Self no, tt)

module _ (X : RattleType) (L : Laws X) {M : Type 1} {𝓤 : Ura M} (𝓛 : Logic 𝓤) (κ : Lft) (q : Share) (b o : ℕ) (γ : GName) (d : (S X).Denot) where
  open 𝓛 use {H, A}

  -- the value is out, under a name of its own
  abbrev Lent : GName × X.Denot → SProp 𝓤
  Lent y = guard 𝓤 (d ≡ bundled y.1) (Part 𝓛 (S X) (R X) bundled (named 0) κ q b o b (start X o) γ (Left X 𝓛 b o) (value_in X 𝓛 b o) y.1 y.0)

  abbrev lent : GName × X.Denot → Item 𝓤
  lent y =
      given (d ≡ bundled y.1) (‵ ((MutRef (named 0) κ (R X)).own_val (record { ref_ptr = (b, start X o); ghost_name = y.0; now = y.1 }) (vptr b (start X o) ∷ [])) ⊛ ‵
      (flft κ q) ⊛ ‵ (follows (S X) (R X) γ y.0 bundled))

  lends : (vs : List Val)
      → ent 𝓤 (sep 𝓤 (sem 𝓛 ((MutRef (named 0) κ (S X)).own_val (record { ref_ptr = (b, o); ghost_name = γ; now = d }) vs)) (A.lft κ q)) (H.⇛ (ex 𝓤 Lent))
  lends vs =
      qed 𝓛 (‵ ((MutRef (named 0) κ (S X)).own_val (record { ref_ptr = (b, o); ghost_name = γ; now = d }) vs) ∷ ‵ (flft κ q) ∷ []) ∵
      updating ! $ fsplit3 ! $ drop ! $ open_ref ! tt (mem (S X)) {b = b} {o = o} $
      use1 𝓛 (given (length d.items ≡ 1) (‵ (cells (mem (R X)) d.items b (start X o)) ⊛ raw (Left X 𝓛 b o))) (items_out X 𝓛 b o L d) $
      learn ! (λ long. split ! $
      let x : X.Denot = the_one d.items long in
      rewrite ! 0 (λ (l : List X.Denot). ‵ (cells (mem (R X)) l b (start X o))) (is_one d.items long) refl $
      fsplit ! $ move ! (1 ∷ []) $ drop ! $ move ! (2 ∷ 3 ∷ 4 ∷ 0 ∷ 1 ∷ []) $ group ! 5 $
      let mark = (S X).coded.code d in
      use1 𝓛 (later (some (λ (δ : GName). raw (Part 𝓛 (S X) (R X) bundled (named 0) κ q b o b (start X o) γ (Left X 𝓛 b o) (value_in X 𝓛 b o) x δ))))
      (lends_Part 𝓛 (S X) (R X) bundled (named 0) κ q b o b (start X o) γ (Left X 𝓛 b o) (value_in X 𝓛 b o) mark mark x) $ await ! tt $ pick ! (λ δ.
      now ! $ show ! Lent (δ, x) $ check ! (ap (λ (l : List X.Denot). record { items = l }) (is_one d.items long)) $ done !))

pub get_mut_spec : {M : Type 1} → statement M
get_mut_spec 𝓤 𝓛 𝓜 𝓡 wired X L =
    let c = F.clauses X 𝓛 𝓜.mem 𝓡.returns in let W = walk_of 𝓛 (F.ended X) (stayed X) c in let 𝓣 = tables 𝓤 𝓛.H 𝓜 𝓡 𝓡.env in
    proved 𝓛 (F.ended X) (stayed X) c 𝓜 𝓡 (Goes-spent_ref 𝓛 2 (0 ∷ []) tt (plain (λ _. S X)), tt)
    (#self (args X)) (function X) (code.unfolded 𝓤 𝓛.H 𝓜 𝓡 wired (X, tt))
    (λ κs. (mut_vals, tt)) (λ κs. (mut_Tells (named 0) κs.0 (S X), tt)) (λ κs qs bounds a g are.
    let κ = κs.0 in let q = qs.0 in let b = a.0.ref_ptr.0 in let o = a.0.ref_ptr.1 in let γ = a.0.ghost_name in let d : (S X).Denot = a.0.now in
    let y : W.Ghost = ((κs, qs, bounds, a, (mut_vals a.0, tt)), tt) in
    qed 𝓛 (((‵ (flft κ q) ⊛ ‵ (flft κs.1.0 qs.1.0) ⊛ ‵ ftrue) ⊛ ‵ (owns (MutRef (named 0) κ (S X) ∷ []) a y.0.4)) ∷ raw ((c κs a).requires g) ∷ []) ∵
    keep ! (0 ∷ []) $ split ! $
    enter ! 𝓣.C 𝓣.Λ (function X) (vptr b o ∷ []) _ $ alloc_all ! (λ l. pass_all ! refl ((tt, tt), tt) $
    let none : 0 * capped (size (layout X)) ≡ 0 = zero-mul (capped (size (layout X))) in
    let small : 0 < 2 ^ 64 = omega arith in
    sets ! (is ! (bin ! (lit ! tt) (size_word !) (record { fits = subst (λ (k : ℕ). k < 2 ^ 64) (sym none) small })) (ap (vint w64) none)) refl (tt, record { fits = small }) $
    sets ! (addr ! (through ! refl (fld ! refl (stop !)))) refl (tt, tt) $
    sets ! (bin ! (get ! refl) (get ! refl) tt) refl (tt, tt) $
    sets ! (addr ! (through ! refl (stop !))) refl (tt, tt) $
    split ! $ move ! (2 ∷ []) $ fsplit ! $ move ! (0 ∷ 2 ∷ []) $
    use2 𝓛 (later (some (lent X L 𝓛 κ q b o γ d))) (lends X L 𝓛 κ q b o γ d (mut_vals a.0)) $ await ! tt $ pick ! (λ z. learn ! (λ is_whole.
    returns ! (look_at ! 0 refl) $ free_all ! refl $ keep ! (0 ∷ 2 ∷ []) $ split3 ! $
    let there : start X o ≡ 0 + start X o = omega arith in
    rewrite ! 0 (λ (k : ℕ). ‵ ((MutRef (named 0) κ (R X)).own_val (record { ref_ptr = (b, k); ghost_name = z.0; now = z.1 }) (vptr b k ∷ []))) there refl $
    suffices ! _ (ends_at 𝓛 (F.ended X) (stayed X) c y (vptr b (0 + start X o)) (record { ref_ptr = (b, 0 + start X o); ghost_name = z.0; now = z.1 }) (tt, tt) (tt, tt)) $
    nothing ! $ nothing ! $ fjoin ! $ join ! $ move ! (1 ∷ 3 ∷ []) $ join ! $ join ! $ frame ! $ says ! is_whole $ done !))))
