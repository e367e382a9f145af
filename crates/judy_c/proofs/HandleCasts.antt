-- The cast of a handle to what it holds: one walk for all of them, since their machine code is the same. Assumes `Logic`.
use Rattle.std.proofs.Common.{◌≡◌, [], ◌∷◌, refl}
use Rattle.std.proofs.raw_atomic.Walks.{proved}
use seplogic.Ra.Ura.{Ura}
use base.Logic.{sep, emp}
use base.Fml.{ftrue, flft}
use mir.Syntax.{named, erased, mut, Callee, Ty, ty_ptr, ty_ref, Fn, Body, local, value_local, block, seq, assign, place, deref, addr_of, rv_opd, copy, return}
use mir.Val.{vptr}
use contract.Monad.{fact}
use contract.Running.{Running, tables}
use prog.Model.{Model}
use prog.Wp.{Closed}
use types.Logic.{Logic, sem}
use types.Kit.{‵, raw, ◌⊛◌, at_ret, ◌$◌, ◌∵◌, !, qed, done, move, keep, drop, join, split, split3, fsplit, fsplit3, fjoin, suffices, frame}
use types.Run.{enter, of_opd, addr, stop, first, blocks, exec, returns}
use types.ByLocal.{alloc_all, pass_all, free_all, look_at, get, through, sets, sets_last, env}
use denote.Builtin.{RefMutOf, One}
use denote.Exit.{no}
use denote.RattleType.{RattleType, owns}
use denote.Ref.{MutBor, MutRef, mut_vals, mut_Tells}
use denote.Signature.{plain, mut_ref_to}
use denote.Steps.{nothing}
use denote.Triple.Clauses.{Ended, Clauses, closing}
use denote.Triple.Spec.{Meets}
use denote.Triple.Walked.{Stays, walk_of, says, stay_dropped, Goes-spent_ref, ends_at}
use Rattle.std.specs.Borrow.{Lends}
use Rattle.judy_c.proofs.Recast.{Alike, recast}
use Rattle.judy_c.specs.contracts.held.Held as held

-- the machine code of a cast: the types are as they are written and as they are spelled out
module _ (Handle handle Held held : Ty) where
  abbrev pub turned : Body
  turned = seq (assign (place 0 []) (rv_opd (copy (place 2 [])))) return

  abbrev pub casting : Fn
  casting = record {
    lifetimes = 1;
    outlives = [];
    ty_params = [];
    givens = 0;
    params = 1;
    locals =
        local (ty_ref (named 0) mut Held) value_local ∷ local (ty_ref (named 0) mut Handle) value_local ∷ local
        (ty_ref erased mut Held) value_local ∷ local ty_ptr value_local ∷ local ty_ptr value_local ∷ [];
    body =
        seq (block (seq (assign (place 3 []) (addr_of (place 1 (deref handle ∷ [])))) (seq (assign (place 4 []) (rv_opd (copy (place 3 []))))
        (assign (place 2 []) (addr_of (place 4 (deref held ∷ []))))))) turned;
  }

module _ (R J : RattleType) (one : One R.mir) where
  -- what a handle of the one type holds of the other
  abbrev S : RattleType
  S = held.the_row J

  abbrev pub ended : Ended
  ended = record {
    signature = record {
      lifetimes = 1;
      outlives = [];
      params = RefMutOf (0 ∷ []) tt (plain (λ κs. R)) (λ κs. one) ∷ [];
      result = RefMutOf (0 ∷ []) tt (plain (λ κs. S)) (λ κs. tt);
    };
    kept = (no, tt);
  }

  abbrev stayed : Stays ended.signature.params ended.kept
  stayed = (stay_dropped (mut_ref_to (0 ∷ []) tt (plain (λ _. R))) no, tt)

  module _ {M : Type 1} (𝓤 : Ura M) (𝓛 : Logic 𝓤) (A : Alike 𝓛 R S) where
    abbrev pub clauses : Clauses 𝓤 ended
    clauses = λ κs a. record {
      ghost = Unit {0};
      requires = λ g. emp 𝓤;
      ensures = λ g r e. sep 𝓤 (sem 𝓛 (Lends R S a.0 r A.back)) (fact 𝓤 (r.now ≡ A.cast a.0.now));
    }

    pub casts : (Handle handle Held held : Ty) (𝓜 : Model 𝓤 𝓛.H) (𝓡 : Running 𝓤 𝓛.H 𝓜) (k : Callee) → let 𝓣 = tables 𝓤 𝓛.H 𝓜 𝓡 𝓡.env in
        Closed 𝓤 𝓛.H 𝓣.C 𝓣.Λ k (casting Handle handle Held held) → Meets 𝓛 ended.signature (𝓣.C k) (closing 𝓛 ended clauses)
    casts Handle handle Held held 𝓜 𝓡 k closed =
        let fn = casting Handle handle Held held in let W = walk_of 𝓛 ended stayed clauses in let 𝓣 = tables 𝓤 𝓛.H 𝓜 𝓡 𝓡.env in
        proved 𝓛 ended stayed clauses 𝓜 𝓡 (Goes-spent_ref 𝓛 1 (0 ∷ []) tt (plain (λ _. R)), tt)
        k fn closed
        (λ κs. (mut_vals, tt)) (λ κs. (mut_Tells (named 0) κs.0 R, tt)) (λ κs qs bounds a g are.
        let κ = κs.0 in let q = qs.0 in let rb = a.0.ref_ptr.0 in let ro = a.0.ref_ptr.1 in let γ = a.0.ghost_name in
        let y : W.Ghost = ((κs, qs, bounds, a, (mut_vals a.0, tt)), tt) in
        qed 𝓛 (((‵ (flft κ q) ⊛ ‵ ftrue) ⊛ ‵ (owns (MutRef (named 0) κ R ∷ []) a y.0.4)) ∷ raw (emp 𝓤) ∷ []) ∵
        split ! $ split ! $ move ! (2 ∷ []) $ fsplit ! $ fsplit3 ! $ drop ! $ keep ! (0 ∷ 1 ∷ 3 ∷ []) $
        -- [two parts of the `&mut`; its token]
        enter ! _ _ _ _ _ $ alloc_all ! (λ l. pass_all ! refl ((tt, tt), tt) $
        -- `&mut *(self as *mut Handle as *mut Held<Array>)`
        first ! $ blocks ! $ sets ! (addr ! (through ! refl (stop !))) refl (tt, tt) $ sets ! (of_opd ! (get ! refl)) refl (tt, tt) $
        sets_last ! (addr ! (through ! refl (stop !))) refl (tt, tt) $ exec ! 𝓣.C 𝓣.Λ (env fn.locals l) (turned Handle handle Held held) (at_ret _ (W.post y)) $ sets !
        (of_opd ! (get ! refl)) refl (tt, tt) $
        recast A κ q rb ro γ a.0.now ! tt (λ δ.
        -- the return: [the reference; its token; that the handle follows]
        returns ! (look_at ! 0 refl) $ free_all ! refl $ keep ! (0 ∷ []) $ split3 ! $
        let r : MutBor S.Denot = record { ref_ptr = (rb, ro); ghost_name = δ; now = A.cast a.0.now } in
        suffices ! _ (ends_at 𝓛 ended stayed clauses y (vptr rb ro) r (tt, tt) (tt, tt)) $
        nothing ! $ nothing ! $ fjoin ! $ join ! $ nothing ! $ move ! (2 ∷ 0 ∷ []) $ join ! $ join ! $ frame ! $ says ! refl $ done !)))
