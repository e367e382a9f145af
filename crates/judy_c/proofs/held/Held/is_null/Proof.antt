-- `is_null` reads the pointer, and what is owned behind it tells whether it is null. Assumes `Logic`.
use Rattle.std.proofs.Common.{List, [], ◌∷◌, refl, Bool, lit<}
use Rattle.std.proofs.raw_atomic.Walks.{proved}
use base.Fraction.{full_share}
use base.Fml.{ftrue, flft}
use mir.MapTy.{inst_fn}
use mir.Syntax.{named, ty_ptr}
use mir.Val.{Val, vptr, vbool, has_ty, WT}
use lib.Dec.{T}
use contract.Running.{tables}
use types.Kit.{‵, raw, ◌⊛◌, given, ◌$◌, ◌∵◌, !, qed, done, move, keep, drop as skip, use1, learn, split, split3, fsplit, fsplit3, fjoin, fjoin3, feq_i, rewrite, suffices, frame, group}
use types.Part.{whole, sub, look_in}
use types.Run.{enter, of_opd, bin, lit, load, fld, stop, returns}
use types.ByLocal.{alloc_all, pass_all, free_all, look_at, get, through, sets, is}
use denote.Memory.{cell_at}
use denote.RattleType.{RattleType, owns}
use denote.RawPtr.{Ptr, block_ptr, null_ptr, ptr_val, tests_null}
use denote.Ref.{MutRef, mut_vals, mut_Tells}
use denote.Signature.{plain}
use denote.Steps.{nothing, opens, closes}
use denote.Triple.Walked.{Stays, walk_of, says, stay_ref, Goes-ref, ends_at}
use Rattle.judy_c.proofs.HeldMemory.{args, R, S, word, held_out, held_in}
use Rattle.judy_c.proofs.Holding.{tells, Tells}
use Rattle.judy_c.specs.Owned.{held}
use Rattle.judy_c.specs.declared.held.Held.{Held}
use Rattle.judy_c.specs.contracts.held.Held.is_null as f
use Rattle.judy_c.specs.contracts.held.Held.is_null.Key.{name as #self}
use Rattle.judy_c.proofs.held.Held.is_null.Statement.{statement}
use Rattle.judy_c.proofs.held.Held.is_null.Code as code

abbrev stayed : (X : RattleType) → Stays (f.ended X).signature.params (f.ended X).kept
stayed X = (stay_ref (0 ∷ []) tt (plain (λ _. S X)), tt)

ptr_typed : (p : Ptr) → T (has_ty ty_ptr (ptr_val p)) × WT (ptr_val p)
ptr_typed (block_ptr b o) = (tt, tt)
ptr_typed null_ptr = (tt, record { fits = lit< tt })

pub is_null_spec : {M : Type 1} → statement M
is_null_spec 𝓤 𝓛 𝓜 𝓡 wired X L =
    let c = f.clauses X 𝓛 𝓜.mem 𝓡.returns in let W = walk_of 𝓛 (f.ended X) (stayed X) c in let 𝓣 = tables 𝓤 𝓛.H 𝓜 𝓡 𝓡.env in
    proved 𝓛 (f.ended X) (stayed X) c 𝓜 𝓡 (Goes-ref 𝓛 2 0 tt (plain (λ _. S X)), tt)
    (#self (args X)) (inst_fn (args X) code.function) (code.unfolded 𝓤 𝓛.H 𝓜 𝓡 wired (X, tt))
    (λ κs. (mut_vals, tt)) (λ κs. (mut_Tells (named 0) κs.0 (S X), tt)) (λ κs qs bounds a g are.
    let κ = κs.0 in let q = qs.0 in let rb = a.0.ref_ptr.0 in let ro = a.0.ref_ptr.1 in let d : Held X.Denot = a.0.now in
    let y : W.Ghost = ((κs, qs, bounds, a, (mut_vals a.0, tt)), tt) in
    qed 𝓛 (((‵ (flft κ q) ⊛ ‵ (flft κs.1.0 qs.1.0) ⊛ ‵ ftrue) ⊛ ‵ (owns (MutRef (named 0) κ (S X) ∷ []) a y.0.4)) ∷ raw ((c κs a).requires g) ∷ []) ∵
    split ! $ split3 ! $ move ! (3 ∷ []) $ fsplit ! $ fsplit3 ! $ skip ! $ keep ! (0 ∷ 1 ∷ 3 ∷ 4 ∷ []) $
    -- [two parts of the `&mut`; its token; the array's]
    enter ! _ _ _ _ _ $ alloc_all ! (λ l. pass_all ! refl ((tt, tt), tt) $
    opens ! tt (S X) {h = d} rb ro (λ vs. move ! (1 ∷ []) $ held_out X ! d vs (λ ws.
    -- [what the pointer owns; the cell; the open borrow, in three entries; the array's token]
    use1 𝓛 (given (Tells (R X) d.at d.array) (‵ (held (R X) d.at d.array))) (tells (R X) 𝓛 d.at d.array) $ learn ! (λ told. let b : Bool = told.1.0 in
    rewrite ! 1 (λ (us : List Val). ‵ (cell_at full_share (S X).mir us rb ro)) ws refl $
    sets ! (of_opd ! (load ! (through ! refl (fld ! refl (stop !))) (look_in ! 1 (sub ! 0 refl (whole !))))) refl (ptr_typed d.at) $
    sets ! (is ! (bin ! (get ! refl) (lit ! tt) (tests_null d.at told.0)) told.1.1) refl (tt, tt) $
    -- what is held is as it was, and the borrow is closed
    held_in X ! d $ move ! (1 ∷ 0 ∷ []) $ closes ! tt (S X) d (word d.at ∷ []) rb ro $
    returns ! (look_at ! 0 refl) $ free_all ! refl $
    suffices ! _ (ends_at 𝓛 (f.ended X) (stayed X) c y (vbool b) b (d, tt) (tt, tt)) $ says ! (told.1.2, refl) $
    nothing ! $ move ! (3 ∷ 4 ∷ 0 ∷ []) $ group ! 3 $ frame ! $ feq_i ! (List Val) (vbool b ∷ []) (vbool b ∷ []) refl $ move ! (1 ∷ 2 ∷ 0 ∷ []) $
    feq_i ! (List Val) (vptr rb ro ∷ []) (vptr rb ro ∷ []) refl $ fjoin3 ! $ nothing ! $ move ! (1 ∷ 0 ∷ []) $ fjoin ! $ done !)))))
