-- What a handle holds, in memory: one pointer, and what is owned behind it. The proofs by hand stand on this. Assumes `Logic`.
use Rattle.std.proofs.Common.{◌≡◌, List, [], ◌∷◌, ◌++◌, refl, subst}
use mir.Syntax.{Args, a_type, impl, tnil, dnil}
use mir.Val.{Val, vstruct, vcons, vnil, of_list}
use seplogic.Ra.Ura.{Ura}
use types.Kit.{Goal, Item, Seq, Step, step, ‵, ◌$◌, drop, fsplit, fjoin, fpick, fpack, feq_l, feq_i}
use types.Logic.{Logic}
use denote.Builtin.{RawPtr}
use denote.Param.{param, layouts}
use denote.Param.Laws.{Laws}
use denote.RattleType.{RattleType, Valss}
use denote.RawPtr.{Ptr, ptr_val}
use denote.Steps.{nothing}
use denote.Struct.Owning.{shape}
use denote.Struct.Struct.{within}
use Rattle.std_alloc.proofs.BoxSteps.Form.{Bx}
use Rattle.std_heap.specs.contracts.Global as heap
use Rattle.std_heap.specs.contracts.GlobalAllocator.TheImpl.{ghosts, dict}
use Rattle.std_heap.proofs.Global.TheLaws as heap_laws
use Rattle.judy_c.specs.Owned.{held}
use Rattle.judy_c.specs.declared.held.Held.{Held}
use Rattle.judy_c.specs.contracts.held.Held.{the_row, the_type}
use Rattle.judy_c.specs.contracts.box_parts.BoxParts as parts

module _ (X : RattleType) where
  abbrev pub args : Args
  args = layouts (a_type ∷ []) (X, tt)

  -- the array, what a handle holds of it, and the box in pieces
  abbrev pub R : RattleType
  R = param 0 X

  abbrev pub S : RattleType
  S = the_row R

  abbrev pub LooseR : RattleType
  LooseR = parts.the_row R heap.the_row ghosts

  -- the same box for the lemmas on boxes
  abbrev pub E : Laws X → Bx
  E L = record { row = X; laws = L; al = record { row = heap.the_row; laws = heap_laws.the_row_laws; g = ghosts; d = dict; drops = impl [] tnil dnil } }

-- the word of a pointer
abbrev pub word : Ptr → Val
word p = vstruct (vcons (ptr_val p) vnil)

module _ (X : RattleType) {M : Type 1} {𝓤 : Ura M} {𝓛 : Logic 𝓤} {K : Type 0} {Γ : List (Item 𝓤)} {G : Goal 𝓤 𝓛.H} where
  -- what is owned beside the word
  pub held_out : K → (d : Held X.Denot) (vs : List Val) → (vs ≡ word d.at ∷ [] → Seq K 𝓛 (‵ (held (R X) d.at d.array) ∷ Γ) G) → Seq K 𝓛 (‵ ((S X).own_val d vs) ∷ Γ) G
  held_out t d vs k =
      fsplit t $ fpick t (λ vss. fsplit t $ feq_l t (λ ev. fsplit t $ feq_l t (λ ep. drop t $
      k (subst (λ (ps : List Val). vs ≡ vstruct (of_list (ps ++ [])) ∷ []) ep ev))))

  pub held_in : K → (d : Held X.Denot) → Step K 𝓛 (‵ ((S X).own_val d (word d.at ∷ [])) ∷ Γ) G (‵ (held (R X) d.at d.array) ∷ Γ) G
  held_in t d = step (λ s.
      nothing t $ feq_i t (List Val) (ptr_val d.at ∷ []) (ptr_val d.at ∷ []) refl $ fjoin t $ feq_i t (List Val) (word d.at ∷ []) (word d.at ∷ []) refl $ fjoin t $
      fpack t (Valss (RawPtr ∷ [])) (within (shape (the_type (R X))) (d.at, tt) (word d.at ∷ [])) (ptr_val d.at ∷ [], tt) $ fjoin t $ s)
