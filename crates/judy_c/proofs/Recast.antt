-- A value behind a `&mut` lent as one of another type that lies in memory alike. The proofs by hand of the handles stand on this. Assumes `Logic`.
use Rattle.std.proofs.Common.{ℕ, List, [], ◌∷◌}
use seplogic.Ra.Ura.{Ura}
use mir.Syntax.{named}
use mir.Val.{vptr}
use base.Logic.{ent, id⊢, via, fst∗}
use base.Fml.{Lft, GName, Share, ftrue, flft, fobs, fbor}
use types.Logic.{Logic, sem}
use types.Mut.{open_ref}
use types.SemTy.{Body as Borrowed}
use types.Kit.{Item, Goal, Soaks, Seq, ‵, ◌⊛◌, raw, some, later, ◌$◌, move, use1, await, pick, group}
use denote.Follow.{follows, Part, lends_Part}
use denote.Memory.{mem}
use denote.RattleType.{RattleType}
use denote.Ref.{MutRef}
use denote.Steps.{nothing}

-- the values of one type as those of the other, and back
pub record Alike {M : Type 1} {𝓤 : Ura M} (𝓛 : Logic 𝓤) (R S : RattleType) : Type 1 where
  pub cast : R.Denot → S.Denot
  pub back : S.Denot → R.Denot
  pub out : (d : R.Denot) (b o : ℕ) → ent 𝓤 (sem 𝓛 ((mem R).own_at d b o)) (sem 𝓛 ((mem S).own_at (cast d) b o))
  pub into : (x : S.Denot) (b o : ℕ) → ent 𝓤 (sem 𝓛 ((mem S).own_at x b o)) (sem 𝓛 ((mem R).own_at (back x) b o))

module _ {M : Type 1} {𝓤 : Ura M} {𝓛 : Logic 𝓤} {R S : RattleType} (A : Alike 𝓛 R S) (κ : Lft) (q : Share) (b o : ℕ) (γ : GName) (d : R.Denot) where
  -- the reference at the other type, the token, and that the value follows it
  abbrev pub lent : GName → Item 𝓤
  lent δ = ‵ ((MutRef (named 0) κ S).own_val (record { ref_ptr = (b, o); ghost_name = δ; now = A.cast d }) (vptr b o ∷ [])) ⊛ ‵ (flft κ q) ⊛ ‵ (follows R S γ δ A.back)

  pub recast : {K : Type 0} → K → {Γ : List (Item 𝓤)} {G : Goal 𝓤 𝓛.H} → Soaks G → ((δ : GName) → Seq K 𝓛 (lent δ ∷ Γ) G)
      → Seq K 𝓛 (‵ (fobs γ (R.coded.code d)) ∷ ‵ (fbor κ (Borrowed (mem R) b o γ)) ∷ ‵ (flft κ q) ∷ Γ) G
  recast t soaks k =
      let mark = R.coded.code d in
      let return = λ (w : S.Denot). via 𝓤 _ (fst∗ 𝓤 _ (sem 𝓛 ftrue)) (A.into w b o) in
      open_ref t soaks (mem R) {b = b} {o = o} $ use1 𝓛 (‵ ((mem S).own_at (A.cast d) b o)) (A.out d b o) $ nothing t $ move t (2 ∷ 3 ∷ 4 ∷ 1 ∷ 0 ∷ []) $ group t 5 $
      use1 𝓛 (later (some (λ (δ : GName). raw (Part 𝓛 R S A.back (named 0) κ q b o b o γ (sem 𝓛 ftrue) return (A.cast d) δ))))
      (lends_Part 𝓛 R S A.back (named 0) κ q b o b o γ (sem 𝓛 ftrue) return mark mark (A.cast d)) $ await t soaks $ pick t (λ δ.
      use1 𝓛 (lent δ) (id⊢ 𝓤 _) $ k δ)
