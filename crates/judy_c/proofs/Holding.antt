-- What a handle owns, by cases: nothing behind a null pointer, else a box. Assumes `Logic`.
use Rattle.std.proofs.Common.{◌≡◌, refl, sym, true≢false, lit<}
use Rattle.std.specs.Prelude.{Option, Some, None, is_none, IsSome, Bool, true, false}
use seplogic.Ra.Ura.{Ura}
use base.Logic.{ent, id⊢, never, never_e, guard, guard_i, via, snd∗}
use mir.Syntax.{ptr_eq}
use mir.Val.{vbool, op2_val, vnull}
use contract.Monad.{fact_use}
use denote.RattleType.{RattleType}
use denote.RawPtr.{Ptr, block_ptr, null_ptr, ptr_val, Testable, lies_at}
use base.Fraction.{full_share}
use denote.Memory.{lone}
use mir.Raw.{raw as bare}
use Rattle.std.proofs.GlobalToken.{dealloc_token-Testable}
use Rattle.std_heap.specs.contracts.GlobalAllocator.TheImpl.{ghosts}
use types.Logic.{Logic, sem}
use Rattle.judy_c.specs.Owned.{held, heap}

module _ (J : RattleType) where
  pub the_some : (o : Option J.Denot) → IsSome o → J.Denot
  the_some None is = absurd (true≢false (sym is))
  the_some (Some x) is = x

  pub is_some_of : (o : Option J.Denot) (is : IsSome o) → o ≡ Some (the_some o is)
  unfolding the_some
  is_some_of None is = absurd (true≢false (sym is))
  is_some_of (Some x) is = refl

  module _ {M : Type 1} {𝓤 : Ura M} (𝓛 : Logic 𝓤) where
    pub null_holds_none : (o : Option J.Denot) → IsSome o → ent 𝓤 (sem 𝓛 (held J null_ptr o)) (never 𝓤)
    null_holds_none None is = absurd (true≢false (sym is))
    null_holds_none (Some x) is = id⊢ 𝓤 (never 𝓤)

  -- what a handle's pointer and its array say of each other: the pointer may be compared with null, and is null where there is no array
  abbrev pub Tells : Ptr → Option J.Denot → Type 0
  Tells p o = Testable p × ((y : Bool) × (op2_val ptr_eq (ptr_val p) vnull ≡ vbool y) × (y ≡ is_none o))

  module _ {M : Type 1} {𝓤 : Ura M} (𝓛 : Logic 𝓤) where
    pub tells : (p : Ptr) (o : Option J.Denot) → ent 𝓤 (sem 𝓛 (held J p o)) (guard 𝓤 (Tells p o) (sem 𝓛 (held J p o)))
    tells null_ptr None = guard_i 𝓤 (Tells null_ptr None) (sem 𝓛 (held J null_ptr None)) (lit< tt, (true, refl, refl))
    tells null_ptr (Some x) = never_e 𝓤 _
    tells (block_ptr b o) None = never_e 𝓤 _
    tells (block_ptr b o) (Some x) =
        let p : Ptr = block_ptr b o in let B = sem 𝓛 (held J p (Some x)) in
        fact_use 𝓤 (Testable p) (via 𝓤 _ (snd∗ 𝓤 (sem 𝓛 (lies_at J full_share p x)) (sem 𝓛 (ghosts.dealloc_token heap (bare (lone J.mir)) p))) (dealloc_token-Testable 𝓛 heap (bare (lone J.mir)) p))
        (λ t. guard_i 𝓤 (Tells p (Some x)) B (t, (false, refl, refl)))
