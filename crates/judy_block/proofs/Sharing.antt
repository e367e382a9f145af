-- A shared borrow of the words is one of each word. Assumes `Logic`.
use Prim.Native.Nat.{ℕ, ◌+◌}
use Rattle.std.specs.Prelude.{List, [], ◌∷◌}
use seplogic.Ra.Ura.{Ura}
use base.Fraction.{full_share}
use base.Fml.{Lft, Incl, ftrue, ffalse}
use types.Logic.{Logic}
use types.SemTy.{cells}
use denote.Builtin.{u64}
use denote.Memory.{mem, part_at, shared_of}
use denote.Plain.{uint_row_laws}
use denote.RawPtr.{Ptr, block_ptr, null_ptr}
use denote.Sharing.{ShrLaws, said}
use denote.SharingLaws.{beside_shr_laws, said_shr_laws}
use denote.Shares.{Shares-less}
use denote.Slice.{elements_shared, elements_shr_laws}
use denote.Struct.Laws.{u64-copy}
use denote.Struct.Lending.{Lends, Lends-both, Lends-nothing, Lends-said, Lends-false}
use mir.Syntax.{w64}
use Rattle.judy_block.specs.Ownership.{fit, words_own, words_lent}

pub words_lent_laws : (p : Ptr) (ws : List ℕ) → ShrLaws (words_lent p ws)
words_lent_laws (block_ptr b o) ws = beside_shr_laws _ _ (said_shr_laws (fit ws) tt) (elements_shr_laws u64 (uint_row_laws w64) ws b o)
words_lent_laws null_ptr ws = said_shr_laws ffalse tt

module _ {M : Type 1} {𝓤 : Ura M} (𝓛 : Logic 𝓤) (l : Lft) (inc : Incl l u64.lives) where
  Lends-each : (b o : ℕ) (ws : List ℕ) → Lends 𝓛 (cells (mem u64) ws b o) (elements_shared u64 ws b o) l
  Lends-each b o [] = Lends-nothing 𝓛 ftrue l
  Lends-each b o (w ∷ ws) =
      Lends-both 𝓛 (part_at u64 full_share w b o) (cells (mem u64) ws b (o + 8)) (shared_of u64 w b o) (elements_shared u64 ws b (o + 8)) l
      (λ κ ts. Shares-less 𝓛 u64 u64.lives l inc ((u64-copy.copied M 𝓤 𝓛).shares full_share u64.lives) w κ ts b o) (Lends-each b (o + 8) ws)

  pub Lends-words : (p : Ptr) (ws : List ℕ) → Lends 𝓛 (words_own p ws) (words_lent p ws) l
  Lends-words (block_ptr b o) ws = Lends-both 𝓛 (fit ws) (cells (mem u64) ws b o) (said (fit ws)) (elements_shared u64 ws b o) l (Lends-said 𝓛 (fit ws) tt l) (Lends-each b o ws)
  Lends-words null_ptr ws = Lends-false 𝓛 (said ffalse) l
