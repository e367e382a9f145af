-- What the parts of a block own and lend.
use Rattle.std.specs.Prelude.{ℕ, List, length}
use Rattle.std.specs.Borrow.{u64}
use base.Fml.{Lft, Fml, ffalse, fsep, flt}
use mir.Syntax.{Ty, w64, ty_int, ty_array}
use types.SemTy.{cells}
use denote.Memory.{mem}
use denote.Sharing.{said, beside}
use denote.Slice.{elements_shared}
use denote.RawPtr.{Ptr, block_ptr, null_ptr}

-- The type that an allocation of n words is made for.
abbrev pub words_type : ℕ → Ty
words_type n = ty_array (ty_int w64) n

-- An allocation holds at most 65,536 words: a header and 65,535 others.
abbrev pub fit : List ℕ → Fml
fit ws = flt (length ws) 65537

-- The words ws lie side by side at p, and are owned.
abbrev pub words_own : Ptr → List ℕ → Fml
words_own (block_ptr b o) ws = fsep (fit ws) (cells (mem u64) ws b o)
words_own null_ptr ws = ffalse

-- The same, as a shared borrow of the lifetime κ sees it.
abbrev pub words_lent : Ptr → List ℕ → Lft → Fml
words_lent (block_ptr b o) ws = beside (said (fit ws)) (elements_shared u64 ws b o)
words_lent null_ptr ws = said ffalse

-- The allocator's token for the allocation of n words at p.
abbrev pub deed_owns : (Ty → Ptr → Fml) → Ptr → ℕ → Fml
deed_owns token p n = token (words_type n) p
