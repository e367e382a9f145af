-- What a fault of a list of keys is answered as.
use Rattle.std.proofs.Common.{ℕ, suc, ◌<◌, ◌≤◌, List, [], ◌∷◌, length, sym, ◌∙◌, subst, arith}
use Rattle.std.specs.Ordering.{is_le}
use Rattle.judy_model.specs.Keys.{word_order}
use Rattle.judy_word.specs.Sorted.{ascending_from, IsFault}
use Rattle.judy_word.specs.declared.sorted.SortedError.{SortedError}
use Rattle.judy_word.specs.declared.sorted.SortedError.TheVariants.{NotAscending, Full, NoMemory}
use Rattle.judy_c.proofs.PageFaults.{at_most}
use Rattle.judy_c.specs.Sorted.{IsRefused, IsReplaced, most_keys}

-- no more keys ascend than there are
pub ascending_from-le : (low : ℕ) (keys : List ℕ) → ascending_from low keys ≤ length keys
ascending_from-le low [] = omega arith
ascending_from-le low (key ∷ keys) = at_most (is_le (word_order low key)) (ascending_from (suc key) keys) (length keys) (ascending_from-le (suc key) keys)

pub fault_told : (keys : List ℕ) (made same : Type 0) (limit : ℕ) (fault : SortedError) (before answer after : ℕ) → length keys ≤ most_keys → IsFault most_keys keys fault →
    same → IsRefused fault answer before after → IsReplaced keys made same limit before answer after
fault_told keys made same limit NoMemory before answer after fits is kept told = subst (λ n. IsReplaced keys made same limit before n after) (sym told.0) (is, kept, told.1)
fault_told keys made same limit (Full at) before answer after fits is kept told = absurd (omega (arith, is.1, fits, ascending_from-le 0 keys))
fault_told keys made same limit (NotAscending at) before answer after fits is kept told =
    subst (λ n. IsReplaced keys made same limit before n after) (sym told.0) (is.0 ∙ sym told.1, subst (λ n. n < length keys) (sym told.1) is.1, kept)
