-- The root with another value of a key.
use Rattle.std.proofs.Common.{◌≡◌, ℕ, ◌≤◌, not, true, false, cond, eqb, [], ◌∷◌, Some, None, is_some, sym, refl, ap, ◌∙◌, subst, arith, true≢false}
use Rattle.judy_model.specs.Forms.{immediate}
use Rattle.judy_node.specs.Roots.{root_tree, one_tree, IsRoot}
use Rattle.judy_node.specs.Slots.{value_of, with_value}
use Rattle.judy_node.specs.Seats.{root_misses, root_written}
use Rattle.judy_node.specs.declared.node.RootOf.{RootOf}
use Rattle.judy_node.specs.declared.node.RootOf.TheVariants.{Empty, One, Many}
use Rattle.judy_node.proofs.SlotFacts.{written-child, written-length}

pub root-level : {V : _} (words : ℕ) (kind : RootOf V) (key value : ℕ) → words ≡ 1 → IsRoot words kind → IsRoot words (root_written kind key value)
root-level words Empty key value one root = tt
root-level words (One other old) key value one root = (root.0, λ (none : words ≡ 0). let never : ⊥ = omega arith in absurd never)
root-level words (Many child) key value one root = (written-child words 8 key value child one root.0, subst (λ n. 2 ≤ n) (sym (written-length key value child.pairs)) root.1)

pub root-path : {V : _} (kind : RootOf V) (key value : ℕ) → root_misses kind key ≡ false → root_tree (root_written kind key value) ≡ with_value (root_tree kind) key value
root-path Empty key value holds = absurd (true≢false holds)
root-path (One other old) key value holds =
    elim (eqb other key) as (λ b. not b ≡ false → one_tree other value ≡ record { width = 8; pairs = (other, cond b value old) ∷ []; form = immediate (other ∷ []) ∷ [] }) [
      | true ↦ λ _. refl
      | false ↦ λ never. cc
    ] holds
root-path (Many child) key value holds = refl

pub root-none : {V : _} (kind : RootOf V) (key : ℕ) → root_misses kind key ≡ true → value_of key (root_tree kind).pairs ≡ None
root-none Empty key misses = refl
root-none (One other old) key misses =
    elim (eqb other key) as (λ b. not b ≡ true → cond b (Some old) None ≡ None) [
      | true ↦ λ never. cc
      | false ↦ λ _. refl
    ] misses
root-none (Many child) key misses = absurd (true≢false (sym misses))

-- Of a key that is there it shows no such thing.
pub root-there : {V : _} (kind : RootOf V) (key : ℕ) → is_some (value_of key (root_tree kind).pairs) ≡ true → root_misses kind key ≡ false
root-there kind key some =
    elim (root_misses kind key) as (λ b. root_misses kind key ≡ b → b ≡ false) [
      | true ↦ λ misses. absurd (true≢false (sym some ∙ ap is_some (root-none kind key misses)))
      | false ↦ λ _. refl
    ] refl
