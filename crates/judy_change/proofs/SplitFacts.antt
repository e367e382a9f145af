-- A key that doesn't begin with the bytes that a node skips, and the branch for both.
use Rattle.std.proofs.Common.{◌≡◌, ◌≢◌, ℕ, ◌+◌, ◌-◌, ◌*◌, ◌/◌, ◌%◌, ◌^◌, ◌<◌, ◌||◌, false, List, [], ◌∷◌, length, sym, ap, ◌∙◌, subst, arith, ne_eqb}
use Rattle.std.proofs.Math.Nat.{mul_comm, div-div-eq-div-mul, mod-eq_of_lt}
use Rattle.std.proofs.lemmas.Nat.{div-add-mod', div_below, pow-add}
use Rattle.judy_model.specs.WordBytes.{low_bytes, number_of}
use Rattle.judy_model.specs.Forms.{branch, loose_in}
use Rattle.judy_model.proofs.lemmas.orders.ByteLemmas.{unit_pos, number_of-low_bytes}
use Rattle.judy_model.proofs.lemmas.forms.FormLemmas.{branch_tight, tight-head}
use Rattle.judy_bits.specs.ByteSets.{has}
use Rattle.judy_leaf.specs.KeyLists.{keys_of, with_pair}
use Rattle.judy_node.specs.Trees.{Tree, forms_in, branch_tree}
use Rattle.judy_node.proofs.MadeFacts.{unit_above}
use Rattle.judy_change.specs.Inserted.{IsAdded}
use Rattle.judy_change.specs.Splits.{IsAbove}

-- What a key begins with is as long as what the node skips.
pub other_small : (key count tail other : ℕ) → key < 256 ^ (count + tail) → other ≡ key / 256 ^ tail → other < 256 ^ count
other_small key count tail other fits is = subst (λ n. n < 256 ^ count) (sym is) (div_below key (256 ^ tail) (256 ^ count) (unit_pos tail) (subst (λ n. key < n) (pow-add 256 count tail) fits))

next_digit : (number left : ℕ) → number / 256 ^ (left + 1) ≡ number / 256 ^ left / 256
next_digit number left = ap (λ n. number / n) (unit_above left) ∙ sym (div-div-eq-div-mul number (256 ^ left) 256)

module _ (number count tail left key other : ℕ) (fits : key < 256 ^ (count + tail)) (other_is : other ≡ key / 256 ^ tail) (less : left < count)
    (apart : number / 256 ^ left ≢ other / 256 ^ left) (same : number / 256 ^ (left + 1) ≡ other / 256 ^ (left + 1)) where
  abbrev width : ℕ
  width = left + tail

  high : key / 256 ^ width ≡ other / 256 ^ left
  high =
      ap (λ n. key / n) (pow-add 256 left tail ∙ mul_comm (256 ^ left) (256 ^ tail)) ∙ sym (div-div-eq-div-mul key (256 ^ tail) (256 ^ left)) ∙ ap (λ n. n / 256 ^ left) (sym other_is)

  abbrev skip : List ℕ
  skip = low_bytes (count - left - 1) (number / 256 ^ (left + 1))

  spelled : number_of skip ≡ key / 256 ^ width / 256
  spelled =
      let whole = ap (λ n. 256 ^ n) (let e : count ≡ count - left - 1 + (left + 1) = omega arith in e) ∙ pow-add 256 (count - left - 1) (left + 1) in
      let small = other_small key count tail other fits other_is in
      let room : number / 256 ^ (left + 1) < 256 ^ (count - left - 1) =
      subst (λ n. n < 256 ^ (count - left - 1)) (sym same) (div_below other (256 ^ (left + 1)) (256 ^ (count - left - 1)) (unit_pos (left + 1)) (subst (λ n. other < n) whole small)) in
      number_of-low_bytes (count - left - 1) (number / 256 ^ (left + 1)) ∙ mod-eq_of_lt room ∙ same ∙ next_digit other left ∙ ap (λ n. n / 256) (sym high)

  -- The key is what the branch skips, its own byte and the rest.
  pub split_key : (number_of skip * 256 + key / 256 ^ width % 256) * 256 ^ width + key % 256 ^ width ≡ key
  split_key =
      ap (λ n. (n * 256 + key / 256 ^ width % 256) * 256 ^ width + key % 256 ^ width) spelled
      ∙ ap (λ n. n * 256 ^ width + key % 256 ^ width) (div-add-mod' (key / 256 ^ width) 256)
      ∙ div-add-mod' key (256 ^ width)

  -- Its byte isn't that of the node.
  pub split_absent : has ((number / 256 ^ left % 256) ∷ []) (key / 256 ^ width % 256) ≡ false
  split_absent =
      ap (λ b. b || false) (ne_eqb (number / 256 ^ left % 256) (key / 256 ^ width % 256) (λ e. apart (
      sym (div-add-mod' (number / 256 ^ left) 256)
      ∙ (λ t. (sym (next_digit number left) ∙ same ∙ next_digit other left) t * 256 + (e ∙ ap (λ n. n % 256) high) t)
      ∙ div-add-mod' (other / 256 ^ left) 256)))

-- The branch for both has one key more, and is tight where the node was.
pub split_added : (words number count tail left : ℕ) (old : Tree) (width : ℕ) (skip bytes : List ℕ) (kids : List Tree) (size : ℕ) → IsAbove words number count tail left old width skip bytes kids size
    → (made key value : ℕ) → made ≡ key → (wide : ℕ) (front more : List ℕ) (grown : List Tree) (many : ℕ)
    → IsAdded made value (branch_tree width skip bytes kids size) (branch_tree wide front more grown many) → many ≡ size + 1 → length more ≡ length bytes + 1 →
    loose_in (forms_in grown) ≡ loose_in (forms_in kids)
    → IsAdded key value old (branch_tree wide front more grown many)
split_added words number count tail left old width skip bytes kids size above made key value is wide front more grown many added counted wider loose = record {
  absent = ap (has (keys_of old.pairs)) (sym is) ∙ ap (λ ps. has (keys_of ps) made) (sym above.pairs) ∙ added.absent;
  pairs = added.pairs ∙ (λ t. with_pair (is t) value (above.pairs t));
  tight = λ tight.
      let enough = above.many tight in
      let one = ap length above.bytes_are in
      let none = above.tight tight in
      tight-head (branch front more many) (forms_in grown) (branch_tight front more many (omega arith) (omega arith)) (omega arith);
}
