-- The list as its callers see it: the map of the pairs of its chunks.
use Rattle.std.proofs.Common.{◌≡◌, ◌==◌, ◌+◌, ◌-◌, ℕ, List, length, cond, true, false, Option, unwrap_or, sym, ap, ◌∙◌}
use Rattle.std.specs.Cmp.{nat_cmp_total}
use Rattle.std.specs.FinMap.{FinMap, entries, get, len, insert, remove, from_sorted, find, put, entries-from_sorted, get-from_sorted, nat_cmp-IsAntisymmetric}
use Rattle.judy_model.specs.Keys.{word_order}
use Rattle.judy_model.proofs.lemmas.maps.SortedMaps.{len-from_sorted, insert-from_sorted, remove-from_sorted}
use Rattle.judy_sums.specs.Pairs.{Pairs, number_in, number_at, without, put_less, raised, lowered}
use Rattle.judy_sums.specs.Chunks.{AreChunks, joined}

module _ (chunks : List Pairs) (now : FinMap word_order ℕ) (are : AreChunks chunks) (view : from_sorted (joined chunks) ≡ now) where
  pub entries_is : entries now ≡ joined chunks
  entries_is = ap entries (sym view) ∙ entries-from_sorted word_order (joined chunks) are.ascend

  pub get_is : (word : ℕ) → get now word ≡ find word_order word (joined chunks)
  get_is word = ap (λ (map : FinMap word_order ℕ). get map word) (sym view) ∙ get-from_sorted word_order (joined chunks) word are.ascend

  pub len_is : len now ≡ length (joined chunks)
  len_is = ap len (sym view) ∙ len-from_sorted word_order (joined chunks) are.ascend

  pub insert_is : (after : List Pairs) (word number : ℕ) → joined after ≡ put word_order word number (joined chunks) → from_sorted (joined after) ≡ insert now word number
  insert_is after word number e =
      ap from_sorted e ∙ sym (insert-from_sorted word_order nat_cmp_total (joined chunks) word number are.ascend) ∙ ap (λ (map : FinMap word_order ℕ). insert map word number) view

  pub remove_is : (after : List Pairs) (word : ℕ) → joined after ≡ without word (joined chunks) → from_sorted (joined after) ≡ remove now word
  remove_is after word e =
      ap from_sorted e ∙ sym (remove-from_sorted nat_cmp_total nat_cmp-IsAntisymmetric (joined chunks) word are.ascend) ∙ ap (λ (map : FinMap word_order ℕ). remove map word) view

  pub number_is : (word : ℕ) → number_in (joined chunks) word ≡ number_at now word
  number_is word = ap (λ (found : Option ℕ). unwrap_or found 0) (sym (get_is word))

  -- One more and one less at a word.
  pub raised_is : (after : List Pairs) (word : ℕ) → joined after ≡ put word_order word (number_in (joined chunks) word + 1) (joined chunks) → from_sorted (joined after) ≡ raised now word
  raised_is after word e = insert_is after word (number_in (joined chunks) word + 1) e ∙ ap (λ n. insert now word (n + 1)) (number_is word)

  pub lowered_is : (after : List Pairs) (word : ℕ) → joined after ≡ put_less word (joined chunks) → from_sorted (joined after) ≡ lowered now word
  lowered_is after word e =
      elim (number_in (joined chunks) word == 1) as (λ b. joined after ≡ cond b (without word (joined chunks)) (put word_order word (number_in (joined chunks) word - 1) (joined chunks))
      → from_sorted (joined after) ≡ cond b (remove now word) (insert now word (number_in (joined chunks) word - 1))) [
        | true ↦ λ last. remove_is after word last
        | false ↦ λ more. insert_is after word (number_in (joined chunks) word - 1) more
      ] e
      ∙ ap (λ n. cond (n == 1) (remove now word) (insert now word (n - 1))) (number_is word)
