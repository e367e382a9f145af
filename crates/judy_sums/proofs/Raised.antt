-- One more and one less at a text: what its number, other numbers and sums become.
use Rattle.std.proofs.Common.{◌≡◌, ◌≢◌, ℕ, ◌+◌, ◌-◌, ◌≤◌, ◌==◌, true, false, cond, [], ◌∷◌, length, Option, None, Some, unwrap_or, refl, sym, ap, ◌∙◌, arith, true≢false}
use Rattle.std.specs.Ordering.{is_eq, eq_by_cmp}
use Rattle.std.specs.Cmp.{nat_cmp_total, tied_itself}
use Rattle.std.specs.FinMap.{FinMap, nat_cmp-IsAntisymmetric, entries, entries_sorted, get, insert, remove, len, len-entries, same_map, get-insert, get-remove, get-entries}
use Rattle.std.proofs.lemmas.Bool.{eqb-true, eqb-false, ne_eqb}
use Rattle.std.proofs.lemmas.List.Sums.{sum_by-cons}
use Rattle.std.proofs.lemmas.Option.{none-some, same_Some}
use Rattle.judy_model.specs.Keys.{word_order}
use Rattle.judy_model.proofs.lemmas.orders.Orders.{same_from_tie}
use Rattle.judy_sums.specs.Pairs.{Pairs, sum_of, number_at, raised, lowered}
use Rattle.judy_sums.proofs.Parts.{each_found}
use Rattle.std.specs.List.{AllByRecursion}

module _ (map : FinMap word_order ℕ) (word : ℕ) where
  itself : eq_by_cmp word_order word word ≡ true
  itself = ap is_eq (tied_itself nat_cmp_total word)

  pub raised_at : number_at (raised map word) word ≡ number_at map word + 1
  raised_at = ap (λ (found : Option ℕ). unwrap_or found 0) (get-insert nat_cmp_total map word (number_at map word + 1) word ∙ ap (λ b. cond b (Some (number_at map word + 1)) (get map word)) itself)

  get_else : (number other : ℕ) → other ≢ word → get (insert map word number) other ≡ get map other
  get_else number other apart = get-insert nat_cmp_total map word number other
      ∙ elim (eq_by_cmp word_order other word) as (λ b. eq_by_cmp word_order other word ≡ b → cond b (Some number) (get map other) ≡ get map other) [
        | true ↦ λ tied. absurd (apart (same_from_tie nat_cmp-IsAntisymmetric other word tied))
        | false ↦ λ not. refl
      ] refl

  pub raised_else : (other : ℕ) → other ≢ word → number_at (raised map word) other ≡ number_at map other
  raised_else other apart = ap (λ (found : Option ℕ). unwrap_or found 0) (get_else (number_at map word + 1) other apart)

  -- Each number is one or more, where it was before.
  pub raised_some : ((text number : ℕ) → get map text ≡ Some number → 1 ≤ number) → (text number : ℕ) → get (raised map word) text ≡ Some number → 1 ≤ number
  raised_some each text number held =
      elim (eq_by_cmp word_order text word) as (λ b. cond b (Some (number_at map word + 1)) (get map text) ≡ Some number → 1 ≤ number) [
        | true ↦ λ e. let is = same_Some (number_at map word + 1) number e in omega arith
        | false ↦ λ e. each text number e
      ] (sym (get-insert nat_cmp_total map word (number_at map word + 1) text) ∙ held)

module _ (map : FinMap word_order ℕ) (word number : ℕ) (there : get map word ≡ Some number) where
  written_back : (less : FinMap word_order ℕ) → ((other : ℕ) → other ≢ word → get less other ≡ get map other) → number_at less word + 1 ≡ number → raised less word ≡ map
  written_back less else one = same_map nat_cmp_total nat_cmp-IsAntisymmetric (raised less word) map (λ other.
      get-insert nat_cmp_total less word (number_at less word + 1) other
      ∙ elim (eq_by_cmp word_order other word) as (λ b. eq_by_cmp word_order other word ≡ b → cond b (Some (number_at less word + 1)) (get less other) ≡ get map other) [
        | true ↦ λ tied. ap Some one ∙ sym there ∙ ap (get map) (sym (same_from_tie nat_cmp-IsAntisymmetric other word tied))
        | false ↦ λ apart. else other (λ same. true≢false (sym (ap (eq_by_cmp word_order other) (sym same) ∙ ap is_eq (tied_itself nat_cmp_total other)) ∙ apart))
      ] refl)

  removed_else : (other : ℕ) → other ≢ word → get (remove map word) other ≡ get map other
  removed_else other apart = get-remove nat_cmp_total map word other
      ∙ elim (eq_by_cmp word_order other word) as (λ b. eq_by_cmp word_order other word ≡ b → cond b None (get map other) ≡ get map other) [
        | true ↦ λ tied. absurd (apart (same_from_tie nat_cmp-IsAntisymmetric other word tied))
        | false ↦ λ not. refl
      ] refl

  removed_at : get (remove map word) word ≡ None
  removed_at = get-remove nat_cmp_total map word word ∙ ap (λ b. cond b None (get map word)) (itself map word)

  number_there : number_at map word ≡ number
  number_there = ap (λ (found : Option ℕ). unwrap_or found 0) there

  -- One more makes one less good.
  pub raised_lowered : 1 ≤ number → raised (lowered map word) word ≡ map
  raised_lowered some =
      elim (number_at map word == 1) as (λ b. number_at map word == 1 ≡ b → raised (cond b (remove map word) (insert map word (number_at map word - 1))) word ≡ map) [
        | true ↦ λ one. written_back (remove map word) removed_else (let is = eqb-true (number_at map word) 1 one in let last = number_there in
            let none = ap (λ (found : Option ℕ). unwrap_or found 0) removed_at in omega arith)
        | false ↦ λ more. written_back (insert map word (number_at map word - 1)) (get_else map word (number_at map word - 1)) (let last = number_there in
            let now : number_at (insert map word (number_at map word - 1)) word ≡ number_at map word - 1 = ap (λ (found : Option ℕ). unwrap_or found 0)
            (get-insert nat_cmp_total map word (number_at map word - 1) word ∙ ap (λ b. cond b (Some (number_at map word - 1)) (get map word)) (itself map word)) in
            omega arith)
      ] refl

  -- Each number is one or more then.
  pub lowered_some : 1 ≤ number → ((text one : ℕ) → get map text ≡ Some one → 1 ≤ one) → (text one : ℕ) → get (lowered map word) text ≡ Some one → 1 ≤ one
  lowered_some some each text one held =
      elim (number_at map word == 1) as (λ b. number_at map word == 1 ≡ b → get (cond b (remove map word) (insert map word (number_at map word - 1))) text ≡ Some one → 1 ≤ one) [
        | true ↦ λ last e. elim (eq_by_cmp word_order text word) as (λ b. cond b None (get map text) ≡ Some one → 1 ≤ one) [
          | true ↦ λ none. absurd (none-some one none)
          | false ↦ λ is. each text one is
        ] (sym (get-remove nat_cmp_total map word text) ∙ e)
        | false ↦ λ more e. elim (eq_by_cmp word_order text word) as (λ b. cond b (Some (number_at map word - 1)) (get map text) ≡ Some one → 1 ≤ one) [
          | true ↦ λ is. let now = same_Some (number_at map word - 1) one is in let was = number_there in let not_one = eqb-false (number_at map word) 1 more in omega (arith, not_one)
          | false ↦ λ is. each text one is
        ] (sym (get-insert nat_cmp_total map word (number_at map word - 1) text) ∙ e)
      ] refl held

-- What was put in is taken out.
pub lowered_raised : (map : FinMap word_order ℕ) (word : ℕ) → ((text number : ℕ) → get map text ≡ Some number → 1 ≤ number) → lowered (raised map word) word ≡ map
lowered_raised map word each = by (get map word) refl
  where
    at_word : get (raised map word) word ≡ Some (number_at map word + 1)
    at_word = get-insert nat_cmp_total map word (number_at map word + 1) word ∙ ap (λ b. cond b (Some (number_at map word + 1)) (get map word)) (itself map word)

    by : (found : Option ℕ) → get map word ≡ found → lowered (raised map word) word ≡ map
    by None none =
        let zero : number_at map word ≡ 0 = ap (λ (found : Option ℕ). unwrap_or found 0) none in
        let last : number_at (raised map word) word == 1 ≡ true = ap (λ (found : Option ℕ). unwrap_or found 0 == 1) at_word ∙ ap (λ n. n + 1 == 1) zero in
        ap (λ b. cond b (remove (raised map word) word) (insert (raised map word) word (number_at (raised map word) word - 1))) last
        ∙ same_map nat_cmp_total nat_cmp-IsAntisymmetric (remove (raised map word) word) map (λ other.
        get-remove nat_cmp_total (raised map word) word other
        ∙ elim (eq_by_cmp word_order other word) as (λ b. eq_by_cmp word_order other word ≡ b → cond b None (get (raised map word) other) ≡ get map other) [
          | true ↦ λ tied. sym none ∙ ap (get map) (sym (same_from_tie nat_cmp-IsAntisymmetric other word tied))
          | false ↦ λ apart. get_else map word (number_at map word + 1) other (λ same. true≢false (sym
              (ap (eq_by_cmp word_order other) (sym same) ∙ ap is_eq (tied_itself nat_cmp_total other)) ∙ apart))
        ] refl)
    by (Some number) there =
        let some = each word number there in
        let is : number_at map word ≡ number = ap (λ (found : Option ℕ). unwrap_or found 0) there in
        let now : number_at (raised map word) word ≡ number_at map word + 1 = ap (λ (found : Option ℕ). unwrap_or found 0) at_word in
        let left : number_at (raised map word) word - 1 ≡ number = omega arith in
        let others : number_at (raised map word) word == 1 ≡ false = ne_eqb (number_at (raised map word) word) 1 (λ e. omega arith) in
        ap (λ b. cond b (remove (raised map word) word) (insert (raised map word) word (number_at (raised map word) word - 1))) others
        ∙ same_map nat_cmp_total nat_cmp-IsAntisymmetric (insert (raised map word) word (number_at (raised map word) word - 1)) map (λ other.
        get-insert nat_cmp_total (raised map word) word (number_at (raised map word) word - 1) other
        ∙ elim (eq_by_cmp word_order other word) as (λ b. eq_by_cmp word_order other word ≡ b → cond b (Some (number_at (raised map word) word - 1)) (get (raised map word) other) ≡ get map other) [
          | true ↦ λ tied. ap Some left ∙ sym there ∙ ap (get map) (sym (same_from_tie nat_cmp-IsAntisymmetric other word tied))
          | false ↦ λ apart. get_else map word (number_at map word + 1) other (λ same. true≢false (sym
              (ap (eq_by_cmp word_order other) (sym same) ∙ ap is_eq (tied_itself nat_cmp_total other)) ∙ apart))
        ] refl)

-- There are no more texts than their numbers sum up to, where each is one or more.
some_sum : (pairs : Pairs) → AllByRecursion (λ (pair : ℕ × ℕ). 1 ≤ pair.1) pairs → length pairs ≤ sum_of pairs
some_sum [] each = omega arith
some_sum (pair ∷ rest) each = let one = sum_by-cons (λ (other : ℕ × ℕ). other.1) pair rest in let here = each.0 in let on = some_sum rest each.1 in omega arith

pub len_within : (map : FinMap word_order ℕ) → ((text number : ℕ) → get map text ≡ Some number → 1 ≤ number) → len map ≤ sum_of (entries map)
len_within map each =
    let long = len-entries map in
    let most = some_sum (entries map) (each_found word_order nat_cmp_total nat_cmp-IsAntisymmetric (λ (pair : ℕ × ℕ). 1 ≤ pair.1) (entries map) (entries_sorted map)
    (λ text number found. each text number (get-entries map text ∙ found))) in
    omega arith
