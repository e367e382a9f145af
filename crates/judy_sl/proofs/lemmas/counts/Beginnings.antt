-- How many keys begin with a piece, and the list of that, where a key comes in or goes.
use Rattle.std.proofs.Common.{◌≡◌, ◌≢◌, ℕ, suc, ◌+◌, ◌-◌, ◌≤◌, ◌==◌, Bool, true, false, cond, inl, inr, ⊎_elim, IsTrue, IsSome, List, [], ◌∷◌, map, length, filter, Option, None}
use Rattle.std.proofs.Common.{Some, is_some, unwrap_or, refl, sym, ap, ◌∙◌, subst, arith, true≢false, Less, Equal, Greater}
use Rattle.std.specs.List.{sum_by, AllByRecursion}
use Rattle.std.specs.Ordering.{is_eq, eq_by_cmp}
use Rattle.std.specs.Cmp.{nat_cmp_total, tied_itself}
use Rattle.std.specs.FinMap.{FinMap, nat_cmp-IsAntisymmetric, entries, entries_sorted, keys, get, contains_key, empty, insert, remove, len, find, put, same_map, get-empty}
use Rattle.std.specs.FinMap.{get-insert, get-remove, entries-insert, get-entries}
use Rattle.std.specs.FinMap.Entries.{by_order}
use Rattle.std.proofs.lemmas.Bool.{eq-eqb, ne_eqb, cases_eq}
use Rattle.std.proofs.lemmas.List.Sums.{sum_by-cons}
use Rattle.std.proofs.lemmas.Option.{none-some}
use Rattle.judy_model.specs.Keys.{word_order, byte_order}
use Rattle.judy_model.proofs.lemmas.orders.Orders.{same_from_tie}
use Rattle.judy_model.proofs.lemmas.maps.Pairs.{rest_sorted}
use Rattle.judy_model.proofs.lemmas.maps.Ascending.{Among}
use Rattle.judy_model.proofs.lemmas.maps.KeysLemmas.{among_keys, contains_key-from_among, length-keys}
use Rattle.judy_model.proofs.lemmas.maps.TableLemmas.{byte_order_total, byte_order_same}
use Rattle.judy_sums.specs.Pairs.{Pairs, sum_of, number_at, raised, lowered}
use Rattle.judy_sums.specs.Chunks.{Ascends, AllFrom}
use Rattle.judy_sums.proofs.PairLemmas.{head_from}
use Rattle.judy_sums.proofs.Parts.{each_found}
use Rattle.judy_sums.proofs.Raised.{raised_at, raised_else, raised_some, raised_lowered, lowered_some, len_within}
use Rattle.judy_sl.specs.Pieces.{piece_of}
use Rattle.judy_sl.specs.Firsts.{beginning, AreFirsts}
use Rattle.judy_sl.proofs.lemmas.counts.LevelRanks.{one_if}

-- ---- one key more

filter_put : (test : List ℕ → Bool) (key : List ℕ) (value : ℕ) (pairs : List (List ℕ × ℕ)) → find byte_order key pairs ≡ None
    → length (filter test (map (λ pair. pair.0) (put byte_order key value pairs))) ≡ length (filter test (map (λ pair. pair.0) pairs)) + one_if (test key)
filter_put test key value [] none =
    elim (test key) as (λ b. length (cond b (key ∷ []) []) ≡ length (filter test (map {A = List ℕ × ℕ} {B = List ℕ} (λ pair. pair.0) [])) + one_if b) [ true ↦ refl | false ↦ refl ]
filter_put test key value (pair ∷ rest) none =
    let later : List (List ℕ) = filter test (map (λ one. one.0) rest) in
    elim (byte_order key pair.0) as (λ r. cond (is_eq r) (Some pair.1) (find byte_order key rest) ≡ None
    → length (filter test (map (λ one. one.0) (by_order r ((key, value) ∷ pair ∷ rest) ((pair.0, value) ∷ rest) (pair ∷ put byte_order key value rest)))) ≡
    length (filter test (pair.0 ∷ map (λ one. one.0) rest)) + one_if (test key)) [
      | Less ↦ λ missing. elim (test key) as (λ b. length (cond b (key ∷ filter test (pair.0 ∷ map (λ one. one.0) rest)) (filter test (pair.0 ∷ map (λ one. one.0) rest))) ≡
          length (filter test (pair.0 ∷ map (λ one. one.0) rest)) + one_if b) [ true ↦ omega arith | false ↦ omega arith ]
      | Equal ↦ λ missing. absurd (none-some pair.1 (sym missing))
      | Greater ↦ λ missing.
          let on = filter_put test key value rest missing in
          elim (test pair.0) as (λ b. length (cond b (pair.0 ∷ filter test (map (λ one. one.0) (put byte_order key value rest)))
          (filter test (map (λ one. one.0) (put byte_order key value rest)))) ≡ length (cond b (pair.0 ∷ later) later) + one_if (test key)) [ true ↦ omega arith | false ↦ on ]
    ] none

-- With a new key one more begins with its piece.
pub beginning_new : (all : FinMap byte_order ℕ) (key : List ℕ) (value : ℕ) → get all key ≡ None → (piece : ℕ) →
    beginning (insert all key value) piece ≡ beginning all piece + one_if (piece_of key == piece)
unfolding beginning
beginning_new all key value none piece =
    ap (λ (pairs : List (List ℕ × ℕ)). length (filter (λ one. piece_of one == piece) (map (λ pair. pair.0) pairs))) (entries-insert byte_order_total all key value)
    ∙ filter_put (λ one. piece_of one == piece) key value (entries all) (sym (get-entries all key) ∙ none)

one_itself : (word : ℕ) → one_if (word == word) ≡ 1
one_itself word = ap (λ b. one_if b) (eq-eqb word word refl)

-- So it is with its own.
pub beginning_itself : (all : FinMap byte_order ℕ) (key : List ℕ) (value : ℕ) → get all key ≡ None → beginning (insert all key value) (piece_of key) ≡ beginning all (piece_of key) + 1
beginning_itself all key value none = let new = beginning_new all key value none (piece_of key) in let one = one_itself (piece_of key) in omega arith

one_apart : (word other : ℕ) → other ≢ word → one_if (word == other) ≡ 0
one_apart word other apart = ap (λ b. one_if b) (ne_eqb word other (λ same. apart (sym same)))

-- ---- a key taken out and put back

module _ (all : FinMap byte_order ℕ) (key : List ℕ) where
  pub taken_out : get (remove all key) key ≡ None
  taken_out = get-remove byte_order_total all key key ∙ ap (λ b. cond b None (get all key)) (ap is_eq (tied_itself byte_order_total key))

  put_over : (value : ℕ) → insert (remove all key) key value ≡ insert all key value
  put_over value = same_map byte_order_total byte_order_same (insert (remove all key) key value) (insert all key value) (λ other.
      get-insert byte_order_total (remove all key) key value other
      ∙ ap (λ (found : Option ℕ). cond (eq_by_cmp byte_order other key) (Some value) found) (get-remove byte_order_total all key other)
      ∙ elim (eq_by_cmp byte_order other key) as (λ b. cond b (Some value) (cond b None (get all other)) ≡ cond b (Some value) (get all other)) [ true ↦ refl | false ↦ refl ]
      ∙ sym (get-insert byte_order_total all key value other))

  pub put_back : (value : ℕ) → get all key ≡ Some value → insert (remove all key) key value ≡ all
  put_back value there = same_map byte_order_total byte_order_same (insert (remove all key) key value) all (λ other.
      get-insert byte_order_total (remove all key) key value other
      ∙ ap (λ (found : Option ℕ). cond (eq_by_cmp byte_order other key) (Some value) found) (get-remove byte_order_total all key other)
      ∙ elim (eq_by_cmp byte_order other key) as (λ b. eq_by_cmp byte_order other key ≡ b → cond b (Some value) (cond b None (get all other)) ≡ get all other) [
        | true ↦ λ tied. sym there ∙ ap (get all) (sym (same_from_tie byte_order_same other key tied))
        | false ↦ λ apart. refl
      ] refl)

  -- Without a key that is there one less begins with its piece.
  pub beginning_gone : (value : ℕ) → get all key ≡ Some value → (piece : ℕ) → beginning all piece ≡ beginning (remove all key) piece + one_if (piece_of key == piece)
  beginning_gone value there piece =
      ap (λ (map : FinMap byte_order ℕ). beginning map piece) (sym (put_back value there))
      ∙ beginning_new (remove all key) key value taken_out piece

  -- Another value at a key leaves the number.
  pub beginning_written : (was value : ℕ) → get all key ≡ Some was → (piece : ℕ) → beginning (insert all key value) piece ≡ beginning all piece
  beginning_written was value there piece =
      ap (λ (map : FinMap byte_order ℕ). beginning map piece) (sym (put_over value))
      ∙ beginning_new (remove all key) key value taken_out piece
      ∙ sym (beginning_gone was there piece)

-- ---- whether one begins so

some_pass : (test : List ℕ → Bool) (all : List (List ℕ)) (key : List ℕ) → Among all key → test key ≡ true → 1 ≤ length (filter test all)
some_pass test [] key here passes = absurd here
some_pass test (other ∷ rest) key here passes = ⊎_elim
    (λ same. let first = ap (λ b. length (cond b (other ∷ filter test rest) (filter test rest))) (sym (ap test same) ∙ passes) in omega arith)
    (λ later. let on = some_pass test rest key later passes in elim (test other) as (λ b. 1 ≤ length (cond b (other ∷ filter test rest) (filter test rest))) [ true ↦ omega arith | false ↦ on ])
    here

none_pass : (test : List ℕ → Bool) (all : List (List ℕ)) → ((key : List ℕ) → Among all key → test key ≡ false) → length (filter test all) ≡ 0
none_pass test [] none = refl
none_pass test (other ∷ rest) none =
    ap (λ b. length (cond b (other ∷ filter test rest) (filter test rest))) (none other (inl refl)) ∙ none_pass test rest (λ key later. none key (inr later))

-- A key that is there is one of those that begin with its piece.
pub beginning_some : (all : FinMap byte_order ℕ) (key : List ℕ) (piece : ℕ) → IsTrue (contains_key all key) → piece_of key ≡ piece → 1 ≤ beginning all piece
unfolding beginning
beginning_some all key piece held is = some_pass (λ one. piece_of one == piece) (keys all) key (among_keys byte_order_total byte_order_same all key held) (eq-eqb (piece_of key) piece is)

-- Where each key begins with another piece there is none.
pub beginning_none : (all : FinMap byte_order ℕ) (piece : ℕ) → ((key : List ℕ) → IsTrue (contains_key all key) → piece_of key ≢ piece) → beginning all piece ≡ 0
unfolding beginning
beginning_none all piece none =
    none_pass (λ one. piece_of one == piece) (keys all) (λ key here. ne_eqb (piece_of key) piece (none key (contains_key-from_among byte_order_total byte_order_same all key here)))

-- ---- how large the list is

begun : List (List ℕ) → ℕ → ℕ
begun all piece = length (filter (λ key. piece_of key == piece) all)

never : (word : ℕ) (pairs : Pairs) → AllFrom pairs (suc word) → sum_by (λ (pair : ℕ × ℕ). one_if (word == pair.0)) pairs ≡ 0
never word [] from = refl
never word (pair ∷ rest) from =
    let sum = sum_by-cons (λ (one : ℕ × ℕ). one_if (word == one.0)) pair rest in
    let above = from.0 in
    let here = one_apart word pair.0 (λ same. omega arith) in
    let later = never word rest from.1 in
    omega arith

once : (word : ℕ) (pairs : Pairs) → Ascends pairs → sum_by (λ (pair : ℕ × ℕ). one_if (word == pair.0)) pairs ≤ 1
once word [] ascend = omega arith
once word (pair ∷ rest) ascend =
    let sum = sum_by-cons (λ (one : ℕ × ℕ). one_if (word == one.0)) pair rest in
    ⊎_elim
    (λ same. let later = never word rest (subst (λ low. AllFrom rest (suc low)) (sym same) (head_from pair rest ascend)) in let here = ap (λ b. one_if b) (eq-eqb word pair.0 same) in omega arith)
    (λ apart. let later = once word rest (rest_sorted word_order pair rest ascend) in let here = ap (λ b. one_if b) (ne_eqb word pair.0 apart) in omega arith)
    (cases_eq word pair.0)

none_begun : (pairs : Pairs) → sum_by (λ (pair : ℕ × ℕ). begun [] pair.0) pairs ≡ 0
unfolding begun
none_begun [] = refl
none_begun (pair ∷ rest) = let sum = sum_by-cons (λ (one : ℕ × ℕ). begun [] one.0) pair rest in let later = none_begun rest in omega arith

begun_more : (key : List ℕ) (all : List (List ℕ)) (piece : ℕ) → begun (key ∷ all) piece ≡ begun all piece + one_if (piece_of key == piece)
unfolding begun
begun_more key all piece =
    let later : List (List ℕ) = filter (λ one. piece_of one == piece) all in
    elim (piece_of key == piece) as (λ b. length (cond b (key ∷ later) later) ≡ length later + one_if b) [ true ↦ omega arith | false ↦ omega arith ]

more_begun : (key : List ℕ) (all : List (List ℕ)) (pairs : Pairs) → sum_by (λ (pair : ℕ × ℕ). begun (key ∷ all) pair.0) pairs ≡
    sum_by (λ (pair : ℕ × ℕ). begun all pair.0) pairs + sum_by (λ (pair : ℕ × ℕ). one_if (piece_of key == pair.0)) pairs
more_begun key all [] = refl
more_begun key all (pair ∷ rest) =
    let sum = sum_by-cons (λ (one : ℕ × ℕ). begun (key ∷ all) one.0) pair rest in
    let less = sum_by-cons (λ (one : ℕ × ℕ). begun all one.0) pair rest in
    let ones = sum_by-cons (λ (one : ℕ × ℕ). one_if (piece_of key == one.0)) pair rest in
    let here = begun_more key all pair.0 in
    let later = more_begun key all rest in
    omega arith

begun_within : (all : List (List ℕ)) (pairs : Pairs) → Ascends pairs → sum_by (λ (pair : ℕ × ℕ). begun all pair.0) pairs ≤ length all
begun_within [] pairs ascend = let none = none_begun pairs in omega arith
begun_within (key ∷ rest) pairs ascend =
    let more = more_begun key rest pairs in
    let one = once (piece_of key) pairs ascend in
    let later = begun_within rest pairs ascend in
    omega arith

each_within : (all : List (List ℕ)) (pairs : Pairs) → AllByRecursion (λ (pair : ℕ × ℕ). pair.1 ≤ begun all pair.0) pairs → sum_of pairs ≤ sum_by (λ (pair : ℕ × ℕ). begun all pair.0) pairs
each_within all [] each = omega arith
each_within all (pair ∷ rest) each =
    let sum = sum_by-cons (λ (one : ℕ × ℕ). one.1) pair rest in
    let most = sum_by-cons (λ (one : ℕ × ℕ). begun all one.0) pair rest in
    let here = each.0 in
    let later = each_within all rest each.1 in
    omega arith

beginning_is : (all : FinMap byte_order ℕ) (piece : ℕ) → beginning all piece ≡ begun (keys all) piece
unfolding beginning begun
beginning_is all piece = refl

some_there : (found : Option ℕ) → 1 ≤ unwrap_or found 0 → IsSome found
some_there None some = let no : ⊥ = omega arith in absurd no
some_there (Some number) some = refl

some_is : (found : Option ℕ) → 1 ≤ unwrap_or found 0 → found ≡ Some (unwrap_or found 0)
some_is None some = let no : ⊥ = omega arith in absurd no
some_is (Some number) some = refl

-- ---- what the list becomes

module _ (all : FinMap byte_order ℕ) (firsts : FinMap word_order ℕ) (are : AreFirsts all firsts) where
  number_within : (piece number : ℕ) → get firsts piece ≡ Some number → number ≤ begun (keys all) piece
  number_within piece number held =
      let is = are.numbers piece in
      let same = ap (λ (found : Option ℕ). unwrap_or found 0) held in
      let whole = beginning_is all piece in
      omega arith

  -- All numbers together are no more than the keys,
  pub firsts_sum : sum_of (entries firsts) ≤ len all
  firsts_sum =
      let each = each_found word_order nat_cmp_total nat_cmp-IsAntisymmetric (λ (pair : ℕ × ℕ). pair.1 ≤ begun (keys all) pair.0) (entries firsts) (entries_sorted firsts)
      (λ piece number found. number_within piece number (get-entries firsts piece ∙ found)) in
      let sum = each_within (keys all) (entries firsts) each in
      let most = begun_within (keys all) (entries firsts) (entries_sorted firsts) in
      let long = length-keys all in
      omega arith

  -- and so are its words.
  pub firsts_len : len firsts ≤ len all
  firsts_len = let most = len_within firsts are.some in let sum = firsts_sum in omega arith

module _ (all : FinMap byte_order ℕ) (key : List ℕ) (value : ℕ) (none : get all key ≡ None) (firsts : FinMap word_order ℕ) where
  -- The first key that begins with a piece isn't told.
  none_told : beginning all (piece_of key) ≡ 0 → (piece : ℕ) → beginning (insert all key value) piece - 1 ≡ beginning all piece - 1
  none_told nothing piece =
      let new = beginning_new all key value none piece in
      ⊎_elim
      (λ same. let one = ap (λ word. one_if (piece_of key == word)) same ∙ one_itself (piece_of key) in let was = ap (beginning all) same in omega arith)
      (λ apart. let one = one_apart (piece_of key) piece apart in omega arith)
      (cases_eq piece (piece_of key))

  -- It leaves the list,
  pub firsts_first : beginning all (piece_of key) ≡ 0 → AreFirsts all firsts → AreFirsts (insert all key value) firsts
  firsts_first nothing are = record {
    numbers = λ piece. are.numbers piece ∙ sym (none_told nothing piece);
    some = are.some;
  }

  -- and another one is counted.
  pub firsts_more : 1 ≤ beginning all (piece_of key) → AreFirsts all firsts → AreFirsts (insert all key value) (raised firsts (piece_of key))
  firsts_more held are = record {
    numbers = λ piece.
        let is = are.numbers piece in
        let new = beginning_new all key value none piece in
        ⊎_elim
        (λ same.
        let one = ap (λ word. one_if (piece_of key == word)) same ∙ one_itself (piece_of key) in
        let was = ap (beginning all) same in
        let number = ap (number_at firsts) same in
        let after = ap (number_at (raised firsts (piece_of key))) same ∙ raised_at firsts (piece_of key) in
        omega arith)
        (λ apart. let one = one_apart (piece_of key) piece apart in let after = raised_else firsts (piece_of key) piece apart in omega arith)
        (cases_eq piece (piece_of key));
    some = raised_some firsts (piece_of key) are.some;
  }

  -- Where it goes again the list stays,
  pub firsts_last : beginning all (piece_of key) ≡ 0 → AreFirsts (insert all key value) firsts → AreFirsts all firsts
  firsts_last nothing are = record {
    numbers = λ piece. are.numbers piece ∙ none_told nothing piece;
    some = are.some;
  }

  module _ (held : 1 ≤ beginning all (piece_of key)) (are : AreFirsts (insert all key value) firsts) where
    -- or else there is a number,
    pub number_some : 1 ≤ number_at firsts (piece_of key)
    number_some =
        let is = are.numbers (piece_of key) in
        let new = beginning_new all key value none (piece_of key) in
        let one = one_itself (piece_of key) in
        omega arith

    pub number_there : IsSome (get firsts (piece_of key))
    number_there = some_there (get firsts (piece_of key)) number_some

    number_is : get firsts (piece_of key) ≡ Some (number_at firsts (piece_of key))
    number_is = some_is (get firsts (piece_of key)) number_some

    back : raised (lowered firsts (piece_of key)) (piece_of key) ≡ firsts
    back = raised_lowered firsts (piece_of key) (number_at firsts (piece_of key)) number_is number_some

    -- which is one less then.
    pub firsts_less : AreFirsts all (lowered firsts (piece_of key))
    firsts_less = record {
      numbers = λ piece.
          let is = are.numbers piece in
          let new = beginning_new all key value none piece in
          let before = ap (λ (map : FinMap word_order ℕ). number_at map piece) back in
          ⊎_elim
          (λ same.
          let one = ap (λ word. one_if (piece_of key == word)) same ∙ one_itself (piece_of key) in
          let was = ap (beginning all) same in
          let after = ap (number_at (raised (lowered firsts (piece_of key)) (piece_of key))) same ∙ raised_at (lowered firsts (piece_of key)) (piece_of key) in
          let number = ap (number_at (lowered firsts (piece_of key))) same in
          omega arith)
          (λ apart. let one = one_apart (piece_of key) piece apart in let after = raised_else (lowered firsts (piece_of key)) (piece_of key) piece apart in omega arith)
          (cases_eq piece (piece_of key));
      some = lowered_some firsts (piece_of key) (number_at firsts (piece_of key)) number_is number_some are.some;
    }

-- A value that is written leaves the list.
pub firsts_written : (all : FinMap byte_order ℕ) (key : List ℕ) (was value : ℕ) (firsts : FinMap word_order ℕ) → get all key ≡ Some was → AreFirsts all firsts → AreFirsts (insert all key value) firsts
firsts_written all key was value firsts there are = record {
  numbers = λ piece. are.numbers piece ∙ ap (λ n. n - 1) (sym (beginning_written all key was value there piece));
  some = are.some;
}

-- No key has no number.
pub no_firsts : AreFirsts empty empty
no_firsts = record {
  numbers = λ piece.
      let nothing = ap (λ (found : Option ℕ). unwrap_or found 0) (get-empty word_order piece) in
      let none = beginning_none empty piece (λ key held. absurd (true≢false (sym held ∙ ap (λ (found : Option ℕ). is_some found) (get-empty byte_order key)))) in
      omega arith;
  some = λ piece number held. absurd (none-some number (sym (get-empty word_order piece) ∙ held));
}
