-- Places in a list: what stands there is found there, and a change there changes the list.
use Rattle.std.proofs.Common.{◌≡◌, ◌≢◌, ◌==◌, ℕ, zero, suc, ◌+◌, ◌-◌, ◌<◌, ◌≤◌, ◌^◌, cond, List, [], ◌∷◌, ◌++◌, length, take, drop, get_or, set, insert, remove, unwrap_or, Option}
use Rattle.std.proofs.Common.{Some, None, IsSome, refl, sym, ap, ◌∙◌, subst, arith, append_assoc, is_some}
use Rattle.std.specs.FinMap.{find, put}
use Rattle.std.proofs.lemmas.Bool.{ne_eqb}
use Rattle.std.proofs.lemmas.List.{take-append-drop, drop_more, get_or_read}
use Rattle.judy_model.specs.Keys.{word_order}
use Rattle.judy_sums.specs.Pairs.{Pairs, sum_of, number_in, without, put_less}
use Rattle.judy_sums.specs.Chunks.{AllBelow, AllFrom, Ascends, AreChunks, BelongsTo, IsPlace, StandsAt, IsSpot, pair_at, joined}
use Rattle.judy_sums.proofs.PairLemmas.{head_from, tail_ascends, from_first, before_pair, found_at, put_new, there_within, there_is, there_put, there_without}
use Rattle.judy_sums.proofs.ChunkLemmas.{joined_split, chunk_ascends, find_chunk, sum_put, length_there, length_new, lent_ascends, lent_found, lent_put, lent_are}
use Rattle.judy_sums.proofs.ChunkLemmas.{lent_without, lent_are_left, lent_gone, lent_are_gone}

below_left : (front back : Pairs) (word : ℕ) → AllBelow (front ++ back) word → AllBelow front word
below_left [] back word all = tt
below_left (pair ∷ rest) back word all = (all.0, below_left rest back word all.1)

from_right : (front back : Pairs) (word : ℕ) → AllFrom (front ++ back) word → AllFrom back word
from_right [] back word all = all
from_right (pair ∷ rest) back word all = from_right rest back word all.1

cut_at : (pairs : Pairs) (at : ℕ) → at < length pairs → pairs ≡ take at pairs ++ get_or pairs at (0, 0) ∷ drop (at + 1) pairs
cut_at pairs at within = sym (ap (λ back. take at pairs ++ back) (sym (drop_more pairs at (0, 0) within)) ∙ take-append-drop at pairs)

-- A pair has the place at which it stands.
place_here : (pairs : Pairs) (at : ℕ) → Ascends pairs → at < length pairs → IsPlace pairs (get_or pairs at (0, 0)).0 at
place_here pairs at ascend within =
    let pair = get_or pairs at (0, 0) in
    let all = subst Ascends (cut_at pairs at within) ascend in
    record {
      within = omega arith;
      before = before_pair (take at pairs) pair (drop (at + 1) pairs) all;
      behind =
          subst (λ back. AllFrom back pair.0) (sym (drop_more pairs at (0, 0) within)) (from_first pair (drop (at + 1) pairs) pair.0
          (tail_ascends (take at pairs) (pair ∷ drop (at + 1) pairs) all) (omega arith));
    }

module _ (chunks : List Pairs) (at place : ℕ) (are : AreChunks chunks) (within : at < length chunks) (inside : place < length (get_or chunks at [])) where
  chunk : Pairs
  chunk = get_or chunks at []

  pair : ℕ × ℕ
  pair = pair_at chunks at place

  front : Pairs
  front = joined (take at chunks) ++ take place (get_or chunks at [])

  rest : Pairs
  rest = drop (place + 1) (get_or chunks at [])

  back : Pairs
  back = joined (drop (suc at) chunks)

  whole : joined chunks ≡ front ++ pair ∷ (rest ++ back)
  unfolding chunk pair front rest back
  whole =
      joined_split chunks at within
      ∙ ap (λ (one : Pairs). joined (take at chunks) ++ (one ++ joined (drop (suc at) chunks))) (cut_at (get_or chunks at []) place inside)
      ∙ ap (λ (ps : Pairs). joined (take at chunks) ++ ps) (append_assoc (take place (get_or chunks at [])) (pair_at chunks at place ∷ drop (place + 1) (get_or chunks at []))
      (joined (drop (suc at) chunks)))
      ∙ sym (append_assoc (joined (take at chunks)) (take place (get_or chunks at [])) (pair_at chunks at place ∷ drop (place + 1) (get_or chunks at []) ++ joined (drop (suc at) chunks)))

  belongs_here : BelongsTo chunks (pair_at chunks at place).0 at
  unfolding chunk pair front rest back
  belongs_here =
      let all = subst Ascends whole are.ascend in
      record {
        within = within;
        before = below_left (joined (take at chunks)) (take place (get_or chunks at [])) (pair_at chunks at place).0 (before_pair front pair (rest ++ back) all);
        behind = from_right rest back (suc (pair_at chunks at place).0) (head_from pair (rest ++ back) (tail_ascends front (pair ∷ (rest ++ back)) all));
      }

  in_order : Ascends (get_or chunks at [])
  in_order = chunk_ascends chunks (pair_at chunks at place).0 at are belongs_here

  its_place : IsPlace (get_or chunks at []) (pair_at chunks at place).0 place
  its_place = place_here (get_or chunks at []) place in_order inside

  pub found_is : find word_order (pair_at chunks at place).0 (joined chunks) ≡ Some (pair_at chunks at place).1
  found_is =
      find_chunk chunks (pair_at chunks at place).0 at are belongs_here
      ∙ found_at (get_or chunks at []) (pair_at chunks at place).0 place in_order its_place (pair_at chunks at place) inside (get_or_same (get_or chunks at []) place inside) refl
    where
      get_or_same : (pairs : Pairs) (n : ℕ) → n < length pairs → get_or pairs n (0, 0) ≡ get_or pairs n (get_or pairs n (0, 0))
      get_or_same [] n short = absurd (omega arith)
      get_or_same (first ∷ more) zero short = refl
      get_or_same (first ∷ more) (suc n) short = get_or_same more n (omega arith)

  pub number_is : number_in (joined chunks) (pair_at chunks at place).0 ≡ (pair_at chunks at place).1
  number_is = ap (λ (found : Option ℕ). unwrap_or found 0) found_is

  some_is : IsSome (find word_order (pair_at chunks at place).0 (joined chunks))
  some_is = ap is_some found_is

  -- The chunk is lent, and the number there changed.
  module _ (lent : Pairs) (is : lent ≡ get_or chunks at lent) where
    lends : lent ≡ get_or chunks at []
    lends = get_or_read chunks at lent within is []

    here_some : IsSome (find word_order (pair_at chunks at place).0 (get_or chunks at []))
    here_some = subst (λ (found : Option ℕ). IsSome found) (find_chunk chunks (pair_at chunks at place).0 at are belongs_here) some_is

    module _ (step : ℕ → ℕ) (new : Pairs) (e : new ≡ set lent place ((get_or lent place (0, 0)).0, step (get_or lent place (0, 0)).1)) where
      written : new ≡ put word_order (pair_at chunks at place).0 (step (pair_at chunks at place).1) lent
      written =
          e
          ∙ ap (λ (pairs : Pairs). set pairs place ((get_or pairs place (0, 0)).0, step (get_or pairs place (0, 0)).1)) lends
          ∙ sym (there_put (get_or chunks at []) (pair_at chunks at place).0 place in_order its_place here_some (step (pair_at chunks at place).1))
          ∙ ap (put word_order (pair_at chunks at place).0 (step (pair_at chunks at place).1)) (sym lends)

      pub changed_is : joined (set chunks at new) ≡ put word_order (pair_at chunks at place).0 (step (pair_at chunks at place).1) (joined chunks)
      changed_is = lent_put chunks chunks (pair_at chunks at place).0 at lent are refl belongs_here is new (step (pair_at chunks at place).1) written

      pub changed_are : sum_of (joined chunks) + step (pair_at chunks at place).1 < 2 ^ 64 + (pair_at chunks at place).1 → AreChunks (set chunks at new)
      changed_are fits =
          let long = length_there (joined chunks) (pair_at chunks at place).0 (step (pair_at chunks at place).1) are.ascend some_is in
          let sums = sum_put (joined chunks) (pair_at chunks at place).0 (step (pair_at chunks at place).1) are.ascend in
          let was = number_is in
          let few = are.few in
          lent_are chunks chunks (pair_at chunks at place).0 at lent are refl belongs_here is new (step (pair_at chunks at place).1) written (omega arith) (omega arith)

    module _ (new : Pairs) (e : new ≡ remove lent place) where
      taken : new ≡ without (pair_at chunks at place).0 lent
      taken =
          e
          ∙ ap (λ (pairs : Pairs). remove pairs place) lends
          ∙ sym (there_without (get_or chunks at []) (pair_at chunks at place).0 place in_order its_place here_some)
          ∙ ap (without (pair_at chunks at place).0) (sym lends)

      pub left_is : joined (set chunks at new) ≡ without (pair_at chunks at place).0 (joined chunks)
      left_is = lent_without chunks chunks (pair_at chunks at place).0 at lent are refl belongs_here is new taken

      pub left_are : 1 ≤ length new → AreChunks (set chunks at new)
      left_are = lent_are_left chunks chunks (pair_at chunks at place).0 at lent are refl belongs_here is new taken

      pub gone_is : length new ≡ 0 → joined (remove (set chunks at new) at) ≡ without (pair_at chunks at place).0 (joined chunks)
      gone_is = lent_gone chunks chunks (pair_at chunks at place).0 at lent are refl belongs_here is new taken

      pub gone_are : length new ≡ 0 → AreChunks (remove (set chunks at new) at)
      gone_are = lent_are_gone chunks chunks (pair_at chunks at place).0 at lent are refl belongs_here is new taken

-- ---- a word that stands at a place

module _ (chunks : List Pairs) (word at place : ℕ) (are : AreChunks chunks) (stands : StandsAt chunks word at place) where
  pub its_number : number_in (joined chunks) word ≡ (pair_at chunks at place).1
  its_number = ap (number_in (joined chunks)) (sym stands.stands.text) ∙ number_is chunks at place are stands.within stands.stands.within

  -- What is put there is put at the word.
  pub put_there : (step : ℕ → ℕ) → put word_order (pair_at chunks at place).0 (step (pair_at chunks at place).1) (joined chunks) ≡
      put word_order word (step (number_in (joined chunks) word)) (joined chunks)
  put_there step =
      ap (λ w. put word_order w (step (pair_at chunks at place).1) (joined chunks)) stands.stands.text
      ∙ ap (λ n. put word_order word (step n) (joined chunks)) (sym its_number)

  -- One less there is one less at the word.
  pub less_last : number_in (joined chunks) word ≡ 1 → without (pair_at chunks at place).0 (joined chunks) ≡ put_less word (joined chunks)
  less_last one =
      ap (λ w. without w (joined chunks)) stands.stands.text
      ∙ sym (ap (λ n. cond (n == 1) (without word (joined chunks)) (put word_order word (number_in (joined chunks) word - 1) (joined chunks))) one)

  pub less_one : number_in (joined chunks) word ≢ 1 → put word_order (pair_at chunks at place).0 ((pair_at chunks at place).1 - 1) (joined chunks) ≡ put_less word (joined chunks)
  less_one more =
      put_there (λ n. n - 1)
      ∙ sym (ap (λ b. cond b (without word (joined chunks)) (put word_order word (number_in (joined chunks) word - 1) (joined chunks))) (ne_eqb (number_in (joined chunks) word) 1 more))

-- The same of the list that was read, which is this one.
module _ (chunks : List Pairs) (word at place : ℕ) (are : AreChunks chunks) {shown : List Pairs} (same : shown ≡ chunks) (found : StandsAt shown word at place) where
  pub here : StandsAt chunks word at place
  here = subst (λ (all : List Pairs). StandsAt all word at place) same found

  pub read_number : {number : ℕ} {again : List Pairs} → again ≡ chunks → number ≡ (pair_at again at place).1 → number_in (joined chunks) word ≡ number
  read_number is read = its_number chunks word at place are here ∙ sym (read ∙ ap (λ (all : List Pairs). (pair_at all at place).1) is)

-- ---- the place that a word has, or would have

module _ (chunks : List Pairs) (word at place : ℕ) (are : AreChunks chunks) (spot : IsSpot chunks word at place) where
  spot_order : Ascends (get_or chunks at [])
  spot_order = chunk_ascends chunks word at are spot.belongs

  -- A word that is found stands there.
  pub spot_stands : IsSome (find word_order word (joined chunks)) → StandsAt chunks word at place
  spot_stands is =
      let here = subst (λ (found : Option ℕ). IsSome found) (find_chunk chunks word at are spot.belongs) is in
      record {
        within = spot.belongs.within;
        stands = record {
          within = there_within (get_or chunks at []) word place spot_order spot.place here;
          text = ap (λ (pair : ℕ × ℕ). pair.0) (there_is (get_or chunks at []) word place spot_order spot.place here);
        };
      }

  pub spot_absent : (StandsAt chunks word at place → ⊥) → find word_order word (joined chunks) ≡ None
  spot_absent apart = by (find word_order word (joined chunks)) refl
    where
      by : (found : Option ℕ) → find word_order word (joined chunks) ≡ found → find word_order word (joined chunks) ≡ None
      by None none = none
      by (Some number) there = absurd (apart (spot_stands (ap is_some there)))

  -- A new word is put into the chunk that is lent.
  module _ (lent new : Pairs) (number : ℕ) (is : lent ≡ get_or chunks at lent) (absent : find word_order word (joined chunks) ≡ None) where
    put_in : new ≡ insert lent place (word, number) → new ≡ put word_order word number lent
    put_in e =
        e
        ∙ sym (put_new lent word place (lent_ascends chunks chunks word at lent are refl spot.belongs is)
        (subst (λ (pairs : Pairs). IsPlace pairs word place) (sym (get_or_read chunks at lent spot.belongs.within is [])) spot.place) number
        (lent_found chunks chunks word at lent are refl spot.belongs is ∙ absent))

    pub put_is_new : new ≡ insert lent place (word, number) → joined (set chunks at new) ≡ put word_order word number (joined chunks)
    put_is_new e = lent_put chunks chunks word at lent are refl spot.belongs is new number (put_in e)

    pub put_are_new : new ≡ insert lent place (word, number) → length (joined chunks) + 1 < 2 ^ 64 → sum_of (joined chunks) + number < 2 ^ 64 → AreChunks (set chunks at new)
    put_are_new e few fits =
        let long = length_new (joined chunks) word number are.ascend absent in
        let sums = sum_put (joined chunks) word number are.ascend in
        lent_are chunks chunks word at lent are refl spot.belongs is new number (put_in e) (omega arith) (omega arith)

-- A word that isn't found comes in with its first one.
pub first_one : (pairs : Pairs) (word : ℕ) → find word_order word pairs ≡ None → put word_order word 1 pairs ≡ put word_order word (number_in pairs word + 1) pairs
first_one pairs word absent = ap (λ (found : Option ℕ). put word_order word (unwrap_or found 0 + 1) pairs) (sym absent)
