-- A text in a page with a free place: one as long finds a place beside it.
use Rattle.std.proofs.Common.{◌≡◌, ◌<◌, ◌≤◌, ◌%◌, ◌/◌, ℕ, List, [], length, map, get_or, None, IsSome, eqb, refl, sym, ap, subst, ◌∙◌, arith}
use Rattle.std.proofs.Math.ListN.{get_or-map}
use Rattle.std.proofs.lemmas.Bool.{eq-eqb, false≢true}
use Rattle.std.proofs.lemmas.List.{length-map, get_or_read}
use Rattle.std.proofs.lemmas.Map.Keys.{apart_from_distinct}
use Rattle.judy_records.specs.Pages.{per_of, page_of}
use Rattle.judy_records.specs.Texts.{words_for, text_in}
use Rattle.judy_records.specs.Spots.{Spot, free, RecordList, IsHeld, text_of, empty_list, spot_at}
use Rattle.judy_records.specs.Memory as records
use Rattle.judy_records.proofs.TextLemmas.{length-words}
use Rattle.judy_tails.specs.Places as places
use Rattle.judy_tails.specs.Short.{ShortLists, tail_at, list_for, HasFree}
use Rattle.judy_tails.specs.Inside.{tail_of, tails_in, size_of, lists_of, AreTails}
use Rattle.judy_tails.proofs.TailLemmas.{whole-is}
use Rattle.judy_tails.proofs.ListLemmas.{list_at, tail-held, not-held, seen-inside, list-whole, list-tail}
use Rattle.judy_tails.proofs.LengthLemmas.{first_for, first-is}

-- Each list is the one for texts of as many words as its own.
own-list : (lists : List RecordList) (number : ℕ) → AreTails lists → number < length lists → first_for (list_at lists number).size lists ≡ number
own-list lists number are inside =
    first-is lists (list_at lists number).size number (omega (arith, inside))
    (λ before less same.
    let long = length-map lists size_of in
    let one = get_or-map size_of lists before (empty_list 0) in
    let two = get_or-map size_of lists number (empty_list 0) in
    let off = apart_from_distinct eqb (map size_of lists) before number 0 are.apart less (omega (arith, inside, long)) in
    false≢true (sym off ∙ eq-eqb (get_or (map size_of lists) before 0) (get_or (map size_of lists) number 0) (one ∙ same ∙ sym two)))
    (λ _. refl)

held-some : (spot : Spot) → IsHeld spot → IsSome (tail_of spot)
held-some spot is = subst IsSome (sym (tail-held spot is)) refl

module _ (lists : List RecordList) {seen : ShortLists} (view_is : lists_of lists ≡ seen) (are : AreTails lists) (place : ℕ) (some : IsSome (tail_at seen place))
    (list : RecordList) (read : list ≡ get_or lists (place % 256) list) (long : length (text_of (spot_at list (place / 256))) ≡ list.size) where
  abbrev number : ℕ
  number = place % 256

  abbrev bytes : ℕ
  bytes = length (places.text_of (tail_at seen place))

  inside : number < length lists
  inside = seen-inside lists view_is place some

  list-is : list ≡ list_at lists number
  list-is = get_or_read lists number list inside read (empty_list 0)

  words-are : words_for bytes ≡ list.size
  words-are =
      let spot = spot_at list (place / 256) in
      let whole = whole-is spot (list-whole lists view_is place some list read are) in
      ap (λ tail. words_for (length (places.text_of tail))) (list-tail lists view_is place some list read)
      ∙ sym (length-words (words_for (length (text_in (text_of spot)))) (text_in (text_of spot)))
      ∙ ap length (sym whole)
      ∙ long

  pub text-short : bytes ≤ 1024
  text-short =
      let short = (are.each number).short in
      let size = words-are ∙ ap (λ (list : RecordList). list.size) list-is in
      omega (arith, short, size)

  for-list : list_for seen bytes ≡ number
  for-list =
      ap (λ (all : ShortLists). list_for all bytes) (sym view_is)
      ∙ ap (λ words. first_for words lists) (words-are ∙ ap (λ (list : RecordList). list.size) list-is)
      ∙ own-list lists number are inside

  column : get_or seen.lists (list_for seen bytes) [] ≡ tails_in list
  column = (λ i. get_or (sym view_is i).lists (for-list i) []) ∙ get_or-map tails_in lists number (empty_list 0) ∙ ap tails_in (sym list-is)

  at : (n : ℕ) → get_or (get_or seen.lists (list_for seen bytes) []) n None ≡ tail_of (spot_at list n)
  at n = ap (λ all. get_or all n None) column ∙ get_or-map tail_of list.spots n (free 0)

  pub free-beside : records.HasFree list → HasFree seen bytes
  free-beside has =
      let used = has.used in
      record {
        place = has.place;
        within = (let same = ap length column in let l = length-map list.spots tail_of in let w = has.within in omega (arith, same, l, w));
        is_free = at has.place ∙ not-held (spot_at list has.place) has.is_free;
        other = used.place;
        stands = subst IsSome (sym (at used.place)) (held-some (spot_at list used.place) used.held);
        beside = (λ i. page_of (per_of (words-are i)) used.place) ∙ used.here ∙ (λ i. page_of (per_of (sym words-are i)) has.place);
      }
