-- How tails stand in lists of records, each of which has the texts that take as many words as it says.
use Rattle.std.specs.Prelude.{◌≡◌, ◌<◌, ◌≤◌, ◌^◌, eqb, ℕ, List, [], length, get_or, drop, map, Option, None, Some}
use Rattle.std.specs.List.{IsDistinct}
use Rattle.judy_records.specs.Texts.{first_word, words_of, text_in, IsText}
use Rattle.judy_records.specs.Spots.{Spot, free, held, RecordList, IsNext, empty_list, spot_at}
use Rattle.judy_tails.specs.Short.{ShortLists}

-- What stands at a place of a list.
abbrev pub tail_of : Spot → Option (List ℕ × ℕ)
tail_of (free next) = None
tail_of (held value words) = Some (text_in words, value)

-- The texts of a list, place by place.
abbrev pub tails_in : RecordList → List (Option (List ℕ × ℕ))
tails_in list = map tail_of list.spots

-- How many words each of its texts takes.
abbrev pub size_of : RecordList → ℕ
size_of list = list.size

-- The place of it that is taken next.
abbrev pub next_of : RecordList → ℕ
next_of list = list.next

-- What the lists hold.
abbrev pub lists_of : List RecordList → ShortLists
lists_of lists = record {
  words = map size_of lists;
  lists = map tails_in lists;
  next = map next_of lists;
}

-- The words of a record are those of the text that they spell: behind its last byte there are zeros alone.
abbrev pub IsPadded : Spot → Type 0
IsPadded (free next) = ⊥
IsPadded (held value words) = words ≡ words_of (text_in words)

-- The same where there is a record.
abbrev pub IsPaddedOrFree : Spot → Type 0
IsPaddedOrFree (free next) = Unit {0}
IsPaddedOrFree (held value words) = words ≡ words_of (text_in words)

-- A word with which some text begins: behind its first zero byte there are zeros alone.
abbrev pub BeginsText : ℕ → Type 0
BeginsText word = (text : List ℕ) × IsText text × (word ≡ first_word text)

-- The words of a record by itself: its text and its value.
abbrev pub pair_of : List ℕ → List ℕ × ℕ
pair_of words = (text_in (drop 1 words), get_or words 0 0)

-- They begin with the value, and the text is whole.
pub record IsRecord (words : List ℕ) : Type 0 where
  pub some : 0 < length words
  pub whole : drop 1 words ≡ words_of (text_in (drop 1 words))

-- A list has whole texts of no more words than the longest one takes, and no more than places are words for; and no free place of it is lost.
pub record IsTailList (list : RecordList) : Type 0 where
  pub short : list.size ≤ 128
  pub whole : (place : ℕ) → IsPaddedOrFree (spot_at list place)
  pub long : length list.spots ≤ 2 ^ 55
  pub next : IsNext list.spots list.next

-- What always holds of the lists: no two are for texts of one length.
pub record AreTails (lists : List RecordList) : Type 0 where
  pub each : (number : ℕ) → IsTailList (get_or lists number (empty_list 0))
  pub apart : IsDistinct eqb (map size_of lists)

-- To callers the lists are what they were, and one may be there that has no text.
pub record AreSame (before after : ShortLists) : Type 0 where
  pub lists : (number : ℕ) → get_or after.lists number [] ≡ get_or before.lists number []
  pub next : (number : ℕ) → get_or after.next number 0 ≡ get_or before.next number 0
