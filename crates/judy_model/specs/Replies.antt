-- What a line is answered, and how that is printed. (This project's own script.)
use Rattle.std.specs.Prelude.{ℕ, Bool, true, false, List, [], ◌∷◌, ◌++◌, codes, decimal, flat_map, Result, Ok, Err}
use Rattle.judy_model.specs.Arrays.{ArrayValue, len_of}
use Rattle.judy_model.specs.KeyTokens.{printed_key}
use Rattle.judy_model.specs.Kinds.{kind_word_of}
use Rattle.judy_model.specs.Stores.{Store}

-- The answer of a line that isn't refused.
pub data Answer : Type 0 where
  -- none at all: a blank line or a comment
  silent : Answer
  -- an array was made
  done : Answer
  -- what a slot held before
  was : ℕ → Answer
  -- whether it was so
  flag : Bool → Answer
  -- a value, a key or a count
  number : ℕ → Answer
  -- a key and its value: of an array over words, and of one over byte strings
  entry : ℕ → ℕ → Answer
  string_entry : List ℕ → ℕ → Answer
  -- how many keys were freed
  freed : ℕ → Answer
  -- the arrays of a store
  listed : Store → Answer
  -- there is no such key, word or value
  nothing : Answer

-- Why a line is refused, in the order in which that is asked: a line to which several apply is refused for the first of them. A bad
-- word and a bad key go by the first bad argument.
pub data Refusal : Type 0 where
  line_too_long : Refusal
  unknown_command : Refusal
  argument_count : Refusal
  bad_name : Refusal
  no_such_array : Refusal
  wrong_kind : Refusal
  bad_word : Refusal
  bad_key : Refusal
  bad_limit : Refusal
  exists : Refusal
  too_many_arrays : Refusal
  full : Refusal
  no_memory : Refusal

-- A reply is an answer or a refusal.
abbrev pub Reply : Type 0
Reply = Result Answer Refusal

-- The word of a refusal.
abbrev pub refusal_word : Refusal → List ℕ
refusal_word line_too_long = codes "line-too-long"
refusal_word unknown_command = codes "unknown-command"
refusal_word argument_count = codes "argument-count"
refusal_word bad_name = codes "bad-name"
refusal_word no_such_array = codes "no-such-array"
refusal_word wrong_kind = codes "wrong-kind"
refusal_word bad_word = codes "bad-word"
refusal_word bad_key = codes "bad-key"
refusal_word bad_limit = codes "bad-limit"
refusal_word exists = codes "exists"
refusal_word too_many_arrays = codes "too-many-arrays"
refusal_word full = codes "full"
refusal_word no_memory = codes "no-memory"

-- An array in a list: a space (32), then its name, its kind and how many keys it holds, a colon (58) between.
abbrev pub listing_text : List ℕ × ArrayValue → List ℕ
listing_text (name, array) = 32 ∷ name ++ 58 ∷ kind_word_of array ++ 58 ∷ decimal (len_of array)

-- The text of an answer. Words are printed in decimal without leading zeros, byte strings as `printed_key`.
abbrev pub answer_text : Answer → List ℕ
answer_text silent = []
answer_text done = codes "ok"
answer_text (was value) = codes "was " ++ decimal value
answer_text (flag true) = codes "1"
answer_text (flag false) = codes "0"
answer_text (number value) = decimal value
answer_text (entry key value) = decimal key ++ 32 ∷ decimal value
answer_text (string_entry key value) = printed_key key ++ 32 ∷ decimal value
answer_text (freed count) = codes "freed " ++ decimal count
answer_text (listed store) = codes "names" ++ flat_map listing_text store
answer_text nothing = codes "none"

-- What a reply puts out: nothing for a line that has no answer; else its text and an LF (10).
abbrev pub output_of : Reply → List ℕ
output_of (Ok silent) = []
output_of (Ok answer) = answer_text answer ++ 10 ∷ []
output_of (Err refusal) = codes "error " ++ refusal_word refusal ++ 10 ∷ []
