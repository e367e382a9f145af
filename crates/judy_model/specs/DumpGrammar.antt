-- Which bytes are dumps, in which format and of which store: the fields in their order, each with what it must be.
-- Bytes that are none have the flaw of the first check that fails. (This project's own.)
use Rattle.std.specs.Prelude.{◌≡◌, ℕ, zero, suc, ◌+◌, Bool, true, not, ◌&&◌, ◌||◌, ◌==◌, nat_lt, nat_le, is_none, if◌then◌else◌, List, [], ◌∷◌, ◌++◌, length, take, bytes_eq}
use Rattle.std.specs.Prelude.{Option, Some, None, unwrap_or, Result, Ok}
use Rattle.std.specs.declared.cmp.Ordering.{Ordering}
use Rattle.std.specs.Ordering.{is_lt}
use Rattle.std.specs.List.{list_all}
use Rattle.std.specs.Result.{result_err}
use Rattle.std.specs.FinMap.{from_entries}
use Rattle.judy_model.specs.Keys.{word_order, byte_order}
use Rattle.judy_model.specs.Arrays.{ArrayOf, ArrayValue, judy1, judyl, judysl, judyhs}
use Rattle.judy_model.specs.Tokens.{is_name_byte}
use Rattle.judy_model.specs.Stores.{Store, array_named, with_new_array}
use Rattle.judy_model.specs.Fields.{Flaw, bad_magic, too_many, bad_name, same_name, bad_kind, bad_limit, bad_count, bad_key, bad_order, bad_prefix, Parser, ◌>>=◌, done, bytes}
use Rattle.judy_model.specs.Fields.{number, field, end, value_of}
use Rattle.judy_model.specs.DumpText.{Version, jdy1, jdy2, magic, shared_length, length_order}
use Rattle.judy_model.specs.declared.keys.TheConstants.{LONGEST_KEY}

-- ---- an array's head: its name, its kind, its limit, how many keys follow

-- A name has 1 to 32 bytes.
abbrev pub is_name_length : ℕ → Bool
is_name_length length = nat_lt 0 length && nat_le length 32

-- No array before it has the name.
abbrev pub is_new : Store → List ℕ → Bool
is_new earlier name = is_none (array_named earlier name)

-- The kinds are 1 for judy1, 2 for judyl, 3 for judysl and 4 for judyhs.
abbrev pub is_kind : ℕ → Bool
is_kind kind = nat_lt 0 kind && nat_le kind 4

-- A limit is 1 to 4,294,967,295.
abbrev pub is_limit : ℕ → Bool
is_limit limit = nat_lt 0 limit && nat_le limit 4294967295

-- What a name must be: bytes of names, and not the name of an array before it.
abbrev pub name_checks : Store → List ((List ℕ → Bool) × Flaw)
name_checks earlier = (list_all is_name_byte, bad_name) ∷ (is_new earlier, same_name) ∷ []

-- A name behind its length, in one byte.
abbrev pub name : Store → Parser (List ℕ)
name earlier = do
  length ← field (number 1) ((is_name_length, bad_name) ∷ [])
  field (bytes length) (name_checks earlier)

-- A kind takes one byte.
abbrev pub kind : Parser ℕ
kind = field (number 1) ((is_kind, bad_kind) ∷ [])

-- A limit takes eight bytes.
abbrev pub limit : Parser ℕ
limit = field (number 8) ((is_limit, bad_limit) ∷ [])

-- How many keys follow takes eight bytes, and is no more than the limit.
abbrev pub key_count : ℕ → Parser ℕ
key_count limit = field (number 8) (((λ count. nat_le count limit), bad_count) ∷ [])

-- ---- an array's entries

-- A word takes eight bytes, and every word may stand there.
abbrev pub word : Parser ℕ
word = number 8

-- The value of a key that has none.
abbrev pub no_value : Parser ℕ
no_value = done 0

-- A byte string of at most 1,024 bytes behind its length, in two bytes.
abbrev pub string : Parser (List ℕ)
string = do
  length ← field (number 2) (((λ length. nat_le length LONGEST_KEY), bad_key) ∷ [])
  bytes length

-- A key of a judysl array holds no zero byte.
abbrev pub is_without_zero : List ℕ → Bool
is_without_zero = list_all (λ byte. not (byte == 0))

-- Such a key, whole.
abbrev pub string_without_zero : Parser (List ℕ)
string_without_zero = field string ((is_without_zero, bad_key) ∷ [])

-- A key of so many bytes of the one before it and of these behind them shares no longer front with that one.
abbrev pub is_longest_shared : List ℕ → ℕ → List ℕ → Bool
is_longest_shared before shared suffix = shared_length before (take shared before ++ suffix) == shared

-- Such a key by the one before it: how many bytes both share, in two bytes, and a byte string behind these.
abbrev pub string_behind_front : List ℕ → Parser (List ℕ)
string_behind_front before = do
  shared ← field (number 2) (((λ shared. nat_le shared (length before)), bad_prefix) ∷ [])
  rest ← field (number 2) (((λ rest. nat_le (shared + rest) LONGEST_KEY), bad_key) ∷ [])
  suffix ← field (bytes rest) ((is_without_zero, bad_key) ∷ (is_longest_shared before shared, bad_prefix) ∷ [])
  done (take shared before ++ suffix)

-- Such a key in a format, by the key before it, if there is one. The first one shares nothing.
abbrev pub string_key : Version → Option (List ℕ) → Parser (List ℕ)
string_key jdy1 before = string_without_zero
string_key jdy2 before = string_behind_front (unwrap_or before [])

-- Whether a key is greater than the one before it, if there is one.
abbrev pub is_above : {K : Type 0} → (K → K → Ordering) → Option K → K → Bool
is_above order None key = true
is_above order (Some before) key = is_lt (order before key)

-- An entry, whose key is greater than the one before it, by which it may be told.
abbrev pub entry : {K : Type 0} → (K → K → Ordering) → (Option K → Parser K) → Parser ℕ → Option K → Parser (K × ℕ)
entry order key value before = do
  first ← field (key before) ((is_above order before, bad_order) ∷ [])
  held ← value
  done (first, held)

-- So many entries, the first by the key before it, and each by the one before.
abbrev pub entries : {K : Type 0} → (K → K → Ordering) → (Option K → Parser K) → Parser ℕ → Option K → ℕ → Parser (List (K × ℕ))
entries order key value before zero = done []
entries order key value before (suc count) = do
  first ← entry order key value before
  others ← entries order key value (Some first.0) count
  done (first ∷ others)

-- The array of a limit that holds the entries, and nothing else.
abbrev pub filled : {K : Type 0} {order : K → K → Ordering} → (ArrayOf order → ArrayValue) → ℕ → Parser (List (K × ℕ)) → Parser ArrayValue
filled made limit listed = do
  held ← listed
  done (made (record { limit = limit; map = from_entries held }))

-- An array by its kind, its limit and the number of its keys: so many entries, in the order in which a dump lists the kind's keys.
abbrev pub contents : Version → ℕ → ℕ → ℕ → Parser ArrayValue
contents version kind limit count =
    if kind == 1 then filled judy1 limit (entries word_order (λ before. word) no_value None count)
    else if kind == 2 then filled judyl limit (entries word_order (λ before. word) word None count)
    else if kind == 3 then filled judysl limit (entries byte_order (string_key version) word None count)
    else filled judyhs limit (entries length_order (λ before. string) word None count)

-- ---- the whole

-- What stands after an array's name.
abbrev pub body : Version → Parser ArrayValue
body version = do
  kind ← kind
  limit ← limit
  count ← key_count limit
  contents version kind limit count

-- An array, by the arrays before it.
abbrev pub array : Version → Store → Parser (List ℕ × ArrayValue)
array version earlier = do
  name ← name earlier
  held ← body version
  done (name, held)

-- So many arrays.
abbrev pub arrays : Version → Store → ℕ → Parser Store
arrays version earlier zero = done earlier
arrays version earlier (suc count) = do
  next ← array version earlier
  arrays version (with_new_array earlier next.0 next.1) count

-- Bytes name a format, and which.
abbrev pub is_magic : List ℕ → Bool
is_magic named = bytes_eq (magic jdy1) named || bytes_eq (magic jdy2) named

abbrev pub version_of : List ℕ → Version
version_of named = if bytes_eq (magic jdy1) named then jdy1 else jdy2

-- The first bytes, which name the format.
abbrev pub begins : Parser Version
begins = do
  named ← field (bytes 4) ((is_magic, bad_magic) ∷ [])
  done (version_of named)

-- How many arrays follow.
abbrev pub array_count : Parser ℕ
array_count = field (number 4) (((λ count. nat_le count 64), too_many) ∷ [])

-- All of the bytes: their format, and a store.
abbrev pub store : Parser (Version × Store)
store = do
  version ← begins
  count ← array_count
  made ← arrays version [] count
  _ ← end
  done (version, made)

-- The format and the store that the bytes give, or the first flaw.
abbrev pub read_of : List ℕ → Result (Version × Store) Flaw
read_of dump = value_of (store dump)

-- Bytes are the dump of a store in a format where they give these two.
abbrev pub IsDump : Version → List ℕ → Store → Type 0
IsDump version dump store = read_of dump ≡ Ok (version, store)

-- The first flaw of bytes, or none.
abbrev pub flaw_of : List ℕ → Option Flaw
flaw_of dump = result_err (read_of dump)
