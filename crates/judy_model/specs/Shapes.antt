-- The rule by which a set of keys has its nodes: a function of the ascending list of the keys. (This project's own; the
-- tree changes its nodes one call at a time.)
use Rattle.std.specs.Prelude.{ℕ, zero, suc, ◌*◌, ◌/◌, ◌%◌, ◌+◌, ◌^◌, ◌<◌, ◌≤◌, ◌==◌, nat_le, if◌then◌else◌, List, [], ◌∷◌, ◌++◌, length}
use Rattle.judy_model.specs.Forms.{immediate, leaf, bitmap_leaf, branch, Form, raise, Shape, shape_in}

-- How many keys of a width fit in an immediate: with value words one, without as many as eight bytes hold.
abbrev pub immediate_limit : ℕ → ℕ → ℕ
immediate_limit zero width = 8 / width
immediate_limit (suc words) width = 1

-- Keys that begin with one byte: the byte, and what is left of each key behind it.
abbrev pub Bucket : Type 0
Bucket = ℕ × List ℕ

-- A key before the buckets of the keys above it: it joins the first bucket where that has its byte.
abbrev pub with_key : ℕ → ℕ → List Bucket → List Bucket
with_key byte rest [] = (byte, rest ∷ []) ∷ []
with_key byte rest (bucket ∷ buckets) = if byte == bucket.0 then (byte, rest ∷ bucket.1) ∷ buckets else (byte, rest ∷ []) ∷ bucket ∷ buckets

-- Ascending keys by their first byte. A unit is 256 to the power of the number of bytes behind it.
abbrev pub buckets_of : ℕ → List ℕ → List Bucket
buckets_of unit [] = []
buckets_of unit (key ∷ keys) = with_key (key / unit) (key % unit) (buckets_of unit keys)

-- The bytes of buckets.
abbrev pub bytes_of : List Bucket → List ℕ
bytes_of [] = []
bytes_of (bucket ∷ buckets) = bucket.0 ∷ bytes_of buckets

-- The forms of buckets, in order.
abbrev pub forms_of : (List ℕ → Form) → List Bucket → Form
forms_of form [] = []
forms_of form (bucket ∷ buckets) = form bucket.1 ++ forms_of form buckets

-- The form of many keys by their buckets: where all begin with one byte, it is skipped too; else they have a branch with a
-- child for each byte.
abbrev pub split_by : (List ℕ → List ℕ → Form) → List ℕ → ℕ → List Bucket → Form
split_by form skipped count [] = []
split_by form skipped count (bucket ∷ []) = form (skipped ++ bucket.0 ∷ []) bucket.1
split_by form skipped count (bucket ∷ other ∷ buckets) = branch skipped (bytes_of (bucket ∷ other ∷ buckets)) count ∷ forms_of (form []) (bucket ∷ other ∷ buckets)

-- The form of keys by their number: no node for none, an immediate as far as that holds them, a leaf for up to 32, and
-- `many` above that.
abbrev pub by_number : ℕ → ℕ → List ℕ → Form → Form
by_number words width keys many =
    if length keys == 0 then []
    else (if nat_le (length keys) (immediate_limit words width) then immediate keys ∷ [] else (if nat_le (length keys) 32 then leaf keys ∷ [] else many))

-- The form of ascending keys of a width, behind bytes that are skipped already. Many keys of one byte have a bitmap
-- leaf; many longer keys are split by their first byte.
abbrev pub form_behind : ℕ → ℕ → List ℕ → List ℕ → Form
form_behind words zero skipped keys = []
form_behind words (suc zero) skipped keys = by_number words 1 keys (bitmap_leaf skipped keys ∷ [])
form_behind words (suc (suc below)) skipped keys =
    by_number words (suc (suc below)) keys
    (split_by (λ skip rest. form_behind words (suc below) skip rest) skipped (length keys) (buckets_of (256 ^ suc below) keys))

-- The form of ascending keys of a width, with so many value words a key (0 or 1): that of a tree without loose nodes.
abbrev pub form_of : ℕ → ℕ → List ℕ → Form
form_of words width keys = form_behind words width [] keys

-- The shape of a set of words: how many nodes of each kind its tree has.
abbrev pub shape_of : ℕ → List ℕ → Shape
shape_of words keys = shape_in (form_of words 8 keys)

-- ---- keys that come in buckets

-- Each key is below a bound.
abbrev pub AllBelow : ℕ → List ℕ → Type 0
AllBelow top [] = Unit {0}
AllBelow top (key ∷ keys) = (key < top) × AllBelow top keys

-- Buckets by ascending byte from one on, each with some keys, whose rests are below the unit of the byte.
abbrev pub AreBuckets : ℕ → ℕ → List Bucket → Type 0
AreBuckets unit low [] = Unit {0}
AreBuckets unit low (bucket ∷ buckets) = (low ≤ bucket.0) × (bucket.0 < 256) × (0 < length bucket.1) × AllBelow unit bucket.1 × AreBuckets unit (bucket.0 + 1) buckets

-- The keys of buckets, whose bytes stand behind bytes that spell a number of blocks of 256 units.
abbrev pub keys_of_buckets : ℕ → ℕ → List Bucket → List ℕ
keys_of_buckets unit block [] = []
keys_of_buckets unit block (bucket ∷ buckets) = raise ((block + bucket.0) * unit) bucket.1 ++ keys_of_buckets unit block buckets
