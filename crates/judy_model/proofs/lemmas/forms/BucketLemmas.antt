-- Keys that share bytes: the buckets of keys that come in buckets, and the form of keys behind shared bytes.
use Rattle.std.proofs.Common.{◌≡◌, ◌≢◌, ℕ, zero, suc, ◌+◌, ◌*◌, ◌/◌, ◌%◌, ◌^◌, ◌<◌, ◌≤◌, true, eqb, List, [], ◌∷◌, ◌++◌, length, sym, refl, ap, ◌∙◌, subst, arith, append_assoc}
use Rattle.std.proofs.Math.Nat.{mul_assoc, add-mul, pow-suc, pow-succ'}
use Rattle.std.proofs.lemmas.Nat.{div-mul-add, mod-mul-add, pow-add, mul-add-lt}
use Rattle.std.proofs.lemmas.Bool.{eq-eqb, ne_eqb}
use Rattle.std.proofs.lemmas.List.{append-nil}
use Rattle.std.proofs.lemmas.List.Elements.{All-tail}
use Rattle.judy_model.specs.WordBytes.{number_of}
use Rattle.judy_model.specs.Keys.{IsByteString}
use Rattle.judy_model.specs.Forms.{bitmap_leaf, branch, Form, raise}
use Rattle.judy_model.specs.Shapes.{Bucket, with_key, buckets_of, bytes_of, forms_of, split_by, by_number, form_behind, form_of, AllBelow, AreBuckets, keys_of_buckets}
use Rattle.judy_model.proofs.lemmas.orders.ByteLemmas.{number_of-lt}
use Rattle.judy_model.proofs.lemmas.forms.FormLemmas.{immediate_limit_small, by_number-cases, raise-zero, raise-append, length-raise, raise-raise}

-- ---- the buckets of keys

eqb-same : (byte : ℕ) → eqb byte byte ≡ true
eqb-same byte = eq-eqb byte byte refl

-- The byte isn't that of the first bucket.
abbrev pub Apart : ℕ → List Bucket → Type 0
Apart byte [] = Unit {0}
Apart byte (bucket ∷ buckets) = byte ≢ bucket.0

with_key-apart : (byte rest : ℕ) (buckets : List Bucket) → Apart byte buckets → with_key byte rest buckets ≡ (byte, rest ∷ []) ∷ buckets
with_key-apart byte rest [] apart = refl
with_key-apart byte rest (bucket ∷ buckets) apart = rw (ne_eqb byte bucket.0 apart) refl

with_key-same : (byte rest : ℕ) (keys : List ℕ) (buckets : List Bucket) → with_key byte rest ((byte, keys) ∷ buckets) ≡ (byte, rest ∷ keys) ∷ buckets
with_key-same byte rest keys buckets = rw (eqb-same byte) refl

-- A key behind a byte is with that byte's bucket.
with_key-digits : (unit byte key : ℕ) (buckets : List Bucket) → key < unit → with_key ((byte * unit + key) / unit) ((byte * unit + key) % unit) buckets ≡ with_key byte key buckets
with_key-digits unit byte key buckets below = λ t. with_key (div-mul-add byte unit key below t) (mod-mul-add byte unit key below t) buckets

-- Keys of one byte before keys of another.
buckets_of-behind : (unit byte : ℕ) (keys rest : List ℕ) (buckets : List Bucket) → 0 < length keys → AllBelow unit keys → buckets_of unit rest ≡ buckets → Apart byte buckets
    → buckets_of unit (raise (byte * unit) keys ++ rest) ≡ (byte, keys) ∷ buckets
buckets_of-behind unit byte [] rest buckets some below same apart = let never : ⊥ = omega arith in absurd never
buckets_of-behind unit byte (key ∷ []) rest buckets some below same apart =
    with_key-digits unit byte key (buckets_of unit rest) below.0 ∙ ap (with_key byte key) same ∙ with_key-apart byte key buckets apart
buckets_of-behind unit byte (key ∷ other ∷ keys) rest buckets some below same apart =
    with_key-digits unit byte key (buckets_of unit (raise (byte * unit) (other ∷ keys) ++ rest)) below.0
    ∙ ap (with_key byte key) (buckets_of-behind unit byte (other ∷ keys) rest buckets (omega arith) below.1 same apart)
    ∙ with_key-same byte key (other ∷ keys) buckets

apart_below : (unit byte : ℕ) (buckets : List Bucket) → AreBuckets unit (byte + 1) buckets → Apart byte buckets
apart_below unit byte [] are = tt
apart_below unit byte (bucket ∷ buckets) are = let low = are.0 in λ (same : byte ≡ bucket.0). let never : ⊥ = omega arith in never

-- Keys that come in buckets have these buckets.
pub buckets_of-keys_of_buckets : (unit low : ℕ) (buckets : List Bucket) → AreBuckets unit low buckets → buckets_of unit (keys_of_buckets unit 0 buckets) ≡ buckets
buckets_of-keys_of_buckets unit low [] are = refl
buckets_of-keys_of_buckets unit low (bucket ∷ buckets) are =
    ap (λ byte. buckets_of unit (raise (byte * unit) bucket.1 ++ keys_of_buckets unit 0 buckets)) (let e : 0 + bucket.0 ≡ bucket.0 = omega arith in e)
    ∙ buckets_of-behind unit bucket.0 bucket.1 (keys_of_buckets unit 0 buckets) buckets are.2 are.3 (buckets_of-keys_of_buckets unit (bucket.0 + 1) buckets are.4)
    (apart_below unit bucket.0 buckets are.4)

-- What stands before the bytes of buckets.
pub keys_of_buckets-block : (unit block : ℕ) (buckets : List Bucket) → keys_of_buckets unit block buckets ≡ raise (block * unit) (keys_of_buckets unit 0 buckets)
keys_of_buckets-block unit block [] = refl
keys_of_buckets-block unit block (bucket ∷ buckets) =
    let start : (block + bucket.0) * unit ≡ block * unit + (0 + bucket.0) * unit = let spread = add-mul block bucket.0 unit in
    let none : (0 + bucket.0) * unit ≡ bucket.0 * unit = ap (λ n. n * unit) (let e : 0 + bucket.0 ≡ bucket.0 = omega arith in e) in omega arith in
    (λ t. sym (raise-raise (block * unit) ((0 + bucket.0) * unit) ((block + bucket.0) * unit) bucket.1 start) t ++ keys_of_buckets-block unit block buckets t)
    ∙ sym (raise-append (block * unit) (raise ((0 + bucket.0) * unit) bucket.1) (keys_of_buckets unit 0 buckets))

AllBelow-append : (top : ℕ) (one other : List ℕ) → AllBelow top one → AllBelow top other → AllBelow top (one ++ other)
AllBelow-append top [] other low high = high
AllBelow-append top (key ∷ one) other low high = (low.0, AllBelow-append top one other low.1 high)

-- Keys behind a byte.
pub AllBelow-raise : (unit byte top : ℕ) (keys : List ℕ) → byte < top → AllBelow unit keys → AllBelow (unit * top) (raise (byte * unit) keys)
AllBelow-raise unit byte top [] within below = tt
AllBelow-raise unit byte top (key ∷ keys) within below = (mul-add-lt byte unit key top within below.0, AllBelow-raise unit byte top keys within below.1)

AllBelow-buckets : (unit low : ℕ) (buckets : List Bucket) → AreBuckets unit low buckets → AllBelow (unit * 256) (keys_of_buckets unit 0 buckets)
AllBelow-buckets unit low [] are = tt
AllBelow-buckets unit low (bucket ∷ buckets) are =
    AllBelow-append (unit * 256) (raise ((0 + bucket.0) * unit) bucket.1) (keys_of_buckets unit 0 buckets)
    (AllBelow-raise unit (0 + bucket.0) 256 bucket.1 (let within = are.1 in omega arith) are.3) (AllBelow-buckets unit (bucket.0 + 1) buckets are.4)

-- ---- shared bytes

pub by_number-many : (words width : ℕ) (keys : List ℕ) (many : Form) → 32 < length keys → by_number words width keys many ≡ many
by_number-many words width keys many lots =
    by_number-cases (λ form. form ≡ many) words width keys many
    (λ none. let never : ⊥ = omega arith in absurd never)
    (λ _ few. let small = immediate_limit_small words width in let never : ⊥ = omega arith in absurd never)
    (λ _ few. let never : ⊥ = omega arith in absurd never)
    (λ _. refl)

-- Bytes that spell a number, in front of so many more.
number_of-behind : (byte : ℕ) (bytes : List ℕ) (width total : ℕ) → total ≡ length bytes + width → number_of (byte ∷ bytes) * 256 ^ width ≡ byte * 256 ^ total + number_of bytes * 256 ^ width
number_of-behind byte bytes width total long =
    let spread = add-mul (byte * 256 ^ length bytes) (number_of bytes) (256 ^ width) in
    let unit : byte * 256 ^ length bytes * 256 ^ width ≡ byte * 256 ^ total =
    mul_assoc byte (256 ^ length bytes) (256 ^ width) ∙ ap (λ n. byte * n) (sym (pow-add 256 (length bytes) width) ∙ ap (λ n. 256 ^ n) (sym long)) in
    omega arith

AllBelow-number : (bytes : List ℕ) (width total : ℕ) (keys : List ℕ) → total ≡ length bytes + width → IsByteString bytes → AllBelow (256 ^ width) keys
    → AllBelow (256 ^ total) (raise (number_of bytes * 256 ^ width) keys)
AllBelow-number bytes width total keys long are below =
    subst (λ top. AllBelow top (raise (number_of bytes * 256 ^ width) keys))
    (sym (pow-add 256 width (length bytes)) ∙ ap (λ n. 256 ^ n) (let e : width + length bytes ≡ total = omega arith in e))
    (AllBelow-raise (256 ^ width) (number_of bytes) (256 ^ length bytes) keys (number_of-lt bytes are) below)

-- Many keys that begin with the same bytes have the form of what is left of them, which skips these bytes.
pub form_behind-shared : (words width : ℕ) (shared : List ℕ) (total : ℕ) (skipped keys : List ℕ)
    → total ≡ length shared + width → 1 ≤ width → IsByteString shared → 32 < length keys → AllBelow (256 ^ width) keys
    → form_behind words total skipped (raise (number_of shared * 256 ^ width) keys) ≡ form_behind words width (skipped ++ shared) keys
form_behind-shared words width [] total skipped keys long some are many below =
    (λ t. form_behind words (let e : total ≡ width = omega arith in e t) (sym (append-nil skipped) t) (raise-zero (0 * 256 ^ width) keys (omega arith) t))
form_behind-shared words width (byte ∷ shared) zero skipped keys long some are many below = let never : ⊥ = omega arith in absurd never
form_behind-shared words width (byte ∷ shared) (suc zero) skipped keys long some are many below = let never : ⊥ = omega arith in absurd never
form_behind-shared words width (byte ∷ shared) (suc (suc rest)) skipped keys long some are many below =
    let total = suc rest in
    let left : total ≡ length shared + width = omega arith in
    let later = All-tail (λ b. b < 256) byte shared are in
    let inner = raise (number_of shared * 256 ^ width) keys in
    let outer = raise (number_of (byte ∷ shared) * 256 ^ width) keys in
    let moved : outer ≡ raise (byte * 256 ^ total) inner ++ [] =
    sym (raise-raise (byte * 256 ^ total) (number_of shared * 256 ^ width) (number_of (byte ∷ shared) * 256 ^ width) keys (number_of-behind byte shared width total left))
    ∙ sym (append-nil (raise (byte * 256 ^ total) inner)) in
    let lengths = length-raise (number_of shared * 256 ^ width) keys in
    let outer_lengths = length-raise (number_of (byte ∷ shared) * 256 ^ width) keys in
    let bucketed : buckets_of (256 ^ total) outer ≡ (byte, inner) ∷ [] =
    ap (buckets_of (256 ^ total)) moved
    ∙ buckets_of-behind (256 ^ total) byte inner [] [] (omega arith) (AllBelow-number shared width total keys left later below) refl tt in
    by_number-many words (suc total) outer (split_by (λ skip left. form_behind words total skip left) skipped (length outer) (buckets_of (256 ^ total) outer)) (omega arith)
    ∙ ap (split_by (λ skip left. form_behind words total skip left) skipped (length outer)) bucketed
    ∙ form_behind-shared words width shared (suc rest) (skipped ++ byte ∷ []) keys left some later many below
    ∙ ap (λ skip. form_behind words width skip keys) (append_assoc skipped (byte ∷ []) shared)

-- Many keys that differ in their last byte alone.
pub form_of-last_byte : (words : ℕ) (shared keys : List ℕ) → IsByteString shared → 32 < length keys → AllBelow 256 keys
    → form_of words (length shared + 1) (raise (number_of shared * 256) keys) ≡ bitmap_leaf shared keys ∷ []
form_of-last_byte words shared keys are many below =
    form_behind-shared words 1 shared (length shared + 1) [] keys refl (omega arith) are many below
    ∙ by_number-many words 1 keys (bitmap_leaf shared keys ∷ []) many

split_by-buckets : (form : List ℕ → List ℕ → Form) (skipped : List ℕ) (count : ℕ) (buckets : List Bucket) → 1 < length buckets
    → split_by form skipped count buckets ≡ branch skipped (bytes_of buckets) count ∷ forms_of (form []) buckets
split_by-buckets form skipped count [] two = let never : ⊥ = omega arith in absurd never
split_by-buckets form skipped count (bucket ∷ []) two = let never : ⊥ = omega arith in absurd never
split_by-buckets form skipped count (bucket ∷ other ∷ buckets) two = refl

form_behind-buckets : (words width : ℕ) (skipped : List ℕ) (buckets : List Bucket) → 1 ≤ width → AreBuckets (256 ^ width) 0 buckets → 1 < length buckets
    → 32 < length (keys_of_buckets (256 ^ width) 0 buckets)
    → form_behind words (suc width) skipped (keys_of_buckets (256 ^ width) 0 buckets)
    ≡ branch skipped (bytes_of buckets) (length (keys_of_buckets (256 ^ width) 0 buckets)) ∷ forms_of (form_of words width) buckets
form_behind-buckets words zero skipped buckets some are two many = let never : ⊥ = omega arith in absurd never
form_behind-buckets words (suc below) skipped buckets some are two many =
    let keys = keys_of_buckets (256 ^ suc below) 0 buckets in
    by_number-many words (suc (suc below)) keys (split_by (λ skip rest. form_behind words (suc below) skip rest) skipped (length keys) (buckets_of (256 ^ suc below) keys)) many
    ∙ ap (split_by (λ skip rest. form_behind words (suc below) skip rest) skipped (length keys)) (buckets_of-keys_of_buckets (256 ^ suc below) 0 buckets are)
    ∙ split_by-buckets (λ skip rest. form_behind words (suc below) skip rest) skipped (length keys) buckets two

-- Many keys that share bytes and then differ, before their last byte.
pub form_of-buckets : (words width total : ℕ) (shared : List ℕ) (buckets : List Bucket) (keys : List ℕ) → total ≡ length shared + 1 + width → 1 ≤ width → IsByteString shared
    → AreBuckets (256 ^ width) 0 buckets → 1 < length buckets → keys ≡ keys_of_buckets (256 ^ width) (number_of shared * 256) buckets → 32 < length keys
    → form_of words total keys ≡ branch shared (bytes_of buckets) (length keys) ∷ forms_of (form_of words width) buckets
form_of-buckets words width total shared buckets keys long some are_bytes are two same many =
    let inner = keys_of_buckets (256 ^ width) 0 buckets in
    let start : number_of shared * 256 * 256 ^ width ≡ number_of shared * 256 ^ suc width = mul_assoc (number_of shared) 256 (256 ^ width) ∙
    ap (λ n. number_of shared * n) (sym (pow-succ' 256 width)) in
    let moved : keys ≡ raise (number_of shared * 256 ^ suc width) inner = same ∙ keys_of_buckets-block (256 ^ width) (number_of shared * 256) buckets ∙ ap (λ n. raise n inner) start in
    let lengths : length keys ≡ length inner = ap length moved ∙ length-raise (number_of shared * 256 ^ suc width) inner in
    ap (form_of words total) moved
    ∙ form_behind-shared words (suc width) shared total [] inner (omega arith) (omega arith) are_bytes (omega arith)
    (subst (λ top. AllBelow top inner) (sym (pow-suc 256 width)) (AllBelow-buckets (256 ^ width) 0 buckets are))
    ∙ form_behind-buckets words width shared buckets some are two (omega arith)
    ∙ ap (λ count. branch shared (bytes_of buckets) count ∷ forms_of (form_of words width) buckets) (sym lengths)
