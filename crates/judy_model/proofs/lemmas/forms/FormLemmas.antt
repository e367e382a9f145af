-- Forms: what a form by the rule holds, that nothing in it is loose, and which form keys have that share bytes.
use Rattle.std.proofs.Common.{◌≡◌, ℕ, zero, suc, ◌+◌, ◌-◌, ◌*◌, ◌/◌, ◌%◌, ◌^◌, ◌<◌, ◌≤◌, ◌⊎◌, inl, inr, ⊎_elim, true, false, cond, eqb, leb, List, [], ◌∷◌, ◌++◌, length, sym, refl}
use Rattle.std.proofs.Common.{ap, ◌∙◌, arith, append_assoc, length-append}
use Rattle.std.proofs.Math.Nat.{div-le_self, mul_assoc, add-mul, pow-suc, pow-succ'}
use Rattle.std.proofs.lemmas.Nat.{div-add-mod'}
use Rattle.std.proofs.lemmas.Bool.{eqb-true, eqb-false, leb-true, leb-false, lt-leb}
use Rattle.std.proofs.lemmas.List.{append-nil}
use Rattle.judy_model.specs.WordBytes.{number_of}
use Rattle.judy_model.specs.Forms.{Node, immediate, leaf, bitmap_leaf, branch, Form, Place, raise, places_of, keys_at, keys_in, is_loose, loose_in}
use Rattle.judy_model.specs.Shapes.{immediate_limit, Bucket, with_key, buckets_of, bytes_of, forms_of, split_by, by_number, form_behind, form_of}

-- ---- by the number of keys

pub immediate_limit_small : (words width : ℕ) → immediate_limit words width ≤ 8
immediate_limit_small zero width = div-le_self 8 width
immediate_limit_small (suc words) width = omega arith

-- What holds of each of the four cases holds.
pub by_number-cases : (P : Form → Type 0) (words width : ℕ) (keys : List ℕ) (many : Form)
    → (length keys ≡ 0 → P [])
    → (0 < length keys → length keys ≤ immediate_limit words width → P (immediate keys ∷ []))
    → (immediate_limit words width < length keys → length keys ≤ 32 → P (leaf keys ∷ []))
    → (32 < length keys → P many)
    → P (by_number words width keys many)
by_number-cases P words width keys many none few some lots =
    elim (eqb (length keys) 0) as (λ b. eqb (length keys) 0 ≡ b → P (cond b [] (cond (leb (length keys) (immediate_limit words width)) (immediate keys ∷ [])
    (cond (leb (length keys) 32) (leaf keys ∷ []) many)))) [
      | true ↦ λ e. none (eqb-true (length keys) 0 e)
      | false ↦ λ e. elim (leb (length keys) (immediate_limit words width)) as (λ b. leb (length keys) (immediate_limit words width) ≡ b →
          P (cond b (immediate keys ∷ []) (cond (leb (length keys) 32) (leaf keys ∷ []) many))) [
            | true ↦ λ within. few (let apart = eqb-false (length keys) 0 e in omega arith) (leb-true _ _ within)
            | false ↦ λ beyond. elim (leb (length keys) 32) as (λ b. leb (length keys) 32 ≡ b → P (cond b (leaf keys ∷ []) many)) [
              | true ↦ λ within. some (leb-false _ _ beyond) (leb-true _ _ within)
              | false ↦ λ more. lots (leb-false _ _ more)
            ] refl
          ] refl
    ] refl

-- ---- nothing is loose

pub loose_in-append : (one other : Form) → loose_in (one ++ other) ≡ loose_in one + loose_in other
loose_in-append [] other = omega arith
loose_in-append (node ∷ one) other = let rest = loose_in-append one other in omega arith

pub loose_in-forms_of : (form : List ℕ → Form) → ((keys : List ℕ) → loose_in (form keys) ≡ 0) → (buckets : List Bucket) → loose_in (forms_of form buckets) ≡ 0
loose_in-forms_of form each [] = refl
loose_in-forms_of form each (bucket ∷ buckets) =
    let here = each bucket.1 in
    let rest = loose_in-forms_of form each buckets in
    let both = loose_in-append (form bucket.1) (forms_of form buckets) in
    omega arith

-- A branch with over 32 keys and two children isn't loose.
pub branch_tight : (skipped bytes : List ℕ) (count : ℕ) → 32 < count → 1 < length bytes → is_loose (branch skipped bytes count) ≡ false
branch_tight skipped bytes count many two = rw (lt-leb count 32 many) (lt-leb (length bytes) 1 two)

-- A node that isn't loose, and nodes of which none is.
pub tight-head : (node : Node) (nodes : Form) → is_loose node ≡ false → loose_in nodes ≡ 0 → loose_in (node ∷ nodes) ≡ 0
tight-head node nodes here rest = rw here (omega arith)

loose_in-split_by : (form : List ℕ → List ℕ → Form) → ((skipped keys : List ℕ) → loose_in (form skipped keys) ≡ 0)
    → (skipped : List ℕ) (count : ℕ) (buckets : List Bucket) → 32 < count → loose_in (split_by form skipped count buckets) ≡ 0
loose_in-split_by form each skipped count [] many = refl
loose_in-split_by form each skipped count (bucket ∷ []) many = each (skipped ++ bucket.0 ∷ []) bucket.1
loose_in-split_by form each skipped count (bucket ∷ other ∷ buckets) many =
    let here : is_loose (branch skipped (bytes_of (bucket ∷ other ∷ buckets)) count) ≡ false = branch_tight skipped (bytes_of (bucket ∷ other ∷ buckets)) count many (omega arith) in
    let rest = loose_in-forms_of (form []) (each []) (bucket ∷ other ∷ buckets) in
    tight-head (branch skipped (bytes_of (bucket ∷ other ∷ buckets)) count) (forms_of (form []) (bucket ∷ other ∷ buckets)) here rest

loose_in-form_behind : (words width : ℕ) (skipped keys : List ℕ) → loose_in (form_behind words width skipped keys) ≡ 0
loose_in-form_behind words zero skipped keys = refl
loose_in-form_behind words (suc zero) skipped keys =
    by_number-cases (λ form. loose_in form ≡ 0) words 1 keys (bitmap_leaf skipped keys ∷ [])
    (λ _. refl) (λ _ _. refl) (λ _ _. refl) (λ many. tight-head (bitmap_leaf skipped keys) [] (lt-leb (length keys) 32 many) refl)
loose_in-form_behind words (suc (suc below)) skipped keys =
    by_number-cases (λ form. loose_in form ≡ 0) words (suc (suc below)) keys
    (split_by (λ skip rest. form_behind words (suc below) skip rest) skipped (length keys) (buckets_of (256 ^ suc below) keys))
    (λ _. refl) (λ _ _. refl) (λ _ _. refl)
    (λ many. loose_in-split_by (λ skip rest. form_behind words (suc below) skip rest) (λ skip rest. loose_in-form_behind words (suc below) skip rest) skipped
    (length keys) (buckets_of (256 ^ suc below) keys) many)

pub loose_in-form_of : (words width : ℕ) (keys : List ℕ) → loose_in (form_of words width keys) ≡ 0
loose_in-form_of words width keys = loose_in-form_behind words width [] keys

-- ---- raised keys

pub raise-zero : (from : ℕ) (keys : List ℕ) → from ≡ 0 → raise from keys ≡ keys
raise-zero from [] none = refl
raise-zero from (key ∷ keys) none = let here : from + key ≡ key = omega arith in λ t. here t ∷ raise-zero from keys none t

pub length-raise : (from : ℕ) (keys : List ℕ) → length (raise from keys) ≡ length keys
length-raise from [] = refl
length-raise from (key ∷ keys) = ap suc (length-raise from keys)

pub raise-append : (from : ℕ) (one other : List ℕ) → raise from (one ++ other) ≡ raise from one ++ raise from other
raise-append from [] other = refl
raise-append from (key ∷ one) other = ap (λ rest. (from + key) ∷ rest) (raise-append from one other)

pub raise-raise : (from by both : ℕ) (keys : List ℕ) → both ≡ from + by → raise from (raise by keys) ≡ raise both keys
raise-raise from by both [] e = refl
raise-raise from by both (key ∷ keys) e = let here : from + (by + key) ≡ both + key = omega arith in λ t. here t ∷ raise-raise from by both keys e t

-- ---- buckets and their keys

-- The keys of buckets, each behind its byte, in a block of a branch at a place.
abbrev pub joined : ℕ → ℕ → ℕ → List Bucket → List ℕ
joined from block unit [] = []
joined from block unit (bucket ∷ buckets) = raise (from + (block + bucket.0) * unit) bucket.1 ++ joined from block unit buckets

-- Each bucket has keys.
abbrev pub AllSome : List Bucket → Type 0
AllSome [] = Unit
AllSome (bucket ∷ buckets) = (0 < length bucket.1) × AllSome buckets

pub AllSome-with_key : (byte rest : ℕ) (buckets : List Bucket) → AllSome buckets → AllSome (with_key byte rest buckets)
AllSome-with_key byte rest [] some = (omega arith, tt)
AllSome-with_key byte rest (bucket ∷ buckets) some =
    elim (eqb byte bucket.0) as (λ b. AllSome (cond b ((byte, rest ∷ bucket.1) ∷ buckets) ((byte, rest ∷ []) ∷ bucket ∷ buckets))) [
      | true ↦ (omega arith, some.1)
      | false ↦ (omega arith, some)
    ]

pub AllSome-buckets_of : (unit : ℕ) (keys : List ℕ) → AllSome (buckets_of unit keys)
AllSome-buckets_of unit [] = tt
AllSome-buckets_of unit (key ∷ keys) = AllSome-with_key (key / unit) (key % unit) (buckets_of unit keys) (AllSome-buckets_of unit keys)

joined-with_key : (from block unit byte rest : ℕ) (buckets : List Bucket)
    → joined from block unit (with_key byte rest buckets) ≡ (from + (block + byte) * unit + rest) ∷ joined from block unit buckets
joined-with_key from block unit byte rest [] = refl
joined-with_key from block unit byte rest (bucket ∷ buckets) =
    elim (eqb byte bucket.0) as (λ b. eqb byte bucket.0 ≡ b
    → joined from block unit (cond b ((byte, rest ∷ bucket.1) ∷ buckets) ((byte, rest ∷ []) ∷ bucket ∷ buckets)) ≡ (from + (block + byte) * unit + rest) ∷ joined from block unit (bucket ∷ buckets)) [
      | true ↦ λ same. ap (λ b. (from + (block + byte) * unit + rest) ∷ (raise (from + (block + b) * unit) bucket.1 ++ joined from block unit buckets)) (eqb-true byte bucket.0 same)
      | false ↦ λ apart. refl
    ] refl

-- The buckets of keys have these keys.
pub joined-buckets_of : (from block unit base : ℕ) (keys : List ℕ) → base ≡ from + block * unit → joined from block unit (buckets_of unit keys) ≡ raise base keys
joined-buckets_of from block unit base [] e = refl
joined-buckets_of from block unit base (key ∷ keys) e =
    let digits = div-add-mod' key unit in
    let product = add-mul block (key / unit) unit in
    let here : from + (block + key / unit) * unit + key % unit ≡ base + key = omega arith in
    joined-with_key from block unit (key / unit) (key % unit) (buckets_of unit keys) ∙ (λ t. here t ∷ joined-buckets_of from block unit base keys e t)

-- ---- a form has its keys

-- What a recursion gives: the form of keys behind skipped bytes, put at a place, gives these keys there.
abbrev pub GivesKeys : (List ℕ → List ℕ → Form) → ℕ → Type 0
GivesKeys form width =
    (from wide : ℕ) (skipped keys : List ℕ) (places : List Place) (nodes : Form) → wide ≡ length skipped + width → 0 < length keys → (skipped ≡ []) ⊎ (32 < length keys)
    → keys_at ((from, wide) ∷ places) (form skipped keys ++ nodes) ≡ raise (from + number_of skipped * 256 ^ width) keys ++ keys_at places nodes

same_start : (from unit : ℕ) (skipped : List ℕ) → skipped ≡ [] → from + number_of skipped * unit ≡ from
same_start from unit skipped none = rw none (omega arith)

keys_at-forms_of : (form : List ℕ → List ℕ → Form) (width from block : ℕ) (buckets : List Bucket) (places : List Place) (nodes : Form) → GivesKeys form width → AllSome buckets
    → keys_at (places_of from width block (bytes_of buckets) ++ places) (forms_of (form []) buckets ++ nodes) ≡ joined from block (256 ^ width) buckets ++ keys_at places nodes
keys_at-forms_of form width from block [] places nodes gives some = refl
keys_at-forms_of form width from block (bucket ∷ buckets) places nodes gives some =
    let start = from + (block + bucket.0) * 256 ^ width in
    let here = gives start width [] bucket.1 (places_of from width block (bytes_of buckets) ++ places) (forms_of (form []) buckets ++ nodes) (omega arith) some.0 (inl refl) in
    ap (keys_at ((start, width) ∷ (places_of from width block (bytes_of buckets) ++ places))) (append_assoc (form [] bucket.1) (forms_of (form []) buckets) nodes)
    ∙ here
    ∙ (λ t. raise (same_start start (256 ^ width) [] refl t) bucket.1 ++ keys_at-forms_of form width from block buckets places nodes gives some.1 t)
    ∙ sym (append_assoc (raise start bucket.1) (joined from block (256 ^ width) buckets) (keys_at places nodes))

-- One more byte is skipped.
pub number_of-push : (bytes : List ℕ) (byte : ℕ) → number_of (bytes ++ byte ∷ []) ≡ number_of bytes * 256 + byte
number_of-push [] byte = omega arith
number_of-push (first ∷ bytes) byte =
    let longer : length (bytes ++ byte ∷ []) ≡ suc (length bytes) = length-append bytes (byte ∷ []) ∙ (let e : length bytes + 1 ≡ suc (length bytes) = omega arith in e) in
    let product : first * 256 ^ suc (length bytes) ≡ first * 256 ^ length bytes * 256 = ap (λ unit. first * unit) (pow-suc 256 (length bytes)) ∙ sym (mul_assoc first (256 ^ length bytes) 256) in
    let rest = number_of-push bytes byte in
    let spread = add-mul (first * 256 ^ length bytes) (number_of bytes) 256 in
    let here : first * 256 ^ length (bytes ++ byte ∷ []) ≡ first * 256 ^ length bytes * 256 = ap (λ n. first * 256 ^ n) longer ∙ product in
    omega arith

-- The least key behind skipped bytes, and behind one more.
start-push : (from width byte : ℕ) (skipped : List ℕ) → from + (number_of skipped * 256 + byte) * 256 ^ width ≡ from + number_of (skipped ++ byte ∷ []) * 256 ^ width
start-push from width byte skipped = ap (λ n. from + n * 256 ^ width) (sym (number_of-push skipped byte))

-- The least key behind skipped bytes, by the width of what is left of a key behind the next byte.
start-suc : (from width : ℕ) (skipped : List ℕ) → from + number_of skipped * 256 ^ suc width ≡ from + number_of skipped * 256 * 256 ^ width
start-suc from width skipped = ap (λ n. from + n) (ap (λ unit. number_of skipped * unit) (pow-succ' 256 width) ∙ sym (mul_assoc (number_of skipped) 256 (256 ^ width)))

keys_at-split_by : (form : List ℕ → List ℕ → Form) (width from wide : ℕ) (skipped : List ℕ) (count : ℕ) (keys : List ℕ) (buckets : List Bucket) (places : List Place) (nodes : Form)
    → GivesKeys form width → wide ≡ length skipped + suc width → 32 < length keys → AllSome buckets
    → joined from (number_of skipped * 256) (256 ^ width) buckets ≡ raise (from + number_of skipped * 256 ^ suc width) keys
    → keys_at ((from, wide) ∷ places) (split_by form skipped count buckets ++ nodes) ≡ raise (from + number_of skipped * 256 ^ suc width) keys ++ keys_at places nodes
keys_at-split_by form width from wide skipped count keys [] places nodes gives long many some same =
    let lengths = ap length same ∙ length-raise (from + number_of skipped * 256 ^ suc width) keys in
    let never : ⊥ = omega arith in absurd never
keys_at-split_by form width from wide skipped count keys (bucket ∷ []) places nodes gives long many some same =
    let alone : raise (from + (number_of skipped * 256 + bucket.0) * 256 ^ width) bucket.1 ≡ raise (from + number_of skipped * 256 ^ suc width) keys =
    sym (append-nil (raise (from + (number_of skipped * 256 + bucket.0) * 256 ^ width) bucket.1)) ∙ same in
    let lengths : length bucket.1 ≡ length keys =
    sym (length-raise (from + (number_of skipped * 256 + bucket.0) * 256 ^ width) bucket.1) ∙ ap length alone ∙ length-raise (from + number_of skipped * 256 ^ suc width) keys in
    let longer = length-append skipped (bucket.0 ∷ []) in
    gives from wide (skipped ++ bucket.0 ∷ []) bucket.1 places nodes (omega arith) (omega arith) (inr (omega arith))
    ∙ ap (λ start. raise start bucket.1 ++ keys_at places nodes) (sym (start-push from width bucket.0 skipped))
    ∙ ap (λ keys. keys ++ keys_at places nodes) alone
keys_at-split_by form width from wide skipped count keys (bucket ∷ other ∷ buckets) places nodes gives long many some same =
    let below : wide - (length skipped + 1) ≡ width = omega arith in
    ap (λ w. keys_at (places_of from w (number_of skipped * 256) (bytes_of (bucket ∷ other ∷ buckets)) ++ places) (forms_of (form []) (bucket ∷ other ∷ buckets) ++ nodes)) below
    ∙ keys_at-forms_of form width from (number_of skipped * 256) (bucket ∷ other ∷ buckets) places nodes gives some
    ∙ ap (λ keys. keys ++ keys_at places nodes) same

-- The cases that hold few keys: nothing is skipped there.
few_keys : (from width : ℕ) (skipped keys : List ℕ) (places : List Place) (nodes : Form) → length keys ≤ 32 → (skipped ≡ []) ⊎ (32 < length keys)
    → raise from keys ++ keys_at places nodes ≡ raise (from + number_of skipped * 256 ^ width) keys ++ keys_at places nodes
few_keys from width skipped keys places nodes few either = ⊎_elim
    (λ none. ap (λ start. raise start keys ++ keys_at places nodes) (sym (same_start from (256 ^ width) skipped none)))
    (λ many. let never : ⊥ = omega arith in absurd never)
    either

pub gives_keys : (words width : ℕ) → 1 ≤ width → GivesKeys (λ skipped keys. form_behind words width skipped keys) width
gives_keys words zero some from wide skipped keys places nodes long any either = let never : ⊥ = omega arith in absurd never
gives_keys words (suc zero) some from wide skipped keys places nodes long any either =
    by_number-cases (λ form. keys_at ((from, wide) ∷ places) (form ++ nodes) ≡ raise (from + number_of skipped * 256 ^ 1) keys ++ keys_at places nodes)
    words 1 keys (bitmap_leaf skipped keys ∷ [])
    (λ none. let never : ⊥ = omega arith in absurd never)
    (λ _ few. let small = immediate_limit_small words 1 in few_keys from 1 skipped keys places nodes (omega arith) either)
    (λ _ few. few_keys from 1 skipped keys places nodes few either)
    (λ _. refl)
gives_keys words (suc (suc below)) some from wide skipped keys places nodes long any either =
    let width = suc below in
    by_number-cases (λ form. keys_at ((from, wide) ∷ places) (form ++ nodes) ≡ raise (from + number_of skipped * 256 ^ suc width) keys ++ keys_at places nodes)
    words (suc width) keys (split_by (λ skip rest. form_behind words width skip rest) skipped (length keys) (buckets_of (256 ^ width) keys))
    (λ none. let never : ⊥ = omega arith in absurd never)
    (λ _ few. let small = immediate_limit_small words (suc width) in few_keys from (suc width) skipped keys places nodes (omega arith) either)
    (λ _ few. few_keys from (suc width) skipped keys places nodes few either)
    (λ many. keys_at-split_by (λ skip rest. form_behind words width skip rest) width from wide skipped (length keys) keys (buckets_of (256 ^ width) keys) places nodes
    (gives_keys words (suc below) (omega arith)) long many (AllSome-buckets_of (256 ^ width) keys)
    (joined-buckets_of from (number_of skipped * 256) (256 ^ width) (from + number_of skipped * 256 ^ suc width) keys (start-suc from width skipped)))

no_keys : (words width : ℕ) → keys_in width (form_of words width []) ≡ []
no_keys words zero = refl
no_keys words (suc zero) = refl
no_keys words (suc (suc below)) = refl

pub keys_in-form_of : (words width : ℕ) (keys : List ℕ) → 1 ≤ width → keys_in width (form_of words width keys) ≡ keys
keys_in-form_of words width keys some =
    elim keys as (λ keys. keys_in width (form_of words width keys) ≡ keys) [
      | [] ↦ no_keys words width
      | key ∷ keys ↦
          ap (keys_at ((0, width) ∷ [])) (sym (append-nil (form_of words width (key ∷ keys))))
          ∙ gives_keys words width some 0 width [] (key ∷ keys) [] [] (omega arith) (omega arith) (inl refl)
          ∙ append-nil (raise (0 + 0 * 256 ^ width) (key ∷ keys))
          ∙ raise-zero (0 + 0 * 256 ^ width) (key ∷ keys) (omega arith)
    ]
