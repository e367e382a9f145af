-- Sorted pairs cut into those of one byte.
use Rattle.std.proofs.Common.{◌≡◌, ◌≢◌, ℕ, zero, suc, ◌+◌, ◌*◌, ◌/◌, ◌%◌, ◌<◌, ◌≤◌, true, false, cond, eqb, List, [], ◌∷◌, ◌++◌, length, take, drop, get_or, filter, sym, refl, ap}
use Rattle.std.proofs.Common.{◌∙◌, subst, arith, ⊎_elim, append_assoc}
use Rattle.std.proofs.Math.Nat.{add-mul, mul_comm}
use Rattle.std.proofs.Math.Arith.{mod-mul}
use Rattle.std.proofs.lemmas.Nat.{mod_below, mul-le, div-add-mod', div-mul-add}
use Rattle.std.proofs.lemmas.Bool.{eqb-true, eqb-false, eq-eqb, ne_eqb, cases_lt}
use Rattle.std.proofs.lemmas.List.{append-nil, drop_all}
use Rattle.std.specs.Ordering.{is_lt, is_gt}
use Rattle.judy_model.specs.Keys.{word_order}
use Rattle.judy_model.specs.Forms.{loose_in}
use Rattle.judy_model.specs.Shapes.{AllBelow}
use Rattle.judy_model.proofs.lemmas.forms.FormLemmas.{loose_in-append}
use Rattle.judy_bits.specs.ByteSets.{with_byte}
use Rattle.judy_bits.proofs.SetLemmas.{is_below, not_above}
use Rattle.judy_leaf.specs.KeyLists.{low_pairs, shift}
use Rattle.judy_node.specs.Trees.{Pairs, Tree, IsMap, join, forms_in, IsChild, AreChildren}
use Rattle.judy_node.specs.Built.{middle, sharing}

-- Each key has these middle bytes.
abbrev pub AllMiddle : ℕ → ℕ → ℕ → Pairs → Type 0
AllMiddle unit top head [] = Unit {0}
AllMiddle unit top head (pair ∷ pairs) = (middle unit top pair.0 ≡ head) × AllMiddle unit top head pairs

-- The first key doesn't.
abbrev pub NotMiddle : ℕ → ℕ → ℕ → Pairs → Type 0
NotMiddle unit top head [] = Unit {0}
NotMiddle unit top head (pair ∷ pairs) = middle unit top pair.0 ≢ head

pub sharing-within : (unit top head : ℕ) (pairs : Pairs) → sharing unit top head pairs ≤ length pairs
sharing-within unit top head [] = omega arith
sharing-within unit top head (pair ∷ pairs) =
    let rest = sharing-within unit top head pairs in
    elim (eqb (middle unit top pair.0) head) as (λ b. cond b (1 + sharing unit top head pairs) 0 ≤ suc (length pairs)) [
      | true ↦ omega arith
      | false ↦ omega arith
    ]

pub sharing-front : (unit top head : ℕ) (pairs : Pairs) → AllMiddle unit top head (take (sharing unit top head pairs) pairs)
sharing-front unit top head [] = tt
sharing-front unit top head (pair ∷ pairs) =
    elim (eqb (middle unit top pair.0) head) as (λ b. eqb (middle unit top pair.0) head ≡ b → AllMiddle unit top head (take (cond b (1 + sharing unit top head pairs) 0) (pair ∷ pairs))) [
      | true ↦ λ same. subst (λ n. AllMiddle unit top head (take n (pair ∷ pairs))) (let e : suc (sharing unit top head pairs) ≡ 1 + sharing unit top head pairs = omega arith in e)
          (eqb-true (middle unit top pair.0) head same, sharing-front unit top head pairs)
      | false ↦ λ _. tt
    ] refl

pub sharing-rest : (unit top head : ℕ) (pairs : Pairs) → NotMiddle unit top head (drop (sharing unit top head pairs) pairs)
sharing-rest unit top head [] = tt
sharing-rest unit top head (pair ∷ pairs) =
    elim (eqb (middle unit top pair.0) head) as (λ b. eqb (middle unit top pair.0) head ≡ b → NotMiddle unit top head (drop (cond b (1 + sharing unit top head pairs) 0) (pair ∷ pairs))) [
      | true ↦ λ same. subst (λ n. NotMiddle unit top head (drop n (pair ∷ pairs))) (let e : suc (sharing unit top head pairs) ≡ 1 + sharing unit top head pairs = omega arith in e)
          (sharing-rest unit top head pairs)
      | false ↦ λ apart. eqb-false (middle unit top pair.0) head apart
    ] refl

-- ---- lowest bytes

pub length-low_pairs : (wide : ℕ) (pairs : Pairs) → length (low_pairs wide pairs) ≡ length pairs
length-low_pairs wide [] = refl
length-low_pairs wide (pair ∷ pairs) = ap suc (length-low_pairs wide pairs)

pub low_pairs-append : (wide : ℕ) (one other : Pairs) → low_pairs wide (one ++ other) ≡ low_pairs wide one ++ low_pairs wide other
low_pairs-append wide [] other = refl
low_pairs-append wide (pair ∷ one) other = ap (λ rest. (pair.0 % wide, pair.1) ∷ rest) (low_pairs-append wide one other)

-- Pairs with the same middle bytes are those of the bytes below, moved up.
pub low_pairs-shared : (unit top head : ℕ) (pairs : Pairs) → 0 < unit → 0 < top → AllMiddle unit top head pairs → low_pairs (top * unit) pairs ≡ shift (head * unit) (low_pairs unit pairs)
low_pairs-shared unit top head [] some any all = refl
low_pairs-shared unit top head (pair ∷ pairs) some any all =
    let here : pair.0 % (top * unit) ≡ head * unit + pair.0 % unit = mod-mul pair.0 any some ∙ ap (λ n. n * unit + pair.0 % unit) all.0 in
    λ t. (here t, pair.1) ∷ low_pairs-shared unit top head pairs some any all.1 t

-- ---- maps cut in two

pub map-front : (words low top : ℕ) (one other : Pairs) → IsMap words low top (one ++ other) → IsMap words low top one
map-front words low top [] other map = tt
map-front words low top (pair ∷ one) other map = (map.0, map.1, map.2, map-front words (pair.0 + 1) top one other map.3)

-- Pairs moved up, moved down again.
map-down_from : (words low top by less unit : ℕ) (wide : Pairs) → low ≡ by + less → IsMap words low top (shift by (low_pairs unit wide)) → 0 < unit → IsMap words less unit (low_pairs unit wide)
map-down_from words low top by less unit [] is map some = tt
map-down_from words low top by less unit (pair ∷ wide) is map some =
    let first = map.0 in
    (omega arith, mod_below pair.0 unit some, map.2, map-down_from words (by + pair.0 % unit + 1) top by (pair.0 % unit + 1) unit wide (omega arith) map.3 some)

pub map-down : (words low top by unit : ℕ) (wide : Pairs) → IsMap words low top (shift by (low_pairs unit wide)) → 0 < unit → IsMap words 0 unit (low_pairs unit wide)
map-down words low top by unit [] map some = tt
map-down words low top by unit (pair ∷ wide) map some =
    (omega arith, mod_below pair.0 unit some, map.2, map-down_from words (by + pair.0 % unit + 1) top by (pair.0 % unit + 1) unit wide (omega arith) map.3 some)

-- What comes after the pairs of a byte has a greater one.
next_byte : (unit byte key : ℕ) → 0 < unit → byte * unit ≤ key → key / unit ≢ byte → (byte + 1) * unit ≤ key
next_byte unit byte key some from apart =
    let split = div-add-mod' key unit in
    let rest = mod_below key unit some in
    ⊎_elim
    (λ (less : key / unit < byte).
    let whole : (key / unit + 1) * unit ≤ byte * unit = mul-le (key / unit + 1) unit byte unit (omega arith) (omega arith) in
    let spread = add-mul (key / unit) 1 unit in
    let never : ⊥ = omega arith in absurd never)
    (λ (more : byte ≤ key / unit).
    let above : byte + 1 ≤ key / unit = omega arith in
    let whole : (byte + 1) * unit ≤ key / unit * unit = mul-le (byte + 1) unit (key / unit) unit above (omega arith) in
    omega arith)
    (cases_lt (key / unit) byte)

map-next : (words low unit byte : ℕ) (rest : Pairs) → 0 < unit → byte * unit ≤ low → NotMiddle unit 256 byte rest → IsMap words low (unit * 256) (low_pairs (unit * 256) rest)
    → IsMap words ((byte + 1) * unit) (unit * 256) (low_pairs (unit * 256) rest)
map-next words low unit byte [] some from apart map = tt
map-next words low unit byte (pair ∷ rest) some from apart map =
    let key = pair.0 % (unit * 256) in
    let first = map.0 in
    let digits : key ≡ pair.0 / unit % 256 * unit + pair.0 % unit = ap (λ n. pair.0 % n) (mul_comm unit 256) ∙ mod-mul pair.0 (let e : 0 < 256 = omega arith in e) some in
    let digit : key / unit ≡ pair.0 / unit % 256 = ap (λ n. n / unit) digits ∙ div-mul-add (pair.0 / unit % 256) unit (pair.0 % unit) (mod_below pair.0 unit some) in
    (next_byte unit byte key some (omega arith) (λ (same : key / unit ≡ byte). apart (sym digit ∙ same)), map.1, map.2, map.3)

pub map-after : (words low unit byte : ℕ) (one rest : Pairs) → 0 < unit → 0 < length one → AllMiddle unit 256 byte one → NotMiddle unit 256 byte rest
    → IsMap words low (unit * 256) (low_pairs (unit * 256) (one ++ rest)) → IsMap words ((byte + 1) * unit) (unit * 256) (low_pairs (unit * 256) rest)
map-after words low unit byte [] rest some any all apart map = let never : ⊥ = omega arith in absurd never
map-after words low unit byte (pair ∷ []) rest some any all apart map =
    let digits : pair.0 % (unit * 256) ≡ byte * unit + pair.0 % unit = ap (λ n. pair.0 % n) (mul_comm unit 256) ∙ mod-mul pair.0 (let e : 0 < 256 = omega arith in e) some ∙
    ap (λ n. n * unit + pair.0 % unit) all.0 in
    map-next words (pair.0 % (unit * 256) + 1) unit byte rest some (omega arith) apart map.3
map-after words low unit byte (pair ∷ other ∷ one) rest some any all apart map = map-after words (pair.0 % (unit * 256) + 1) unit byte (other ∷ one) rest some (omega arith) all.1 apart map.3

-- ---- sorted pairs of which the first and a later one have one byte

-- A key of a map is no lower than the map's bound.
map-at : (words low wide : ℕ) (pairs : Pairs) (at : ℕ) (d : ℕ × ℕ) → IsMap words low wide (low_pairs wide pairs) → at < length pairs → low ≤ (get_or pairs at d).0 % wide
map-at words low wide [] at d map within = let never : ⊥ = omega arith in absurd never
map-at words low wide (pair ∷ pairs) zero d map within = map.0
map-at words low wide (pair ∷ pairs) (suc at) d map within =
    let first = map.0 in
    let rest = map-at words (pair.0 % wide + 1) wide pairs at d map.3 (omega arith) in
    omega arith

-- What lies between two keys of a byte has that byte.
byte_between : (unit byte key last : ℕ) → 0 < unit → byte * unit ≤ key % (256 * unit) → key % (256 * unit) ≤ last % (256 * unit) → middle unit 256 last ≡ byte → middle unit 256 key ≡ byte
byte_between unit byte key last some from within same =
    let any : 0 < 256 = omega arith in
    let here = mod-mul key any some in
    let there : last % (256 * unit) ≡ byte * unit + last % unit = mod-mul last any some ∙ ap (λ n. n * unit + last % unit) same in
    let rest = mod_below key unit some in
    let left = mod_below last unit some in
    let spread = add-mul (middle unit 256 key) 1 unit in
    let next = add-mul byte 1 unit in
    ⊎_elim
    (λ (less : middle unit 256 key < byte).
    let whole : (middle unit 256 key + 1) * unit ≤ byte * unit = mul-le (middle unit 256 key + 1) unit byte unit (omega arith) (omega arith) in
    let never : ⊥ = omega arith in absurd never)
    (λ (more : byte ≤ middle unit 256 key).
    ⊎_elim
    (λ (less : byte < middle unit 256 key).
    let whole : (byte + 1) * unit ≤ middle unit 256 key * unit = mul-le (byte + 1) unit (middle unit 256 key) unit (omega arith) (omega arith) in
    let never : ⊥ = omega arith in absurd never)
    (λ (no_more : middle unit 256 key ≤ byte). omega arith)
    (cases_lt byte (middle unit 256 key)))
    (cases_lt (middle unit 256 key) byte)

-- One pair more in front of pairs that share a byte.
share_more : (unit byte : ℕ) (pair : ℕ × ℕ) (pairs : Pairs) (at : ℕ) → middle unit 256 pair.0 ≡ byte → sharing unit 256 byte pairs ≡ at + 1 + sharing unit 256 byte (drop (at + 1) pairs)
    → sharing unit 256 byte (pair ∷ pairs) ≡ suc at + 1 + sharing unit 256 byte (drop (suc at + 1) (pair ∷ pairs))
share_more unit byte pair pairs at here rest =
    let one : sharing unit 256 byte (pair ∷ pairs) ≡ 1 + sharing unit 256 byte pairs = ap (λ b. cond b (1 + sharing unit 256 byte pairs) 0) (eq-eqb (middle unit 256 pair.0) byte here) in
    let left : sharing unit 256 byte (drop (at + 1) pairs) ≡ sharing unit 256 byte (drop (suc at + 1) (pair ∷ pairs)) = ap (λ n. sharing unit 256 byte (drop n (pair ∷ pairs)))
    (let e : suc (at + 1) ≡ suc at + 1 = omega arith in e) in
    omega arith

share_one : (unit byte : ℕ) (pair : ℕ × ℕ) (pairs : Pairs) → middle unit 256 pair.0 ≡ byte → sharing unit 256 byte (pair ∷ pairs) ≡ 0 + 1 + sharing unit 256 byte (drop (0 + 1) (pair ∷ pairs))
share_one unit byte pair pairs here = ap (λ b. cond b (1 + sharing unit 256 byte pairs) 0) (eq-eqb (middle unit 256 pair.0) byte here)

between_share : (words low unit byte : ℕ) (pairs : Pairs) (at : ℕ) (d : ℕ × ℕ) → 0 < unit → IsMap words low (256 * unit) (low_pairs (256 * unit) pairs) → byte * unit ≤ low → at < length pairs
    → middle unit 256 (get_or pairs at d).0 ≡ byte → sharing unit 256 byte pairs ≡ at + 1 + sharing unit 256 byte (drop (at + 1) pairs)
between_share words low unit byte [] at d some map from within same = let never : ⊥ = omega arith in absurd never
between_share words low unit byte (pair ∷ pairs) zero d some map from within same = share_one unit byte pair pairs same
between_share words low unit byte (pair ∷ pairs) (suc at) d some map from within same =
    let first = map.0 in
    let last = map-at words (pair.0 % (256 * unit) + 1) (256 * unit) pairs at d map.3 (omega arith) in
    share_more unit byte pair pairs at (byte_between unit byte pair.0 (get_or pairs at d).0 some (omega arith) (omega arith) same)
    (between_share words (pair.0 % (256 * unit) + 1) unit byte pairs at d some map.3 (omega arith) (omega arith) same)

-- So all have the byte up to the one that has it as the first does.
pub front_share : (words low unit byte : ℕ) (pairs : Pairs) (at : ℕ) (d : ℕ × ℕ) → 0 < unit → IsMap words low (256 * unit) (low_pairs (256 * unit) pairs) → at < length pairs
    → middle unit 256 (get_or pairs 0 d).0 ≡ byte → middle unit 256 (get_or pairs at d).0 ≡ byte → sharing unit 256 byte pairs ≡ at + 1 + sharing unit 256 byte (drop (at + 1) pairs)
front_share words low unit byte [] at d some map within first same = let never : ⊥ = omega arith in absurd never
front_share words low unit byte (pair ∷ pairs) zero d some map within first same = share_one unit byte pair pairs first
front_share words low unit byte (pair ∷ pairs) (suc at) d some map within first same =
    let here : pair.0 % (256 * unit) ≡ byte * unit + pair.0 % unit = mod-mul pair.0 (let any : 0 < 256 = omega arith in any) some ∙ ap (λ n. n * unit + pair.0 % unit) first in
    share_more unit byte pair pairs at first (between_share words (pair.0 % (256 * unit) + 1) unit byte pairs at d some map.3 (omega arith) (omega arith) same)

pub middle-at : (unit top head : ℕ) (pairs : Pairs) (at : ℕ) (d : ℕ × ℕ) → AllMiddle unit top head pairs → at < length pairs → middle unit top (get_or pairs at d).0 ≡ head
middle-at unit top head [] at d all within = let never : ⊥ = omega arith in absurd never
middle-at unit top head (pair ∷ pairs) zero d all within = all.0
middle-at unit top head (pair ∷ pairs) (suc at) d all within = middle-at unit top head pairs at d all.1 (omega arith)

-- ---- one child more, behind the others

pub children-push : (words width low : ℕ) (bytes : List ℕ) (kids : List Tree) (byte : ℕ) (kid : Tree) → AreChildren words width low bytes kids → low ≤ byte →
    AllBelow byte bytes → byte < 256 → IsChild words width kid
    → AreChildren words width low (bytes ++ byte ∷ []) (kids ++ kid ∷ [])
children-push words width low [] [] byte kid are from below within is = (from, within, is, tt)
children-push words width low [] (other ∷ kids) byte kid are from below within is = absurd are
children-push words width low (first ∷ bytes) [] byte kid are from below within is = absurd are
children-push words width low (first ∷ bytes) (other ∷ kids) byte kid are from below within is =
    let less = below.0 in
    (are.0, are.1, are.2, children-push words width (first + 1) bytes kids byte kid are.3 (omega arith) below.1 within is)

pub join-push : (words width low unit block : ℕ) (bytes : List ℕ) (kids : List Tree) (byte : ℕ) (kid : Tree) → AreChildren words width low bytes kids
    → join unit block (bytes ++ byte ∷ []) (kids ++ kid ∷ []) ≡ join unit block bytes kids ++ shift ((block + byte) * unit) kid.pairs
join-push words width low unit block [] [] byte kid are = append-nil (shift ((block + byte) * unit) kid.pairs)
join-push words width low unit block [] (other ∷ kids) byte kid are = absurd are
join-push words width low unit block (first ∷ bytes) [] byte kid are = absurd are
join-push words width low unit block (first ∷ bytes) (other ∷ kids) byte kid are =
    ap (λ rest. shift ((block + first) * unit) other.pairs ++ rest) (join-push words width (first + 1) unit block bytes kids byte kid are.3)
    ∙ sym (append_assoc (shift ((block + first) * unit) other.pairs) (join unit block bytes kids) (shift ((block + byte) * unit) kid.pairs))

pub forms-push : (kids : List Tree) (kid : Tree) → loose_in (forms_in (kids ++ kid ∷ [])) ≡ loose_in (forms_in kids) + loose_in kid.form
forms-push [] kid = ap loose_in (append-nil kid.form) ∙ (let e : loose_in kid.form ≡ 0 + loose_in kid.form = omega arith in e)
forms-push (other ∷ kids) kid =
    let both = loose_in-append other.form (forms_in kids) in
    let rest = forms-push kids kid in
    loose_in-append other.form (forms_in (kids ++ kid ∷ [])) ∙ (let e : loose_in other.form + loose_in (forms_in (kids ++ kid ∷ [])) ≡
    loose_in (other.form ++ forms_in kids) + loose_in kid.form = omega arith in e)

pub below-push : (next byte : ℕ) (bytes : List ℕ) → next ≤ byte → AllBelow next bytes → AllBelow (byte + 1) (bytes ++ byte ∷ [])
below-push next byte [] from below = (omega arith, tt)
below-push next byte (first ∷ bytes) from below = let less = below.0 in (omega arith, below-push next byte bytes from below.1)

pub below-wider : (less more : ℕ) (bytes : List ℕ) → less ≤ more → AllBelow less bytes → AllBelow more bytes
below-wider less more [] from below = tt
below-wider less more (first ∷ bytes) from below = let here = below.0 in (omega arith, below-wider less more bytes from below.1)

-- A byte above all members comes behind them.
filter_below : (byte : ℕ) (bytes : List ℕ) → AllBelow byte bytes → filter (λ member. is_lt (word_order member byte)) bytes ≡ bytes
filter_below byte [] below = refl
filter_below byte (first ∷ bytes) below =
    ap (λ b. cond b (first ∷ filter (λ member. is_lt (word_order member byte)) bytes) (filter (λ member. is_lt (word_order member byte)) bytes)) (is_below first byte below.0)
    ∙ ap (λ rest. first ∷ rest) (filter_below byte bytes below.1)

filter_above : (byte : ℕ) (bytes : List ℕ) → AllBelow byte bytes → filter (λ member. is_gt (word_order member byte)) bytes ≡ []
filter_above byte [] below = refl
filter_above byte (first ∷ bytes) below =
    let less = below.0 in
    ap (λ b. cond b (first ∷ filter (λ member. is_gt (word_order member byte)) bytes) (filter (λ member. is_gt (word_order member byte)) bytes)) (not_above first byte (omega arith))
    ∙ filter_above byte bytes below.1

pub with_byte-push : (byte : ℕ) (bytes : List ℕ) → AllBelow byte bytes → with_byte bytes byte ≡ bytes ++ byte ∷ []
with_byte-push byte bytes below = λ t. filter_below byte bytes below t ++ byte ∷ filter_above byte bytes below t

-- One pair after another.
pub sharing-at : (unit top head : ℕ) (pairs : Pairs) (at : ℕ) (d : ℕ × ℕ) → at < length pairs
    → sharing unit top head (drop at pairs) ≡ cond (eqb (middle unit top (get_or pairs at d).0) head) (1 + sharing unit top head (drop (at + 1) pairs)) 0
sharing-at unit top head [] at d within = let never : ⊥ = omega arith in absurd never
sharing-at unit top head (first ∷ pairs) zero d within = refl
sharing-at unit top head (first ∷ pairs) (suc at) d within =
    sharing-at unit top head pairs at d (omega arith)
    ∙ ap (λ n. cond (eqb (middle unit top (get_or pairs at d).0) head) (1 + sharing unit top head (drop n (first ∷ pairs))) 0) (let e : suc (at + 1) ≡ suc at + 1 = omega arith in e)

pub sharing-yes : (unit top head : ℕ) (pairs : Pairs) (at : ℕ) (d : ℕ × ℕ) → at < length pairs → middle unit top (get_or pairs at d).0 ≡ head
    → sharing unit top head (drop at pairs) ≡ 1 + sharing unit top head (drop (at + 1) pairs)
sharing-yes unit top head pairs at d within same =
    sharing-at unit top head pairs at d within
    ∙ ap (λ b. cond b (1 + sharing unit top head (drop (at + 1) pairs)) 0) (eq-eqb (middle unit top (get_or pairs at d).0) head same)

pub sharing-no : (unit top head : ℕ) (pairs : Pairs) (at : ℕ) (d : ℕ × ℕ) → at < length pairs → middle unit top (get_or pairs at d).0 ≢ head
    → sharing unit top head (drop at pairs) ≡ 0
sharing-no unit top head pairs at d within apart =
    sharing-at unit top head pairs at d within
    ∙ ap (λ b. cond b (1 + sharing unit top head (drop (at + 1) pairs)) 0) (ne_eqb (middle unit top (get_or pairs at d).0) head apart)

pub sharing-end : (unit top head : ℕ) (pairs : Pairs) (at : ℕ) → length pairs ≤ at → sharing unit top head (drop at pairs) ≡ 0
sharing-end unit top head pairs at beyond = ap (sharing unit top head) (drop_all at pairs beyond)
