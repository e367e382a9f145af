-- Pairs put behind all others, as what the map becomes.
use Rattle.std.proofs.Common.{◌≡◌, ℕ, zero, suc, ◌+◌, ◌^◌, ◌<◌, ◌≤◌, ◌||◌, false, cond, [], ◌∷◌, ◌++◌, length, take, drop, get_or, filter, is_lt, refl, sym, ap, subst, ◌∙◌, arith}
use Rattle.std.proofs.Common.{append_assoc, append-nil, ne_eqb}
use Rattle.std.specs.FinMap.{FinMap}
use Rattle.judy_model.specs.Keys.{word_order}
use Rattle.judy_model.specs.Shapes.{AllBelow}
use Rattle.judy_bits.specs.ByteSets.{has, rank}
use Rattle.judy_bits.proofs.SetLemmas.{is_below}
use Rattle.judy_leaf.specs.KeyLists.{keys_of}
use Rattle.judy_node.specs.Trees.{Pairs, Tree, IsMap, IsNode}
use Rattle.judy_node.proofs.Groups.{map-front}
use Rattle.judy_node.proofs.Maps.{map-wider}
use Rattle.judy_change.specs.Appended.{IsAppended}
use Rattle.judy_change.proofs.AppendFacts.{insert_last}
use Rattle.judy_query.specs.Maps.{map_of}
use Rattle.judy_word.specs.Held.{with_new, with_all}
use Rattle.judy_word.proofs.MapFacts.{has-key, map_of-with_pair}
use Rattle.judy_word.proofs.InsertionFacts.{new_absent}

-- One list of pairs after another.
pub with_all-append : (map : FinMap word_order ℕ) (one other : Pairs) → with_all map (one ++ other) ≡ with_all (with_all map one) other
with_all-append map [] other = refl
with_all-append map (pair ∷ one) other = with_all-append (with_new map pair.0 pair.1) one other

-- What a pair is that stands behind others.
record IsNext (words low top : ℕ) (old : Pairs) (pair : ℕ × ℕ) : Type 0 where
  from : low ≤ pair.0
  below : AllBelow pair.0 (keys_of old)
  fits : pair.0 < top
  free : words ≡ 0 → pair.1 ≡ 0

next_pair : (words low top : ℕ) (old : Pairs) (pair : ℕ × ℕ) (more : Pairs) → IsMap words low top (old ++ pair ∷ more) → IsNext words low top old pair
next_pair words low top [] pair more map = record { from = map.0; below = tt; fits = map.1; free = map.2 }
next_pair words low top (first ∷ old) pair more map =
    let rest = next_pair words (first.0 + 1) top old pair more map.3 in
    let least = map.0 in
    let above = rest.from in
    record { from = omega (arith, least, above); below = (omega (arith, above), rest.below); fits = rest.fits; free = rest.free }

rank_last : (key : ℕ) (pairs : Pairs) → AllBelow key (keys_of pairs) → rank (keys_of pairs) key ≡ length pairs
rank_last key [] below = refl
rank_last key (pair ∷ pairs) below =
    ap (λ t. length (cond t (pair.0 ∷ filter (λ member. is_lt (word_order member key)) (keys_of pairs)) (filter (λ member. is_lt (word_order member key)) (keys_of pairs))))
    (is_below pair.0 key below.0)
    ∙ ap suc (rank_last key pairs below.1)

absent_last : (key : ℕ) (pairs : Pairs) → AllBelow key (keys_of pairs) → has (keys_of pairs) key ≡ false
absent_last key [] below = refl
absent_last key (pair ∷ pairs) below =
    let first = below.0 in
    ap (λ t. t || has (keys_of pairs) key) (ne_eqb pair.0 key (λ same. omega (arith, first, same))) ∙ absent_last key pairs below.1

-- A pair behind all others.
one_behind : (words top : ℕ) (old : Pairs) (pair : ℕ × ℕ) → IsMap words 0 top old → IsNext words 0 top old pair → map_of (old ++ pair ∷ []) ≡ with_new (map_of old) pair.0 pair.1
one_behind words top old pair map next =
    let absent = absent_last pair.0 old next.below in
    ap map_of (sym (insert_last old (rank (keys_of old) pair.0) pair (rank_last pair.0 old next.below)))
    ∙ map_of-with_pair words top pair.0 pair.1 old map next.fits absent next.free
    ∙ sym (new_absent (map_of old) pair.0 pair.1 (has-key words top old map pair.0 ∙ absent))

-- Many pairs behind all others.
pub all_behind : (words top : ℕ) (old more : Pairs) → IsMap words 0 top (old ++ more) → map_of (old ++ more) ≡ with_all (map_of old) more
all_behind words top old [] map = ap map_of (append-nil old)
all_behind words top old (pair ∷ more) map =
    let parts : (old ++ pair ∷ []) ++ more ≡ old ++ pair ∷ more = append_assoc old (pair ∷ []) more in
    ap map_of (sym parts)
    ∙ all_behind words top (old ++ pair ∷ []) more (subst (IsMap words 0 top) (sym parts) map)
    ∙ ap (λ m. with_all m more) (one_behind words top old pair (map-front words 0 top old (pair ∷ more) map) (next_pair words 0 top old pair more map))

-- The first of pairs behind those of a tree.
pub map-appended : (words count : ℕ) (pairs : Pairs) (old new : Tree) → IsAppended count pairs old new → IsNode words new → map_of new.pairs ≡ with_all (map_of old.pairs) (take count pairs)
map-appended words count pairs old new put node = ap map_of put.longer ∙ all_behind words (256 ^ 8) old.pairs (take count pairs) (subst (IsMap words 0 (256 ^ 8)) put.longer node.map)

-- ---- lists of pairs that ascend

-- What is left of them.
pub map_rest : (words low top n : ℕ) (pairs : Pairs) → IsMap words low top pairs → IsMap words 0 top (drop n pairs)
map_rest words low top zero pairs map = map-wider words low top 0 top pairs (omega arith) (omega arith) map
map_rest words low top (suc n) [] map = tt
map_rest words low top (suc n) (pair ∷ pairs) map = map_rest words (pair.0 + 1) top n pairs map.3

-- What is above the last of them is above all.
pub last_below : (words low top key at : ℕ) (pairs : Pairs) (d : ℕ × ℕ) → IsMap words low top pairs → suc at ≡ length pairs → (get_or pairs at d).0 < key → AllBelow key (keys_of pairs)
last_below words low top key at [] d map is less = tt
last_below words low top key zero (pair ∷ []) d map is less = (less, tt)
last_below words low top key (suc at) (pair ∷ []) d map is less = absurd (omega (arith, is))
last_below words low top key zero (pair ∷ other ∷ pairs) d map is less = absurd (omega (arith, is))
last_below words low top key (suc at) (pair ∷ other ∷ pairs) d map is less =
    let rest = last_below words (pair.0 + 1) top key at (other ∷ pairs) d map.3 (omega (arith, is)) less in
    let next = map.3.0 in
    let last = rest.0 in
    (omega (arith, next, last), rest)

pub none_below : (key : ℕ) (pairs : Pairs) → length pairs ≡ 0 → AllBelow key (keys_of pairs)
none_below key [] none = tt
none_below key (pair ∷ pairs) none = absurd (omega (arith, none))

-- One more behind them.
pub map_push : (words low top key value : ℕ) (pairs : Pairs) → IsMap words low top pairs → AllBelow key (keys_of pairs) → low ≤ key → key < top → (words ≡ 0 → value ≡ 0) →
    IsMap words low top (pairs ++ (key, value) ∷ [])
map_push words low top key value [] map below from fits free = (from, fits, free, tt)
map_push words low top key value (pair ∷ pairs) map below from fits free =
    let first = below.0 in
    (map.0, map.1, map.2, map_push words (pair.0 + 1) top key value pairs map.3 below.1 (omega (arith, first)) fits free)
