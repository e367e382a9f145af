-- The pairs nearest to a key, in a part of a tree and beside it.
use Rattle.std.proofs.Common.{◌≡◌, ℕ, ◌+◌, ◌-◌, ◌^◌, ◌<◌, ◌≤◌, ⊎_elim, Bool, true, false, cond, nat_le, [], ◌∷◌, ◌++◌, length, find, Option, Some, None, IfSome, slice_get, sym}
use Rattle.std.proofs.Common.{refl, ap, ◌∙◌, subst, arith, length-append, leb-true, le-leb, is_le, is_ge}
use Rattle.std.specs.Option.{option_or}
use Rattle.std.proofs.lemmas.Bool.{false_from_ne_true, cases_lt, cases_order}
use Rattle.std.proofs.lemmas.List.{append-nil}
use Rattle.std.proofs.lemmas.Option.{same_Some, slice_get-get_or}
use Rattle.judy_model.specs.Keys.{word_order}
use Rattle.judy_model.proofs.lemmas.maps.Ascending.{find_last, find-reverse}
use Rattle.judy_model.proofs.lemmas.orders.WordOrder.{is_le_word, is_ge_word}
use Rattle.judy_leaf.specs.KeyLists.{shift}
use Rattle.judy_leaf.specs.Nearby.{pair_from, pair_up_to}
use Rattle.judy_node.specs.Trees.{Pairs, IsMap}
use Rattle.judy_node.specs.Views.{view_pairs}
use Rattle.judy_node.specs.declared.view.ViewOf.{ViewOf}
use Rattle.judy_query.specs.Parts.{IsPart, IsDown, raised, value_of, width_of}
use Rattle.judy_query.specs.Turns.{last_pair}
use Rattle.judy_query.proofs.Finds.{here, later, value-above}
use Rattle.judy_query.proofs.RankFacts.{at-behind}

-- ---- tests

le_false : (x y : ℕ) → y < x → nat_le x y ≡ false
le_false x y more = false_from_ne_true (nat_le x y) (λ e. let up = leb-true x y e in let never : ⊥ = omega arith in absurd never)

same_test : (a b c d : ℕ) → (a ≤ b → c ≤ d) → (c ≤ d → a ≤ b) → nat_le a b ≡ nat_le c d
same_test a b c d there back =
    ⊎_elim
    (λ (more : b < a). le_false a b more ∙ sym (⊎_elim (λ (other : d < c). le_false c d other) (λ (less : c ≤ d). let up = back less in let never : ⊥ = omega arith in absurd never) (cases_lt d c)))
    (λ (less : a ≤ b). le-leb a b less ∙ sym (le-leb c d (there less)))
    (cases_lt b a)

none_after : (found : Option (ℕ × ℕ)) → option_or found None ≡ found
none_after None = refl
none_after (Some x) = refl

three : (a b c : Option (ℕ × ℕ)) → option_or (option_or a b) c ≡ option_or a (option_or b c)
three None b c = refl
three (Some x) b c = refl

raised-or : (by : ℕ) (a b : Option (ℕ × ℕ)) → option_or (raised by a) (raised by b) ≡ raised by (option_or a b)
raised-or by None b = refl
raised-or by (Some x) b = refl

-- ---- the first that passes

find-front : (words low top : ℕ) (p : ℕ × ℕ → Bool) (pairs rest : Pairs) → IsMap words low top pairs → ((pair : ℕ × ℕ) → pair.0 < top → p pair ≡ false) → find p (pairs ++ rest) ≡ find p rest
find-front words low top p [] rest map fails = refl
find-front words low top p (pair ∷ pairs) rest map fails = ap (λ b. cond b (Some pair) (find p (pairs ++ rest))) (fails pair map.1) ∙ find-front words (pair.0 + 1) top p pairs rest map.3 fails

find-shift : (by : ℕ) (p q : ℕ × ℕ → Bool) (pairs rest : Pairs) → ((pair : ℕ × ℕ) → p (by + pair.0, pair.1) ≡ q pair) →
    find p (shift by pairs ++ rest) ≡ option_or (raised by (find q pairs)) (find p rest)
find-shift by p q [] rest same = refl
find-shift by p q (pair ∷ pairs) rest same =
    ap (λ b. cond b (Some (by + pair.0, pair.1)) (find p (shift by pairs ++ rest))) (same pair)
    ∙ elim (q pair) as (λ b. cond b (Some (by + pair.0, pair.1)) (find p (shift by pairs ++ rest)) ≡ option_or (raised by (cond b (Some pair) (find q pairs))) (find p rest)) [
      | true ↦ refl
      | false ↦ find-shift by p q pairs rest same
    ]

find-head : (words low top : ℕ) (p : ℕ × ℕ → Bool) (pairs : Pairs) → IsMap words low top pairs → ((pair : ℕ × ℕ) → low ≤ pair.0 → p pair ≡ true) → find p pairs ≡ slice_get pairs 0
find-head words low top p [] map passes = refl
find-head words low top p (pair ∷ pairs) map passes = ap (λ b. cond b (Some pair) (find p pairs)) (passes pair map.0)

-- From a key of a part on, or from the part's end: the part's answer, and else the first pair behind it.
pub part-from : (words top : ℕ) (tree : Pairs) (base unit left key : ℕ) (pairs front back : Pairs) → IsPart words top tree base unit pairs front back → key ≡ base + left → left ≤ unit
    → pair_from tree key ≡ option_or (raised base (pair_from pairs left)) (slice_get back 0)
part-from words top tree base unit left key pairs front back part sum within =
    ap (λ ps. pair_from ps key) part.same
    ∙ find-front words 0 base (λ pair. is_ge (word_order pair.0 key)) front (shift base pairs ++ back) part.before (λ pair below. is_ge_word pair.0 key ∙ le_false key pair.0 (omega arith))
    ∙ find-shift base (λ pair. is_ge (word_order pair.0 key)) (λ pair. is_ge (word_order pair.0 left)) pairs back
    (λ pair. is_ge_word (base + pair.0) key ∙ same_test key (base + pair.0) left pair.0 (λ less. omega arith) (λ less. omega arith) ∙ sym (is_ge_word pair.0 left))
    ∙ ap (option_or (raised base (pair_from pairs left))) (find-head words (base + unit) top (λ pair. is_ge (word_order pair.0 key)) back part.after
    (λ pair above. is_ge_word pair.0 key ∙ le-leb key pair.0 (omega arith)))

-- From the end of all words on there is none.
pub from_end : (words low top : ℕ) (pairs : Pairs) (key : ℕ) → IsMap words low top pairs → top ≤ key → pair_from pairs key ≡ None
from_end words low top pairs key map past =
    ap (λ ps. pair_from ps key) (sym (append-nil pairs))
    ∙ find-front words low top (λ pair. is_ge (word_order pair.0 key)) pairs [] map (λ pair below. is_ge_word pair.0 key ∙ le_false key pair.0 (omega arith))

-- From a number on among pairs that are moved up.
pub from-shift : (by key : ℕ) (pairs : Pairs) → pair_from (shift by pairs ++ []) key ≡ raised by (pair_from pairs (key - by))
from-shift by key pairs =
    find-shift by (λ pair. is_ge (word_order pair.0 key)) (λ pair. is_ge (word_order pair.0 (key - by))) pairs []
    (λ pair. is_ge_word (by + pair.0) key ∙ same_test key (by + pair.0) (key - by) pair.0 (λ less. omega arith) (λ less. omega arith) ∙ sym (is_ge_word pair.0 (key - by)))
    ∙ none_after (raised by (pair_from pairs (key - by)))

pub found_below : (words low top : ℕ) (p : ℕ × ℕ → Bool) (pairs : Pairs) (key value : ℕ) → IsMap words low top pairs → find p pairs ≡ Some (key, value) → key < top
found_below words low top p [] key value map = λ found. cc
found_below words low top p (pair ∷ pairs) key value map =
    elim (p pair) as (λ b. cond b (Some pair) (find p pairs) ≡ Some (key, value) → key < top) [
      | true ↦ λ found. subst (λ (other : ℕ × ℕ). other.0 < top) (same_Some pair (key, value) found) map.1
      | false ↦ λ found. found_below words (pair.0 + 1) top p pairs key value map.3 found
    ]

-- A key's own pair is the first from it on.
from_value : (words low top : ℕ) (pairs : Pairs) (key value : ℕ) → IsMap words low top pairs → value_of pairs key ≡ Some value → pair_from pairs key ≡ Some (key, value)
from_value words low top [] key value map found = cc
from_value words low top (pair ∷ pairs) key value map found =
    ⊎_elim
    (λ (same : key ≡ pair.0).
    ap (λ b. cond b (Some pair) (pair_from pairs key)) (is_ge_word pair.0 key ∙ le-leb key pair.0 (omega arith))
    ∙ (λ t. Some (sym same t, same_Some pair.1 value (sym (here key pair pairs same) ∙ found) t)))
    (λ apart. ⊎_elim
    (λ (less : key < pair.0).
    let none : None ≡ Some value = sym (later key pair pairs (λ (e : key ≡ pair.0). let never : ⊥ = omega arith in never) ∙ value-above words (pair.0 + 1) top pairs key (omega arith) map.3) ∙ found in
    cc)
    (λ (more : pair.0 < key).
    ap (λ b. cond b (Some pair) (pair_from pairs key)) (is_ge_word pair.0 key ∙ le_false key pair.0 more)
    ∙ from_value words (pair.0 + 1) top pairs key value map.3 (sym (later key pair pairs (λ (e : key ≡ pair.0). let never : ⊥ = omega arith in never)) ∙ found))
    apart)
    (cases_order key pair.0)

pub from_looked : (words low top : ℕ) (pairs : Pairs) (key : ℕ) (found : Option ℕ) → IsMap words low top pairs → found ≡ value_of pairs key →
    IfSome found (λ value. pair_from pairs key ≡ Some (key, value))
from_looked words low top pairs key None map is = tt
from_looked words low top pairs key (Some value) map is = from_value words low top pairs key value map (sym is)

-- ---- the last that passes

last-append : (p : ℕ × ℕ → Bool) (one other : Pairs) → find_last p (one ++ other) ≡ option_or (find_last p other) (find_last p one)
last-append p [] other = sym (none_after (find_last p other))
last-append p (pair ∷ one) other =
    ap (λ found. option_or found (cond (p pair) (Some pair) None)) (last-append p one other) ∙ three (find_last p other) (find_last p one) (cond (p pair) (Some pair) None)

last-shift : (by : ℕ) (p q : ℕ × ℕ → Bool) (pairs : Pairs) → ((pair : ℕ × ℕ) → p (by + pair.0, pair.1) ≡ q pair) → find_last p (shift by pairs) ≡ raised by (find_last q pairs)
last-shift by p q [] same = refl
last-shift by p q (pair ∷ pairs) same =
    (λ t. option_or (last-shift by p q pairs same t) (cond (same pair t) (Some (by + pair.0, pair.1)) None))
    ∙ ap (option_or (raised by (find_last q pairs))) (moved (q pair))
    ∙ raised-or by (find_last q pairs) (cond (q pair) (Some pair) None)
  where
    moved : (b : Bool) → cond b (Some (by + pair.0, pair.1)) None ≡ raised by (cond b (Some pair) None)
    moved true = refl
    moved false = refl

last-none : (words low top : ℕ) (p : ℕ × ℕ → Bool) (pairs : Pairs) → IsMap words low top pairs → ((pair : ℕ × ℕ) → low ≤ pair.0 → p pair ≡ false) → find_last p pairs ≡ None
last-none words low top p [] map fails = refl
last-none words low top p (pair ∷ pairs) map fails =
    let first = map.0 in
    (λ t. option_or (last-none words (pair.0 + 1) top p pairs map.3 (λ other above. fails other (omega arith)) t) (cond (fails pair first t) (Some pair) None))

last-all : (words low top : ℕ) (p : ℕ × ℕ → Bool) (pairs : Pairs) → IsMap words low top pairs → ((pair : ℕ × ℕ) → pair.0 < top → p pair ≡ true) → find_last p pairs ≡ last_pair pairs
last-all words low top p [] map passes = refl
last-all words low top p (pair ∷ []) map passes = ap (λ b. cond b (Some pair) None) (passes pair map.1)
last-all words low top p (pair ∷ (next ∷ pairs)) map passes =
    let rest = last-all words (pair.0 + 1) top p (next ∷ pairs) map.3 passes in
    let there = slice_get-get_or (next ∷ pairs) (length (next ∷ pairs) - 1) next (omega arith) in
    ap (λ found. option_or found (cond (p pair) (Some pair) None)) (rest ∙ there) ∙ sym there
    ∙ sym (at-behind (length (next ∷ pairs) - 1) (length (pair ∷ (next ∷ pairs)) - 1) (pair ∷ []) (next ∷ pairs) (omega arith))

-- Up to a key of a part: the part's answer, and else the last pair in front of it.
pub part-up_to : (words top : ℕ) (tree : Pairs) (base unit left key : ℕ) (pairs front back : Pairs) → IsPart words top tree base unit pairs front back → key ≡ base + left → left < unit
    → pair_up_to tree key ≡ option_or (raised base (pair_up_to pairs left)) (last_pair front)
part-up_to words top tree base unit left key pairs front back part sum within =
    let p : ℕ × ℕ → Bool = λ pair. is_le (word_order pair.0 key) in
    let q : ℕ × ℕ → Bool = λ pair. is_le (word_order pair.0 left) in
    let inner : find_last p (shift base pairs ++ back) ≡ raised base (pair_up_to pairs left) =
    last-append p (shift base pairs) back
    ∙ ap (λ found. option_or found (find_last p (shift base pairs))) (last-none words (base + unit) top p back part.after (λ pair above. is_le_word pair.0 key ∙ le_false pair.0 key (omega arith)))
    ∙ last-shift base p q pairs (λ pair. is_le_word (base + pair.0) key ∙ same_test (base + pair.0) key pair.0 left (λ less. omega arith) (λ less. omega arith) ∙ sym (is_le_word pair.0 left))
    ∙ ap (raised base) (sym (find-reverse q pairs)) in
    find-reverse p tree ∙ ap (find_last p) part.same ∙ last-append p front (shift base pairs ++ back)
    ∙ ap (λ found. option_or found (find_last p front)) inner
    ∙ ap (option_or (raised base (pair_up_to pairs left))) (last-all words 0 base p front part.before (λ pair below. is_le_word pair.0 key ∙ le-leb pair.0 key (omega arith)))

-- Up to a number among pairs that are moved up.
pub up_to-shift : (by key : ℕ) (pairs : Pairs) → by ≤ key → pair_up_to (shift by pairs) key ≡ raised by (pair_up_to pairs (key - by))
up_to-shift by key pairs above =
    find-reverse (λ pair. is_le (word_order pair.0 key)) (shift by pairs)
    ∙ last-shift by (λ pair. is_le (word_order pair.0 key)) (λ pair. is_le (word_order pair.0 (key - by))) pairs
    (λ pair. is_le_word (by + pair.0) key ∙ same_test (by + pair.0) key pair.0 (key - by) (λ less. omega arith) (λ less. omega arith) ∙ sym (is_le_word pair.0 (key - by)))
    ∙ ap (raised by) (sym (find-reverse (λ pair. is_le (word_order pair.0 (key - by))) pairs))

pub up_to-none : (words low top : ℕ) (pairs : Pairs) (key : ℕ) → key < low → IsMap words low top pairs → pair_up_to pairs key ≡ None
up_to-none words low top pairs key below map =
    find-reverse (λ pair. is_le (word_order pair.0 key)) pairs ∙ last-none words low top (λ pair. is_le (word_order pair.0 key)) pairs map
    (λ pair above. is_le_word pair.0 key ∙ le_false pair.0 key (omega arith))

last_below : (words low top : ℕ) (p : ℕ × ℕ → Bool) (pairs : Pairs) (key value : ℕ) → IsMap words low top pairs → find_last p pairs ≡ Some (key, value) → key < top
last_below words low top p [] key value map = λ found. cc
last_below words low top p (pair ∷ pairs) key value map =
    elim (find_last p pairs) as (λ o. (o ≡ Some (key, value) → key < top) → option_or o (cond (p pair) (Some pair) None) ≡ Some (key, value) → key < top) [
      | Some other ↦ λ rest found. rest found
      | None ↦ λ _. elim (p pair) as (λ b. cond b (Some pair) None ≡ Some (key, value) → key < top) [
        | true ↦ λ found. subst (λ (other : ℕ × ℕ). other.0 < top) (same_Some pair (key, value) found) map.1
        | false ↦ λ found. cc
      ]
    ] (last_below words (pair.0 + 1) top p pairs key value map.3)

pub up_to_below : (words low top number : ℕ) (pairs : Pairs) (key value : ℕ) → IsMap words low top pairs → pair_up_to pairs number ≡ Some (key, value) → key < top
up_to_below words low top number pairs key value map found =
    last_below words low top (λ pair. is_le (word_order pair.0 number)) pairs key value map (sym (find-reverse (λ pair. is_le (word_order pair.0 number)) pairs) ∙ found)

-- ---- the first and the last of pairs one behind the other

pub head-append : (one other : Pairs) → slice_get (one ++ other) 0 ≡ option_or (slice_get one 0) (slice_get other 0)
head-append [] other = refl
head-append (pair ∷ one) other = refl

pub last_pair-append : (one other : Pairs) → last_pair (one ++ other) ≡ option_or (last_pair other) (last_pair one)
last_pair-append one [] = ap last_pair (append-nil one)
last_pair-append one (pair ∷ other) =
    let both = length-append one (pair ∷ other) in
    let same : last_pair (one ++ (pair ∷ other)) ≡ last_pair (pair ∷ other) = at-behind (length (pair ∷ other) - 1) (length (one ++ (pair ∷ other)) - 1) one (pair ∷ other) (omega arith) in
    let there = slice_get-get_or (pair ∷ other) (length (pair ∷ other) - 1) pair (omega arith) in
    same ∙ there ∙ sym (ap (λ found. option_or found (last_pair one)) there)

-- ---- the way of a key

module _ {V : _} (words : ℕ) (tree : Pairs) (view : ViewOf V) (key left : ℕ) (down : IsDown words tree view key left) where
  -- What is nearest to the key is so at the node, or is the nearest beside the way.
  pub down_from : (found : Option (ℕ × ℕ)) → found ≡ pair_from (view_pairs view) left → option_or (raised (key - left) found) (slice_get down.back 0) ≡ pair_from tree key
  down_from found is =
      let above = down.above in
      let inside = down.inside in
      ap (λ found. option_or (raised (key - left) found) (slice_get down.back 0)) is
      ∙ sym (part-from words (256 ^ 8) tree (key - left) (256 ^ width_of view) left key (view_pairs view) down.front down.back down.part (omega arith) (omega arith))

  pub down_up_to : (found : Option (ℕ × ℕ)) → found ≡ pair_up_to (view_pairs view) left → option_or (raised (key - left) found) (last_pair down.front) ≡ pair_up_to tree key
  down_up_to found is =
      let above = down.above in
      ap (λ found. option_or (raised (key - left) found) (last_pair down.front)) is
      ∙ sym (part-up_to words (256 ^ 8) tree (key - left) (256 ^ width_of view) left key (view_pairs view) down.front down.back down.part (omega arith) down.inside)
