-- A range of keys that is taken out key by key: from some bytes on, as long as an end reaches.
use Rattle.std.proofs.Common.{◌≡◌, ℕ, ◌+◌, ◌<◌, ◌≤◌, not, ◌&&◌, ◌==◌, ◌≢◌, Bool, true, false, cond, List, [], ◌∷◌, ◌++◌, length, take, drop, Option, Some, None, is_some, All}
use Rattle.std.proofs.Common.{refl, sym, ap, ◌∙◌, subst, arith, true≢false, Ordering, Less, Equal, Greater, is_le}
use Rattle.std.specs.Bool.{Decides}
use Rattle.std.proofs.Math.Dec.{leb}
use Rattle.std.proofs.lemmas.Bool.{leb-true, eq-eqb, eqb-true}
use Rattle.std.proofs.Math.Seq.{take-append_seam}
use Rattle.std.proofs.lemmas.List.{length-append, take-append-drop}
use Rattle.std.proofs.lemmas.List.Elements.{All-nil, All-cons, All-head, All-tail}
use Rattle.std.specs.Ordering.{nat_cmp, ordering_then, is_ge}
use Rattle.std.specs.Cmp.{nat_cmp_total, tied_itself}
use Rattle.std.specs.Cmp.Lexicographic.{slice_cmp}
use Rattle.std.specs.FinMap.{get, len, contains_key, remove, get-empty}
use Rattle.judy_model.specs.Keys.{byte_order}
use Rattle.judy_model.specs.KeyLengths.{IsStringKeyTo}
use Rattle.judy_model.specs.Counts.{count}
use Rattle.judy_model.specs.Nearest.{IsLeast}
use Rattle.judy_model.specs.Neighbours.{first}
use Rattle.judy_model.specs.Ranges.{within, outside}
use Rattle.judy_model.specs.Prefixes.{begins_with, beginning_with, without_prefix}
use Rattle.judy_model.proofs.lemmas.maps.TableLemmas.{byte_order_total, byte_order_same}
use Rattle.judy_model.proofs.lemmas.maps.Tests.{both_true, first_true, second_true}
use Rattle.judy_model.proofs.lemmas.orders.Orders.{ge_is_le, le_lt_trans}
use Rattle.judy_model.proofs.lemmas.orders.WordOrder.{le_from_word}
use Rattle.judy_laws.proofs.lemmas.Parts.{len-halves}
use Rattle.judy_laws.proofs.lemmas.Joins.{within_counts}
use Rattle.judy_laws.proofs.lemmas.PrefixLemmas.{begins_with_a_front}
use Rattle.judy_string_sets.specs.declared.ranges.End.TheVariants.{Last, Prefix}
use Rattle.judy_string_sets.specs.Ends.{reaches, part, others, IsFront}
use Rattle.judy_string_sets.specs.Walks.{Strings, IsTaken}
use Rattle.judy_string_sets.proofs.PartFacts.{same_strings, get-part, taken_part, taken_passed, taken_fewer, none_len}
use Rattle.judy_string_sets.proofs.WalkFacts.{alike, on_side, first_least}

-- ---- what begins a key

pub front_begins : (prefix key : List ℕ) (same : Bool) → Decides same (take (length prefix) key ≡ prefix) → same ≡ begins_with prefix key
front_begins prefix key same decides = alike same (begins_with prefix key)
    (λ e. (begins_with_a_front prefix key).1 (drop (length prefix) key, sym (take-append-drop (length prefix) key) ∙ ap (λ (front : List ℕ). front ++ drop (length prefix) key) (decides.0 e)))
    (λ begins. let front = (begins_with_a_front prefix key).0 begins in decides.1 (ap (take (length prefix)) front.1 ∙ take-append_seam prefix front.0))

pub too_short : (prefix key : List ℕ) → length key < length prefix → leb (length prefix) (length key) ≡ begins_with prefix key
too_short prefix key short = alike (leb (length prefix) (length key)) (begins_with prefix key)
    (λ e. let long = leb-true (length prefix) (length key) e in absurd (omega (arith, long, short)))
    (λ begins.
    let front = (begins_with_a_front prefix key).0 begins in
    let long = ap length front.1 ∙ length-append prefix front.0 in
    absurd (omega (arith, long, short)))

all_front : (P : ℕ → Type 0) (front rest : List ℕ) → All P (front ++ rest) → All P front
all_front P [] rest all = All-nil P
all_front P (byte ∷ front) rest all = All-cons P byte front (All-head P byte (front ++ rest) all) (all_front P front rest (All-tail P byte (front ++ rest) all))

-- What begins a key is one.
front_is_key : (longest : ℕ) (prefix rest : List ℕ) → IsStringKeyTo longest (prefix ++ rest) → IsStringKeyTo longest prefix
front_is_key longest prefix rest key =
    let long = length-append prefix rest in
    let within = key.is_bytes_key.within_limit in
    record {
      is_bytes_key = record { is_byte_string = all_front (λ byte. byte < 256) prefix rest key.is_bytes_key.is_byte_string; within_limit = omega (arith, long, within) };
      without_zero = all_front (λ byte. byte ≢ 0) prefix rest key.without_zero;
    }

-- It isn't above it.
front_le : (prefix rest : List ℕ) → is_le (byte_order prefix (prefix ++ rest)) ≡ true
front_le [] [] = refl
front_le [] (byte ∷ rest) = refl
front_le (byte ∷ prefix) rest = ap (λ answer. is_le (ordering_then answer (slice_cmp nat_cmp prefix (prefix ++ rest)))) (tied_itself nat_cmp_total byte) ∙ front_le prefix rest

begins_le : (prefix key : List ℕ) → begins_with prefix key ≡ true → is_le (byte_order prefix key) ≡ true
begins_le prefix key begins = let front = (begins_with_a_front prefix key).0 begins in subst (λ (bytes : List ℕ). is_le (byte_order prefix bytes) ≡ true) (sym front.1) (front_le prefix front.0)

-- ---- the ends

le_by : (x y z : List ℕ) (answer : Ordering) → byte_order y z ≡ answer → is_le answer ≡ true → is_le (byte_order x y) ≡ true → is_le (byte_order x z) ≡ true
le_by x y z Less is less first = ap is_le (le_lt_trans byte_order_total x y z first is)
le_by x y z Equal is less first = subst (λ (w : List ℕ). is_le (byte_order x w) ≡ true) (byte_order_same y z is) first
le_by x y z Greater is less first = absurd (true≢false (sym less))

pub le_trans : (x y z : List ℕ) → is_le (byte_order x y) ≡ true → is_le (byte_order y z) ≡ true → is_le (byte_order x z) ≡ true
le_trans x y z first second = le_by x y z (byte_order y z) refl second first

pub up_to_last : (from to : List ℕ) → IsFront from (reaches Last to)
up_to_last from to low high above order within = le_trans low high to order within

then_first : (answer later : Ordering) → is_le (ordering_then answer later) ≡ true → is_le answer ≡ true
then_first Less later less = refl
then_first Equal later less = refl
then_first Greater later less = absurd (true≢false (sym less))

then_later : (answer later : Ordering) → answer ≡ Equal → is_le (ordering_then answer later) ≡ true → is_le later ≡ true
then_later answer later tied less = sym (ap (λ (first : Ordering). is_le (ordering_then first later)) tied) ∙ less

tie_of : (one other : ℕ) → one ≡ other → nat_cmp one other ≡ Equal
tie_of one other same = ap (λ n. nat_cmp n other) same ∙ tied_itself nat_cmp_total other

-- Between a prefix and what it begins all begins with it.
between : (prefix low high : List ℕ) → is_le (byte_order prefix low) ≡ true → is_le (byte_order low high) ≡ true → begins_with prefix high ≡ true → begins_with prefix low ≡ true
unfolding begins_with
between [] low high above order begins = refl
between (byte ∷ prefix) [] high above order begins = absurd (true≢false (sym above))
between (byte ∷ prefix) (first ∷ low) [] above order begins = absurd (true≢false (sym begins))
between (byte ∷ prefix) (first ∷ low) (last ∷ high) above order begins =
    let same = eqb-true byte last (first_true (byte == last) (begins_with prefix high) begins) in
    let under = le_from_word byte first (then_first (nat_cmp byte first) (slice_cmp nat_cmp prefix low) above) in
    let over = le_from_word first last (then_first (nat_cmp first last) (slice_cmp nat_cmp low high) order) in
    let left : byte ≡ first = omega (arith, same, under, over) in
    let right : first ≡ last = omega (arith, same, under, over) in
    both_true (byte == first) (begins_with prefix low) (eq-eqb byte first left)
    (between prefix low high
    (then_later (nat_cmp byte first) (slice_cmp nat_cmp prefix low) (tie_of byte first left) above)
    (then_later (nat_cmp first last) (slice_cmp nat_cmp low high) (tie_of first last right) order)
    (second_true (byte == last) (begins_with prefix high) begins))

pub by_prefix : (prefix : List ℕ) → IsFront prefix (reaches Prefix prefix)
by_prefix prefix low high above order within = between prefix low high above order within

-- ---- the loop that takes keys out

some_of : (found : Option ℕ) → is_some found ≡ true → (value : ℕ) × (found ≡ Some value)
some_of None some = absurd (true≢false (sym some))
some_of (Some value) some = (value, refl)

no_test : (b : Bool) → (b ≡ true → ⊥) → b ≡ false
no_test true never = absurd (never refl)
no_test false never = refl

module _ (m : Strings) (from : List ℕ) (within : List ℕ → Bool) where
  abbrev pub NoneInside : Type 0
  NoneInside = (key : List ℕ) → contains_key m key ≡ true → (is_le (byte_order from key) && within key) ≡ false

  pub none_first : first m from ≡ None → NoneInside
  none_first is key held = no_test _ (λ both.
      let none = subst (IsLeast byte_order (λ other. contains_key m other && on_side false from other)) is (first_least m from) key in
      let above = ge_is_le byte_order_total key from ∙ first_true (is_le (byte_order from key)) (within key) both in
      true≢false (sym (both_true (contains_key m key) (is_ge (byte_order key from)) held above) ∙ none))

  module _ (least : List ℕ) (is : first m from ≡ Some least) where
    by_least : IsLeast byte_order (λ other. contains_key m other && on_side false from other) (Some least)
    by_least = subst (IsLeast byte_order (λ other. contains_key m other && on_side false from other)) is (first_least m from)

    above_from : is_le (byte_order from least) ≡ true
    above_from = sym (ge_is_le byte_order_total least from) ∙ second_true (contains_key m least) (is_ge (byte_order least from)) by_least.0

    pub past_first : IsFront from within → within least ≡ false → NoneInside
    past_first front out key held = no_test _ (λ both.
        let from_key = first_true (is_le (byte_order from key)) (within key) both in
        let order = by_least.1 key (both_true (contains_key m key) (is_ge (byte_order key from)) held (ge_is_le byte_order_total key from ∙ from_key)) in
        true≢false (sym (front least key above_from order (second_true (is_le (byte_order from key)) (within key) both)) ∙ out))

    pub is_taken : (value : ℕ) × IsTaken m least value (remove m least)
    is_taken =
        let held = some_of (get m least) (first_true (contains_key m least) (is_ge (byte_order least from)) by_least.0) in
        (held.0, record { held = held.1; left = refl })

    module _ (in_it : within least ≡ true) where
      inside_is : (is_le (byte_order from least) && within least) ≡ true
      inside_is = both_true (is_le (byte_order from least)) (within least) above_from in_it

      pub others_stay : others (remove m least) from within ≡ others m from within
      others_stay = taken_passed m least is_taken.0 (remove m least) is_taken.1 (λ key. not (is_le (byte_order from key) && within key)) (ap not inside_is)

      pub part_fewer : len (part (remove m least) from within) + 1 ≡ len (part m from within)
      part_fewer = taken_fewer (part m from within) least is_taken.0 (part (remove m least) from within)
          (taken_part m least is_taken.0 (remove m least) is_taken.1 (λ key. is_le (byte_order from key) && within key) inside_is)

      pub all_fewer : len (remove m least) < len m
      all_fewer = let fewer = taken_fewer m least is_taken.0 (remove m least) is_taken.1 in omega (arith, fewer)

  kept_at : (b : Bool) (held : Option ℕ) → (is_some held ≡ true → b ≡ false) → cond (not b) held None ≡ held
  kept_at true None none = refl
  kept_at false held none = refl
  kept_at true (Some v) none = absurd (true≢false (none refl))

  lost_at : (b : Bool) (held : Option ℕ) → (is_some held ≡ true → b ≡ false) → cond b held None ≡ None
  lost_at true None none = refl
  lost_at false held none = refl
  lost_at true (Some v) none = absurd (true≢false (none refl))

  pub others_all : NoneInside → others m from within ≡ m
  others_all none = same_strings _ _ (λ key.
      get-part m (λ other. not (is_le (byte_order from other) && within other)) key ∙ kept_at (is_le (byte_order from key) && within key) (get m key) (none key))

  pub part_none : NoneInside → len (part m from within) ≡ 0
  part_none none = none_len (part m from within) (same_strings _ _ (λ key.
      get-part m (λ other. is_le (byte_order from other) && within other) key ∙ lost_at (is_le (byte_order from key) && within key) (get m key) (none key)
      ∙ sym (get-empty byte_order key)))

  pub part_most : len (part m from within) ≤ len m
  part_most = let all = len-halves byte_order_total byte_order_same m (λ key. is_le (byte_order from key) && within key) in omega (arith, all)

-- ---- the named ranges

pub count_range : (m : Strings) (from to : List ℕ) → len (part m from (reaches Last to)) ≡ count m from to
unfolding within
count_range m from to = within_counts byte_order_total byte_order_same m from to

pub outside_range : (m : Strings) (from to : List ℕ) → others m from (reaches Last to) ≡ outside m from to
unfolding outside
outside_range m from to = refl

prefix_test : (prefix key : List ℕ) → (is_le (byte_order prefix key) && begins_with prefix key) ≡ begins_with prefix key
prefix_test prefix key = alike _ _
    (second_true (is_le (byte_order prefix key)) (begins_with prefix key))
    (λ begins. both_true (is_le (byte_order prefix key)) (begins_with prefix key) (begins_le prefix key begins) begins)

pub part_prefix : (m : Strings) (prefix : List ℕ) → part m prefix (reaches Prefix prefix) ≡ beginning_with m prefix
unfolding beginning_with
part_prefix m prefix = same_strings _ _ (λ key.
    get-part m (λ other. is_le (byte_order prefix other) && begins_with prefix other) key ∙ ap (λ b. cond b (get m key) None) (prefix_test prefix key)
    ∙ sym (get-part m (begins_with prefix) key))

pub others_prefix : (m : Strings) (prefix : List ℕ) → others m prefix (reaches Prefix prefix) ≡ without_prefix m prefix
unfolding without_prefix
others_prefix m prefix = same_strings _ _ (λ key.
    get-part m (λ other. not (is_le (byte_order prefix other) && begins_with prefix other)) key ∙ ap (λ b. cond (not b) (get m key) None) (prefix_test prefix key)
    ∙ sym (get-part m (λ other. not (begins_with prefix other)) key))

-- ---- bytes that are no key begin none

module _ (longest : ℕ) (m : Strings) (keys : (key : List ℕ) (value : ℕ) → get m key ≡ Some value → IsStringKeyTo longest key) (prefix : List ℕ) (bad : IsStringKeyTo longest prefix → ⊥) where
  none_begins : (key : List ℕ) → contains_key m key ≡ true → (is_le (byte_order prefix key) && begins_with prefix key) ≡ false
  none_begins key held = no_test _ (λ both.
      let front = (begins_with_a_front prefix key).0 (second_true (is_le (byte_order prefix key)) (begins_with prefix key) both) in
      let some = some_of (get m key) held in
      bad (front_is_key longest prefix front.0 (subst (IsStringKeyTo longest) front.1 (keys key some.0 some.1))))

  pub no_prefix_count : len (beginning_with m prefix) ≡ 0
  no_prefix_count = sym (ap len (part_prefix m prefix)) ∙ part_none m prefix (reaches Prefix prefix) none_begins

  pub no_prefix_left : without_prefix m prefix ≡ m
  no_prefix_left = sym (others_prefix m prefix) ∙ others_all m prefix (reaches Prefix prefix) none_begins
