-- The entries of the tree of a chain, as the pairs of the chain.
use Rattle.std.proofs.Common.{◌≡◌, ℕ, true, false, cond, List, [], ◌∷◌, ◌++◌, map, Vec, Some, Less, Equal, Greater, bytes_eq, Bor, refl, sym, ap, ◌∙◌}
use Rattle.std.specs.declared.cmp.Ordering.{Ordering}
use Rattle.std.specs.Ordering.{nat_cmp, match_ordering}
use Rattle.std.specs.Cmp.Lexicographic.{slice_cmp}
use Rattle.std.specs.Map.{lookup, set_value, remove_entry}
use Rattle.std.specs.BTreeMap.{insert_entry, is_at}
use Rattle.std.proofs.lemmas.List.{map-append, append_assoc, append-nil}
use Rattle.std.proofs.lemmas.Map.Text.{is_eq-slice_cmp}
use Rattle.std.proofs.lemmas.Slice.Eq.{bytes_eq-Decides}
use Rattle.std.proofs.lemmas.Bool.{false_from_ne_true}
use Rattle.judy_hs.specs.Chains.{Pairs, value_in, with_value, with_pair, without}
use Rattle.judy_hs.specs.ChainEntries.{pairs_of}
use Rattle.judy_hs.specs.Listed.{key_bytes, entries_in}
use Rattle.judy_hs.specs.declared.entry.HsEntry.{HsEntry}

-- Bytes are the same either way round.
swapped : (xs ys : List ℕ) → bytes_eq xs ys ≡ bytes_eq ys xs
swapped xs ys = elim (bytes_eq ys xs) as (λ b. bytes_eq ys xs ≡ b → bytes_eq xs ys ≡ b) [
  | true ↦ λ e. (bytes_eq-Decides xs ys).1 (sym ((bytes_eq-Decides ys xs).0 e))
  | false ↦ λ e. false_from_ne_true (bytes_eq xs ys) (λ same. absurd (let f : true ≡ false = sym ((bytes_eq-Decides ys xs).1 (sym ((bytes_eq-Decides xs ys).0 same))) ∙ e in cc))
] refl

module _ {A : Type 0} (key : List ℕ) where
  -- A comparison of a key's bytes in the tree.
  abbrev compare : Vec ℕ A → Ordering
  compare kept = slice_cmp nat_cmp key kept.items

  -- It is a tie exactly where the pair has the key.
  same_test : (kept : Vec ℕ A) → is_at compare kept ≡ bytes_eq kept.items key
  same_test kept = is_eq-slice_cmp key kept.items ∙ swapped key kept.items

  -- A look-up in the tree is one among the pairs,
  pub lookup-pairs : (entries : List (Vec ℕ A × ℕ)) → lookup (is_at compare) entries ≡ value_in (pairs_of entries) key
  lookup-pairs [] = refl
  lookup-pairs (entry ∷ rest) = ap (λ b. cond b (Some entry.1) (lookup (is_at compare) rest)) (same_test entry.0) ∙ ap (cond (bytes_eq entry.0.items key) (Some entry.1)) (lookup-pairs rest)

  -- a value written in it is one among the pairs,
  pub written-pairs : (entries : List (Vec ℕ A × ℕ)) (value : ℕ) → pairs_of (set_value (is_at compare) entries value) ≡ with_value (pairs_of entries) key value
  written-pairs [] value = refl
  written-pairs (entry ∷ rest) value =
      ap (λ b. pairs_of (cond b ((entry.0, value) ∷ rest) (entry ∷ set_value (is_at compare) rest value))) (same_test entry.0)
      ∙ elim (bytes_eq entry.0.items key) as (λ b. pairs_of (cond b ((entry.0, value) ∷ rest) (entry ∷ set_value (is_at compare) rest value)) ≡
      cond b ((entry.0.items, value) ∷ pairs_of rest) ((entry.0.items, entry.1) ∷ with_value (pairs_of rest) key value)) [
        | true ↦ refl
        | false ↦ ap (λ (pairs : Pairs). (entry.0.items, entry.1) ∷ pairs) (written-pairs rest value)
      ]

  -- and so is a key that is taken out,
  pub without-pairs : (entries : List (Vec ℕ A × ℕ)) → pairs_of (remove_entry (is_at compare) entries) ≡ without (pairs_of entries) key
  without-pairs [] = refl
  without-pairs (entry ∷ rest) =
      ap (λ b. pairs_of (cond b rest (entry ∷ remove_entry (is_at compare) rest))) (same_test entry.0)
      ∙ elim (bytes_eq entry.0.items key) as (λ b. pairs_of (cond b rest (entry ∷ remove_entry (is_at compare) rest)) ≡
      cond b (pairs_of rest) ((entry.0.items, entry.1) ∷ without (pairs_of rest) key)) [
        | true ↦ refl
        | false ↦ ap (λ (pairs : Pairs). (entry.0.items, entry.1) ∷ pairs) (without-pairs rest)
      ]

-- or put in.
pub put-pairs : {A : Type 0} (entries : List (Vec ℕ A × ℕ)) (kept : Vec ℕ A) (value : ℕ) → pairs_of (insert_entry (λ one other. slice_cmp nat_cmp one.items other.items) entries kept value) ≡
    with_pair (pairs_of entries) kept.items value
put-pairs [] kept value = refl
put-pairs (entry ∷ rest) kept value =
    elim (slice_cmp nat_cmp kept.items entry.0.items) as (λ r. pairs_of (match_ordering r ((kept, value) ∷ entry ∷ rest) ((entry.0, value) ∷ rest)
    (entry ∷ insert_entry (λ one other. slice_cmp nat_cmp one.items other.items) rest kept value))
    ≡ match_ordering r ((kept.items, value) ∷ (entry.0.items, entry.1) ∷ pairs_of rest) ((entry.0.items, value) ∷ pairs_of rest)
    ((entry.0.items, entry.1) ∷ with_pair (pairs_of rest) kept.items value)) [
      | Less ↦ refl
      | Equal ↦ refl
      | Greater ↦ ap (λ (pairs : Pairs). (entry.0.items, entry.1) ∷ pairs) (put-pairs rest kept value)
    ]

-- ---- a walk through the entries

-- The entries that came.
abbrev pub shown : {A : Type 0} → List (Bor (Vec ℕ A) × Bor ℕ) → Pairs
shown came = map (λ entry. (entry.0.now.items, entry.1.now)) came

module _ {A : Type 0} (came : List (Bor (Vec ℕ A) × Bor ℕ)) (key : Bor (Vec ℕ A)) (value : Bor ℕ) where
  -- One more came.
  pub shown-more : shown (came ++ (key, value) ∷ []) ≡ shown came ++ (key.now.items, value.now) ∷ []
  shown-more = map-append (λ (entry : Bor (Vec ℕ A) × Bor ℕ). (entry.0.now.items, entry.1.now)) came ((key, value) ∷ [])

  -- What came and what is left stay all.
  pub shown-on : (all : Pairs) (left rest : List (Vec ℕ A × ℕ)) → all ≡ shown came ++ pairs_of left → left ≡ (key.now, value.now) ∷ rest → all ≡ shown (came ++ (key, value) ∷ []) ++ pairs_of rest
  shown-on all left rest is steps =
      is ∙ ap (λ (l : List (Vec ℕ A × ℕ)). shown came ++ pairs_of l) steps ∙ sym (append_assoc (shown came) ((key.now.items, value.now) ∷ []) (pairs_of rest))
      ∙ ap (λ (pairs : Pairs). pairs ++ pairs_of rest) (sym shown-more)

  -- What is listed goes on with the entry that came.
  pub listed-more : (before now after : List HsEntry) (new : HsEntry) → entries_in now ≡ entries_in before ++ shown came → after ≡ now ++ new ∷ [] →
      ◌≡◌ {A = List ℕ × ℕ} (key_bytes new.key, new.value) (key.now.items, value.now)
      → entries_in after ≡ entries_in before ++ shown (came ++ (key, value) ∷ [])
  listed-more before now after new is pushed same =
      ap entries_in pushed ∙ map-append (λ (e : HsEntry). (key_bytes e.key, e.value)) now (new ∷ [])
      ∙ ap (λ (p : List ℕ × ℕ). entries_in now ++ p ∷ []) same
      ∙ ap (λ (pairs : Pairs). pairs ++ (key.now.items, value.now) ∷ []) is
      ∙ append_assoc (entries_in before) (shown came) ((key.now.items, value.now) ∷ [])
      ∙ ap (λ (pairs : Pairs). entries_in before ++ pairs) (sym shown-more)

-- None is left, so all came.
pub shown-all : {A : Type 0} (came : List (Bor (Vec ℕ A) × Bor ℕ)) (all : Pairs) (left : List (Vec ℕ A × ℕ)) → all ≡ shown came ++ pairs_of left → left ≡ [] → all ≡ shown came
shown-all {A} came all left is none = is ∙ ap (λ (l : List (Vec ℕ A × ℕ)). shown came ++ pairs_of l) none ∙ append-nil (shown came)
