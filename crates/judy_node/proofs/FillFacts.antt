-- The pairs of a branch, child by child.
use Rattle.std.proofs.Common.{◌≡◌, ℕ, zero, suc, ◌+◌, ◌*◌, ◌^◌, ◌<◌, ◌≤◌, List, [], ◌∷◌, ◌++◌, length, take, get_or, Option, Some, slice_get, sym, refl, ap, ◌∙◌, subst, arith}
use Rattle.std.proofs.Math.Nat.{add-mul, pow-le-pow_right}
use Rattle.std.proofs.lemmas.Nat.{mul-le, pow-add}
use Rattle.std.proofs.lemmas.List.{append_assoc}
use Rattle.std.proofs.lemmas.Option.{same_Some, slice_get-get_or}
use Rattle.judy_model.specs.WordBytes.{number_of}
use Rattle.judy_model.proofs.lemmas.orders.ByteLemmas.{number_of-lt, unit_pos}
use Rattle.judy_bits.specs.ByteSets.{rank, next_from}
use Rattle.judy_bits.proofs.SetLemmas.{next_from-rank}
use Rattle.judy_leaf.specs.KeyLists.{shift}
use Rattle.judy_leaf.proofs.NextKeys.{rank_behind}
use Rattle.judy_node.specs.Trees.{Pairs, Tree, join, IsChild, AreChildren, IsBranch}
use Rattle.judy_node.specs.Populations.{population}
use Rattle.judy_node.proofs.Maps.{children-length}
use Rattle.judy_node.proofs.StepFacts.{children-IsByteSet}
use Rattle.judy_node.proofs.Counts.{population-within, branch_population}

child_at : (words width low : ℕ) (bytes : List ℕ) (kids : List Tree) (at : ℕ) (kid : Tree) → AreChildren words width low bytes kids → at < length kids →
    kid ≡ get_or kids at kid → (get_or bytes at 0 < 256) × IsChild words width kid
child_at words width low [] [] at kid are inside is = let never : ⊥ = omega arith in absurd never
child_at words width low [] (k ∷ kids) at kid are inside is = absurd are
child_at words width low (byte ∷ bytes) [] at kid are inside is = absurd are
child_at words width low (byte ∷ bytes) (k ∷ kids) zero kid are inside is = (are.1, subst (IsChild words width) (sym is) are.2)
child_at words width low (byte ∷ bytes) (k ∷ kids) (suc at) kid are inside is = child_at words width (byte + 1) bytes kids at kid are.3 (omega arith) is

-- One child's byte is below another's, and so not the greatest.
byte_before : (words width low : ℕ) (bytes : List ℕ) (kids : List Tree) (at : ℕ) → AreChildren words width low bytes kids → suc at < length kids → get_or bytes at 0 < 255
byte_before words width low [] [] at are more = let never : ⊥ = omega arith in absurd never
byte_before words width low [] (k ∷ kids) at are more = absurd are
byte_before words width low (byte ∷ bytes) [] at are more = absurd are
byte_before words width low (byte ∷ []) (k ∷ []) zero are more = let never : ⊥ = omega arith in absurd never
byte_before words width low (byte ∷ []) (k ∷ l ∷ kids) zero are more = absurd are.3
byte_before words width low (byte ∷ next ∷ bytes) (k ∷ []) zero are more = absurd are.3
byte_before words width low (byte ∷ next ∷ bytes) (k ∷ l ∷ kids) zero are more = omega (arith, are.3.0, are.3.1)
byte_before words width low (byte ∷ bytes) (k ∷ kids) (suc at) are more = byte_before words width (byte + 1) bytes kids at are.3 (omega arith)

join_more : (words width low unit block : ℕ) (bytes : List ℕ) (kids : List Tree) (at : ℕ) (kid : Tree) → AreChildren words width low bytes kids → at < length kids → kid ≡ get_or kids at kid
    → join unit block (take (suc at) bytes) (take (suc at) kids) ≡ join unit block (take at bytes) (take at kids) ++ shift ((block + get_or bytes at 0) * unit) kid.pairs
join_more words width low unit block [] [] at kid are inside is = let never : ⊥ = omega arith in absurd never
join_more words width low unit block [] (k ∷ kids) at kid are inside is = absurd are
join_more words width low unit block (byte ∷ bytes) [] at kid are inside is = absurd are
join_more words width low unit block (byte ∷ bytes) (k ∷ kids) zero kid are inside is =
    append-nil (shift ((block + byte) * unit) k.pairs) ∙ ap (λ one. shift ((block + byte) * unit) one.pairs) (sym is)
  where
    append-nil : (xs : Pairs) → xs ++ [] ≡ xs
    append-nil [] = refl
    append-nil (x ∷ xs) = ap (λ rest. x ∷ rest) (append-nil xs)
join_more words width low unit block (byte ∷ bytes) (k ∷ kids) (suc at) kid are inside is =
    ap (λ rest. shift ((block + byte) * unit) k.pairs ++ rest) (join_more words width (byte + 1) unit block bytes kids at kid are.3 (omega arith) is)
    ∙ sym (append_assoc (shift ((block + byte) * unit) k.pairs) (join unit block (take at bytes) (take at kids)) (shift ((block + get_or bytes at 0) * unit) kid.pairs))

-- A byte behind the skipped ones.
byte_step : (front byte blocks : ℕ) → front < blocks → byte < 256 → front * 256 + byte < blocks * 256 ^ 1
byte_step front byte blocks less below = omega arith

block_below : (skipped : List ℕ) (byte : ℕ) → number_of skipped < 256 ^ length skipped → byte < 256 → number_of skipped * 256 + byte < 256 ^ (length skipped + 1)
block_below skipped byte front below =
    subst (λ n. number_of skipped * 256 + byte < n) (sym (pow-add 256 (length skipped) 1)) (byte_step (number_of skipped) byte (256 ^ length skipped) front below)

-- A word that leaves room for more is one itself.
pub word_below : (base start width : ℕ) → base + start + 256 ^ width ≤ 2 ^ 64 → start < 2 ^ 64
word_below base start width fits = let some = unit_pos width in omega arith

-- The pairs of a branch are as many as it says.
pub branch_long : (words width : ℕ) (skipped bytes : List ℕ) (kids : List Tree) (count : ℕ) → IsBranch words width skipped bytes kids count → population kids ≡ count
branch_long words width skipped bytes kids count is = sym (branch_population words width skipped bytes kids count is)

-- The child at a place of a branch, and its byte.
pub record IsKid (words width : ℕ) (skipped bytes : List ℕ) (kids : List Tree) (count at : ℕ) (kid : Tree) (byte : ℕ) : Type 0 where
  pub level : IsBranch words width skipped bytes kids count
  pub inside : at < length kids
  pub there : kid ≡ get_or kids at kid
  pub told : Some byte ≡ slice_get bytes at

-- A search from behind the bytes of the children so far finds the next one's.
pub next_told : {words width : ℕ} {skipped bytes : List ℕ} {kids : List Tree} {count at : ℕ} {found : Option ℕ} (from : ℕ)
    → IsBranch words width skipped bytes kids count → rank bytes from ≡ at → found ≡ next_from bytes from → found ≡ slice_get bytes at
next_told {words} {width} {bytes = bytes} {kids = kids} from level behind found =
    found ∙ next_from-rank bytes (children-IsByteSet words width 0 bytes kids level.parts.children).ascending from ∙ ap (slice_get bytes) behind

-- It as it is read: the children are lent, and a search tells the byte.
pub kid_here : {words width : ℕ} {skipped bytes : List ℕ} {kids lent : List Tree} {count at : ℕ} {kid : Tree} {byte : ℕ} {found : Option ℕ} (from : ℕ)
    → IsBranch words width skipped bytes kids count → lent ≡ kids → at < length lent → kid ≡ get_or lent at kid → (at < length lent → rank bytes from ≡ at) → found ≡ Some byte
    → found ≡ next_from bytes from → IsKid words width skipped bytes lent count at kid byte
kid_here {words} {width} {skipped} {bytes} {count = count} from level same inside there behind is found =
    record { level = subst (λ ks. IsBranch words width skipped bytes ks count) (sym same) level; inside = inside; there = there; told = sym is ∙ next_told from level (behind inside) found }

module _ {words width : ℕ} {skipped bytes : List ℕ} {kids : List Tree} {count at : ℕ} {kid : Tree} {byte : ℕ} (here : IsKid words width skipped bytes kids count at kid byte) where
  byte_is : byte ≡ get_or bytes at 0
  byte_is =
      let long = children-length words width 0 bytes kids here.level.parts.children in
      same_Some byte (get_or bytes at 0) (here.told ∙ slice_get-get_or bytes at 0 (omega arith))

  pub kid_is : IsChild words width kid
  kid_is = (child_at words width 0 bytes kids at kid here.level.parts.children here.inside here.there).1

  pub start_fits : (number_of skipped * 256 + byte) * 256 ^ width + 256 ^ width ≤ 256 ^ (length skipped + 1 + width)
  start_fits =
      let below : byte < 256 = subst (λ b. b < 256) (sym byte_is) (child_at words width 0 bytes kids at kid here.level.parts.children here.inside here.there).0 in
      let block = number_of skipped * 256 + byte in
      let less = block_below skipped byte (number_of-lt skipped here.level.parts.skipped_bytes) below in
      let top : suc block * 256 ^ width ≤ 256 ^ (length skipped + 1) * 256 ^ width = mul-le (suc block) (256 ^ width) (256 ^ (length skipped + 1)) (256 ^ width) less (omega arith) in
      let whole = pow-add 256 (length skipped + 1) width in
      let step : suc block * 256 ^ width ≡ block * 256 ^ width + 256 ^ width = ap (λ n. n * 256 ^ width) (let e : suc block ≡ block + 1 = omega arith in e) ∙
      add-mul block 1 (256 ^ width) ∙ (let e : block * 256 ^ width + 1 * 256 ^ width ≡ block * 256 ^ width + 256 ^ width = omega arith in e) in
      omega arith

  -- The next child's byte is sought from behind this one's.
  pub next_behind : (from : ℕ) → (byte < 255 → from ≡ byte + 1) → at + 1 < length kids → rank bytes from ≡ at + 1
  next_behind from behind more =
      let less = byte_before words width 0 bytes kids at here.level.parts.children (omega arith) in
      let same = byte_is in
      let set = children-IsByteSet words width 0 bytes kids here.level.parts.children in
      ap (rank bytes) (behind (omega arith)) ∙ rank_behind bytes at byte set.ascending (sym here.told)

  pub kids_within : population (take at kids) + length kid.pairs ≤ count
  kids_within = let all = branch_population words width skipped bytes kids count here.level in let most = population-within kids at kid here.inside here.there in omega arith

  pub next_pairs : (n : ℕ) → n ≡ at + 1 → join (256 ^ width) (number_of skipped * 256) (take at bytes) (take at kids) ++ shift ((number_of skipped * 256 + byte) * 256 ^ width) kid.pairs
      ≡ join (256 ^ width) (number_of skipped * 256) (take n bytes) (take n kids)
  next_pairs n e =
      ap (λ b. join (256 ^ width) (number_of skipped * 256) (take at bytes) (take at kids) ++ shift ((number_of skipped * 256 + b) * 256 ^ width) kid.pairs) byte_is
      ∙ sym (join_more words width 0 (256 ^ width) (number_of skipped * 256) bytes kids at kid here.level.parts.children here.inside here.there)
      ∙ ap (λ m. join (256 ^ width) (number_of skipped * 256) (take m bytes) (take m kids)) (let f : suc at ≡ n = omega arith in f)

  pub front_fits : length skipped + 1 + width ≤ 8 → number_of skipped * 256 + byte < 2 ^ 64
  front_fits room =
      let below : byte < 256 = subst (λ b. b < 256) (sym byte_is) (child_at words width 0 bytes kids at kid here.level.parts.children here.inside here.there).0 in
      let some = here.level.parts.some_width in
      let front = number_of-lt skipped here.level.parts.skipped_bytes in
      let short : length skipped ≤ 6 = omega arith in
      let most : 256 ^ length skipped ≤ 256 ^ 6 = pow-le-pow_right {n = 256} (omega arith) short in
      omega arith

  -- The start of a child's keys and all of them are words above a base that leaves room for the node's.
  pub start_word : (base : ℕ) → base + 256 ^ (length skipped + 1 + width) ≤ 2 ^ 64 → base + (number_of skipped * 256 + byte) * 256 ^ width + 256 ^ width ≤ 2 ^ 64
  start_word base fits = let start = start_fits in omega arith
