-- The rooms of a branch.
use Rattle.std.proofs.Common.{◌≡◌, ◌≢◌, ℕ, zero, suc, ◌+◌, ◌-◌, ◌*◌, ◌/◌, ◌<◌, ◌≤◌, ◌^◌, true, false, List, [], length, get_or, slice_get, Some, refl, sym, ap, ◌∙◌, subst, arith}
use Rattle.std.proofs.Common.{nat_lt, lt-ltb, is_lt, ⊎_elim, Bool, ◌==◌, true≢false, eq-eqb, eqb-true}
use Rattle.std.proofs.lemmas.Nat.{mul-le}
use Rattle.std.proofs.lemmas.Bool.{cases_lt, false_from_ne_true}
use Rattle.std.proofs.lemmas.Bool.Decides.{nat_tests}
use Rattle.std.proofs.lemmas.Option.{slice_get-get_or, slice_get_within, same_Some}
use Rattle.std.specs.List.Sorted.{IsStrictlySortedBy}
use Rattle.judy_model.specs.Keys.{word_order}
use Rattle.judy_model.specs.WordBytes.{number_of}
use Rattle.judy_model.proofs.lemmas.orders.ByteLemmas.{number_of-lt, unit_pos}
use Rattle.judy_model.proofs.lemmas.maps.Ascending.{all_from_among, place_among}
use Rattle.judy_model.proofs.lemmas.queries.Places.{length-filter-mono, filter_none}
use Rattle.judy_model.proofs.lemmas.orders.WordOrder.{lt_word, lt_from_word}
use Rattle.judy_bits.specs.ByteSets.{has, rank}
use Rattle.judy_bits.proofs.SetLemmas.{has_at, rank_at, slice_get-rank, filter_all, not_below}
use Rattle.judy_leaf.specs.KeyLists.{keys_of, shift}
use Rattle.judy_leaf.proofs.Nearest.{up_to-rank, up_to-member, absent_at}
use Rattle.judy_leaf.proofs.LeafLists.{rank_within}
use Rattle.judy_node.specs.Trees.{Pairs, Tree, IsChild, IsBranch, branch_pairs}
use Rattle.judy_node.specs.Steps.{IsStep}
use Rattle.judy_node.specs.declared.step.Step.{Step}
use Rattle.judy_node.specs.declared.step.Step.TheVariants.{Missing, Below, Above}
use Rattle.judy_node.proofs.Maps.{children-length, map-length}
use Rattle.judy_node.proofs.StepFacts.{children-IsByteSet, rank_zero}
use Rattle.judy_query.specs.Parts.{IsBeside}
use Rattle.judy_query.specs.Rooms.{IsRun, IsWindow, HasRoom}
use Rattle.judy_query.proofs.Splits.{split-at, next_unit, units}
use Rattle.judy_query.proofs.Downs.{spread, blocks_within, child_part, gap_part}
use Rattle.judy_query.proofs.Runs.{window-part, window-window, window-shift, run-window, run-full}

-- ---- places

rank-mono : (xs : List ℕ) (less more : ℕ) → less ≤ more → rank xs less ≤ rank xs more
rank-mono xs less more below =
    length-filter-mono (λ x. is_lt (word_order x less)) (λ x. is_lt (word_order x more)) (λ x before. let small = lt_from_word x less before in lt_word x more (omega arith)) xs

module _ (xs : List ℕ) (ascending : IsStrictlySortedBy word_order xs) (byte at : ℕ) (ranked : rank xs byte ≡ at) where
  -- What stands at the rank of a byte isn't below it.
  pub stands_from : (other : ℕ) → slice_get xs at ≡ Some other → byte ≤ other
  stands_from other there = ⊎_elim
      (λ (less : other < byte).
      let here = rank_at xs ascending at other there in
      let one = sym (up_to-rank xs other) ∙ up_to-member xs ascending other (has_at xs ascending at other there) in
      let most = rank-mono xs (other + 1) byte (omega arith) in
      let never : ⊥ = omega arith in absurd never)
      (λ done. done)
      (cases_lt other byte)

  -- Where another byte stands there, the byte is no member.
  pub missing_there : (other : ℕ) → slice_get xs at ≡ Some other → other ≢ byte → has xs byte ≡ false
  missing_there other there apart = absent_at xs ascending byte at (sym ranked) (λ within same. apart (same_Some other byte (sym there ∙ slice_get-get_or xs at 0 within ∙ ap Some same)))

  -- Nor is it where none stands there.
  pub missing_end : length xs ≤ at → has xs byte ≡ false
  missing_end past = absent_at xs ascending byte at (sym ranked) (λ within same. let never : ⊥ = omega arith in absurd never)

  -- One more is below the next byte where the byte stands there.
  pub rank_next : slice_get xs at ≡ Some byte → rank xs (byte + 1) ≡ at + 1
  rank_next there = sym (up_to-rank xs byte) ∙ up_to-member xs ascending byte (has_at xs ascending at byte there) ∙ ap (λ n. n + 1) ranked

-- Where one more is below the byte after it, another byte stands there than the byte, and so the byte is no member.
pub missing_before : (xs : List ℕ) (byte at other : ℕ) → IsStrictlySortedBy word_order xs → rank xs (byte + 1) ≡ at + 1 → slice_get xs at ≡ Some other → other ≢ byte → has xs byte ≡ false
missing_before xs byte at other ascending ranked there apart = false_from_ne_true (has xs byte) (λ held.
    let one = sym (up_to-rank xs byte) ∙ up_to-member xs ascending byte held in
    let same : rank xs byte ≡ at = omega arith in
    apart (same_Some other byte (sym there ∙ ap (slice_get xs) (sym same) ∙ slice_get-rank xs ascending byte held)))

pub rank_before : (xs : List ℕ) (byte at : ℕ) → IsStrictlySortedBy word_order xs → slice_get xs at ≡ Some byte → rank xs byte ≡ at
rank_before xs byte at ascending there = rank_at xs ascending at byte there

-- Where nothing is below a byte, the byte before it is no member.
pub missing_first : (xs : List ℕ) (byte : ℕ) → IsStrictlySortedBy word_order xs → rank xs (byte + 1) ≡ 0 → has xs byte ≡ false
missing_first xs byte ascending none = false_from_ne_true (has xs byte) (λ held.
    let one = sym (up_to-rank xs byte) ∙ up_to-member xs ascending byte held in
    let never : ⊥ = omega arith in absurd never)

-- All bytes are below 256.
pub rank_all : (words width : ℕ) (skipped bytes : List ℕ) (kids : List Tree) (count : ℕ) → IsBranch words width skipped bytes kids count → rank bytes 256 ≡ length bytes
rank_all words width skipped bytes kids count is =
    ap length (filter_all (λ x. is_lt (word_order x 256)) bytes (all_from_among (λ x. is_lt (word_order x 256) ≡ true) bytes (λ x here.
    let at = place_among bytes x here in
    let within = slice_get_within bytes at.0 x at.1 in
    let long = children-length words width 0 bytes kids is.parts.children in
    let kid = get_or kids at.0 (record { width = 0; pairs = []; form = [] }) in
    let small = (split-at words width 0 (number_of skipped * 256) bytes kids x at.0 kid (omega arith) is.parts.children at.1
    (slice_get-get_or kids at.0 (record { width = 0; pairs = []; form = [] }) (omega arith))).high_byte in
    lt_word x 256 small)))

-- Where some are below a byte, it isn't 0.
pub byte_some : (xs : List ℕ) (byte at : ℕ) → rank xs byte ≡ at → 0 < at → 0 < byte
byte_some xs zero at ranked some = let none = rank_zero xs in let never : ⊥ = omega arith in absurd never
byte_some xs (suc byte) at ranked some = omega arith

-- The byte before one below which some are, and the place before theirs.
pub record IsPrevious (bytes : List ℕ) (byte at : ℕ) : Type 0 where
  pub byte_is : byte - 1 + 1 ≡ byte
  pub small : byte - 1 < 256
  pub inside : at - 1 < length bytes
  pub ranked : rank bytes (byte - 1 + 1) ≡ at - 1 + 1

pub previous : (bytes : List ℕ) (byte at : ℕ) → rank bytes byte ≡ at → 0 < at → byte ≤ 256 → IsPrevious bytes byte at
previous bytes byte at ranked some most =
    let more = byte_some bytes byte at ranked some in
    let within = rank_within bytes byte in
    let next : byte - 1 + 1 ≡ byte = omega arith in
    record { byte_is = next; small = omega arith; inside = omega arith; ranked = ap (rank bytes) next ∙ ranked ∙ (let e : at ≡ at - 1 + 1 = omega arith in e) }

-- A run from the block of a byte on begins behind the block before.
pub previous_run : (pairs : Pairs) (base block byte unit start end : ℕ) → byte - 1 + 1 ≡ byte → start ≡ base + (block + (byte - 1)) * unit →
    IsRun pairs (base + (block + byte) * unit) end → IsRun pairs (start + unit) end
previous_run pairs base block byte unit start end next is_start run =
    let step = next_unit block (byte - 1) unit in
    subst (λ m. IsRun pairs m end) (ap (λ m. base + (block + m) * unit) (sym next) ∙ (let e : base + (block + (byte - 1 + 1)) * unit ≡ start + unit = omega arith in e)) run

-- Where none are, it isn't 256.
pub first_small : (words width : ℕ) (skipped bytes : List ℕ) (kids : List Tree) (count byte : ℕ) → IsBranch words width skipped bytes kids count → rank bytes byte ≡ 0 → byte ≤ 256 → byte < 256
first_small words width skipped bytes kids count byte is none within = ⊎_elim
    (λ small. small)
    (λ past.
    let same : byte ≡ 256 = omega arith in
    let all = sym (ap (rank bytes) same) ∙ none in
    let every = rank_all words width skipped bytes kids count is in
    let some = is.holds in
    let never : ⊥ = omega arith in absurd never)
    (cases_lt byte 256)

-- ---- numbers of bytes

pub greatest : (bytes : ℕ) → bytes ≤ 7 → 18446744073709551615 / 256 ^ (8 - bytes) + 1 ≡ 256 ^ bytes
greatest zero few = refl
greatest (suc zero) few = refl
greatest (suc (suc zero)) few = refl
greatest (suc (suc (suc zero))) few = refl
greatest (suc (suc (suc (suc zero)))) few = refl
greatest (suc (suc (suc (suc (suc zero))))) few = refl
greatest (suc (suc (suc (suc (suc (suc zero)))))) few = refl
greatest (suc (suc (suc (suc (suc (suc (suc zero))))))) few = refl
greatest (suc (suc (suc (suc (suc (suc (suc (suc n)))))))) few = let never : ⊥ = omega arith in absurd never

pub less_by_one : (number most top : ℕ) → most + 1 ≡ top → nat_lt number most ≡ nat_lt (number + 1) top
less_by_one number most top same = grind (arith, nat_tests)

pub not_full : (count all : ℕ) (result : Bool) → result ≡ (count == all) → result ≡ false → count ≢ all
not_full count all result is fails same = true≢false (sym (is ∙ eq-eqb count all same) ∙ fails)

pub all_full : (count all : ℕ) (result : Bool) → result ≡ (count == all) → result ≡ true → count ≡ all
all_full count all result is passes = eqb-true count all (sym is ∙ passes)

pub least_top : (number top : ℕ) → number < top → nat_lt (number + 1) top ≡ false → top ≤ number + 1
least_top number top below past = ⊎_elim (λ less. let never : false ≡ true = sym past ∙ lt-ltb (number + 1) top less in cc) (λ done. done) (cases_lt (number + 1) top)

-- ---- a branch

module _ (words width : ℕ) (skipped bytes : List ℕ) (kids : List Tree) (count : ℕ) (is : IsBranch words width skipped bytes kids count) where
  pub bytes_ascend : IsStrictlySortedBy word_order bytes
  bytes_ascend = (children-IsByteSet words width 0 bytes kids is.parts.children).ascending

  pub as_many : length kids ≡ length bytes
  as_many = children-length words width 0 bytes kids is.parts.children

  pub block_within : (byte : ℕ) → byte < 256 → (number_of skipped * 256 + byte) * 256 ^ width + 256 ^ width ≤ 256 ^ (length skipped + 1 + width)
  block_within byte small =
      let next = next_unit (number_of skipped * 256) byte (256 ^ width) in let most = units (number_of skipped * 256) (byte + 1) 256 (256 ^ width) (omega arith) in
      let all = blocks_within skipped width is.parts.skipped_bytes in omega arith

  -- Behind them there is a word just where the skipped bytes aren't the greatest ones.
  pub words_behind : number_of skipped + 1 < 256 ^ length skipped → (number_of skipped * 256 + 256) * 256 ^ width < 256 ^ (length skipped + 1 + width)
  words_behind less =
      let some = unit_pos width in
      let next = next_unit (number_of skipped * 256) 256 (256 ^ width) in
      let most : (number_of skipped * 256 + (256 + 1)) * 256 ^ width ≤ 256 ^ length skipped * 256 * 256 ^ width = mul-le (number_of skipped * 256 + (256 + 1))
      (256 ^ width) (256 ^ length skipped * 256) (256 ^ width) (omega arith) (omega arith) in
      let same = spread skipped width in
      omega arith

  pub none_behind : 256 ^ length skipped ≤ number_of skipped + 1 → (number_of skipped * 256 + 256) * 256 ^ width ≡ 256 ^ (length skipped + 1 + width)
  none_behind most =
      let below = number_of-lt skipped is.parts.skipped_bytes in
      ap (λ n. n * 256 ^ width) (let e : number_of skipped * 256 + 256 ≡ 256 ^ length skipped * 256 = omega arith in e) ∙ sym (spread skipped width)

  -- Where as many bytes are below one as a child's place says, it is a byte.
  pub byte_small : (byte at : ℕ) → rank bytes byte ≡ at → at < length kids → byte < 256
  byte_small byte at ranked inside =
      let long = as_many in
      let none : Tree = record { width = 0; pairs = []; form = [] } in
      let there = slice_get-get_or bytes at 0 (omega arith) in
      let high = (split-at words width 0 (number_of skipped * 256) bytes kids (get_or bytes at 0) at (get_or kids at none) (omega arith) is.parts.children there
      (slice_get-get_or kids at none inside)).high_byte in
      let low = stands_from bytes bytes_ascend byte at ranked (get_or bytes at 0) there in
      omega arith

  pub word_fits : (base byte : ℕ) → byte < 256 → base + 256 ^ (length skipped + 1 + width) ≤ 2 ^ 64 → base + (number_of skipped * 256 + byte) * 256 ^ width < 2 ^ 64
  word_fits base byte small fits = let some = unit_pos width in let within = block_within byte small in omega arith

  -- ---- words that are no keys

  -- A key that leads to no child.
  pub beside_absent : (step : Step) (key : ℕ) → IsBeside step → IsStep (256 ^ width) (number_of skipped * 256) bytes key step → key < 256 ^ (length skipped + 1 + width) →
      has (keys_of (branch_pairs width skipped bytes kids)) key ≡ false
  beside_absent step key beside steps within =
      ap (has (keys_of (branch_pairs width skipped bytes kids))) (let e : key ≡ key + 0 = omega arith in e)
      ∙ (window-part words (256 ^ (length skipped + 1 + width)) key 1 (branch_pairs width skipped bytes kids) [] _ _
      (gap_part words width skipped bytes kids count is key step beside steps within)).same 0 (omega arith)

  -- The words of a byte without a child.
  pub missing_absent : (byte rest key : ℕ) → byte < 256 → rest < 256 ^ width → key ≡ (number_of skipped * 256 + byte) * 256 ^ width + rest → has bytes byte ≡ false →
      has (keys_of (branch_pairs width skipped bytes kids)) key ≡ false
  missing_absent byte rest key small below is_key absent =
      let fits = block_within byte small in
      beside_absent (Missing byte (rank bytes byte) rest) key tt (record { byte_is = small; rest_is = below; key_is = is_key }, absent, refl) (omega arith)

  -- ---- children

  module _ (byte place : ℕ) (kid : Tree) (at : slice_get bytes place ≡ Some byte) (there : slice_get kids place ≡ Some kid) where
    pub kid_is : IsChild words width kid
    kid_is = (split-at words width 0 (number_of skipped * 256) bytes kids byte place kid (omega arith) is.parts.children at there).child

    pub kid_small : byte < 256
    kid_small = (split-at words width 0 (number_of skipped * 256) bytes kids byte place kid (omega arith) is.parts.children at there).high_byte

    pub kid_window : IsWindow (branch_pairs width skipped bytes kids) ((number_of skipped * 256 + byte) * 256 ^ width) (256 ^ width) kid.pairs
    kid_window =
        let start = (number_of skipped * 256 + byte) * 256 ^ width in
        let some = unit_pos width in
        subst (λ n. IsWindow (branch_pairs width skipped bytes kids) n (256 ^ width) kid.pairs) (let e : start - 0 ≡ start = omega arith in e)
        (window-part words (256 ^ (length skipped + 1 + width)) (start - 0) (256 ^ width) (branch_pairs width skipped bytes kids) kid.pairs _ _
        (child_part words width skipped bytes kids count is start byte 0 place kid (record { byte_is = kid_small; rest_is = some; key_is = omega arith }) at there))

  -- ---- the branch's words from a base on

  module _ (base : ℕ) where
    raised_absent : (word key : ℕ) → word ≡ base + key → has (keys_of (branch_pairs width skipped bytes kids)) key ≡ false →
        has (keys_of (shift base (branch_pairs width skipped bytes kids))) word ≡ false
    raised_absent word key is_word absent =
        ap (has (keys_of (shift base (branch_pairs width skipped bytes kids)))) is_word
        ∙ (window-shift (branch_pairs width skipped bytes kids) base (suc key)).same key (omega arith) ∙ absent

    -- A word that leads to no child.
    pub raised_beside : (step : Step) (key word : ℕ) → word ≡ base + key → IsBeside step → IsStep (256 ^ width) (number_of skipped * 256) bytes key step → key < 256 ^ (length skipped + 1 + width)
        → has (keys_of (shift base (branch_pairs width skipped bytes kids))) word ≡ false
    raised_beside step key word is_word beside steps within = raised_absent word key is_word (beside_absent step key beside steps within)

    -- The first word of a byte without a child.
    pub start_absent : (byte start : ℕ) → start ≡ base + (number_of skipped * 256 + byte) * 256 ^ width → byte < 256 → has bytes byte ≡ false
        → (start < base + 256 ^ (length skipped + 1 + width)) × (has (keys_of (shift base (branch_pairs width skipped bytes kids))) start ≡ false)
    start_absent byte start is_start small absent =
        let some = unit_pos width in
        let fits = block_within byte small in
        (omega arith, raised_absent start ((number_of skipped * 256 + byte) * 256 ^ width) is_start (missing_absent byte 0 _ small some (omega arith) absent))

    -- The last one.
    pub last_absent : (byte start last : ℕ) → start ≡ base + (number_of skipped * 256 + byte) * 256 ^ width → last ≡ start + (256 ^ width - 1) → byte < 256 → has bytes byte ≡ false
        → has (keys_of (shift base (branch_pairs width skipped bytes kids))) last ≡ false
    last_absent byte start last is_start is_last small absent =
        let some = unit_pos width in
        raised_absent last ((number_of skipped * 256 + byte) * 256 ^ width + (256 ^ width - 1)) (omega arith) (missing_absent byte (256 ^ width - 1) _ small (omega arith) refl absent)

    -- The word behind all bytes.
    pub behind_absent : (start : ℕ) → start ≡ base + (number_of skipped * 256 + 256) * 256 ^ width → number_of skipped + 1 < 256 ^ length skipped
        → (start < base + 256 ^ (length skipped + 1 + width)) × (has (keys_of (shift base (branch_pairs width skipped bytes kids))) start ≡ false)
    behind_absent start is_start less =
        let room = words_behind less in
        (omega arith, raised_absent start ((number_of skipped * 256 + 256) * 256 ^ width) is_start (beside_absent Above _ tt (omega arith) room))

    -- The word before all bytes, and before one whose forerunner has no child.
    pub before_absent : (byte start : ℕ) → start ≡ base + (number_of skipped * 256 + byte) * 256 ^ width → base < start → byte ≤ 256 →
        ((forerunner : ℕ) → forerunner + 1 ≡ byte → has bytes forerunner ≡ false)
        → has (keys_of (shift base (branch_pairs width skipped bytes kids))) (start - 1) ≡ false
    before_absent zero start is_start above small absent =
        let same : (number_of skipped * 256 + 0) * 256 ^ width ≡ number_of skipped * 256 * 256 ^ width = ap (λ n. n * 256 ^ width)
        (let e : number_of skipped * 256 + 0 ≡ number_of skipped * 256 = omega arith in e) in
        let all = blocks_within skipped width is.parts.skipped_bytes in
        let rise = units (number_of skipped * 256) 0 256 (256 ^ width) (omega arith) in
        raised_absent (start - 1) ((number_of skipped * 256 + 0) * 256 ^ width - 1) (omega arith) (beside_absent Below _ tt (omega arith) (omega arith))
    before_absent (suc byte) start is_start above small absent =
        let some = unit_pos width in
        let next = ap (λ n. (number_of skipped * 256 + n) * 256 ^ width) (let e : suc byte ≡ byte + 1 = omega arith in e) ∙ next_unit (number_of skipped * 256) byte (256 ^ width) in
        raised_absent (start - 1) ((number_of skipped * 256 + byte) * 256 ^ width + (256 ^ width - 1)) (omega arith)
        (missing_absent byte (256 ^ width - 1) _ (omega arith) (omega arith) refl (absent byte (omega arith)))

    module _ (byte place : ℕ) (kid : Tree) (at : slice_get bytes place ≡ Some byte) (there : slice_get kids place ≡ Some kid) (start : ℕ)
        (is_start : start ≡ base + (number_of skipped * 256 + byte) * 256 ^ width) where
      raised_window : IsWindow (shift base (branch_pairs width skipped bytes kids)) start (256 ^ width) kid.pairs
      raised_window =
          let small = kid_small byte place kid at there in
          window-window (shift base (branch_pairs width skipped bytes kids)) (branch_pairs width skipped bytes kids) kid.pairs base (256 ^ (length skipped + 1 + width))
          ((number_of skipped * 256 + byte) * 256 ^ width) (256 ^ width) start is_start
          (block_within byte small) (window-shift (branch_pairs width skipped bytes kids) base (256 ^ (length skipped + 1 + width))) (kid_window byte place kid at there)

      -- A child that isn't full.
      pub kid_room : length kid.pairs ≢ 256 ^ width → (start + 256 ^ width ≤ base + 256 ^ (length skipped + 1 + width)) ×
          HasRoom words (shift base (branch_pairs width skipped bytes kids)) kid width start
      kid_room room =
          let small = kid_small byte place kid at there in
          let child = kid_is byte place kid at there in
          let fits = block_within byte small in
          let most = map-length words 0 (256 ^ width) kid.pairs (omega arith) child.map in
          let within = is.parts.within in
          (omega arith, record { child = child; narrow = omega arith; window = raised_window; room = omega arith })

      -- A full one.
      pub kid_run : length kid.pairs ≡ 256 ^ width → IsRun (shift base (branch_pairs width skipped bytes kids)) start (start + 256 ^ width)
      kid_run full =
          let child = kid_is byte place kid at there in
          run-window (shift base (branch_pairs width skipped bytes kids)) kid.pairs start (256 ^ width) 0 (256 ^ width) start (start + 256 ^ width) (omega arith) refl (omega arith) raised_window
          (run-full words 0 (256 ^ width) kid.pairs (omega arith) child.map (omega arith))
