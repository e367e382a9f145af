-- Pairs without those whose keys stand around one, and what children and branches keep where such keys go.
use Rattle.std.proofs.Common.{◌≡◌, ◌≢◌, ℕ, zero, suc, ◌+◌, ◌-◌, ◌*◌, ◌%◌, ◌^◌, ◌<◌, ◌≤◌, ◌&&◌, Bool, true, false, cond, Some, None, List, [], ◌∷◌, ◌++◌}
use Rattle.std.proofs.Common.{length, set, slice_get, sym, refl, ap, ◌∙◌, subst, ⊎_elim, arith}
use Rattle.std.specs.List.{remove}
use Rattle.std.specs.Ordering.{is_le}
use Rattle.std.proofs.lemmas.Bool.{cases_lt, lt-leb}
use Rattle.std.proofs.lemmas.Option.{same_Some}
use Rattle.std.proofs.lemmas.List.{length-append}
use Rattle.judy_model.specs.Keys.{word_order}
use Rattle.judy_model.specs.WordBytes.{number_of}
use Rattle.judy_model.specs.Forms.{branch, loose_in}
use Rattle.judy_model.proofs.lemmas.maps.Tests.{both_true}
use Rattle.judy_model.proofs.lemmas.orders.WordOrder.{is_le_word, le_word}
use Rattle.judy_bits.specs.ByteSets as sets
use Rattle.judy_bits.proofs.SetLemmas.{without_at}
use Rattle.judy_leaf.specs.KeyLists.{shift}
use Rattle.judy_node.specs.Trees.{Pairs, Tree, IsMap, join, forms_in, IsChild, branch_pairs}
use Rattle.judy_node.specs.Branches.{IsWholeBranch, tree_below}
use Rattle.judy_node.specs.Steps.{IsKeyOf}
use Rattle.judy_node.specs.declared.child.BranchOf.{BranchOf}
use Rattle.judy_node.proofs.Maps.{length-shift}
use Rattle.judy_node.proofs.StepFacts.{children-IsByteSet}
use Rattle.judy_node.proofs.Shaped.{tight-parts}
use Rattle.judy_change.specs.declared.around.Cut.{Cut}
use Rattle.judy_change.specs.declared.around.Cut.TheVariants as cut
use Rattle.judy_change.specs.declared.removed.Removed.{Removed}
use Rattle.judy_change.specs.declared.removed.Taken.{Taken}
use Rattle.judy_change.specs.declared.removed.Taken.TheVariants as taken
use Rattle.judy_change.specs.Removals.{without, IsRemoved, IsTaken, IsSettled, pairs_below, loose_below, width_of}
use Rattle.judy_change.specs.Around.{is_around, beyond, IsCleared, IsThinned, IsCut, one_cut, IsPartial, cleared_of, IsThinnedBelow}
use Rattle.judy_change.proofs.Without.{without-same, without-apart, length-without, same_or}
use Rattle.judy_change.proofs.KidChanges.{children-set, children-drop, child-at, loose-at, loose-set, loose-drop}
use Rattle.judy_change.proofs.BelowFacts.{branch_is, and_true}

-- ---- which keys stand around one

no_word : (one other : ℕ) → other < one → is_le (word_order one other) ≡ false
no_word one other above = is_le_word one other ∙ lt-leb one other above

-- One order holds where another does.
pub same_order : (a b c d : ℕ) → (a ≤ b → c ≤ d) → (c ≤ d → a ≤ b) → is_le (word_order a b) ≡ is_le (word_order c d)
same_order a b c d there back = ⊎_elim
    (λ (above : b < a).
    no_word a b above ∙ sym (no_word c d (⊎_elim (λ (h : d < c). h) (λ (h : c ≤ d). let never = back h in (let no : ⊥ = omega (arith, never, above) in absurd no)) (cases_lt d c))))
    (λ (low : a ≤ b). le_word a b low ∙ sym (le_word c d (there low)))
    (cases_lt b a)

around-shift : (by key before after other : ℕ) → is_around (by + key) before after (by + other) ≡ is_around key before after other
around-shift by key before after other =
    let low = same_order (by + key) (by + other + before) key (other + before) (λ h. omega (arith, h)) (λ h. omega (arith, h)) in
    let high = same_order (by + other) (by + key + after) other (key + after) (λ h. omega (arith, h)) (λ h. omega (arith, h)) in
    λ t. low t && high t

pub around-is : (key before after other : ℕ) → key ≤ other + before → other ≤ key + after → is_around key before after other ≡ true
around-is key before after other low high = both_true _ _ (le_word key (other + before) low) (le_word other (key + after) high)

-- The last key of a width.
pub last_word : (width : ℕ) → width ≤ 8 → 18446744073709551615 % 256 ^ width + 1 ≡ 256 ^ width
last_word zero within = refl
last_word (suc zero) within = refl
last_word (suc (suc zero)) within = refl
last_word (suc (suc (suc zero))) within = refl
last_word (suc (suc (suc (suc zero)))) within = refl
last_word (suc (suc (suc (suc (suc zero))))) within = refl
last_word (suc (suc (suc (suc (suc (suc zero)))))) within = refl
last_word (suc (suc (suc (suc (suc (suc (suc zero))))))) within = refl
last_word (suc (suc (suc (suc (suc (suc (suc (suc zero)))))))) within = refl
last_word (suc (suc (suc (suc (suc (suc (suc (suc (suc width))))))))) within = let never : ⊥ = omega (arith, within) in absurd never

-- ---- lists

module _ (key before after : ℕ) where
  pub beyond-append : (one other : Pairs) → beyond key before after (one ++ other) ≡ beyond key before after one ++ beyond key before after other
  beyond-append [] other = refl
  beyond-append (pair ∷ one) other =
      let rest = beyond-append one other in
      elim (is_around key before after pair.0) as (λ b. cond b (beyond key before after (one ++ other)) (pair ∷ beyond key before after (one ++ other)) ≡
      cond b (beyond key before after one) (pair ∷ beyond key before after one) ++ beyond key before after other) [
        | true ↦ rest
        | false ↦ ap (λ ps. pair ∷ ps) rest
      ]

  pub beyond-shift : (by : ℕ) (pairs : Pairs) → beyond (by + key) before after (shift by pairs) ≡ shift by (beyond key before after pairs)
  beyond-shift by [] = refl
  beyond-shift by (pair ∷ pairs) =
      let rest = beyond-shift by pairs in
      let moved : ℕ × ℕ = (by + pair.0, pair.1) in
      ap (λ b. cond b (beyond (by + key) before after (shift by pairs)) (moved ∷ beyond (by + key) before after (shift by pairs))) (around-shift by key before after pair.0)
      ∙ (elim (is_around key before after pair.0) as (λ b. cond b (beyond (by + key) before after (shift by pairs)) (moved ∷ beyond (by + key) before after (shift by pairs)) ≡
      shift by (cond b (beyond key before after pairs) (pair ∷ beyond key before after pairs))) [
        | true ↦ rest
        | false ↦ ap (λ ps. moved ∷ ps) rest
      ])

  -- The key alone is taken out.
  pub beyond-without : (pairs : Pairs) → beyond key before after (without key pairs) ≡ beyond key before after pairs
  beyond-without [] = refl
  beyond-without (pair ∷ pairs) =
      let rest = beyond-without pairs in
      ⊎_elim
      (λ (same : pair.0 ≡ key).
      ap (beyond key before after) (without-same pair pairs key same) ∙ rest
      ∙ ap (λ b. cond b (beyond key before after pairs) (pair ∷ beyond key before after pairs)) (sym (around-is key before after pair.0 (omega (arith, same)) (omega (arith, same)))))
      (λ (apart : pair.0 ≢ key).
      ap (beyond key before after) (without-apart pair pairs key apart) ∙ ap (λ ps. cond (is_around key before after pair.0) ps (pair ∷ ps)) rest)
      (same_or pair.0 key)

  -- All pairs stand around the key.
  pub beyond-none : (words low top : ℕ) (pairs : Pairs) → IsMap words low top pairs → key ≤ low + before → top ≤ key + after + 1 → beyond key before after pairs ≡ []
  beyond-none words low top [] map below above = refl
  beyond-none words low top (pair ∷ pairs) map below above =
      let first = map.0 in
      let last = map.1 in
      ap (λ b. cond b (beyond key before after pairs) (pair ∷ beyond key before after pairs)) (around-is key before after pair.0 (omega (arith, first, below)) (omega (arith, last, above)))
      ∙ beyond-none words (pair.0 + 1) top pairs map.3 (omega (arith, first, below)) above

-- ---- children

module _ (unit block rest before after : ℕ) where
  -- A child loses keys.
  pub beyond-set : (at byte : ℕ) (bytes : List ℕ) (kids : List Tree) (kid new : Tree) → slice_get bytes at ≡ Some byte → slice_get kids at ≡ Some kid →
      beyond rest before after new.pairs ≡ beyond rest before after kid.pairs
      → beyond ((block + byte) * unit + rest) before after (join unit block bytes (set kids at new)) ≡ beyond ((block + byte) * unit + rest) before after (join unit block bytes kids)
  beyond-set at byte [] kids kid new there is stay = cc
  beyond-set at byte (first ∷ bytes) [] kid new there is stay = cc
  beyond-set zero byte (first ∷ bytes) (other ∷ kids) kid new there is stay =
      let same = same_Some first byte there in
      let start = (block + first) * unit in
      let key = start + rest in
      let back = join unit block bytes kids in
      subst (λ b. beyond ((block + b) * unit + rest) before after (shift start new.pairs ++ back) ≡ beyond ((block + b) * unit + rest) before after (shift start other.pairs ++ back)) same
      (beyond-append key before after (shift start new.pairs) back
      ∙ ap (λ front. front ++ beyond key before after back)
      (beyond-shift rest before after start new.pairs ∙ ap (shift start) (stay ∙ ap (λ k. beyond rest before after k.pairs) (sym (same_Some other kid is))) ∙
      sym (beyond-shift rest before after start other.pairs))
      ∙ sym (beyond-append key before after (shift start other.pairs) back))
  beyond-set (suc at) byte (first ∷ bytes) (other ∷ kids) kid new there is stay =
      let key = (block + byte) * unit + rest in
      let front = shift ((block + first) * unit) other.pairs in
      beyond-append key before after front (join unit block bytes (set kids at new))
      ∙ ap (λ back. beyond key before after front ++ back) (beyond-set at byte bytes kids kid new there is stay)
      ∙ sym (beyond-append key before after front (join unit block bytes kids))

  -- A child goes.
  pub beyond-drop : (at byte : ℕ) (bytes : List ℕ) (kids : List Tree) (kid : Tree) → slice_get bytes at ≡ Some byte → slice_get kids at ≡ Some kid → beyond rest before after kid.pairs ≡ []
      → beyond ((block + byte) * unit + rest) before after (join unit block (remove bytes at) (remove kids at)) ≡ beyond ((block + byte) * unit + rest) before after (join unit block bytes kids)
  beyond-drop at byte [] kids kid there is none = cc
  beyond-drop at byte (first ∷ bytes) [] kid there is none = cc
  beyond-drop zero byte (first ∷ bytes) (other ∷ kids) kid there is none =
      let same = same_Some first byte there in
      let start = (block + first) * unit in
      let key = start + rest in
      let back = join unit block bytes kids in
      subst (λ b. beyond ((block + b) * unit + rest) before after back ≡ beyond ((block + b) * unit + rest) before after (shift start other.pairs ++ back)) same
      (ap (λ front. front ++ beyond key before after back)
      (sym (beyond-shift rest before after start other.pairs ∙ ap (shift start) (ap (λ k. beyond rest before after k.pairs) (same_Some other kid is) ∙ none)))
      ∙ sym (beyond-append key before after (shift start other.pairs) back))
  beyond-drop (suc at) byte (first ∷ bytes) (other ∷ kids) kid there is none =
      let key = (block + byte) * unit + rest in
      let front = shift ((block + first) * unit) other.pairs in
      beyond-append key before after front (join unit block (remove bytes at) (remove kids at))
      ∙ ap (λ back. beyond key before after front ++ back) (beyond-drop at byte bytes kids kid there is none)
      ∙ sym (beyond-append key before after front (join unit block bytes kids))

module _ (unit block : ℕ) where
  pub length-kid-set : (at byte count : ℕ) (bytes : List ℕ) (kids : List Tree) (kid new : Tree) → slice_get bytes at ≡ Some byte → slice_get kids at ≡ Some kid →
      length new.pairs + count ≡ length kid.pairs → length (join unit block bytes (set kids at new)) + count ≡ length (join unit block bytes kids)
  length-kid-set at byte count [] kids kid new there is fewer = cc
  length-kid-set at byte count (first ∷ bytes) [] kid new there is fewer = cc
  length-kid-set zero byte count (first ∷ bytes) (other ∷ kids) kid new there is fewer =
      let start = (block + first) * unit in
      let same = ap (λ (k : Tree). length k.pairs) (same_Some other kid is) in
      let one = length-append (shift start new.pairs) (join unit block bytes kids) in
      let two = length-append (shift start other.pairs) (join unit block bytes kids) in
      let here = length-shift start new.pairs in
      let there = length-shift start other.pairs in
      omega (arith, same, one, two, here, there, fewer)
  length-kid-set (suc at) byte count (first ∷ bytes) (other ∷ kids) kid new there is fewer =
      let start = (block + first) * unit in
      let one = length-append (shift start other.pairs) (join unit block bytes (set kids at new)) in
      let two = length-append (shift start other.pairs) (join unit block bytes kids) in
      let rest = length-kid-set at byte count bytes kids kid new there is fewer in
      omega (arith, one, two, rest)

  pub length-kid-drop : (at byte : ℕ) (bytes : List ℕ) (kids : List Tree) (kid : Tree) → slice_get bytes at ≡ Some byte → slice_get kids at ≡ Some kid →
      length (join unit block (remove bytes at) (remove kids at)) + length kid.pairs ≡ length (join unit block bytes kids)
  length-kid-drop at byte [] kids kid there is = cc
  length-kid-drop at byte (first ∷ bytes) [] kid there is = cc
  length-kid-drop zero byte (first ∷ bytes) (other ∷ kids) kid there is =
      let start = (block + first) * unit in
      let same = ap (λ (k : Tree). length k.pairs) (same_Some other kid is) in
      let two = length-append (shift start other.pairs) (join unit block bytes kids) in
      let there = length-shift start other.pairs in
      omega (arith, same, two, there)
  length-kid-drop (suc at) byte (first ∷ bytes) (other ∷ kids) kid there is =
      let start = (block + first) * unit in
      let one = length-append (shift start other.pairs) (join unit block (remove bytes at) (remove kids at)) in
      let two = length-append (shift start other.pairs) (join unit block bytes kids) in
      let rest = length-kid-drop at byte bytes kids kid there is in
      omega (arith, one, two, rest)

-- ---- the key alone

pub cut_one : (words width key before after : ℕ) (old new : Tree) (answer : Taken) → IsChild words width old → IsTaken words width key old new answer →
    IsCut words width key before after old new (one_cut answer)
cut_one words width key before after old new taken.Absent is done = done
cut_one words width key before after old new (taken.Only value) is done = (
  ap (beyond key before after) done.0 ∙ ap (λ b. cond b [] ((key, value) ∷ [])) (around-is key before after key (omega arith) (omega arith)),
  ap length done.0,
  done.1,
)
cut_one words width key before after old new (taken.Gone value shrunk) is done =
    let fewer = length-without words 0 (256 ^ width) key value old.pairs is.map done.found in
    let long = ap length done.gone in
    record {
      stay = ap (beyond key before after) done.gone ∙ beyond-without key before after old.pairs;
      counted = omega (arith, fewer, long);
      some = omega arith;
      two = λ three. omega (arith, three, fewer, long);
      child = done.child;
      tight = done.tight;
    }

-- ---- branches

empty_pairs : (pairs : Pairs) → length pairs ≡ 0 → pairs ≡ []
empty_pairs [] none = refl
empty_pairs (pair ∷ pairs) none = let never : ⊥ = omega (arith, none) in absurd never

some_bytes : (unit block : ℕ) (bytes : List ℕ) (kids : List Tree) → 1 ≤ length (join unit block bytes kids) → 1 ≤ length bytes
some_bytes unit block [] kids some = some
some_bytes unit block (first ∷ bytes) kids some = omega arith

module _ {V : _} (words key before after byte place rest : ℕ) (old : BranchOf V) (kid : Tree) (whole : IsWholeBranch words old)
    (at : IsKeyOf (256 ^ old.width) (number_of old.skip * 256) key byte rest) (byte_there : slice_get old.bytes place ≡ Some byte) (kid_there : slice_get old.children.items place ≡ Some kid) where
  abbrev block : ℕ
  block = number_of old.skip * 256

  pub cut-child : IsChild words old.width kid
  cut-child = child-at words old.width 0 place old.bytes old.children.items kid whole.parts.children kid_there

  -- The child keeps other keys.
  pub cut-gone : (new : BranchOf V) (left : Tree) (count : ℕ) (shrunk : Bool) → IsThinned words old.width rest before after kid left count shrunk → new.width ≡ old.width →
      new.skip ≡ old.skip → new.bytes ≡ old.bytes
      → new.children.items ≡ set old.children.items place left → new.population + count ≡ old.population → IsThinnedBelow words key before after old new count shrunk
  cut-gone new left count shrunk is ew es eb ek en =
      let stay = subst (λ k. beyond k before after (join (256 ^ old.width) block old.bytes (set old.children.items place left)) ≡ beyond k before after (pairs_below old)) (sym at.key_is)
      (beyond-set (256 ^ old.width) block rest before after place byte old.bytes old.children.items kid left byte_there kid_there is.stay) in
      let long = length-kid-set (256 ^ old.width) block place byte count old.bytes old.children.items kid left byte_there kid_there is.counted in
      let counted = whole.parts.counted in
      let some = is.some in
      let one = is.child.some in
      let mine = is.counted in
      let room = length-kid-drop (256 ^ old.width) block place byte old.bytes old.children.items kid byte_there kid_there in
      record {
        stay = (λ t. beyond key before after (branch_pairs (ew t) (es t) (eb t) (ek t))) ∙ stay;
        counted = en;
        some = is.some;
        two = λ three. two_stay (length kid.pairs) (length left.pairs) count old.population new.population (omega (arith, counted, room)) one some mine is.two en three;
        branch =
            branch_is words old.width new.width old.skip new.skip old.bytes new.bytes (set old.children.items place left) new.children.items (old.population - count) new.population
            (sym ew) (sym es) (sym eb) (sym ek) (omega (arith, en))
            (record {
              parts = record {
                some_width = whole.parts.some_width;
                within = whole.parts.within;
                skipped_bytes = whole.parts.skipped_bytes;
                children = children-set words old.width 0 place old.bytes old.children.items left whole.parts.children is.child;
                counted = omega (arith, counted, long);
              };
              holds = whole.holds;
            });
        width = λ t. length (es t) + 1 + ew t;
        tight = λ none yes. ap (λ ks. loose_in (forms_in ks)) ek ∙ loose-set place old.children.items left none (is.tight (loose-at place old.children.items kid none kid_there) yes);
      }
    where
      two_stay : (kid left count all new : ℕ) → kid ≤ all → 0 < left → 1 ≤ count → left + count ≡ kid → (3 ≤ kid → 2 ≤ left) → new + count ≡ all → 3 ≤ all → 2 ≤ new
      two_stay kid left count all new among one some mine is fewer three = ⊎_elim
          (λ (few : kid < 3). omega (arith, few, among, one, some, mine, fewer, three))
          (λ (many : 3 ≤ kid). let two = is many in omega (arith, two, among, mine, fewer))
          (cases_lt kid 3)

  -- The child goes, and others stay.
  pub cut-dropped : (new : BranchOf V) (count : ℕ) → beyond rest before after kid.pairs ≡ [] → count ≡ length kid.pairs → new.width ≡ old.width → new.skip ≡ old.skip
      → new.bytes ≡ sets.without_byte old.bytes byte → new.children.items ≡ remove old.children.items place → new.population + count ≡ old.population → 1 ≤ new.population
      → (3 ≤ old.population → 2 ≤ new.population) → IsThinnedBelow words key before after old new count true
  cut-dropped new count none size ew es eb ek en more two =
      let bytes_are = eb ∙ without_at old.bytes place byte (children-IsByteSet words old.width 0 old.bytes old.children.items whole.parts.children).ascending byte_there in
      let stay = subst (λ k. beyond k before after (join (256 ^ old.width) block (remove old.bytes place) (remove old.children.items place)) ≡ beyond k before after (pairs_below old)) (sym at.key_is)
      (beyond-drop (256 ^ old.width) block rest before after place byte old.bytes old.children.items kid byte_there kid_there none) in
      let long = length-kid-drop (256 ^ old.width) block place byte old.bytes old.children.items kid byte_there kid_there in
      let counted = whole.parts.counted in
      let some = cut-child.some in
      record {
        stay = (λ t. beyond key before after (branch_pairs (ew t) (es t) (bytes_are t) (ek t))) ∙ stay;
        counted = en;
        some = omega (arith, size, some);
        two = two;
        branch =
            branch_is words old.width new.width old.skip new.skip (remove old.bytes place) new.bytes (remove old.children.items place) new.children.items
            (old.population - count) new.population (sym ew) (sym es) (sym bytes_are) (sym ek) (omega (arith, en))
            (record {
              parts = record {
                some_width = whole.parts.some_width;
                within = whole.parts.within;
                skipped_bytes = whole.parts.skipped_bytes;
                children = children-drop words old.width 0 place old.bytes old.children.items whole.parts.children;
                counted = omega (arith, counted, long, size);
              };
              holds = some_bytes (256 ^ old.width) block (remove old.bytes place) (remove old.children.items place) (omega (arith, counted, long, size, en, more));
            });
        width = λ t. length (es t) + 1 + ew t;
        tight = λ tight _. ap (λ ks. loose_in (forms_in ks)) ek ∙ loose-drop place old.children.items tight;
      }

  -- All its keys stand around the key.
  pub cut-whole : rest ≤ before → 256 ^ old.width ≤ rest + after + 1 → beyond rest before after kid.pairs ≡ []
  cut-whole low high = beyond-none rest before after words 0 (256 ^ old.width) kid.pairs cut-child.map (omega (arith, low)) high

  -- The child's one key is the branch's one.
  pub cut-only : beyond rest before after kid.pairs ≡ [] → length kid.pairs ≡ 1 → old.population ≡ 1 → beyond key before after (pairs_below old) ≡ []
  cut-only none one all =
      let stay = subst (λ k. beyond k before after (join (256 ^ old.width) block (remove old.bytes place) (remove old.children.items place)) ≡ beyond k before after (pairs_below old)) (sym at.key_is)
      (beyond-drop (256 ^ old.width) block rest before after place byte old.bytes old.children.items kid byte_there kid_there none) in
      let long = length-kid-drop (256 ^ old.width) block place byte old.bytes old.children.items kid byte_there kid_there in
      let counted = whole.parts.counted in
      sym stay ∙ ap (beyond key before after)
      (empty_pairs (join (256 ^ old.width) block (remove old.bytes place) (remove old.children.items place)) (omega (arith, long, one, all, counted)))

  -- No more keys are counted off than there are.
  pub cut-most : length kid.pairs ≤ old.population
  cut-most =
      let long = length-kid-drop (256 ^ old.width) block place byte old.bytes old.children.items kid byte_there kid_there in
      let counted = whole.parts.counted in
      omega (arith, long, counted)

-- ---- the branch as a node

thinned_at : {V : _} (words key before after : ℕ) (old mid : BranchOf V) (count : ℕ) (shrunk settled : Bool) (new : Tree) → IsWholeBranch words old →
    IsThinnedBelow words key before after old mid count shrunk
    → IsSettled words (width_of old) (pairs_below mid) (loose_below mid) new settled → IsThinned words (width_of old) key before after (tree_below old) new count (shrunk && settled)
thinned_at words key before after old mid count shrunk settled new whole below is =
    let were = whole.parts.counted in
    let are = below.branch.parts.counted in
    let fewer = below.counted in
    let long = ap length is.same in
    record {
      stay = ap (beyond key before after) is.same ∙ below.stay;
      counted = omega (arith, were, are, fewer, long);
      some = below.some;
      two = λ three. let two = below.two (omega (arith, were, three)) in omega (arith, two, are, long);
      child = is.child;
      tight = λ tight yes.
          let parts = tight-parts (branch old.skip old.bytes old.population) (forms_in old.children.items) tight in
          let flags = and_true shrunk settled yes in
          is.tight (below.tight parts.1 flags.0) flags.1;
    }

pub branch_thinned : {V : _} (words width key before after : ℕ) (old mid : BranchOf V) (count : ℕ) (shrunk settled both : Bool) (new : Tree) → IsWholeBranch words old →
    width_of old ≡ width → IsThinnedBelow words key before after old mid count shrunk
    → IsSettled words width (pairs_below mid) (loose_below mid) new settled → both ≡ (shrunk && settled) → IsThinned words width key before after (tree_below old) new count both
branch_thinned words width key before after old mid count shrunk settled both new whole wide below is flag =
    subst (λ w. IsThinned words w key before after (tree_below old) new count both) wide
    (subst (IsThinned words (width_of old) key before after (tree_below old) new count) (sym flag)
    (thinned_at words key before after old mid count shrunk settled new whole below (subst (λ w. IsSettled words w (pairs_below mid) (loose_below mid) new settled) (sym wide) is)))

-- ---- the root

-- The key alone is taken out, where it was there.
pub cleared_one : (words key before after count : ℕ) (old new : Tree) (removed : Removed) → IsMap words 0 (256 ^ 8) old.pairs → IsRemoved key old new removed →
    (removed.was ≡ true → count ≡ 1) → (removed.was ≡ false → count ≡ 0) → IsCleared key before after old new (record { count = count; shrunk = removed.shrunk })
cleared_one words key before after count old new removed map is one none = by removed.was refl
  where
    by : (was : Bool) → removed.was ≡ was → IsCleared key before after old new (record { count = count; shrunk = removed.shrunk })
    by true was =
        let found = is.found ∙ ap (λ b. cond b (Some removed.value) None) was in
        let fewer = length-without words 0 (256 ^ 8) key removed.value old.pairs map found in
        let long = ap length is.gone in
        let told = one was in
        record {
          stay = ap (beyond key before after) is.gone ∙ beyond-without key before after old.pairs;
          counted = omega (arith, fewer, long, told);
          some = λ zero. let never : ⊥ = omega (arith, zero, told) in absurd never;
          tight = is.tight;
        }
    by false was =
        let same = is.same was in
        let long = ap (λ (k : Tree). length k.pairs) same in
        let told = none was in
        record {
          stay = ap (λ (k : Tree). beyond key before after k.pairs) same;
          counted = omega (arith, long, told);
          some = λ _. is.found ∙ ap (λ b. cond b (Some removed.value) None) was;
          tight = is.tight;
        }

module _ (words key before after : ℕ) (old new : Tree) (three : 3 ≤ length old.pairs) where
  -- Of three keys others than one stay.
  pub cut_partial : (answer : Cut) → IsCut words 8 key before after old new answer → IsPartial answer
  cut_partial cut.Absent is = tt
  cut_partial cut.Only is = let one = is.1 in let never : ⊥ = omega (arith, one, three) in absurd never
  cut_partial (cut.Gone count shrunk) is = tt

  pub cut_root : (answer : Cut) → IsChild words 8 old → IsCut words 8 key before after old new answer → IsChild words 8 new × (2 ≤ length new.pairs)
  cut_root cut.Absent child is =
      (subst (IsChild words 8) (sym is.1) child, subst (λ (k : Tree). 2 ≤ length k.pairs) (sym is.1) (omega (arith, three)))
  cut_root cut.Only child is = let one = is.1 in let never : ⊥ = omega (arith, one, three) in absurd never
  cut_root (cut.Gone count shrunk) child is = (is.child, is.two three)

  pub cut_cleared : (answer : Cut) → IsCut words 8 key before after old new answer → IsCleared key before after (record old { width = 8 }) (record new { width = 8 }) (cleared_of answer)
  cut_cleared cut.Absent is =
      let long = ap (λ (k : Tree). length k.pairs) is.1 in
      record {
        stay = ap (λ (k : Tree). beyond key before after k.pairs) is.1;
        counted = omega (arith, long);
        some = λ _. is.0;
        tight = λ tight _. ap (λ (k : Tree). loose_in k.form) is.1 ∙ tight;
      }
  cut_cleared cut.Only is = let one = is.1 in let never : ⊥ = omega (arith, one, three) in absurd never
  cut_cleared (cut.Gone count shrunk) is =
      let some = is.some in
      record {
        stay = is.stay;
        counted = is.counted;
        some = λ zero. let never : ⊥ = omega (arith, zero, some) in absurd never;
        tight = is.tight;
      }
