-- A branch below which a key is taken out.
use Rattle.std.proofs.Common.{◌≡◌, ◌≢◌, ℕ, zero, suc, ◌+◌, ◌-◌, ◌*◌, ◌^◌, ◌<◌, ◌≤◌, Bool, true, false, true≢false, ◌&&◌, ◌||◌, IsFalse, cond, eqb, Some, None, List, [], ◌∷◌}
use Rattle.std.proofs.Common.{length, set, get_or, slice_get, sym, refl, ap, ◌∙◌, subst, ◌⊎◌, inl, inr, ⊎_elim, arith}
use Rattle.std.specs.List.{remove}
use Rattle.std.specs.Vec.{with_item}
use Rattle.std.proofs.lemmas.Bool.{cases_order, eqb-false, eq-eqb}
use Rattle.std.proofs.lemmas.Option.{same_Some, slice_get_within}
use Rattle.std.proofs.lemmas.List.{get_or_default}
use Rattle.judy_model.specs.WordBytes.{number_of}
use Rattle.judy_model.specs.Forms.{branch, loose_in}
use Rattle.judy_bits.specs.ByteSets as sets
use Rattle.judy_bits.proofs.SetLemmas.{without_at}
use Rattle.judy_leaf.specs.KeyLists.{shift}
use Rattle.judy_node.specs.Trees.{Tree, IsMap, join, forms_in, IsChild, AreChildren, branch_pairs, IsBranch, branch_tree}
use Rattle.judy_node.specs.Branches.{IsWholeBranch, tree_below}
use Rattle.judy_node.specs.Steps.{IsKeyOf, IsStep}
use Rattle.judy_node.specs.declared.child.BranchOf.{BranchOf}
use Rattle.judy_node.specs.declared.step.Step.{Step}
use Rattle.judy_node.specs.declared.step.Step.TheVariants.{Child, Missing, Below, Above}
use Rattle.judy_node.proofs.Maps.{join-map, children-length}
use Rattle.judy_node.proofs.Counts.{there}
use Rattle.judy_node.proofs.StepFacts.{children-IsByteSet}
use Rattle.judy_node.proofs.Shaped.{branch-map, tight-parts, branch_needed}
use Rattle.judy_change.specs.Removals.{value_in, without, Has33, IsGone, IsSettled, pairs_below, loose_below, width_of, IsGoneBelow, IsSame}
use Rattle.judy_change.proofs.Without.{value-below, value-above, value-front, value-fits, length-without}
use Rattle.judy_change.proofs.KidChanges.{children-set, children-drop, child-at, loose-at, loose-set, loose-drop, value-join, join-without, join-drop, none_before, part_before, part-map}
use Rattle.judy_change.proofs.LeafFacts.{one_pair}
use Rattle.judy_change.proofs.Sharing.{has-33, all-33}

-- ---- lists

pub set-there : {A : Type 0} (xs : List A) (at : ℕ) (x : A) → slice_get xs at ≡ Some x → set xs at x ≡ xs
set-there [] at x is = refl
set-there (first ∷ xs) zero x is = ap (λ y. y ∷ xs) (sym (same_Some first x is))
set-there (first ∷ xs) (suc at) x is = ap (λ rest. first ∷ rest) (set-there xs at x is)

pub branch_is : (words w v : ℕ) (s r b c : List ℕ) (k l : List Tree) (n m : ℕ) → w ≡ v → s ≡ r → b ≡ c → k ≡ l → n ≡ m → IsBranch words w s b k n → IsBranch words v r c l m
branch_is words w v s r b c k l n m ew es eb ek en is =
    subst (λ x. IsBranch words x r c l m) ew (subst (λ x. IsBranch words w x c l m) es (subst (λ x. IsBranch words w s x l m) eb
    (subst (λ x. IsBranch words w s b x m) ek (subst (λ x. IsBranch words w s b k x) en is))))

-- ---- a key without a child

value-missing : (words width block rest low byte : ℕ) (bytes : List ℕ) (kids : List Tree) → rest < 256 ^ width → AreChildren words width low bytes kids → sets.has bytes byte ≡ false → byte < 256
    → value_in (join (256 ^ width) block bytes kids) ((block + byte) * 256 ^ width + rest) ≡ None
value-missing words width block rest low byte [] kids rest_is are none small = refl
value-missing words width block rest low byte (first ∷ bytes) [] rest_is are none small = absurd are
value-missing words width block rest low byte (first ∷ bytes) (kid ∷ kids) rest_is are none small =
    let apart = not_first first (sets.has bytes byte) none in
    ⊎_elim
    (λ (same : first ≡ byte). absurd (apart.0 same))
    (λ (order : (first < byte) ⊎ (byte < first)). value-front (shift ((block + first) * 256 ^ width) kid.pairs) (join (256 ^ width) block bytes kids) ((block + byte) * 256 ^ width + rest)
    (⊎_elim
    (λ (below : first < byte). none_before words width block rest rest_is first byte kid below are.2)
    (λ (above : byte < first). none_at words width block rest byte first kid rest_is above are.2)
    order)
    ∙ value-missing words width block rest (first + 1) byte bytes kids rest_is are.3 apart.1 small)
    (cases_order first byte)
  where
    not_first : (first : ℕ) (others : Bool) → (eqb first byte || others) ≡ false → (first ≢ byte) × (others ≡ false)
    not_first first others = elim (eqb first byte) as (λ b. eqb first byte ≡ b → (b || others) ≡ false → (first ≢ byte) × (others ≡ false)) [
      | true ↦ λ _ never. cc
      | false ↦ λ apart rest. (eqb-false first byte apart, rest)
    ] refl

    none_at : (words width block rest byte first : ℕ) (kid : Tree) → rest < 256 ^ width → byte < first → IsChild words width kid →
        value_in (shift ((block + first) * 256 ^ width) kid.pairs) ((block + byte) * 256 ^ width + rest) ≡ None
    none_at words width block rest byte first kid rest_is above is =
        let start = part_before (256 ^ width) block byte first above in
        value-below words ((block + first) * 256 ^ width) ((block + first) * 256 ^ width + 256 ^ width) ((block + byte) * 256 ^ width + rest)
        (shift ((block + first) * 256 ^ width) kid.pairs) (omega arith) (part-map words width ((block + first) * 256 ^ width) kid is)

is_false : (b : Bool) → IsFalse b → b ≡ false
is_false true is = cc
is_false false is = refl

-- Where a step goes to no child, the key isn't there.
pub step-absent : {V : _} (words key : ℕ) (old : BranchOf V) (step : Step) → IsWholeBranch words old → IsStep (256 ^ old.width) (number_of old.skip * 256) old.bytes key step
    → ((byte place rest : ℕ) → step ≡ Child byte place rest → ⊥) → value_in (pairs_below old) key ≡ None
step-absent words key old (Child byte place rest) whole is other = absurd (other byte place rest refl)
step-absent words key old (Missing byte place rest) whole is other =
    subst (λ k. value_in (pairs_below old) k ≡ None) (sym is.0.key_is)
    (value-missing words old.width (number_of old.skip * 256) rest 0 byte old.bytes old.children.items is.0.rest_is whole.parts.children (is_false (sets.has old.bytes byte) is.1) is.0.byte_is)
step-absent words key old Below whole is other =
    let block = number_of old.skip * 256 in
    let first : (block + 0) * 256 ^ old.width ≡ block * 256 ^ old.width = ap (λ n. n * 256 ^ old.width) (let e : block + 0 ≡ block = omega arith in e) in
    let below = is in
    value-below words ((block + 0) * 256 ^ old.width) ((block + 256) * 256 ^ old.width) key (pairs_below old) (omega arith)
    (join-map words old.width 0 block old.bytes old.children.items (omega arith) whole.parts.children)
step-absent words key old Above whole is other =
    let block = number_of old.skip * 256 in
    value-above words ((block + 0) * 256 ^ old.width) ((block + 256) * 256 ^ old.width) key (pairs_below old) is
    (join-map words old.width 0 block old.bytes old.children.items (omega arith) whole.parts.children)

-- ---- a key of a child

module _ {V : _} (words key byte place rest : ℕ) (old : BranchOf V) (kid : Tree) (whole : IsWholeBranch words old) (at : IsKeyOf (256 ^ old.width) (number_of old.skip * 256) key byte rest)
    (byte_there : slice_get old.bytes place ≡ Some byte) (kid_is : kid ≡ get_or old.children.items place kid) where
  pub inside : place < length old.children.items
  inside =
      let within = slice_get_within old.bytes place byte byte_there in
      let long = children-length words old.width 0 old.bytes old.children.items whole.parts.children in
      omega arith

  kid_there : slice_get old.children.items place ≡ Some kid
  kid_there = there old.children.items place kid inside kid_is

  pub kid_child : IsChild words old.width kid
  kid_child = child-at words old.width 0 place old.bytes old.children.items kid whole.parts.children kid_there

  below_value : value_in (pairs_below old) key ≡ value_in kid.pairs rest
  below_value = subst (λ k. value_in (pairs_below old) k ≡ value_in kid.pairs rest) (sym at.key_is)
      (value-join words old.width (number_of old.skip * 256) rest at.rest_is 0 place byte old.bytes old.children.items kid whole.parts.children byte_there kid_there)

  below_map : IsMap words 0 (256 ^ width_of old) (pairs_below old)
  below_map = branch-map words old.width old.skip old.bytes old.children.items old.population whole.parts

  pub below_same : (left : Tree) → left ≡ kid → set old.children.items place left ≡ old.children.items
  below_same left is = ap (set old.children.items place) is ∙ set-there old.children.items place kid kid_there

  pub below_absent : value_in kid.pairs rest ≡ None → value_in (pairs_below old) key ≡ None
  below_absent none = below_value ∙ none

  only_value : (value : ℕ) → kid.pairs ≡ (rest, value) ∷ [] → value_in kid.pairs rest ≡ Some value
  only_value value is = ap (λ ps. value_in ps rest) is ∙ ap (λ b. cond b (Some value) None) (eq-eqb rest rest refl)

  pub below_only : (value : ℕ) → kid.pairs ≡ (rest, value) ∷ [] → old.population ≡ 1 → pairs_below old ≡ (key, value) ∷ []
  below_only value is one = one_pair (pairs_below old) key value (sym whole.parts.counted ∙ one) (below_value ∙ only_value value is)

  pub below_some : (value : ℕ) → value_in kid.pairs rest ≡ Some value → 1 ≤ old.population
  below_some value found =
      let fewer = length-without words 0 (256 ^ width_of old) key value (pairs_below old) below_map (below_value ∙ found) in
      let counted = whole.parts.counted in
      omega arith

  pub below_some-only : (value : ℕ) → kid.pairs ≡ (rest, value) ∷ [] → 1 ≤ old.population
  below_some-only value is = below_some value (only_value value is)

  -- The child keeps other keys.
  pub below_gone : (new : BranchOf V) (left : Tree) (value : ℕ) (shrunk : Bool) → IsGone words old.width rest kid left value shrunk → new.width ≡ old.width →
      new.skip ≡ old.skip → new.bytes ≡ old.bytes
      → new.children.items ≡ set old.children.items place left → new.population + 1 ≡ old.population → IsGoneBelow words key old new value shrunk
  below_gone new left value shrunk is ew es eb ek en =
      let block = number_of old.skip * 256 in
      let found = below_value ∙ is.found in
      let gone : branch_pairs old.width old.skip old.bytes (set old.children.items place left) ≡ without key (pairs_below old) =
      subst (λ k. join (256 ^ old.width) block old.bytes (set old.children.items place left) ≡ without k (pairs_below old)) (sym at.key_is)
      (join-without words old.width block rest at.rest_is 0 place byte old.bytes old.children.items kid left whole.parts.children byte_there kid_there is.gone) in
      let fewer = length-without words 0 (256 ^ width_of old) key value (pairs_below old) below_map found in
      let long = ap length gone in
      let counted = whole.parts.counted in
      record {
        found = found;
        gone = (λ t. branch_pairs (ew t) (es t) (eb t) (ek t)) ∙ gone;
        branch =
            branch_is words old.width new.width old.skip new.skip old.bytes new.bytes (set old.children.items place left) new.children.items (old.population - 1) new.population
            (sym ew) (sym es) (sym eb) (sym ek) (omega arith)
            (record {
              parts = record {
                some_width = whole.parts.some_width;
                within = whole.parts.within;
                skipped_bytes = whole.parts.skipped_bytes;
                children = children-set words old.width 0 place old.bytes old.children.items left whole.parts.children is.child;
                counted = omega arith;
              };
              holds = whole.holds;
            });
        width = λ t. length (es t) + 1 + ew t;
        tight = λ none yes. ap (λ ks. loose_in (forms_in ks)) ek ∙ loose-set place old.children.items left none (is.tight (loose-at place old.children.items kid none kid_there) yes);
        short = λ none kept. subst (Has33 (width_of old) (pairs_below old)) (sym at.key_is)
            (has-33 words old.width block rest (width_of old) place byte old.bytes old.children.items kid at.rest_is (omega arith) whole.parts.children byte_there kid_there
            (is.short (loose-at place old.children.items kid none kid_there) kept));
      }

  -- It has one key less.
  pub below_fewer : (left : Tree) (value : ℕ) (shrunk : Bool) → IsGone words old.width rest kid left value shrunk → (d : Tree) →
      length left.pairs + 1 ≡ length (get_or old.children.items place d).pairs
  below_fewer left value shrunk is d =
      let same = ap (λ (k : Tree). length k.pairs) (kid_is ∙ get_or_default old.children.items place kid d inside) in
      let gone = ap length is.gone in
      let fewer = length-without words 0 (256 ^ old.width) rest value kid.pairs kid_child.map is.found in
      omega arith

  -- The child goes.
  pub below_dropped : (new : BranchOf V) (value : ℕ) → kid.pairs ≡ (rest, value) ∷ [] → old.population ≢ 1 → new.width ≡ old.width → new.skip ≡ old.skip → new.bytes ≡ sets.without_byte old.bytes byte
      → new.children.items ≡ remove old.children.items place → new.population + 1 ≡ old.population → IsGoneBelow words key old new value true
  below_dropped new value is more ew es eb ek en =
      let block = number_of old.skip * 256 in
      let found = below_value ∙ only_value value is in
      let bytes_are = eb ∙ without_at old.bytes place byte (children-IsByteSet words old.width 0 old.bytes old.children.items whole.parts.children).ascending byte_there in
      let none : without rest kid.pairs ≡ [] = ap (without rest) is ∙ ap (λ b. cond b [] ((rest, value) ∷ [])) (eq-eqb rest rest refl) in
      let gone : branch_pairs old.width old.skip (remove old.bytes place) (remove old.children.items place) ≡ without key (pairs_below old) =
      subst (λ k. join (256 ^ old.width) block (remove old.bytes place) (remove old.children.items place) ≡ without k (pairs_below old)) (sym at.key_is)
      (join-drop words old.width block rest at.rest_is 0 place byte old.bytes old.children.items kid whole.parts.children byte_there kid_there none) in
      let fewer = length-without words 0 (256 ^ width_of old) key value (pairs_below old) below_map found in
      let long = ap length gone in
      let counted = whole.parts.counted in
      let children = children-drop words old.width 0 place old.bytes old.children.items whole.parts.children in
      record {
        found = found;
        gone = (λ t. branch_pairs (ew t) (es t) (bytes_are t) (ek t)) ∙ gone;
        branch =
            branch_is words old.width new.width old.skip new.skip (remove old.bytes place) new.bytes (remove old.children.items place) new.children.items
            (old.population - 1) new.population (sym ew) (sym es) (sym bytes_are) (sym ek) (omega arith)
            (record {
              parts = record {
                some_width = whole.parts.some_width;
                within = whole.parts.within;
                skipped_bytes = whole.parts.skipped_bytes;
                children = children;
                counted = omega arith;
              };
              holds = some_bytes (256 ^ old.width) block (remove old.bytes place) (remove old.children.items place) (omega arith);
            });
        width = λ t. length (es t) + 1 + ew t;
        tight = λ tight _. ap (λ ks. loose_in (forms_in ks)) ek ∙ loose-drop place old.children.items tight;
        short = λ _ never. absurd (true≢false never);
      }
    where
      some_bytes : (unit block : ℕ) (bytes : List ℕ) (kids : List Tree) → 1 ≤ length (join unit block bytes kids) → 1 ≤ length bytes
      some_bytes unit block [] kids some = some
      some_bytes unit block (first ∷ bytes) kids some = omega arith

-- ---- the branch as a node

-- A branch among children of a width has keys of that width.
pub branch_wide : {V : _} (words width : ℕ) (old : BranchOf V) → IsChild words width (tree_below old) → width_of old ≡ width
branch_wide words width old child = child.wide (λ (none : width_of old ≡ 0). let never : ⊥ = omega arith in never)

or_false : (one other : Bool) → (one && other) ≡ false → (one ≡ false) ⊎ (other ≡ false)
or_false true other is = inr is
or_false false other is = inl refl

pub and_true : (one other : Bool) → (one && other) ≡ true → (one ≡ true) × (other ≡ true)
and_true true other is = (refl, is)
and_true false other is = absurd (true≢false (sym is))

gone_at : {V : _} (words key : ℕ) (old mid : BranchOf V) (value : ℕ) (shrunk settled : Bool) (new : Tree) → IsWholeBranch words old → IsGoneBelow words key old mid value shrunk
    → IsSettled words (width_of old) (pairs_below mid) (loose_below mid) new settled → IsGone words (width_of old) key (tree_below old) new value (shrunk && settled)
gone_at words key old mid value shrunk settled new whole below is =
    let map = branch-map words old.width old.skip old.bytes old.children.items old.population whole.parts in
    let fewer = length-without words 0 (256 ^ width_of old) key value (pairs_below old) map below.found in
    let as_many = ap length below.gone in
    let counted = whole.parts.counted in
    let fits = value-fits words 0 (256 ^ width_of old) key value (pairs_below old) map below.found in
    record {
      found = below.found;
      gone = is.same ∙ below.gone;
      child = is.child;
      tight = λ tight yes.
          let parts = tight-parts (branch old.skip old.bytes old.population) (forms_in old.children.items) tight in
          let flags = and_true shrunk settled yes in
          is.tight (below.tight parts.1 flags.0) flags.1;
      short = λ tight kept.
          let parts = tight-parts (branch old.skip old.bytes old.population) (forms_in old.children.items) tight in
          ⊎_elim
          (λ (h : shrunk ≡ false). below.short parts.1 h)
          (λ (h : settled ≡ false).
          let many = (branch_needed old.skip old.bytes old.population parts.0).0 in
          let few = is.short h in
          all-33 words (width_of old) key (pairs_below old) fits map (omega arith))
          (or_false shrunk settled kept);
    }

pub branch_gone : {V : _} (words width key : ℕ) (old mid : BranchOf V) (value : ℕ) (shrunk settled both : Bool) (new : Tree) → IsWholeBranch words old →
    width_of old ≡ width → IsGoneBelow words key old mid value shrunk
    → IsSettled words width (pairs_below mid) (loose_below mid) new settled → both ≡ (shrunk && settled) → IsGone words width key (tree_below old) new value both
branch_gone words width key old mid value shrunk settled both new whole wide below is flag =
    subst (λ w. IsGone words w key (tree_below old) new value both) wide
    (subst (IsGone words (width_of old) key (tree_below old) new value) (sym flag)
    (gone_at words key old mid value shrunk settled new whole below (subst (λ w. IsSettled words w (pairs_below mid) (loose_below mid) new settled) (sym wide) is)))

-- Two keys are left at least of three.
pub two_left : {V : _} (words key : ℕ) (old mid : BranchOf V) (value : ℕ) (shrunk : Bool) → IsWholeBranch words old → IsGoneBelow words key old mid value shrunk → mid.population + 1 ≡ old.population
two_left words key old mid value shrunk whole below =
    let map = branch-map words old.width old.skip old.bytes old.children.items old.population whole.parts in
    let fewer = length-without words 0 (256 ^ width_of old) key value (pairs_below old) map below.found in
    let as_many = ap length below.gone in
    let counted = whole.parts.counted in
    let left = below.branch.parts.counted in
    omega arith

-- A branch whose children are what they were.
pub same_tree : {V : _} (words : ℕ) (old : BranchOf V) (place : ℕ) (left : Tree) → IsWholeBranch words old → set old.children.items place left ≡ old.children.items
    → IsSame words old (record old { children = with_item old.children place left })
same_tree words old place left whole same = record {
  branch =
      branch_is words old.width old.width old.skip old.skip old.bytes old.bytes old.children.items (set old.children.items place left) old.population old.population refl refl refl
      (sym same) refl whole;
  tree = ap (λ ks. branch_tree old.width old.skip old.bytes ks old.population) same;
}
