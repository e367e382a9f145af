-- Nodes made as small as their keys allow.
use Rattle.std.proofs.Common.{◌≡◌, ◌≢◌, ℕ, zero, suc, ◌+◌, ◌-◌, ◌*◌, ◌/◌, ◌%◌, ◌^◌, ◌<◌, ◌≤◌, true, false, true≢false, Some, List, [], ◌∷◌, ◌++◌, length, take, drop, get_or, sym}
use Rattle.std.proofs.Common.{refl, ap, ◌∙◌, subst, slice_get, length-append, arith}
use Rattle.std.proofs.Math.Nat.{add-mul, mul_assoc, pow-le-pow_right}
use Rattle.std.proofs.lemmas.Nat.{pow-add}
use Rattle.std.proofs.lemmas.List.{append-nil, take-append-le, take_all}
use Rattle.std.proofs.lemmas.Option.{same_Some}
use Rattle.judy_model.specs.WordBytes.{number_of}
use Rattle.judy_model.specs.Forms.{Form, immediate, leaf, bitmap_leaf, branch, loose_in}
use Rattle.judy_model.specs.Shapes.{AllBelow}
use Rattle.judy_model.proofs.lemmas.forms.FormLemmas.{loose_in-append, branch_tight, tight-head, immediate_limit_small}
use Rattle.judy_leaf.specs.KeyLists.{keys_of, low_pairs, shift}
use Rattle.judy_node.specs.Trees.{Pairs, Tree, IsTight, IsMap, forms_in, IsChild, branch_pairs, IsBranch, branch_tree}
use Rattle.judy_node.specs.Branches.{tree_below}
use Rattle.judy_node.specs.Kinds.{tree_of, IsLevel, IsDeep, skip_more, behind}
use Rattle.judy_node.specs.Built.{IsBuilt}
use Rattle.judy_node.specs.declared.child.KindOf.{KindOf}
use Rattle.judy_node.specs.declared.child.KindOf.TheVariants.{Imm, Leaf, Bit, Branch}
use Rattle.judy_node.proofs.Maps.{length-shift, shift-shift, shift-zero, map-AllBelow, children-length}
use Rattle.judy_node.proofs.Shaped.{branch-child, branch-map}
use Rattle.judy_node.proofs.KindFacts.{level-child}
use Rattle.judy_node.proofs.Leaves.{leaf_long, imm_length, imm_some}
use Rattle.judy_node.proofs.MadeFacts.{low_pairs_same}
use Rattle.judy_change.specs.Removals.{IsTightOf, IsSettled, IsNeeded, loose_under, width_of}

-- ---- few keys

pub low_map : (words width : ℕ) (pairs : Pairs) → IsMap words 0 (256 ^ width) pairs → IsMap words 0 (256 ^ width) (low_pairs (256 ^ width) pairs)
low_map words width pairs map = subst (IsMap words 0 (256 ^ width)) (sym (low_pairs_same words 0 (256 ^ width) pairs map)) map

pub tight_of : (words width : ℕ) (pairs : Pairs) (tree new : Tree) → IsBuilt words width pairs tree → IsMap words 0 (256 ^ width) pairs → new ≡ tree → IsTightOf words width pairs new
tight_of words width pairs tree new built map is =
    subst (IsTightOf words width pairs) (sym is) (record { child = built.child; same = built.same ∙ low_pairs_same words 0 (256 ^ width) pairs map; tight = built.tight })

-- The pairs that were written to the front of a longer list.
pub filled : (n : ℕ) (out back inner : Pairs) → length inner ≡ n → out ≡ shift 0 inner → take n (out ++ back) ≡ inner
filled n out back inner long is =
    let many : length out ≡ n = ap length is ∙ length-shift 0 inner ∙ long in
    take-append-le n out back (omega arith) ∙ take_all n out (omega arith) ∙ is ∙ shift-zero 0 inner refl

pub word_fits : (width : ℕ) → width ≤ 8 → 0 + 256 ^ width ≤ 2 ^ 64
word_fits width high = let most : 256 ^ width ≤ 256 ^ 8 = pow-le-pow_right {n = 256} (omega arith) high in omega arith

pub settled-tight : (words width loose : ℕ) (pairs : Pairs) (new : Tree) → IsTightOf words width pairs new → IsSettled words width pairs loose new true
settled-tight words width loose pairs new is = record { child = is.child; same = is.same; tight = λ _ _. is.tight; short = λ never. absurd (true≢false never) }

pub settled-kept : (words width loose : ℕ) (tree : Tree) → IsChild words width tree → length tree.pairs ≤ 32 → IsSettled words width tree.pairs loose tree false
settled-kept words width loose tree is few = record { child = is; same = refl; tight = λ _ never. absurd (true≢false (sym never)); short = λ _. few }

-- ---- more bytes to skip

pub skip_more-none : (form : Form) → skip_more [] form ≡ form
skip_more-none [] = refl
skip_more-none (immediate keys ∷ nodes) = refl
skip_more-none (leaf keys ∷ nodes) = refl
skip_more-none (bitmap_leaf skipped bytes ∷ nodes) = refl
skip_more-none (branch skipped bytes count ∷ nodes) = refl

skip_more-cons : (byte : ℕ) (more : List ℕ) (form : Form) → skip_more (byte ∷ []) (skip_more more form) ≡ skip_more (byte ∷ more) form
skip_more-cons byte more [] = refl
skip_more-cons byte more (immediate keys ∷ nodes) = refl
skip_more-cons byte more (leaf keys ∷ nodes) = refl
skip_more-cons byte more (bitmap_leaf skipped bytes ∷ nodes) = refl
skip_more-cons byte more (branch skipped bytes count ∷ nodes) = refl

loose-skip_more : (more : List ℕ) (form : Form) → loose_in (skip_more more form) ≡ loose_in form
loose-skip_more more [] = refl
loose-skip_more more (immediate keys ∷ nodes) = refl
loose-skip_more more (leaf keys ∷ nodes) = refl
loose-skip_more more (bitmap_leaf skipped bytes ∷ nodes) = refl
loose-skip_more more (branch skipped bytes count ∷ nodes) = refl

pub behind-none : (bytes : List ℕ) (tree : Tree) → length bytes ≡ 0 → tree ≡ behind bytes tree
behind-none [] tree none =
    let wide : tree.width ≡ 0 + tree.width = omega arith in
    λ t. record { width = wide t; pairs = sym (shift-zero (0 * 256 ^ tree.width) tree.pairs (omega arith)) t; form = sym (skip_more-none tree.form) t }
behind-none (byte ∷ bytes) tree none = let never : ⊥ = omega arith in absurd never

behind-cons : (byte : ℕ) (more : List ℕ) (tree : Tree) → behind (byte ∷ []) (behind more tree) ≡ behind (byte ∷ more) tree
behind-cons byte more tree =
    let wide : 1 + (length more + tree.width) ≡ suc (length more) + tree.width = omega arith in
    let alone : number_of (byte ∷ []) ≡ byte = omega arith in
    let unit = 256 ^ tree.width in
    let first : number_of (byte ∷ []) * 256 ^ (length more + tree.width) ≡ byte * 256 ^ length more * unit =
    (λ t. alone t * pow-add 256 (length more) tree.width t) ∙ sym (mul_assoc byte (256 ^ length more) unit) in
    let both : number_of (byte ∷ more) * unit ≡ number_of (byte ∷ []) * 256 ^ (length more + tree.width) + number_of more * unit =
    add-mul (byte * 256 ^ length more) (number_of more) unit ∙ ap (λ n. n + number_of more * unit) (sym first) in
    λ t. record {
      width = wide t;
      pairs = shift-shift (number_of (byte ∷ []) * 256 ^ (length more + tree.width)) (number_of more * unit) (number_of (byte ∷ more) * unit) tree.pairs both t;
      form = skip_more-cons byte more tree.form t;
    }

pub behind-first : (bytes : List ℕ) (tree : Tree) → length bytes ≢ 0 → behind (get_or bytes 0 0 ∷ []) (behind (take (length bytes - 1) (drop 1 bytes)) tree) ≡ behind bytes tree
behind-first [] tree some = absurd (some refl)
behind-first (byte ∷ bytes) tree some =
    ap (λ more. behind (byte ∷ []) (behind more tree)) (take_all (suc (length bytes) - 1) bytes (omega arith)) ∙ behind-cons byte bytes tree

-- ---- a branch with one child

-- A node of more than 32 keys skips bytes.
pub many-deep : {V : _} (words : ℕ) (kind : KindOf V) → IsLevel words kind → 32 < length (tree_of words kind).pairs → IsDeep kind
many-deep zero (Imm head word) level many =
    let long = imm_length (head / 256) (head % 256) word level in
    let some = (imm_some (head / 256) (head % 256) word level).1 in
    let few = immediate_limit_small 0 (head / 256) in
    let never : ⊥ = omega arith in
    absurd never
many-deep (suc words) (Imm head word) level many = let never : ⊥ = omega arith in absurd never
many-deep words (Leaf count block) level many =
    let long = leaf_long words count block level.parts in
    let few = level.parts.keys.few in
    let never : ⊥ = omega arith in
    absurd never
many-deep words (Bit skipped block) level many = tt
many-deep words (Branch b) level many = tt

deep-width : {V : _} (words : ℕ) (kind : KindOf V) → IsLevel words kind → IsDeep kind → 1 ≤ (tree_of words kind).width
deep-width words (Imm head word) level deep = absurd deep
deep-width words (Leaf count block) level deep = absurd deep
deep-width words (Bit skipped block) level deep = level.parts.some
deep-width words (Branch b) level deep = omega arith

-- Its width is told.
pub deep-wide : {V : _} (words width : ℕ) (kind : KindOf V) → IsLevel words kind → IsDeep kind → IsChild words width (tree_of words kind) → (tree_of words kind).width ≡ width
deep-wide words width kind level deep child =
    let low = deep-width words kind level deep in
    child.wide (λ (none : (tree_of words kind).width ≡ 0). let never : ⊥ = omega arith in never)

-- A branch's only child in its place.
pub record IsMerged (words total loose : ℕ) (pairs : Pairs) (new : Tree) : Type 0 where
  pub child : IsChild words total new
  pub same : new.pairs ≡ pairs
  pub tight : loose ≡ 0 → IsTight new

pub merged-is : {V : _} (words width : ℕ) (skip : List ℕ) (byte count : ℕ) (kid new : Tree) (kind : KindOf V) → IsBranch words width skip (byte ∷ []) (kid ∷ []) count → kid.width ≡ width
    → IsLevel words kind → tree_of words kind ≡ behind skip (behind (byte ∷ []) kid) → new ≡ tree_of words kind
    → IsMerged words (length skip + 1 + width) (loose_in (kid.form ++ [])) (branch_pairs width skip (byte ∷ []) (kid ∷ [])) new
merged-is words width skip byte count kid new kind whole_is wide level is close =
    let whole = behind skip (behind (byte ∷ []) kid) in
    let number : number_of (byte ∷ []) ≡ byte = omega arith in
    let unit = 256 ^ width in
    let inner : number_of (byte ∷ []) * 256 ^ kid.width ≡ byte * unit = λ t. number t * 256 ^ wide t in
    let outer : number_of skip * 256 ^ (1 + kid.width) ≡ number_of skip * 256 * unit =
    (λ t. number_of skip * 256 ^ (1 + wide t)) ∙ ap (λ n. number_of skip * n) (pow-add 256 1 width) ∙ sym (mul_assoc (number_of skip) (256 ^ 1) unit) in
    let start : (number_of skip * 256 + byte) * unit ≡ number_of skip * 256 ^ (1 + kid.width) + number_of (byte ∷ []) * 256 ^ kid.width =
    add-mul (number_of skip * 256) byte unit ∙ (λ t. sym outer t + sym inner t) in
    let pairs : whole.pairs ≡ branch_pairs width skip (byte ∷ []) (kid ∷ []) =
    shift-shift (number_of skip * 256 ^ (1 + kid.width)) (number_of (byte ∷ []) * 256 ^ kid.width) ((number_of skip * 256 + byte) * unit) kid.pairs start
    ∙ sym (append-nil (shift ((number_of skip * 256 + byte) * unit) kid.pairs)) in
    let told : whole.width ≡ length skip + 1 + width = (let e : length skip + (1 + kid.width) ≡ length skip + 1 + width = omega arith in e) in
    let same : (tree_of words kind).pairs ≡ branch_pairs width skip (byte ∷ []) (kid ∷ []) = ap (λ t. t.pairs) is ∙ pairs in
    let within = whole_is.parts.within in
    subst (IsMerged words (length skip + 1 + width) (loose_in (kid.form ++ [])) (branch_pairs width skip (byte ∷ []) (kid ∷ []))) (sym close)
    (record {
      child = level-child words (length skip + 1 + width) kind level (record {
        low_width = omega arith;
        high_width = within;
        wide = λ _. ap (λ t. t.width) is ∙ told;
        below = subst (λ ps. AllBelow (256 ^ (length skip + 1 + width)) (keys_of ps)) (sym same)
            (map-AllBelow words 0 (256 ^ (length skip + 1 + width)) (branch_pairs width skip (byte ∷ []) (kid ∷ [])) (branch-map words width skip (byte ∷ []) (kid ∷ []) count whole_is.parts));
      });
      same = same;
      tight = λ none.
          let sum = loose_in-append kid.form [] in
          ap (λ t. loose_in t.form) is ∙ loose-skip_more skip (skip_more (byte ∷ []) kid.form) ∙ loose-skip_more (byte ∷ []) kid.form ∙ (let e : loose_in kid.form ≡ 0 = omega arith in e);
    })

-- ---- a branch that stays

pub settled-branch : (words width total : ℕ) (skip bytes : List ℕ) (kids : List Tree) (count : ℕ) (new : Tree) → IsBranch words width skip bytes kids count →
    length skip + 1 + width ≡ total → 32 < count → length kids ≢ 1
    → new ≡ branch_tree width skip bytes kids count → IsSettled words total (branch_pairs width skip bytes kids) (loose_in (forms_in kids)) new true
settled-branch words width total skip bytes kids count new is wide many apart close =
    let long = children-length words width 0 bytes kids is.parts.children in
    let holds = is.holds in
    subst (λ tree. IsSettled words total (branch_pairs width skip bytes kids) (loose_in (forms_in kids)) tree true) (sym close)
    (record {
      child = subst (λ w. IsChild words w (branch_tree width skip bytes kids count)) wide (branch-child words width skip bytes kids count is);
      same = refl;
      tight = λ none _. tight-head (branch skip bytes count) (forms_in kids) (branch_tight skip bytes count many (omega arith)) none;
      short = λ never. absurd (true≢false never);
    })

-- ---- the only child, as it is taken out of its branch

only-byte : (bytes : List ℕ) (byte : ℕ) → length bytes ≡ 1 → slice_get bytes 0 ≡ Some byte → bytes ≡ byte ∷ []
only-byte [] byte one there = let never : ⊥ = omega arith in absurd never
only-byte (first ∷ []) byte one there = ap (λ b. b ∷ []) (same_Some first byte there)
only-byte (first ∷ next ∷ bytes) byte one there = let never : ⊥ = omega arith in absurd never

only-kid : (kids rest : List Tree) (kid : Tree) → length kids ≡ 1 → kids ≡ rest ++ kid ∷ [] → kids ≡ kid ∷ []
only-kid kids [] kid one is = is
only-kid kids (other ∷ rest) kid one is =
    let long = ap length is in
    let both = length-append rest (kid ∷ []) in
    let never : ⊥ = omega arith in
    absurd never

module _ {V : _} (words width : ℕ) (skip bytes : List ℕ) (kids rest : List Tree) (count byte : ℕ) (kid : Tree) (kind : KindOf V) (is : IsBranch words width skip bytes kids count) (many : 32 < count)
    (one : length bytes ≡ 1) (byte_there : slice_get bytes 0 ≡ Some byte) (kid_there : kids ≡ rest ++ kid ∷ []) (opened : kid ≡ tree_of words kind) (level : IsLevel words kind) where
  bytes_are : bytes ≡ byte ∷ []
  bytes_are = only-byte bytes byte one byte_there

  kids_are : kids ≡ tree_of words kind ∷ []
  kids_are = only-kid kids rest kid (children-length words width 0 bytes kids is.parts.children ∙ one) kid_there ∙ ap (λ k. k ∷ []) opened

  alone_is : IsBranch words width skip (byte ∷ []) (tree_of words kind ∷ []) count
  alone_is = subst (λ bs. IsBranch words width skip bs (tree_of words kind ∷ []) count) bytes_are (subst (λ ks. IsBranch words width skip bytes ks count) kids_are is)

  pub kid_deep : IsDeep kind
  kid_deep =
      let start = (number_of skip * 256 + byte) * 256 ^ width in
      let counted = alone_is.parts.counted in
      let both = length-append (shift start (tree_of words kind).pairs) [] in
      let long = length-shift start (tree_of words kind).pairs in
      many-deep words kind level (omega arith)

  pub kid_wide : (tree_of words kind).width ≡ width
  kid_wide = deep-wide words width kind level kid_deep alone_is.parts.children.2

  pub kid_merged : (last : KindOf V) (new : Tree) → IsLevel words last → tree_of words last ≡ behind skip (behind (byte ∷ []) (tree_of words kind)) → new ≡ tree_of words last
      → IsMerged words (length skip + 1 + width) (loose_in (forms_in kids)) (branch_pairs width skip bytes kids) new
  kid_merged last new level_last tree close =
      subst (λ bs. IsMerged words (length skip + 1 + width) (loose_in (forms_in kids)) (branch_pairs width skip bs kids) new) (sym bytes_are)
      (subst (λ ks. IsMerged words (length skip + 1 + width) (loose_in (forms_in ks)) (branch_pairs width skip (byte ∷ []) ks) new) (sym kids_are)
      (merged-is words width skip byte count (tree_of words kind) new last alone_is kid_wide level_last tree close))

-- A branch that no smaller node could replace is settled as it stands.
pub needed_settled : {V : _} (words width : ℕ) (kind : KindOf V) → IsLevel words kind → IsChild words width (tree_of words kind) → IsNeeded kind true
    → IsSettled words width (tree_of words kind).pairs (loose_under kind) (tree_of words kind) true
needed_settled words width (Imm head word) level child never = absurd never
needed_settled words width (Leaf count block) level child never = absurd never
needed_settled words width (Bit skipped block) level child never = absurd never
needed_settled words width (Branch b) level child needed =
    let own = b.value in
    let wide : width_of own ≡ width = child.wide (λ (none : width_of own ≡ 0). let never : ⊥ = omega arith in never) in
    settled-branch words own.width width own.skip own.bytes own.children.items own.population (tree_below own) level.0 wide needed.0 needed.1 refl
