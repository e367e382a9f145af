-- Sorted pairs put behind those of a branch: in its last child, or as a child behind it.
use Rattle.std.proofs.Common.{◌≡◌, ◌≢◌, ℕ, zero, suc, ◌+◌, ◌*◌, ◌/◌, ◌%◌, ◌^◌, ◌<◌, ◌≤◌, false, List, [], ◌∷◌, ◌++◌, length, take, drop, set, get_or, Some, slice_get, refl, sym}
use Rattle.std.proofs.Common.{ap, ◌∙◌, subst, arith, length-append, append_assoc, append-nil}
use Rattle.std.proofs.Math.Nat.{div-div-eq-div-mul, mul_comm}
use Rattle.std.proofs.Math.Arith.{mod-mul}
use Rattle.std.specs.List.{insert}
use Rattle.std.proofs.lemmas.Nat.{pow-add, div-add-mod', mod_below, same_from_place}
use Rattle.std.proofs.lemmas.List.{take-append-drop, take_all, drop_all, length-take-le}
use Rattle.judy_model.specs.WordBytes.{number_of}
use Rattle.judy_model.specs.Forms.{branch, loose_in}
use Rattle.judy_model.specs.Shapes.{AllBelow}
use Rattle.judy_model.proofs.lemmas.orders.ByteLemmas.{unit_pos}
use Rattle.judy_bits.specs.ByteSets.{has, rank}
use Rattle.judy_leaf.specs.KeyLists.{low_pairs, shift}
use Rattle.judy_node.specs.Trees.{Pairs, Tree, IsTight, IsMap, join, forms_in, IsChild, AreChildren, branch_pairs, IsBranch, branch_tree}
use Rattle.judy_node.specs.Steps.{IsKeyOf}
use Rattle.judy_node.specs.Built.{IsBuilt}
use Rattle.judy_node.proofs.Maps.{children-length, shift-append}
use Rattle.judy_node.proofs.Shaped.{tight-parts}
use Rattle.judy_node.proofs.MadeFacts.{low_pairs_same}
use Rattle.judy_node.proofs.Groups.{AllMiddle, length-low_pairs, low_pairs-shared, map-front, map-down, children-push, join-push, forms-push}
use Rattle.judy_change.specs.Appended.{AllBegin, first_key, IsAppended, IsLonger}
use Rattle.judy_change.proofs.ChildSets.{child-gap, children-with, loose-with}
use Rattle.judy_change.proofs.BranchInserts.{grown_tight, cut, set_is, old_pairs, new_pairs, child_fewer}
use Rattle.judy_change.proofs.KidInserts.{IsKid, kid_there}

-- ---- keys that begin alike

-- One more of them.
begin_next : (unit front : ℕ) (pairs : Pairs) (at : ℕ) (d : ℕ × ℕ) → AllBegin unit front (take at pairs) → at < length pairs → (get_or pairs at d).0 / unit ≡ front →
    AllBegin unit front (take (suc at) pairs)
begin_next unit front [] at d all within is = absurd (omega (arith, within))
begin_next unit front (pair ∷ pairs) zero d all within is = (is, tt)
begin_next unit front (pair ∷ pairs) (suc at) d all within is = (all.0, begin_next unit front pairs at d all.1 (omega (arith, within)) is)

pub begin_more : (unit front : ℕ) (pairs : Pairs) (at : ℕ) (d : ℕ × ℕ) → AllBegin unit front (take at pairs) → at < length pairs → (get_or pairs at d).0 / unit ≡ front →
    AllBegin unit front (take (at + 1) pairs)
begin_more unit front pairs at d all within is = subst (λ n. AllBegin unit front (take n pairs)) (let e : suc at ≡ at + 1 = omega arith in e) (begin_next unit front pairs at d all within is)

-- Their bytes in the middle are the same.
begin_middle : (unit front top head : ℕ) (pairs : Pairs) → front % top ≡ head → AllBegin unit front pairs → AllMiddle unit top head pairs
begin_middle unit front top head [] is all = tt
begin_middle unit front top head (pair ∷ pairs) is all = (ap (λ n. n % top) all.0 ∙ is, begin_middle unit front top head pairs is all.1)

-- So are those above these.
begin_above : (unit top first : ℕ) (pairs : Pairs) → AllBegin unit (first / unit) pairs → AllBegin (unit * top) (first / (unit * top)) pairs
begin_above unit top first [] all = tt
begin_above unit top first (pair ∷ pairs) all =
    (sym (div-div-eq-div-mul pair.0 unit top) ∙ ap (λ n. n / top) all.0 ∙ div-div-eq-div-mul first unit top, begin_above unit top first pairs all.1)

-- They are their lowest bytes, moved up.
begin_shift : (unit front : ℕ) (pairs : Pairs) → AllBegin unit front pairs → pairs ≡ shift (front * unit) (low_pairs unit pairs)
begin_shift unit front [] all = refl
begin_shift unit front (pair ∷ pairs) all =
    let split = div-add-mod' pair.0 unit in
    let same = ap (λ n. n * unit) all.0 in
    let here : pair.0 ≡ front * unit + pair.0 % unit = omega (arith, split, same) in
    λ t. (here t, pair.1) ∷ begin_shift unit front pairs all.1 t

-- Their lowest bytes ascend as they do.
pub begin_map : (words top unit front n : ℕ) (pairs : Pairs) → IsMap words 0 top pairs → AllBegin unit front (take n pairs) → 0 < unit → IsMap words 0 unit (low_pairs unit (take n pairs))
begin_map words top unit front n pairs map all some =
    let first = map-front words 0 top (take n pairs) (drop n pairs) (subst (IsMap words 0 top) (sym (take-append-drop n pairs)) map) in
    map-down words 0 top (front * unit) unit (take n pairs) (subst (IsMap words 0 top) (begin_shift unit front (take n pairs) all) first) some

-- What stands in a key's place above a child's bytes, and what is left for the child.
pub key_parts : (width bytes key block byte rest first : ℕ) → IsKeyOf (256 ^ width) block key byte rest → key ≡ first % 256 ^ (bytes + width) →
    (first / 256 ^ width % 256 ^ bytes ≡ block + byte) × (rest ≡ first % 256 ^ width)
key_parts width bytes key block byte rest first is low =
    let whole : first % 256 ^ (bytes + width) ≡ first / 256 ^ width % 256 ^ bytes * 256 ^ width + first % 256 ^ width = ap (λ n. first % n) (pow-add 256 bytes width) ∙
    mod-mul first (unit_pos bytes) (unit_pos width) in
    let same = same_from_place (first / 256 ^ width % 256 ^ bytes) (first % 256 ^ width) (block + byte) rest (256 ^ width) (mod_below first (256 ^ width) (unit_pos width)) is.rest_is
    (sym whole ∙ sym low ∙ is.key_is) in
    (same.0, sym same.1)

-- ---- none, and all

-- What is put behind in the one node below a root.
pub appended_root : (words count : ℕ) (pairs : Pairs) (old new : Tree) → IsMap words 0 (256 ^ 8) pairs → IsLonger 8 count pairs old new →
    IsAppended count pairs (record old { width = 8 }) (record new { width = 8 })
appended_root words count pairs old new map put = record {
  within = put.within;
  longer =
      let first = map-front words 0 (256 ^ 8) (take count pairs) (drop count pairs) (subst (IsMap words 0 (256 ^ 8)) (sym (take-append-drop count pairs)) map) in
      put.longer ∙ ap (λ ps. old.pairs ++ ps) (low_pairs_same words 0 (256 ^ 8) (take count pairs) first);
  tight = put.tight;
  none = λ none. ap (λ (tree : Tree). record tree { width = 8 }) (put.none none);
}

-- What is put behind the last of a list.
pub insert_last : {A : Type 0} (items : List A) (at : ℕ) (item : A) → at ≡ length items → insert items at item ≡ items ++ item ∷ []
insert_last items at item is = λ t. take_all at items (omega (arith, is)) t ++ item ∷ drop_all at items (omega (arith, is)) t

-- ---- below a branch

module _ (words width : ℕ) (skipped bytes : List ℕ) (kids : List Tree) (count : ℕ) (is : IsBranch words width skipped bytes kids count) (byte : ℕ) (pairs : Pairs)
    (head_is : first_key pairs / 256 ^ width % 256 ^ (length skipped + 1) ≡ number_of skipped * 256 + byte) (n : ℕ) (within : n ≤ length pairs)
    (alike : AllBegin (256 ^ width) (first_key pairs / 256 ^ width) (take n pairs)) where
  abbrev unit : ℕ
  unit = 256 ^ width

  abbrev top : ℕ
  top = 256 ^ (length skipped + 1)

  abbrev whole : ℕ
  whole = 256 ^ (length skipped + 1 + width)

  abbrev start : ℕ
  start = (number_of skipped * 256 + byte) * unit

  abbrev front : Pairs
  front = take n pairs

  abbrev old : Tree
  old = branch_tree width skipped bytes kids count

  whole_is : whole ≡ unit * top
  whole_is = pow-add 256 (length skipped + 1) width ∙ mul_comm top unit

  -- A child's pairs, moved up, are those of the branch.
  front_shared : shift start (low_pairs unit front) ≡ low_pairs whole front
  front_shared =
      let middle = begin_middle unit (first_key pairs / unit) top (number_of skipped * 256 + byte) front head_is alike in
      sym (low_pairs-shared unit top (number_of skipped * 256 + byte) front (unit_pos width) (unit_pos (length skipped + 1)) middle)
      ∙ ap (λ by. low_pairs by front) (sym (pow-add 256 (length skipped + 1) width))

  all_alike : AllBegin whole (first_key pairs / whole) front
  all_alike = subst (λ by. AllBegin by (first_key pairs / by) front) (sym whole_is) (begin_above unit top (first_key pairs) front alike)

  front_long : length (low_pairs whole front) ≡ n
  front_long = length-low_pairs whole front ∙ length-take-le n pairs within

  -- The branch with n more.
  module _ (more : List ℕ) (kin : List Tree) (longer : branch_pairs width skipped more kin ≡ branch_pairs width skipped bytes kids ++ low_pairs whole front)
      (are : AreChildren words width 0 more kin) (wider : length bytes ≤ length more) where
    more_level : IsBranch words width skipped more kin (count + n)
    more_level = record {
      parts = record {
        some_width = is.parts.some_width;
        within = is.parts.within;
        skipped_bytes = is.parts.skipped_bytes;
        children = are;
        counted =
            let all = ap length longer ∙ length-append (branch_pairs width skipped bytes kids) (low_pairs whole front) in
            let long = front_long in
            let counted = is.parts.counted in
            omega (arith, all, long, counted);
      };
      holds = let some = is.holds in omega (arith, some, wider);
    }

    more_longer : n ≢ 0 → (IsTight old → loose_in (forms_in kin) ≤ loose_in (forms_in kids)) → IsLonger (length skipped + 1 + width) n pairs old (branch_tree width skipped more kin (count + n))
    more_longer some loose = record {
      within = within;
      alike = all_alike;
      longer = longer;
      tight = λ tight. grown_tight skipped bytes more count n kids kin tight wider (loose tight);
      none = λ none. absurd (some none);
    }

  -- ---- in the last child

  module _ (at : ℕ) (kid : Tree) (here : slice_get bytes at ≡ Some byte) (there : slice_get kids at ≡ Some kid) (last : length kids ≤ at + 1) (new : Tree) (put : IsLonger width n pairs kid new) where
    abbrev lower : Pairs
    lower = join unit (number_of skipped * 256) (take at bytes) (take at kids)

    abbrev upper : Pairs
    upper = join unit (number_of skipped * 256) (drop (suc at) bytes) (drop (suc at) kids)

    none_behind : upper ≡ []
    none_behind =
        let long = children-length words width 0 bytes kids is.parts.children in
        λ t. join unit (number_of skipped * 256) (drop_all (suc at) bytes (omega (arith, long, last)) t) (drop_all (suc at) kids (omega (arith, last)) t)

    kid_pairs : branch_pairs width skipped bytes (set kids at new) ≡ branch_pairs width skipped bytes kids ++ low_pairs whole front
    kid_pairs =
        new_pairs words width skipped bytes kids count is byte 0 (unit_pos width) at kid here there new
        ∙ (λ t. lower ++ (shift start (put.longer t) ++ none_behind t))
        ∙ ap (λ ps. lower ++ ps) (append-nil (shift start (kid.pairs ++ low_pairs unit front)) ∙ shift-append start kid.pairs (low_pairs unit front))
        ∙ sym (append_assoc lower (shift start kid.pairs) (shift start (low_pairs unit front)))
        ∙ (λ t. (lower ++ sym (append-nil (shift start kid.pairs)) t) ++ front_shared t)
        ∙ ap (λ ps. ps ++ low_pairs whole front) ((λ t. lower ++ (shift start kid.pairs ++ sym none_behind t)) ∙
        sym (old_pairs words width skipped bytes kids count is byte 0 (unit_pos width) at kid here there))

    kid_children : IsChild words width new → AreChildren words width 0 bytes (set kids at new)
    kid_children child =
        let at_it = cut words width skipped bytes kids count is byte 0 (unit_pos width) at kid here there in
        subst (λ ks. AreChildren words width 0 bytes ks) (sym (set_is words width skipped bytes kids count is byte 0 (unit_pos width) at kid here there new))
        (subst (λ bs. AreChildren words width 0 bs (take at kids ++ new ∷ drop (suc at) kids)) (sym at_it.bytes_are)
        (children-with words width 0 (take at bytes) (drop (suc at) bytes) (take at kids) (drop (suc at) kids) byte new at_it.around child))

    kid_loose : IsTight old → loose_in (forms_in (set kids at new)) ≤ loose_in (forms_in kids)
    kid_loose tight =
        let at_it = cut words width skipped bytes kids count is byte 0 (unit_pos width) at kid here there in
        let none = (tight-parts (branch skipped bytes count) (forms_in kids) tight).1 in
        let was = ap (λ ks. loose_in (forms_in ks)) at_it.kids_are in
        let were = loose-with (take at kids) (drop (suc at) kids) kid in
        let now = ap (λ ks. loose_in (forms_in ks)) (set_is words width skipped bytes kids count is byte 0 (unit_pos width) at kid here there new) in
        let are = loose-with (take at kids) (drop (suc at) kids) new in
        let here = put.tight (omega (arith, none, was, were)) in
        omega (arith, none, was, were, now, are, here)

    pub last_level : IsChild words width new → IsBranch words width skipped bytes (set kids at new) (count + n)
    last_level child = more_level bytes (set kids at new) kid_pairs (kid_children child) (omega arith)

    pub last_longer : IsChild words width new → n ≢ 0 → IsLonger (length skipped + 1 + width) n pairs old (branch_tree width skipped bytes (set kids at new) (count + n))
    last_longer child some = more_longer bytes (set kids at new) kid_pairs (kid_children child) (omega arith) some kid_loose

  -- ---- behind the last child

  module _ (small : byte < 256) (absent : has bytes byte ≡ false) (last : length kids ≤ rank bytes byte) (kid : Tree) (built : IsBuilt words width front kid) where
    pub all_below : AllBelow byte bytes
    all_below =
        let long = children-length words width 0 bytes kids is.parts.children in
        let gap = child-gap words width 0 bytes kids byte is.parts.children absent (omega arith) small in
        subst (AllBelow byte) (take_all (rank bytes byte) bytes (omega (arith, long, last))) gap.below

    push_pairs : branch_pairs width skipped (bytes ++ byte ∷ []) (kids ++ kid ∷ []) ≡ branch_pairs width skipped bytes kids ++ low_pairs whole front
    push_pairs =
        join-push words width 0 unit (number_of skipped * 256) bytes kids byte kid is.parts.children
        ∙ ap (λ ps. branch_pairs width skipped bytes kids ++ shift start ps) built.same
        ∙ ap (λ ps. branch_pairs width skipped bytes kids ++ ps) front_shared

    push_children : AreChildren words width 0 (bytes ++ byte ∷ []) (kids ++ kid ∷ [])
    push_children = children-push words width 0 bytes kids byte kid is.parts.children (omega arith) all_below small built.child

    push_wider : length bytes ≤ length (bytes ++ byte ∷ [])
    push_wider = let long = length-append bytes (byte ∷ []) in omega (arith, long)

    pub push_level : IsBranch words width skipped (bytes ++ byte ∷ []) (kids ++ kid ∷ []) (count + n)
    push_level = more_level (bytes ++ byte ∷ []) (kids ++ kid ∷ []) push_pairs push_children push_wider

    pub push_longer : n ≢ 0 → IsLonger (length skipped + 1 + width) n pairs old (branch_tree width skipped (bytes ++ byte ∷ []) (kids ++ kid ∷ []) (count + n))
    push_longer some =
        more_longer (bytes ++ byte ∷ []) (kids ++ kid ∷ []) push_pairs push_children push_wider some
        (λ tight. let sum = forms-push kids kid in let one = built.tight in omega (arith, sum, one))

-- ---- the last child, found by the place of its byte

module _ {words width : ℕ} {skipped bytes : List ℕ} {kids : List Tree} {count byte rest at : ℕ} {kid : Tree} (it : IsKid words width skipped bytes kids count byte rest at kid) where
  pub kid_fewer : length kid.pairs ≤ count
  kid_fewer = child_fewer words width skipped bytes kids count it.is byte rest it.fits at kid it.here (kid_there it)

  module _ (pairs : Pairs) (head_is : first_key pairs / 256 ^ width % 256 ^ (length skipped + 1) ≡ number_of skipped * 256 + byte) (last : length kids ≤ at + 1)
      (n : ℕ) (new : Tree) (put : IsLonger width n pairs kid new)
      (child : IsChild words width new) where
    pub kid_level : IsBranch words width skipped bytes (set kids at new) (count + n)
    kid_level = last_level words width skipped bytes kids count it.is byte pairs head_is n put.within put.alike at kid it.here (kid_there it) last new put child

    pub kid_longer : n ≢ 0 → IsLonger (length skipped + 1 + width) n pairs (branch_tree width skipped bytes kids count) (branch_tree width skipped bytes (set kids at new) (count + n))
    kid_longer some = last_longer words width skipped bytes kids count it.is byte pairs head_is n put.within put.alike at kid it.here (kid_there it) last new put child some
