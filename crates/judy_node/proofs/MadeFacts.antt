-- The children of a branch, made one group of pairs after another.
use Rattle.std.proofs.Common.{◌≡◌, ◌≢◌, ℕ, suc, ◌+◌, ◌*◌, ◌/◌, ◌%◌, ◌^◌, ◌<◌, ◌≤◌, List, [], ◌∷◌, ◌++◌, length, take, drop, get_or, sym, refl, ap, ◌∙◌, subst, arith, ⊎_elim}
use Rattle.std.proofs.Common.{append_assoc, length-append, length-drop}
use Rattle.std.proofs.Math.Nat.{pow-suc, mul_comm, mod-eq_of_lt}
use Rattle.std.proofs.lemmas.Nat.{le-div, mod_below, div-mul-add}
use Rattle.std.proofs.Math.Arith.{mod-mul}
use Rattle.std.proofs.lemmas.Bool.{cases_lt}
use Rattle.std.proofs.lemmas.List.{append-nil, take-append-drop, take_all}
use Rattle.judy_model.specs.WordBytes.{number_of}
use Rattle.judy_model.specs.Forms.{Form, immediate, leaf, bitmap_leaf, branch, loose_in}
use Rattle.judy_node.specs.Kinds.{tree_of, IsLevel, IsDeep, skip_more, behind}
use Rattle.judy_node.specs.declared.child.KindOf.{KindOf}
use Rattle.judy_node.specs.declared.child.KindOf.TheVariants.{Imm, Leaf, Bit, Branch}
use Rattle.judy_node.proofs.KindFacts.{level-child}
use Rattle.judy_model.specs.Shapes.{AllBelow}
use Rattle.judy_model.proofs.lemmas.orders.ByteLemmas.{unit_pos}
use Rattle.judy_model.proofs.lemmas.forms.FormLemmas.{branch_tight, tight-head}
use Rattle.std.proofs.lemmas.List.Elements.{All-nil}
use Rattle.judy_leaf.specs.KeyLists.{keys_of, low_pairs, shift}
use Rattle.judy_node.specs.Trees.{Pairs, Tree, IsMap, join, forms_in, IsChild, IsBranch, branch_tree}
use Rattle.judy_node.specs.Built.{middle, sharing, IsBuilt, AreMade}
use Rattle.judy_node.proofs.Maps.{map-wider, map-AllBelow}
use Rattle.judy_node.proofs.Shaped.{branch-child}
use Rattle.judy_node.proofs.Groups.{AllMiddle, NotMiddle, sharing-within, sharing-front, sharing-rest, sharing-yes, middle-at, front_share, length-low_pairs, low_pairs-append}
use Rattle.judy_node.proofs.Groups.{low_pairs-shared, map-front, map-down, map-after, children-push, join-push, forms-push, below-push, below-wider}

-- The unit above a byte.
pub unit_above : (below : ℕ) → 256 ^ (below + 1) ≡ 256 ^ below * 256
unit_above below = ap (λ n. 256 ^ n) (let e : below + 1 ≡ suc below = omega arith in e) ∙ pow-suc 256 below

pub made_none : (words below : ℕ) (pairs : Pairs) → IsMap words 0 (256 ^ (below + 1)) (low_pairs (256 ^ (below + 1)) pairs) → 0 < length pairs → AreMade words below pairs pairs [] [] 0
made_none words below pairs map some =
    let top = unit_above below in
    record {
      children = tt;
      before = tt;
      after =
          map-wider words 0 (256 ^ below * 256) (0 * 256 ^ below) (256 ^ below * 256) (low_pairs (256 ^ below * 256) pairs) (omega arith) (omega arith)
          (subst (λ n. IsMap words 0 n (low_pairs n pairs)) top map);
      joined = refl;
      tight = refl;
      none = λ _. refl;
      one = λ (never : 0 ≡ 1). let no_way : ⊥ = omega arith in absurd no_way;
    }

-- The first of the rest.
first_some : (unit top : ℕ) (rest : Pairs) → 0 < length rest → 0 < sharing unit top (middle unit top (get_or rest 0 (0, 0)).0) rest
first_some unit top rest some = let one = sharing-yes unit top (middle unit top (get_or rest 0 (0, 0)).0) rest 0 (0, 0) some refl in omega arith

next_within : (words next unit : ℕ) (rest : Pairs) → 0 < unit → 0 < length rest → IsMap words (next * unit) (unit * 256) (low_pairs (unit * 256) rest) → next ≤ middle unit 256 (get_or rest 0 (0, 0)).0
next_within words next unit [] positive some map = let never : ⊥ = omega arith in absurd never
next_within words next unit (pair ∷ rest) positive some map =
    let digits : pair.0 % (unit * 256) ≡ pair.0 / unit % 256 * unit + pair.0 % unit = ap (λ n. pair.0 % n) (mul_comm unit 256) ∙ mod-mul pair.0 (let e : 0 < 256 = omega arith in e) positive in
    let digit : pair.0 % (unit * 256) / unit ≡ pair.0 / unit % 256 = ap (λ n. n / unit) digits ∙ div-mul-add (pair.0 / unit % 256) unit (pair.0 % unit) (mod_below pair.0 unit positive) in
    subst (λ n. next ≤ n) digit (le-div next (pair.0 % (unit * 256)) unit positive map.0)

-- The map of the first group, by the bytes below.
pub group_map : (words below : ℕ) (pairs rest : Pairs) (bytes : List ℕ) (kids : List Tree) (next byte end : ℕ) → AreMade words below pairs rest bytes kids next →
    end ≡ sharing (256 ^ below) 256 byte rest
    → IsMap words 0 (256 ^ below) (low_pairs (256 ^ below) (take end rest))
group_map words below pairs rest bytes kids next byte end made is =
    let unit = 256 ^ below in
    let group = take end rest in
    let all : AllMiddle unit 256 byte group = subst (λ n. AllMiddle unit 256 byte (take n rest)) (sym is) (sharing-front unit 256 byte rest) in
    let whole : low_pairs (unit * 256) rest ≡ low_pairs (unit * 256) group ++ low_pairs (unit * 256) (drop end rest) =
    ap (low_pairs (unit * 256)) (sym (take-append-drop end rest)) ∙ low_pairs-append (unit * 256) group (drop end rest) in
    let front = map-front words (next * unit) (unit * 256) (low_pairs (unit * 256) group) (low_pairs (unit * 256) (drop end rest)) (subst (IsMap words (next * unit) (unit * 256)) whole made.after) in
    let shared : low_pairs (unit * 256) group ≡ shift (byte * unit) (low_pairs unit group) = ap (λ n. low_pairs n group) (mul_comm unit 256) ∙
    low_pairs-shared unit 256 byte group (unit_pos below) (omega arith) all in
    map-down words (next * unit) (unit * 256) (byte * unit) unit group (subst (IsMap words (next * unit) (unit * 256)) shared front) (unit_pos below)

pub group_some : (below : ℕ) (rest : Pairs) (byte end : ℕ) → 0 < length rest → byte ≡ middle (256 ^ below) 256 (get_or rest 0 (0, 0)).0 → end ≡ sharing (256 ^ below) 256 byte rest →
    (0 < end) × (end ≤ length rest)
group_some below rest byte end some is_byte is =
    let first = first_some (256 ^ below) 256 rest some in
    let all = sharing-within (256 ^ below) 256 byte rest in
    let same : end ≡ sharing (256 ^ below) 256 (middle (256 ^ below) 256 (get_or rest 0 (0, 0)).0) rest = is ∙ ap (λ b. sharing (256 ^ below) 256 b rest) is_byte in
    (omega arith, omega arith)

pub made_more : (words below : ℕ) (pairs rest : Pairs) (bytes : List ℕ) (kids : List Tree) (next byte end : ℕ) (kid : Tree) → AreMade words below pairs rest bytes kids next → 0 < length rest
    → byte ≡ middle (256 ^ below) 256 (get_or rest 0 (0, 0)).0 → byte < 256 → end ≡ sharing (256 ^ below) 256 byte rest → IsBuilt words below (take end rest) kid
    → sharing (256 ^ below) 256 (middle (256 ^ below) 256 (get_or pairs 0 (0, 0)).0) pairs < length pairs
    → AreMade words below pairs (drop end rest) (bytes ++ byte ∷ []) (kids ++ kid ∷ []) (byte + 1)
made_more words below pairs rest bytes kids next byte end kid made some is_byte is_small is built two =
    let unit = 256 ^ below in
    let group = take end rest in
    let left = drop end rest in
    let all : AllMiddle unit 256 byte group = subst (λ n. AllMiddle unit 256 byte (take n rest)) (sym is) (sharing-front unit 256 byte rest) in
    let apart : NotMiddle unit 256 byte left = subst (λ n. NotMiddle unit 256 byte (drop n rest)) (sym is) (sharing-rest unit 256 byte rest) in
    let whole : low_pairs (unit * 256) rest ≡ low_pairs (unit * 256) group ++ low_pairs (unit * 256) left =
    ap (low_pairs (unit * 256)) (sym (take-append-drop end rest)) ∙ low_pairs-append (unit * 256) group left in
    let shared : low_pairs (unit * 256) group ≡ shift (byte * unit) (low_pairs unit group) = ap (λ n. low_pairs n group) (mul_comm unit 256) ∙
    low_pairs-shared unit 256 byte group (unit_pos below) (omega arith) all in
    let bounds = group_some below rest byte end some is_byte is in
    let first = bounds.0 in
    let last = bounds.1 in
    let from : next ≤ byte = subst (λ n. next ≤ n) (sym is_byte) (next_within words next unit rest (unit_pos below) some made.after) in
    let long : length group + length left ≡ length rest = sym (length-append group left) ∙ ap length (take-append-drop end rest) in
    let leftover = length-drop end rest in
    let longer = length-append bytes (byte ∷ []) in
    let sum = forms-push kids kid in
    let none_loose = made.tight in
    let kid_tight = built.tight in
    record {
      children = children-push words below 0 bytes kids byte kid made.children (omega arith) (below-wider next byte bytes from made.before) is_small built.child;
      before = below-push next byte bytes from made.before;
      after = map-after words (next * unit) unit byte group left (unit_pos below) (omega arith) all apart
          (subst (λ ps. IsMap words (next * unit) (unit * 256) (low_pairs (unit * 256) ps)) (sym (take-append-drop end rest)) made.after);
      joined = ap (λ ps. ps ++ low_pairs (unit * 256) left) (join-push words below 0 unit 0 bytes kids byte kid made.children)
          ∙ append_assoc (join unit 0 bytes kids) (shift ((0 + byte) * unit) kid.pairs) (low_pairs (unit * 256) left)
          ∙ ap (λ ps. join unit 0 bytes kids ++ (ps ++ low_pairs (unit * 256) left))
          ((λ t. shift ((let e : 0 + byte ≡ byte = omega arith in e) t * unit) (built.same t)) ∙ sym shared)
          ∙ ap (λ ps. join unit 0 bytes kids ++ ps) (sym whole)
          ∙ made.joined;
      tight = sum ∙ (let e : loose_in (forms_in kids) + loose_in kid.form ≡ 0 = omega arith in e);
      none = λ (never : length (bytes ++ byte ∷ []) ≡ 0). let no_way : ⊥ = omega arith in absurd no_way;
      one = λ (only : length (bytes ++ byte ∷ []) ≡ 1).
          let begun : rest ≡ pairs = made.none (omega arith) in
          let end_is : end ≡ sharing unit 256 (middle unit 256 (get_or pairs 0 (0, 0)).0) pairs = is ∙ ap (λ b. sharing unit 256 b rest) is_byte ∙
          ap (λ (ps : Pairs). sharing unit 256 (middle unit 256 (get_or ps 0 (0, 0)).0) ps) begun in
          let same_length = ap length begun in
          omega arith;
    }

made_two : (words below : ℕ) (pairs : Pairs) (bytes : List ℕ) (kids : List Tree) (next : ℕ) → AreMade words below pairs [] bytes kids next → 32 < length pairs → 1 < length bytes
made_two words below pairs [] kids next made many = let empty = ap length (made.none refl) in omega arith
made_two words below pairs (byte ∷ []) kids next made many = let some = made.one refl in omega arith
made_two words below pairs (byte ∷ other ∷ bytes) kids next made many = omega arith

pub made_branch : (words below : ℕ) (pairs rest : Pairs) (bytes : List ℕ) (kids : List Tree) (next : ℕ) → AreMade words below pairs rest bytes kids next →
    rest ≡ [] → 1 ≤ below → below ≤ 7 → 32 < length pairs
    → IsBranch words below [] bytes kids (length pairs)
made_branch words below pairs rest bytes kids next more over low high many =
    let made = subst (λ ps. AreMade words below pairs ps bytes kids next) over more in
    let two = made_two words below pairs bytes kids next made many in
    let joined = sym (append-nil (join (256 ^ below) 0 bytes kids)) ∙ made.joined in
    record {
      parts = record {
        some_width = low;
        within = omega arith;
        skipped_bytes = All-nil (λ byte. byte < 256);
        children = made.children;
        counted = sym (length-low_pairs (256 ^ below * 256) pairs) ∙ ap length (sym joined);
      };
      holds = omega arith;
    }

pub made_built : (words below : ℕ) (pairs rest : Pairs) (bytes : List ℕ) (kids : List Tree) (next : ℕ) → AreMade words below pairs rest bytes kids next → rest ≡ [] →
    1 ≤ below → below ≤ 7 → 32 < length pairs
    → IsBuilt words (below + 1) pairs (branch_tree below [] bytes kids (length pairs))
made_built words below pairs rest bytes kids next more over low high many =
    let made = subst (λ ps. AreMade words below pairs ps bytes kids next) over more in
    let two = made_two words below pairs bytes kids next made many in
    let joined = sym (append-nil (join (256 ^ below) 0 bytes kids)) ∙ made.joined in
    record {
      child = subst (λ w. IsChild words w (branch_tree below [] bytes kids (length pairs))) (let e : 0 + 1 + below ≡ below + 1 = omega arith in e)
          (branch-child words below [] bytes kids (length pairs) (made_branch words below pairs rest bytes kids next more over low high many));
      same = joined ∙ ap (λ n. low_pairs n pairs) (sym (unit_above below));
      tight = tight-head (branch [] bytes (length pairs)) (forms_in kids) (branch_tight [] bytes (length pairs) many two) made.tight;
    }

-- ---- pairs that have one byte

all_share : (unit byte : ℕ) (pairs : Pairs) (end : ℕ) → end ≡ sharing unit 256 byte pairs → length pairs ≤ end → AllMiddle unit 256 byte pairs
all_share unit byte pairs end is all = subst (AllMiddle unit 256 byte) (ap (λ n. take n pairs) (sym is) ∙ take_all end pairs all) (sharing-front unit 256 byte pairs)

-- Sorted pairs have a byte up to one that has it as the first does.
pub sharing_front : (words low below byte : ℕ) (pairs : Pairs) (at : ℕ) (d : ℕ × ℕ) → IsMap words low (256 ^ below * 256) (low_pairs (256 ^ below * 256) pairs) → at < length pairs
    → middle (256 ^ below) 256 (get_or pairs 0 d).0 ≡ byte → middle (256 ^ below) 256 (get_or pairs at d).0 ≡ byte
    → sharing (256 ^ below) 256 byte pairs ≡ at + 1 + sharing (256 ^ below) 256 byte (drop (at + 1) pairs)
sharing_front words low below byte pairs at d map within first same =
    front_share words low (256 ^ below) byte pairs at d (unit_pos below) (subst (λ n. IsMap words low n (low_pairs n pairs)) (mul_comm (256 ^ below) 256) map) within first same

-- All have it where the last has it.
pub sharing_ends : (words below byte : ℕ) (pairs : Pairs) (at : ℕ) (d : ℕ × ℕ) → IsMap words 0 (256 ^ (below + 1)) (low_pairs (256 ^ (below + 1)) pairs) → at + 1 ≡ length pairs
    → middle (256 ^ below) 256 (get_or pairs 0 d).0 ≡ byte → middle (256 ^ below) 256 (get_or pairs at d).0 ≡ byte → length pairs ≤ sharing (256 ^ below) 256 byte pairs
sharing_ends words below byte pairs at d map is first last =
    let front = sharing_front words 0 below byte pairs at d (subst (λ n. IsMap words 0 n (low_pairs n pairs)) (unit_above below) map) (omega arith) first last in
    omega arith

pub sharing_apart : (unit byte : ℕ) (pairs : Pairs) (at : ℕ) (d : ℕ × ℕ) → at < length pairs → middle unit 256 (get_or pairs at d).0 ≢ byte → sharing unit 256 byte pairs < length pairs
sharing_apart unit byte pairs at d within apart =
    ⊎_elim
    (λ (less : sharing unit 256 byte pairs < length pairs). less)
    (λ (all : length pairs ≤ sharing unit 256 byte pairs). absurd (apart (middle-at unit 256 byte pairs at d (all_share unit byte pairs (sharing unit 256 byte pairs) refl all) within)))
    (cases_lt (sharing unit 256 byte pairs) (length pairs))

pub one_byte_map : (words below : ℕ) (pairs : Pairs) (byte end : ℕ) → end ≡ sharing (256 ^ below) 256 byte pairs → length pairs ≤ end
    → IsMap words 0 (256 ^ (below + 1)) (low_pairs (256 ^ (below + 1)) pairs) → IsMap words 0 (256 ^ below) (low_pairs (256 ^ below) pairs)
one_byte_map words below pairs byte end is all map =
    let unit = 256 ^ below in
    let top : 256 ^ (below + 1) ≡ 256 * unit = unit_above below ∙ mul_comm unit 256 in
    let shared : low_pairs (256 ^ (below + 1)) pairs ≡ shift (byte * unit) (low_pairs unit pairs) =
    ap (λ n. low_pairs n pairs) top ∙ low_pairs-shared unit 256 byte pairs (unit_pos below) (omega arith) (all_share unit byte pairs end is all) in
    map-down words 0 (256 ^ (below + 1)) (byte * unit) unit pairs (subst (IsMap words 0 (256 ^ (below + 1))) shared map) (unit_pos below)

-- ---- one byte more

pub loose_skip_more : (more : List ℕ) (form : Form) → loose_in (skip_more more form) ≡ loose_in form
loose_skip_more more [] = refl
loose_skip_more more (immediate keys ∷ nodes) = refl
loose_skip_more more (leaf keys ∷ nodes) = refl
loose_skip_more more (bitmap_leaf skipped bytes ∷ nodes) = refl
loose_skip_more more (branch skipped bytes count ∷ nodes) = refl

pub deep_width : {V : _} (words : ℕ) (kind : KindOf V) → IsLevel words kind → IsDeep kind → 1 ≤ (tree_of words kind).width
deep_width words (Imm head word) level deep = absurd deep
deep_width words (Leaf count block) level deep = absurd deep
deep_width words (Bit skipped block) level deep = level.parts.some
deep_width words (Branch b) level deep = omega arith

-- The width of a node that skips bytes is told.
pub deep_is : {V : _} (words width : ℕ) (pairs : Pairs) (kind : KindOf V) → IsLevel words kind → IsDeep kind → IsBuilt words width pairs (tree_of words kind) → (tree_of words kind).width ≡ width
deep_is words width pairs kind level deep built =
    let low = deep_width words kind level deep in
    built.child.wide (λ (none : (tree_of words kind).width ≡ 0). let never : ⊥ = omega arith in never)

pub behind_built : {V : _} (words below byte end : ℕ) (pairs : Pairs) (kind next : KindOf V) → IsLevel words kind → IsDeep kind → IsBuilt words below pairs (tree_of words kind)
    → IsLevel words next → tree_of words next ≡ behind (byte ∷ []) (tree_of words kind) → end ≡ sharing (256 ^ below) 256 byte pairs → length pairs ≤ end → 1 ≤ below → below ≤ 7
    → IsMap words 0 (256 ^ (below + 1)) (low_pairs (256 ^ (below + 1)) pairs) → IsBuilt words (below + 1) pairs (tree_of words next)
behind_built {V} words below byte end pairs kind next level deep built level_next is end_is all low high map =
    let unit = 256 ^ below in
    let told = deep_is words below pairs kind level deep built in
    let top : 256 ^ (below + 1) ≡ 256 * unit = unit_above below ∙ mul_comm unit 256 in
    let alone : number_of (byte ∷ []) ≡ byte = omega arith in
    let shared : low_pairs (256 ^ (below + 1)) pairs ≡ shift (byte * unit) (low_pairs unit pairs) =
    ap (λ n. low_pairs n pairs) top ∙ low_pairs-shared unit 256 byte pairs (unit_pos below) (omega arith) (all_share unit byte pairs end end_is all) in
    let same : (tree_of words next).pairs ≡ low_pairs (256 ^ (below + 1)) pairs =
    ap (λ t. t.pairs) is ∙ (λ t. shift (alone t * 256 ^ told t) (built.same t)) ∙ sym shared in
    let wide : (tree_of words next).width ≡ below + 1 = ap (λ t. t.width) is ∙ (let e : 1 + (tree_of words kind).width ≡ below + 1 = omega arith in e) in
    record {
      child = level-child words (below + 1) next level_next (record {
        low_width = omega arith;
        high_width = omega arith;
        wide = λ _. wide;
        below = subst (λ ps. AllBelow (256 ^ (below + 1)) (keys_of ps)) (sym same) (map-AllBelow words 0 (256 ^ (below + 1)) (low_pairs (256 ^ (below + 1)) pairs) map);
      });
      same = same;
      tight = ap (λ t. loose_in t.form) is ∙ loose_skip_more (byte ∷ []) (tree_of words kind).form ∙ built.tight;
    }

pub byte_before : (words below : ℕ) (pairs rest : Pairs) (bytes : List ℕ) (kids : List Tree) (next byte : ℕ) → AreMade words below pairs rest bytes kids next → 0 < length rest
    → byte ≡ middle (256 ^ below) 256 (get_or rest 0 (0, 0)).0 → AllBelow byte bytes
byte_before words below pairs rest bytes kids next byte made some is_byte =
    below-wider next byte bytes (subst (λ n. next ≤ n) (sym is_byte) (next_within words next (256 ^ below) rest (unit_pos below) some made.after)) made.before

pub length_none : (pairs : Pairs) → length pairs ≡ 0 → pairs ≡ []
length_none [] none = refl
length_none (pair ∷ pairs) none = let never : ⊥ = omega arith in absurd never

-- Keys below a bound are all that is read of them there.
pub low_pairs_same : (words low top : ℕ) (pairs : Pairs) → IsMap words low top pairs → low_pairs top pairs ≡ pairs
low_pairs_same words low top [] map = refl
low_pairs_same words low top (pair ∷ pairs) map = λ t. (mod-eq_of_lt map.1 t, pair.1) ∷ low_pairs_same words (pair.0 + 1) top pairs map.3 t
