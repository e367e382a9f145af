-- An array all of whose seats have words as values.
use Rattle.std.proofs.Common.{◌≡◌, ℕ, zero, suc, ◌≤◌, ◌/◌, Bool, true, false, cond, List, [], ◌∷◌, Option, Some, None, refl, subst, arith}
use Rattle.std.proofs.lemmas.Option.{none-some}
use Rattle.std.specs.FinMap.{get}
use Rattle.std.specs.Ordering.{eq_by_cmp}
use Rattle.judy_model.specs.Keys.{IsWord, word_order, byte_order}
use Rattle.judy_model.specs.Arrays.{ArrayOf, IsArrayOf}
use Rattle.judy_model.proofs.lemmas.runs.KeptLemmas.{holds-IsArrayOf, words_hold}
use Rattle.judy_model.proofs.lemmas.maps.TableLemmas.{byte_order_total, table_some}
use Rattle.slab.specs.Slab as slab
use Rattle.judy_tails.specs.Tails.{tail_at}
use Rattle.judy_sl.specs.Children.{is_level, level_child, tail_child}
use Rattle.judy_sl.specs.LevelLists.{LevelParts, words_in}
use Rattle.judy_sl.specs.declared.arena.Arena.{Arena}
use Rattle.judy_sl.specs.Pieces.{pieces}
use Rattle.judy_sl.specs.World.{World, Node, gone, tail, level, lookup, at_node, at_entry}
use Rattle.judy_sl.specs.Words.{HasWords}
use Rattle.judy_sl.specs.Arenas.{world_of, node_of, array_of, IsStrings}
use Rattle.judy_sl.specs.declared.keys.KeyLength.{Ghosts}
use Rattle.judy_sl.proofs.lemmas.pieces.Strings.{all_strings-all, key_of_string}

module _ (P : ℕ → Type 0) where
  if-one : (b : Bool) (held value : ℕ) → P held → cond b (Some held) None ≡ Some value → P value
  if-one true held value is e = let same : held ≡ value = cc in subst P same is
  if-one false held value is e = absurd (none-some value e)

module _ (go : ℕ → Option ℕ) (rest : List ℕ) (behind : (at value : ℕ) → go at ≡ Some value → IsWord value) where
  entry-word : (ps : List ℕ) (found : Option ℕ) (value : ℕ) → ((v : ℕ) → found ≡ Some v → IsWord v) → at_entry found ps go ≡ Some value → IsWord value
  entry-word ps None value held e = absurd (none-some value e)
  entry-word [] (Some found) value held e = held value e
  entry-word (piece ∷ ps) (Some found) value held e = behind found value e

  node-word : (node : Node) (piece value : ℕ) → HasWords node → at_node node piece rest go ≡ Some value → IsWord value
  node-word gone piece value has e = absurd (none-some value e)
  node-word (tail held kept) piece value has e = if-one IsWord (eq_by_cmp byte_order held (piece ∷ rest)) kept value has e
  node-word (level map) piece value has e = entry-word rest (get map piece) value (has piece) e

-- What is found is a word.
lookup-word : (world : World) → ((seat : ℕ) → HasWords (world seat)) → (seat : ℕ) (ps : List ℕ) (value : ℕ) → lookup world seat ps ≡ Some value → IsWord value
lookup-word world words seat [] value e = absurd (none-some value e)
lookup-word world words seat (piece ∷ rest) value e =
    node-word (λ at. lookup world (suc at) rest) rest (λ at v is. lookup-word world words (suc at) rest v is) (world seat) piece value (words seat) e

-- So the array is one of the definitions.
pub words-array : {Self : Type 0} (lengths : Ghosts Self) (longest limit count : ℕ) (arena : Arena) → IsStrings lengths.LONGEST longest limit count arena →
    ((seat : ℕ) → HasWords (world_of arena seat)) → IsArrayOf lengths.IsKey (array_of limit arena)
words-array lengths longest limit count arena is words =
    holds-IsArrayOf byte_order_total (array_of limit arena) lengths.IsKey is.holds_some
    (let most = is.limit_fits in omega arith)
    (subst (λ n. n ≤ limit) is.counted is.within_limit)
    (λ key value held.
    let there = table_some all_strings-all (λ k. lookup (world_of arena) 0 (pieces k)) key value held in
    let short = is.short key value held in
    let most = is.longest_fits in
    (key_of_string lengths key there.0 (omega (arith, short, most)), lookup-word (world_of arena) words 0 (pieces key) value there.1))

-- The keys are such.
pub strings-kept : {Self : Type 0} (lengths : Ghosts Self) (longest limit count : ℕ) (arena : Arena) → IsStrings lengths.LONGEST longest limit count arena →
    (key : List ℕ) (value : ℕ) → get (array_of limit arena).map key ≡ Some value → lengths.IsKey key
strings-kept lengths longest limit count arena is key value held =
    let short = is.short key value held in
    let most = is.longest_fits in
    key_of_string lengths key (table_some all_strings-all (λ k. lookup (world_of arena) 0 (pieces k)) key value held).0 (omega (arith, short, most))

-- So each level,
level-words : (found : Option LevelParts) → ((words : ArrayOf word_order) → words_in found ≡ Some words → IsArrayOf IsWord words) → HasWords (node_of (level_child found))
level-words None each = tt
level-words (Some parts) each = λ piece value held. (words_hold parts.words piece value (each parts.words refl) held).1

-- and each tail.
tail-words : (found : Option (List ℕ × ℕ)) → ((rest : List ℕ × ℕ) → found ≡ Some rest → IsWord rest.1) → HasWords (node_of (tail_child found))
tail-words None each = tt
tail-words (Some rest) each = each rest refl

-- The first level, the others and the tails are all seats.
pub seats-words : (arena : Arena) → IsArrayOf IsWord arena.root → ((index : ℕ) (words : ArrayOf word_order) → words_in (slab.get arena.levels index) ≡ Some words → IsArrayOf IsWord words) →
    ((place : ℕ) (rest : List ℕ × ℕ) → tail_at arena.tails place ≡ Some rest → IsWord rest.1) → (seat : ℕ) → HasWords (world_of arena seat)
seats-words arena root levels tails zero = λ piece value held. (words_hold arena.root piece value root held).1
seats-words arena root levels tails (suc at) = by (is_level at)
  where
    by : (b : Bool) → HasWords (node_of (cond b (level_child (slab.get arena.levels (at / 256))) (tail_child (tail_at arena.tails at))))
    by true = level-words (slab.get arena.levels (at / 256)) (levels (at / 256))
    by false = tail-words (tail_at arena.tails at) (tails at)
