-- The first pieces of an array's keys, and the list of how many begin with each, through what its arena becomes.
use Rattle.std.proofs.Common.{◌≡◌, ℕ, suc, ◌≤◌, true, false, IsTrue, IfOk, OnErr, IsSome, List, [], ◌∷◌, ◌++◌, Option, None, Some, is_some, Result, Ok, Err, refl, sym, ap, ◌∙◌, subst, true≢false}
use Rattle.std.proofs.lemmas.Option.{none-some}
use Rattle.std.specs.FinMap.{FinMap, empty, get, contains_key, insert, remove}
use Rattle.judy_model.specs.Keys.{word_order, byte_order}
use Rattle.judy_model.specs.Arrays.{empty_array}
use Rattle.judy_model.specs.Tables.{table}
use Rattle.judy_model.proofs.lemmas.maps.SortedMaps.{remove_absent}
use Rattle.judy_model.proofs.lemmas.maps.TableLemmas.{byte_order_total, byte_order_same, table_some}
use Rattle.judy_sums.specs.Pairs.{number_at, raised, lowered}
use Rattle.judy_sl.specs.declared.arena.Arena.{Arena}
use Rattle.judy_sl.specs.declared.arena.Place.{Place}
use Rattle.judy_sl.specs.declared.arena.Place.TheVariants.{Root, Below}
use Rattle.judy_sl.specs.declared.arena.Way.{Way}
use Rattle.judy_sl.specs.declared.arena.Way.TheVariants.{At, Gap, Clash}
use Rattle.judy_sl.specs.Pieces.{pieces, piece_of, SpellKey}
use Rattle.judy_sl.specs.World.{World, lookup, at_entry, walk}
use Rattle.judy_sl.specs.Arenas.{world_of, map_of, IsArena, IsStrings}
use Rattle.judy_sl.specs.Places.{place_with}
use Rattle.judy_tails.specs.Tails.{no_tails}
use Rattle.judy_sl.specs.Ways.{LeadsTo, IsWay, IsNew, IsGap, IsFound, ends_first, left_of}
use Rattle.judy_sl.specs.Grown.{IsAdded, IsSame}
use Rattle.judy_sl.specs.Shrunk.{IsShrunk}
use Rattle.judy_sl.specs.Firsts.{beginning, AreFirsts}
use Rattle.judy_sl.proofs.lemmas.pieces.OnWay.{pieces-head}
use Rattle.judy_sl.proofs.lemmas.pieces.Ways.{step-parts}
use Rattle.judy_sl.proofs.lemmas.scans.ScanEnds.{begins}
use Rattle.judy_sl.proofs.lemmas.inserts.Written.{behind-leads}
use Rattle.judy_sl.proofs.lemmas.inserts.Filled.{world-same}
use Rattle.judy_sl.proofs.lemmas.seats.Maps.{get-map, map_written, map_removed, empty-map}
use Rattle.judy_sl.proofs.lemmas.seats.Keeping.{map-written, get-there}
use Rattle.judy_sl.proofs.lemmas.counts.Beginnings.{taken_out, put_back, beginning_some, beginning_none, firsts_first, firsts_more, firsts_last, firsts_less, firsts_written}
use Rattle.judy_sl.proofs.lemmas.counts.Beginnings.{number_some, number_there, no_firsts}
use Rattle.judy_sl.proofs.lemmas.pieces.Strings.{all_strings-all}
use Rattle.judy_sl.specs.Strings.{all_strings, IsString}

held_value : (all : FinMap byte_order ℕ) (key : List ℕ) → IsTrue (contains_key all key) → (value : ℕ) × (get all key ≡ Some value)
held_value all key held = by (get all key) refl held
  where
    by : (found : Option ℕ) → get all key ≡ found → IsTrue (is_some found) → (value : ℕ) × (get all key ≡ Some value)
    by None is so = absurd (true≢false (sym so))
    by (Some value) is so = (value, is)

module _ (arena : Arena) (piece : ℕ) where
  -- A key begins with each entry of the first level,
  pub rooted : IsArena arena → IsTrue (is_some (get arena.root.map piece)) → 1 ≤ beginning (map_of arena) piece
  rooted is held =
      let key = begins is.is_world 0 arena.root.map piece refl held in
      let spelled : SpellKey (piece ∷ key.rest) = subst (λ place. SpellKey (place ++ piece ∷ key.rest)) is.is_world.first key.spelled in
      let head = pieces-head spelled.key in
      let both : piece_of spelled.key ∷ head.0 ≡ piece ∷ key.rest = sym head.1 ∙ spelled.spells in
      let found = get-map arena spelled.key spelled.is_key ∙ ap (lookup (world_of arena) 0) spelled.spells ∙ key.found in
      beginning_some (map_of arena) spelled.key piece (ap (λ (one : Option ℕ). is_some one) found) cc

  none_found : (key : List ℕ) → get arena.root.map piece ≡ None → piece_of key ≡ piece → lookup (world_of arena) 0 (pieces key) ≡ None
  none_found key none same =
      let head = pieces-head key in
      ap (lookup (world_of arena) 0) head.1
      ∙ ap (λ found. at_entry found head.0 (λ at. lookup (world_of arena) (suc at) head.0)) (ap (get arena.root.map) same ∙ none)

  -- and none does where there is no entry.
  pub unrooted : get arena.root.map piece ≡ None → beginning (map_of arena) piece ≡ 0
  unrooted none = beginning_none (map_of arena) piece (λ key held same.
      let value = held_value (map_of arena) key held in
      let there = table_some all_strings-all (λ k. lookup (world_of arena) 0 (pieces k)) key value.0 value.1 in
      none-some value.0 (sym (none_found key none same) ∙ there.1))

-- ---- how a way begins

module _ (arena : Arena) (is : IsArena arena) (key : List ℕ) where
  -- A way below the first level goes through its entry.
  pub leads_below : (at : ℕ) (rest : List ℕ) → LeadsTo (world_of arena) key (suc at) rest → IsTrue (is_some (get arena.root.map (piece_of key)))
  leads_below at rest leads = by leads.front leads.way leads.parts
    where
      by : (front : List ℕ) → walk (world_of arena) 0 front ≡ Some (suc at) → pieces key ≡ front ++ rest → IsTrue (is_some (get arena.root.map (piece_of key)))
      by [] way parts = let never : ⊥ = cc in absurd never
      by (first ∷ front) way parts =
          let step = step-parts (world_of arena 0) first (λ found. walk (world_of arena) (suc found) front) (suc at) way in
          let head = pieces-head key in
          let both : piece_of key ∷ head.0 ≡ first ∷ front ++ rest = sym head.1 ∙ parts in
          let one : piece_of key ≡ first = cc in
          let map : arena.root.map ≡ step.map = cc in
          ap (λ (found : Option ℕ). is_some found) (ap (get arena.root.map) one ∙ ap (λ (words : FinMap word_order ℕ). get words first) map ∙ step.entry)

  -- One that ends there found none.
  gap_first : (piece left : ℕ) → IsGap (world_of arena) key (Root piece) left → get arena.root.map (piece_of key) ≡ None
  gap_first piece left gap =
      let none : [] ≡ gap.leads.front = sym is.is_world.first ∙ behind-leads (world_of arena) is.behind is.is_world key 0 (pieces (left_of key left)) gap.leads in
      let parts = gap.leads.parts ∙ ap (λ front. front ++ pieces (left_of key left)) (sym none) in
      let head = pieces-head key in
      let other = pieces-head (left_of key left) in
      let both : piece_of key ∷ head.0 ≡ piece_of (left_of key left) ∷ other.0 = sym head.1 ∙ parts ∙ other.1 in
      let one : piece_of key ≡ piece_of (left_of key left) = cc in
      let map : arena.root.map ≡ gap.map = cc in
      ap (get arena.root.map) (one ∙ sym gap.next) ∙ ap (λ (words : FinMap word_order ℕ). get words piece) map ∙ gap.absent

  way_first : (way : Way) → IsWay arena key way → ends_first way ≡ true → get arena.root.map (piece_of key) ≡ None
  way_first (At place) goes first = absurd (true≢false (sym first))
  way_first (Gap (Root piece) left) goes first = gap_first piece left goes
  way_first (Gap (Below at piece) left) goes first = absurd (true≢false (sym first))
  way_first (Clash from at left) goes first = absurd (true≢false (sym first))

  way_below : (way : Way) → IsWay arena key way → IsNew way → ends_first way ≡ false → IsTrue (is_some (get arena.root.map (piece_of key)))
  way_below (At place) goes new below = absurd new
  way_below (Gap (Root piece) left) goes new below = absurd (true≢false below)
  way_below (Gap (Below at piece) left) goes new below = leads_below at (pieces (left_of key left)) goes.leads
  way_below (Clash from at left) goes new below = leads_below at (pieces (left_of key left)) goes.leads

  -- No key begins as a new one does whose way ends in the first level,
  pub begun_none : (way : Way) → IsWay arena key way → ends_first way ≡ true → beginning (map_of arena) (piece_of key) ≡ 0
  begun_none way goes first = unrooted arena (piece_of key) (way_first way goes first)

  -- and with another one some do.
  pub begun_some : (way : Way) → IsWay arena key way → IsNew way → ends_first way ≡ false → 1 ≤ beginning (map_of arena) (piece_of key)
  begun_some way goes new below = rooted arena (piece_of key) is (way_below way goes new below)

-- ---- what the list becomes

-- An arena that is the same has the same map.
pub map_same : (arena same : Arena) → IsSame arena same → map_of same ≡ map_of arena
map_same arena same is = ap (λ (w : World). table all_strings (λ k. lookup w 0 (pieces k))) (world-same arena same is)

pub firsts_same : (arena same : Arena) → IsSame arena same → (firsts : FinMap word_order ℕ) → AreFirsts (map_of arena) firsts → AreFirsts (map_of same) firsts
firsts_same arena same is firsts are = subst (λ (all : FinMap byte_order ℕ). AreFirsts all firsts) (sym (map_same arena same is)) are

-- A value is written.
pub firsts_slot : {most longest : ℕ} (limit count : ℕ) (arena : Arena) → IsStrings most longest limit count arena → (key : List ℕ) → IsString key → (place : Place) → IsFound (world_of arena) key place
    → (firsts : FinMap word_order ℕ) → AreFirsts (map_of arena) firsts → (value : ℕ) → AreFirsts (map_of (place_with arena place value)) firsts
firsts_slot limit count arena is key is_key place found firsts are value =
    subst (λ (all : FinMap byte_order ℕ). AreFirsts all firsts) (sym (map-written limit count arena is key is_key place found value))
    (firsts_written (map_of arena) key found.value value firsts (get-there limit count arena is key is_key place found) are)

-- A key comes in.
module _ (arena after : Arena) (key : List ℕ) (is_key : IsString key) (none : get (map_of arena) key ≡ None) (firsts : FinMap word_order ℕ) (are : AreFirsts (map_of arena) firsts) where
  added_map : (place : Place) → IsAdded arena after key place → map_of after ≡ insert (map_of arena) key 0
  added_map place added = map_written arena after key is_key 0 added.change

  pub added_first : beginning (map_of arena) (piece_of key) ≡ 0 → (place : Place) → IsAdded arena after key place → AreFirsts (map_of after) firsts
  added_first nothing place added = subst (λ (all : FinMap byte_order ℕ). AreFirsts all firsts) (sym (added_map place added)) (firsts_first (map_of arena) key 0 none firsts nothing are)

  pub added_more : 1 ≤ beginning (map_of arena) (piece_of key) → (place : Place) → IsAdded arena after key place → AreFirsts (map_of after) (raised firsts (piece_of key))
  added_more held place added =
      subst (λ (all : FinMap byte_order ℕ). AreFirsts all (raised firsts (piece_of key))) (sym (added_map place added)) (firsts_more (map_of arena) key 0 none firsts held are)

  -- One is refused whose way ends in the first level, or comes in.
  pub tried_first : beginning (map_of arena) (piece_of key) ≡ 0 → {E : Type 0} (result : Result Place E) → IfOk result (λ made. IsAdded arena after key made) →
      OnErr result (IsSame arena after) → AreFirsts (map_of after) firsts
  tried_first nothing (Ok place) added refused = added_first nothing place added
  tried_first nothing (Err error) added refused = firsts_same arena after refused firsts are

-- One goes.
module _ (arena after : Arena) (key : List ℕ) (is_key : IsString key) (shrunk : IsShrunk arena after key) (firsts : FinMap word_order ℕ) (are : AreFirsts (map_of arena) firsts) where
  map_is : map_of after ≡ remove (map_of arena) key
  map_is = map_removed arena after key is_key shrunk.change

  gone_none : get (map_of after) key ≡ None
  gone_none = ap (λ (all : FinMap byte_order ℕ). get all key) map_is ∙ taken_out (map_of arena) key

  -- It had a value before.
  gone_value : true ≡ is_some (lookup (world_of arena) 0 (pieces key)) → (value : ℕ) × AreFirsts (insert (map_of after) key value) firsts
  gone_value found = by (get (map_of arena) key) refl
    where
      by : (held : Option ℕ) → get (map_of arena) key ≡ held → (value : ℕ) × AreFirsts (insert (map_of after) key value) firsts
      by None none = absurd (true≢false (found ∙ ap (λ (one : Option ℕ). is_some one) (sym (get-map arena key is_key) ∙ none)))
      by (Some value) there = (
        value,
        subst (λ (all : FinMap byte_order ℕ). AreFirsts all firsts) (sym (put_back (map_of arena) key value there) ∙ ap (λ (all : FinMap byte_order ℕ). insert all key value) (sym map_is)) are,
      )

  -- It wasn't there.
  pub gone_nothing : false ≡ is_some (lookup (world_of arena) 0 (pieces key)) → AreFirsts (map_of after) firsts
  gone_nothing missing = by (get (map_of arena) key) refl
    where
      by : (held : Option ℕ) → get (map_of arena) key ≡ held → AreFirsts (map_of after) firsts
      by None none = subst (λ (all : FinMap byte_order ℕ). AreFirsts all firsts) (sym (map_is ∙ remove_absent byte_order_total byte_order_same (map_of arena) key none)) are
      by (Some value) there = absurd (true≢false (sym (missing ∙ ap (λ (one : Option ℕ). is_some one) (sym (get-map arena key is_key) ∙ there))))

  module _ (found : true ≡ is_some (lookup (world_of arena) 0 (pieces key))) where
    -- It was the last one that began so,
    pub gone_last : get after.root.map (piece_of key) ≡ None → AreFirsts (map_of after) firsts
    gone_last none = let was = gone_value found in firsts_last (map_of after) key was.0 gone_none firsts (unrooted after (piece_of key) none) was.1

    -- or others do still.
    module _ (others : IsTrue (is_some (get after.root.map (piece_of key)))) where
      held : 1 ≤ beginning (map_of after) (piece_of key)
      held = rooted after (piece_of key) shrunk.is_arena others

      pub gone_some : 1 ≤ number_at firsts (piece_of key)
      gone_some = let was = gone_value found in number_some (map_of after) key was.0 gone_none firsts held was.1

      pub gone_there : IsSome (get firsts (piece_of key))
      gone_there = let was = gone_value found in number_there (map_of after) key was.0 gone_none firsts held was.1

      pub gone_less : AreFirsts (map_of after) (lowered firsts (piece_of key))
      gone_less = let was = gone_value found in firsts_less (map_of after) key was.0 gone_none firsts held was.1

-- An arena without an entry.
pub firsts_new : (arena : Arena) → arena.levels.slots ≡ [] → arena.tails ≡ no_tails → arena.root ≡ empty_array 18446744073709551615 → (firsts : FinMap word_order ℕ) →
    firsts ≡ empty → AreFirsts (map_of arena) firsts
firsts_new arena no_levels nothing no_root firsts none =
    subst (AreFirsts (map_of arena)) (sym none) (subst (λ (all : FinMap byte_order ℕ). AreFirsts all empty) (sym (empty-map arena no_levels nothing no_root)) no_firsts)
