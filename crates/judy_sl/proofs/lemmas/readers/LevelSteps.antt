-- How the key at a place behind a level is read a piece at a time.
use Rattle.std.proofs.Common.{◌≡◌, ◌≢◌, ℕ, zero, suc, ◌%◌, ◌<◌, ⊎_elim, List, [], ◌∷◌, ◌++◌, length, slice_get, Option, None, Some, IfSome, refl, sym, ap, ◌∙◌, subst, arith}
use Rattle.std.specs.Option.{option_map}
use Rattle.std.specs.FinMap.{FinMap, entries, len, len-entries, len-empty}
use Rattle.std.proofs.lemmas.List.{length-append, drop_at}
use Rattle.std.proofs.lemmas.Option.{slice_get_cases, slice_get-map}
use Rattle.judy_model.specs.Keys.{word_order, byte_order}
use Rattle.judy_records.specs.Texts.{words_of, text_in}
use Rattle.judy_records.proofs.PadLemmas.{text-back}
use Rattle.judy_sl.specs.declared.arena.Arena.{Arena}
use Rattle.judy_sl.specs.declared.nth.EntryPlace.{EntryPlace}
use Rattle.judy_sl.specs.declared.reader.LevelSpot.{LevelSpot}
use Rattle.judy_sl.specs.declared.reader.Stand.{Stand}
use Rattle.judy_sl.specs.declared.reader.Stand.TheVariants.{InLevel, InText}
use Rattle.judy_sl.specs.Pieces.{piece_of, piece_bytes, pieces, IsText, IsFinal, IsInner}
use Rattle.judy_sl.specs.World.{World, gone, tail, level}
use Rattle.judy_sl.specs.Arenas.{world_of, IsArena}
use Rattle.judy_sl.specs.Behind.{map_behind}
use Rattle.judy_sl.specs.Counted.{keys_behind}
use Rattle.judy_sl.specs.Listed.{Lists}
use Rattle.judy_sl.specs.Nth.{IsSpotOf}
use Rattle.judy_sl.specs.TextsLeft.{left_behind, IsTextOf}
use Rattle.judy_sl.specs.Readers.{KeyLeft, IsSpot, IsStand, IsStep, IsReader, left_at, level_keys, pair_left}
use Rattle.judy_sl.specs.Strings.{IsString}
use Rattle.judy_sl.proofs.lemmas.pieces.PieceLemmas.{text_of_key}
use Rattle.judy_sl.proofs.lemmas.seats.Behind.{entries_behind, final_key, inner_front}
use Rattle.judy_sl.proofs.lemmas.counts.KeysTold.{final_keys, inner_keys, inner_count, held_behind, gone_empty, tail_entries, tail_key}
use Rattle.judy_sl.proofs.lemmas.places.NthWays.{held_at}
use Rattle.judy_sl.proofs.lemmas.readers.TextSteps.{behind_short, behind_long, final_short}

-- A list has something at each place within it.
pub there_at : {X : Type 0} (all : List X) (place : ℕ) → place < length all → (one : X) × (slice_get all place ≡ Some one)
there_at all place within = ⊎_elim (λ some. (some.0, some.2)) (λ past. absurd (let most = past.0 in let never : ⊥ = omega (arith, most, within) in never)) (slice_get_cases all place).1

-- A list of one has it at its first place.
pub only_at : {X : Type 0} (one : X) (place : ℕ) → place < 1 → slice_get (one ∷ []) place ≡ Some one
only_at one zero within = refl
only_at one (suc place) within = absurd (let never : ⊥ = omega (arith, within) in never)

-- Where a key stands behind a seat, something stands there.
pub some_there : (world : World) (seat place : ℕ) → place < keys_behind world seat → world seat ≢ gone
some_there world seat place within is =
    let none = ap len (gone_empty world seat is) ∙ len-empty byte_order ℕ in
    let never : ⊥ = omega (arith, none, within) in
    never

-- ---- the keys behind a level

module _ (arena : Arena) (is_arena : IsArena arena) (seat : ℕ) (words : FinMap word_order ℕ) (here : world_of arena seat ≡ level words) where
  abbrev W : World
  W = world_of arena

  pub keys_are : level_keys W words ≡ entries (map_behind W seat)
  keys_are = sym (entries_behind is_arena.is_world seat words here)

  pub level_count : length (level_keys W words) ≡ keys_behind W seat
  level_count = ap length keys_are ∙ sym (len-entries (map_behind W seat))

  pub level_left : (place : ℕ) → pair_left (slice_get (level_keys W words) place) ≡ pair_left (slice_get (entries (map_behind W seat)) place)
  level_left place = ap (λ pairs. pair_left (slice_get pairs place)) keys_are

  -- What is left of each is a string.
  pub level_strings : (place : ℕ) → place < length (level_keys W words) → IfSome (pair_left (slice_get (level_keys W words) place)).left IsString
  level_strings place within =
      let one = there_at (level_keys W words) place within in
      let pair = one.0 in
      let at : slice_get (entries (map_behind W seat)) place ≡ Some (pair.0, pair.1) = ap (λ pairs. slice_get pairs place) (sym keys_are) ∙ one.1 in
      let is = (held_behind W seat pair.0 pair.1 (held_at (map_behind W seat) place pair.0 pair.1 at)).0 in
      subst (λ (found : Option (List ℕ × ℕ)). IfSome (pair_left found).left IsString) (sym one.1) is

-- ---- a tail

module _ (arena : Arena) (is_arena : IsArena arena) (at : ℕ) (held : List ℕ) (value : ℕ) (here : world_of arena (suc at) ≡ tail (pieces held) value) (text : IsText held)
    (words : List ℕ) (are : words ≡ words_of held) where
  pub tail_back : text_in words ≡ held
  tail_back = ap text_in are ∙ text-back held text

  pub tail_string : IsString (text_in words)
  tail_string = subst IsString (sym tail_back) (tail_key arena is_arena at held value here text)

  pub tail_left : (place : ℕ) → place < keys_behind (world_of arena) (suc at) →
      pair_left (Some (text_in words, value)) ≡ pair_left (slice_get (entries (map_behind (world_of arena) (suc at))) place)
  tail_left place within =
      let one = tail_entries arena is_arena at held value here text in
      let long = len-entries (map_behind (world_of arena) (suc at)) ∙ ap length one in
      ap (λ (bytes : List ℕ). pair_left (Some (bytes, value))) tail_back
      ∙ ap pair_left (sym (only_at (held, value) place (omega (arith, within, long))))
      ∙ ap (λ pairs. pair_left (slice_get pairs place)) (sym one)

-- ---- a step

module _ (arena : Arena) (is_arena : IsArena arena) (spot : LevelSpot) (is : IsSpot (world_of arena) spot) (entry : EntryPlace)
    (chosen : IsSpotOf (world_of arena) spot.level.now.map spot.place entry) where
  abbrev V : World
  V = world_of arena

  abbrev words : FinMap word_order ℕ
  words = spot.level.now.map

  abbrev key : KeyLeft
  key = pair_left (slice_get (level_keys V words) spot.place)

  -- Behind a final piece nothing is left.
  module _ (final : IsFinal entry.piece) where
    its_key : key ≡ pair_left (Some (piece_bytes entry.piece, entry.value))
    its_key =
        let one = final_keys V (entry.piece, entry.value) final in
        let within = chosen.within in
        let few = ap length one in
        ap pair_left (chosen.same ∙ ap (λ pairs. slice_get pairs entry.place) one ∙ only_at (piece_bytes entry.piece, entry.value) entry.place (omega (arith, within, few)))

    pub step_final : (stand : Stand) → stand ≡ InText None entry.value → IsStep V key (record { piece = entry.piece; stand = stand })
    step_final stand same =
        let begun = final_key is_arena.is_world is.told.seat words is.told.is_level entry.piece entry.value chosen.held final in
        let text = text_of_key (piece_bytes entry.piece) begun.0 in
        let short = final_short (piece_bytes entry.piece) text (ap (λ piece. piece % 256) begun.1 ∙ final) in
        record {
          piece = ap (λ (piece : ℕ). Some piece) (sym begun.1) ∙ ap (λ (one : KeyLeft). option_map piece_of one.left) (sym its_key);
          stands = subst (IsStand V) (sym same) tt;
          left = ap (λ at. (left_at V at).left) same ∙ sym (behind_short (piece_bytes entry.piece) short) ∙ ap (λ (one : KeyLeft). left_behind one.left) (sym its_key);
          value = ap (λ at. (left_at V at).value) same ∙ ap (λ (one : KeyLeft). one.value) (sym its_key);
        }

  -- Behind an inner one a key is left behind its child.
  module _ (inner : IsInner entry.piece) where
    pub step_within : entry.place < keys_behind V (suc entry.value)
    step_within = let within = chosen.within in let many = inner_count V (entry.piece, entry.value) inner in omega (arith, within, many)

    abbrev later : List (List ℕ × ℕ)
    later = entries (map_behind V (suc entry.value))

    its_rest : (pair : List ℕ × ℕ) × (slice_get later entry.place ≡ Some pair)
    its_rest = there_at later entry.place (let within = step_within in let long = len-entries (map_behind V (suc entry.value)) in omega (arith, within, long))

    its_whole : key ≡ pair_left (Some (piece_bytes entry.piece ++ its_rest.0.0, its_rest.0.1))
    its_whole =
        let led : List ℕ × ℕ → List ℕ × ℕ = λ pair. (piece_bytes entry.piece ++ pair.0, pair.1) in
        ap pair_left (
        chosen.same
        ∙ ap (λ pairs. slice_get pairs entry.place) (inner_keys V (entry.piece, entry.value) inner)
        ∙ slice_get-map led later entry.place
        ∙ ap (option_map led) its_rest.1)

    pub step_inner : (stand : Stand) → IsStand V stand → left_at V stand ≡ pair_left (slice_get later entry.place) → IsStep V key (record { piece = entry.piece; stand = stand })
    step_inner stand stands left =
        let front = inner_front is_arena.is_world is.told.seat words is.told.is_level entry.piece entry.value chosen.held inner in
        let rest = its_rest.0.0 in
        let whole = piece_bytes entry.piece ++ rest in
        let has = left ∙ ap pair_left its_rest.1 in
        let long = length-append (piece_bytes entry.piece) rest in
        let eight = front.long in
        let behind : left_behind (Some whole) ≡ Some rest = behind_long whole (omega (arith, long, eight)) ∙ ap (λ (bytes : List ℕ). Some bytes) (drop_at (piece_bytes entry.piece) rest 8 eight) in
        record {
          piece = ap (λ (piece : ℕ). Some piece) (sym (front.begins rest)) ∙ ap (λ (one : KeyLeft). option_map piece_of one.left) (sym its_whole);
          stands = stands;
          left = ap (λ (one : KeyLeft). one.left) has ∙ sym behind ∙ ap (λ (one : KeyLeft). left_behind one.left) (sym its_whole);
          value = ap (λ (one : KeyLeft). one.value) has ∙ ap (λ (one : KeyLeft). one.value) (sym its_whole);
        }

-- ---- a reader

-- What is left to it is a string.
pub reader_string : (arena : Arena) (lists : Lists) (stand : Stand) → IsReader arena lists stand → IfSome (left_at (world_of arena) stand).left IsString
reader_string arena lists (InLevel spot) is = level_strings arena is.is_arena is.stands.told.seat spot.level.now.map is.stands.told.is_level spot.place is.stands.within
reader_string arena lists (InText text value) is = is.stands
