-- The keys behind the entries of a level, as these are read page by page.
use Rattle.std.proofs.Common.{◌≡◌, ℕ, zero, suc, ◌+◌, ◌-◌, ◌<◌, ◌≤◌, List, [], ◌∷◌, ◌++◌, map, length, take, drop, get_or, All, sym, ap, ◌∙◌, arith}
use Rattle.std.specs.List.{flat_map}
use Rattle.std.specs.Cmp.{nat_cmp_total}
use Rattle.std.specs.FinMap.{FinMap, nat_cmp-IsAntisymmetric, entries, entries_sorted, get-entries}
use Rattle.std.proofs.Math.Seq.{take-add}
use Rattle.std.proofs.lemmas.List.{map-id, take_at, take_all, take-append-drop, length-append, length-take-le, take_more}
use Rattle.std.proofs.lemmas.List.Concat.{flat_map-append}
use Rattle.std.proofs.lemmas.List.Elements.{All-from_recursion}
use Rattle.judy_model.specs.Keys.{word_order}
use Rattle.judy_model.specs.Counts.{rank}
use Rattle.judy_sums.specs.Pairs.{Pairs}
use Rattle.judy_sums.specs.Levels.{keys_below, part_len}
use Rattle.judy_sums.proofs.LevelCounts.{entries_below_is}
use Rattle.judy_sums.proofs.Parts.{each_found}
use Rattle.judy_sl.specs.World.{World, level}
use Rattle.judy_sl.specs.WorldInvariants.{IsWorld}
use Rattle.judy_sl.specs.Behind.{entry_keys}
use Rattle.judy_sl.specs.Counted.{LeadsOn, keys_behind_all}
use Rattle.judy_sl.proofs.lemmas.counts.EntryCounts.{below_front}

-- ---- the entries of a level

-- What each of them leads to is there.
pub entries_lead : {world : World} {behind : ℕ → List ℕ} → IsWorld world behind → (seat : ℕ) (words : FinMap word_order ℕ) → world seat ≡ level words → All (LeadsOn world) (entries words)
entries_lead {world} is seat words here =
    All-from_recursion (LeadsOn world) (entries words)
    (each_found word_order nat_cmp_total nat_cmp-IsAntisymmetric (LeadsOn world) (entries words) (entries_sorted words)
    (λ piece at found inner. ((is.levels seat words here).leads piece at (get-entries words piece ∙ found) inner).1))

-- ---- a page

-- The entries of a page are the next of those that were left.
pub page_is : (left out page : Pairs) (told : ℕ) → told ≤ length left → page ≡ take told (map (λ (entry : ℕ × ℕ). (entry.0, entry.1)) left) ++ drop told out → take told page ≡ take told left
page_is left out page told within is =
    ap (take told) (is ∙ ap (λ (all : Pairs). take told all ++ drop told out) (map-id left))
    ∙ take_at (take told left) (drop told out) told (length-take-le told left within)

-- Where there are enough to fill it, it is these.
pub page_full : (left out page : Pairs) (told : ℕ) → length out ≤ length left → told ≡ length out → length page ≡ length out →
    page ≡ take told (map (λ (entry : ℕ × ℕ). (entry.0, entry.1)) left) ++ drop told out → page ≡ take (length out) left
page_full left out page told within all same is =
    sym (take_all told page (omega arith)) ∙ page_is left out page told (omega arith) is ∙ ap (λ n. take n left) all

module _ (world : World) where
  -- The keys behind some entries are those behind the front of them and those behind the rest.
  pub front_rest : (entries : Pairs) (count : ℕ) → keys_behind_all world (take count entries) + keys_behind_all world (drop count entries) ≡ keys_behind_all world entries
  front_rest entries count =
      let all = ap (keys_behind_all world) (take-append-drop count entries) in
      let both = ap length (flat_map-append (entry_keys world) (take count entries) (drop count entries)) in
      let long = length-append (flat_map (entry_keys world) (take count entries)) (flat_map (entry_keys world) (drop count entries)) in
      omega arith

  -- Those behind the entries up to one place are those up to an earlier one, and those from there on.
  pub front_more : (entries : Pairs) (start end : ℕ) → start ≤ end → keys_behind_all world (take end entries) ≡
      keys_behind_all world (take start entries) + keys_behind_all world (take (end - start) (drop start entries))
  front_more entries start end less =
      let split : take end entries ≡ take start entries ++ take (end - start) (drop start entries) = ap (λ n. take n entries) (let e : end ≡ start + (end - start) = omega arith in e) ∙
      take-add start (end - start) entries in
      let all = ap (keys_behind_all world) split in
      let both = ap length (flat_map-append (entry_keys world) (take start entries) (take (end - start) (drop start entries))) in
      let long = length-append (flat_map (entry_keys world) (take start entries)) (flat_map (entry_keys world) (take (end - start) (drop start entries))) in
      omega arith

  -- Where a key stands behind the entries up to a place, there are some.
  pub front_some : (entries : Pairs) (end : ℕ) → 1 ≤ keys_behind_all world (take end entries) → 1 ≤ end
  front_some entries zero some = some
  front_some entries (suc end) some = omega arith

  -- So with one entry more.
  pub front_one : (entries : Pairs) (place : ℕ) → place < length entries → keys_behind_all world (take (place + 1) entries) ≡
      keys_behind_all world (take place entries) + length (entry_keys world (get_or entries place (0, 0)))
  front_one entries place within =
      let all = ap (keys_behind_all world) (take_more entries place (0, 0) within) ∙ ap length (flat_map-append (entry_keys world) (take place entries) (get_or entries place (0, 0) ∷ [])) in
      let both = length-append (flat_map (entry_keys world) (take place entries)) (flat_map (entry_keys world) (get_or entries place (0, 0) ∷ [])) in
      let one = length-append (entry_keys world (get_or entries place (0, 0))) [] in
      omega arith

  -- ---- below a piece

  module _ (words : FinMap word_order ℕ) (piece : ℕ) where
    -- The keys below a piece stand behind as many entries at the front as have lesser pieces,
    pub front_keys : keys_below (part_len (entry_keys world)) (entries words) piece ≡ keys_behind_all world (take (rank words piece) (entries words))
    front_keys = below_front (entry_keys world) piece (entries words) (entries_sorted words) ∙ ap (λ n. keys_behind_all world (take n (entries words))) (sym (entries_below_is words piece))

    -- and the others behind those from there on.
    pub rest_keys : keys_below (part_len (entry_keys world)) (entries words) piece + keys_behind_all world (drop (rank words piece) (entries words)) ≡ keys_behind_all world (entries words)
    rest_keys = let front = front_keys in let both = front_rest (entries words) (rank words piece) in omega arith
