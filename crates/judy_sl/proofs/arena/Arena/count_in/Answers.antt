use Rattle.std.proofs.Common.{ℕ, true, false, ◌∙◌, sym, ap, arith, Option}
use Rattle.std.specs.FinMap.{entries, get}
use Rattle.judy_sums.specs.Levels.{keys_below, part_len}
use Rattle.judy_sl.specs.Pieces.{piece_of}
use Rattle.judy_sl.specs.Arenas.{world_of}
use Rattle.judy_sl.specs.Behind.{map_behind, entry_keys}
use Rattle.judy_sl.specs.Ranks.{ranked_own}
use Rattle.judy_sl.proofs.lemmas.pieces.PieceLemmas.{piece-IsInner}
use Rattle.judy_sl.proofs.lemmas.seats.Linked.{taken_of}
use Rattle.judy_sl.proofs.lemmas.counts.LevelRanks.{ranked_most}
use Rattle.judy_sl.proofs.lemmas.counts.CountWays.{child_most, level_ranked, none_falling}
use Rattle.judy_sl.proofs.arena.Arena.count_in.Goals as goal

pub returns-then-high-low : goal.returns-then-high-low
returns-then-high-low c =
    let stands = c.requires.told in
    let words = c.args.level.now.map in
    let world = c.requires.is_arena.is_world in
    let less = c.if-high-low.true in
    let one = c.first_piece-low.ensures in
    let other = c.first_piece-high.ensures in
    let falls = none_falling world stands.seat words stands.is_level c.args.from.now c.args.to.now c.requires.from c.requires.to (omega arith) in
    let high = level_ranked world stands.seat words stands.is_level true c.args.to.now c.requires.to in
    let low = level_ranked world stands.seat words stands.is_level false c.args.from.now c.requires.from in
    omega arith

pub keys_counted-between-requires-clause-rising : goal.keys_counted-between-requires-clause-rising
keys_counted-between-requires-clause-rising c = c.if-high-low.false

pub rank_own-up_to-requires-clause-leads : goal.rank_own-up_to-requires-clause-leads
rank_own-up_to-requires-clause-leads c at entry long =
    let stands = c.requires.told in
    let words = c.args.level.now.map in
    let there = ap (get words) (sym c.first_piece-high.ensures) ∙ sym c.get.ensures ∙ entry in
    let inner = piece-IsInner c.args.to.now c.requires.to long in
    let most = child_most c.requires.is_arena.is_world stands.seat words stands.is_level (piece_of c.args.to.now) at there inner in
    let told = stands.told in
    let fits = c.ranges.keys.fits in
    (taken_of c.args.self.now at (((c.requires.is_arena.is_world.levels stands.seat words stands.is_level).leads (piece_of c.args.to.now) at there inner).1), omega arith)

pub rank_own-below-requires-clause-leads : goal.rank_own-below-requires-clause-leads
rank_own-below-requires-clause-leads c at entry long =
    let stands = c.requires.told in
    let words = c.args.level.now.map in
    let there = ap (get words) (sym c.first_piece-low.ensures) ∙ sym c.get-2.ensures ∙ entry in
    let inner = piece-IsInner c.args.from.now c.requires.from long in
    let most = child_most c.requires.is_arena.is_world stands.seat words stands.is_level (piece_of c.args.from.now) at there inner in
    let told = stands.told in
    let fits = c.ranges.keys.fits in
    (taken_of c.args.self.now at (((c.requires.is_arena.is_world.levels stands.seat words stands.is_level).leads (piece_of c.args.from.now) at there inner).1), omega arith)

pub overflow_add-between : goal.overflow_add-between
overflow_add-between c =
    let stands = c.requires.told in
    let words = c.args.level.now.map in
    let lesser = keys_below (part_len (entry_keys (world_of c.args.self.now))) (entries words) in
    let up_to = c.rank_own-up_to.ensures ∙ ap (λ (found : Option ℕ). ranked_own (world_of c.args.self.now) true found c.args.to.now) (c.get.ensures ∙ ap (get words) c.first_piece-high.ensures) in
    let high = level_ranked c.requires.is_arena.is_world stands.seat words stands.is_level true c.args.to.now c.requires.to in
    let all = ranked_most true (map_behind (world_of c.args.self.now) stands.seat) c.args.to.now in
    omega (arith, ap lesser c.first_piece-low.ensures, ap lesser c.first_piece-high.ensures, c.keys_counted-between.ensures, up_to, high, all, stands.told, c.ranges.keys.fits)

pub returns : goal.returns
returns c =
    let words = c.args.level.now.map in
    let lesser = keys_below (part_len (entry_keys (world_of c.args.self.now))) (entries words) in
    let up_to = c.rank_own-up_to.ensures ∙ ap (λ (found : Option ℕ). ranked_own (world_of c.args.self.now) true found c.args.to.now) (c.get.ensures ∙ ap (get words) c.first_piece-high.ensures) in
    let below = c.rank_own-below.ensures ∙ ap (λ (found : Option ℕ). ranked_own (world_of c.args.self.now) false found c.args.from.now) (c.get-2.ensures ∙ ap (get words) c.first_piece-low.ensures) in
    omega (arith, ap lesser c.first_piece-low.ensures, ap lesser c.first_piece-high.ensures, c.keys_counted-between.ensures, up_to, below, c.saturating_sub.ensures)
