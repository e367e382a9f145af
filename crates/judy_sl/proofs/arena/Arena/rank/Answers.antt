use Rattle.std.proofs.Common.{ℕ, ◌+◌, refl, sym, ap, ◌∙◌, arith, Option}
use Rattle.std.specs.FinMap.{entries, get}
use Rattle.judy_model.specs.Counts.{rank}
use Rattle.judy_sums.specs.Pairs.{sum_below}
use Rattle.judy_sl.specs.Pieces.{piece_of}
use Rattle.judy_sl.specs.Arenas.{world_of, map_of}
use Rattle.judy_sl.specs.Ranks.{ranked_own}
use Rattle.judy_sl.proofs.lemmas.pieces.PieceLemmas.{text_of_key, piece-IsInner}
use Rattle.judy_sl.proofs.lemmas.seats.Linked.{taken_of}
use Rattle.judy_sl.proofs.lemmas.counts.LevelRanks.{ranked_most}
use Rattle.judy_sl.proofs.lemmas.counts.FirstSums.{list_keys_below, behind_most}
use Rattle.judy_sl.proofs.lemmas.counts.CountWays.{level_ranked}
use Rattle.judy_sl.proofs.arena.Arena.rank.Goals as goal

pub listed_below-lesser-requires : goal.listed_below-lesser-requires
listed_below-lesser-requires c =
    let first = list_keys_below c.requires.is_arena.is_world 0 c.args.self.now.root.map refl c.args.firsts.now c.requires.firsts (piece_of c.args.key.now) in
    let here = ap (λ word. rank c.args.self.now.root.map word + sum_below (entries c.args.firsts.now) word) c.first_piece-piece.ensures in
    let whole = level_ranked c.requires.is_arena.is_world 0 c.args.self.now.root.map refl c.args.itself c.args.key.now (text_of_key c.args.key.now c.requires.is_key) in
    omega (arith, first, here, ranked_most c.args.itself (map_of c.args.self.now) c.args.key.now, c.requires.few, whole)

pub rank_own-requires-clause-is_text : goal.rank_own-requires-clause-is_text
rank_own-requires-clause-is_text c = text_of_key c.args.key.now c.requires.is_key

pub rank_own-requires-clause-leads : goal.rank_own-requires-clause-leads
rank_own-requires-clause-leads c at entry long =
    let there = ap (get c.args.self.now.root.map) (sym c.first_piece-piece.ensures) ∙ sym c.get.ensures ∙ entry in
    let inner = piece-IsInner c.args.key.now (text_of_key c.args.key.now c.requires.is_key) long in
    let most = behind_most c.requires.is_arena.is_world 0 c.args.self.now.root.map refl (piece_of c.args.key.now) at inner there in
    let few = c.requires.few in
    (taken_of c.args.self.now at (((c.requires.is_arena.is_world.levels 0 c.args.self.now.root.map refl).leads (piece_of c.args.key.now) at there inner).1), omega arith)

pub overflow_add-result : goal.overflow_add-result
overflow_add-result c =
    let first = list_keys_below c.requires.is_arena.is_world 0 c.args.self.now.root.map refl c.args.firsts.now c.requires.firsts (piece_of c.args.key.now) in
    let below = c.listed_below-lesser.ensures ∙ ap (λ word. rank c.args.self.now.root.map word + sum_below (entries c.args.firsts.now) word) c.first_piece-piece.ensures in
    let own = c.rank_own.ensures ∙ ap (λ (found : Option ℕ). ranked_own (world_of c.args.self.now) c.args.itself found c.args.key.now)
    (c.get.ensures ∙ ap (get c.args.self.now.root.map) c.first_piece-piece.ensures) in
    let whole = level_ranked c.requires.is_arena.is_world 0 c.args.self.now.root.map refl c.args.itself c.args.key.now (text_of_key c.args.key.now c.requires.is_key) in
    omega (arith, first, below, own, ranked_most c.args.itself (map_of c.args.self.now) c.args.key.now, c.requires.few, whole)

pub returns : goal.returns
returns c =
    let first = list_keys_below c.requires.is_arena.is_world 0 c.args.self.now.root.map refl c.args.firsts.now c.requires.firsts (piece_of c.args.key.now) in
    let below = c.listed_below-lesser.ensures ∙ ap (λ word. rank c.args.self.now.root.map word + sum_below (entries c.args.firsts.now) word) c.first_piece-piece.ensures in
    let own = c.rank_own.ensures ∙ ap (λ (found : Option ℕ). ranked_own (world_of c.args.self.now) c.args.itself found c.args.key.now)
    (c.get.ensures ∙ ap (get c.args.self.now.root.map) c.first_piece-piece.ensures) in
    let whole = level_ranked c.requires.is_arena.is_world 0 c.args.self.now.root.map refl c.args.itself c.args.key.now (text_of_key c.args.key.now c.requires.is_key) in
    omega (arith, first, below, own, whole)
