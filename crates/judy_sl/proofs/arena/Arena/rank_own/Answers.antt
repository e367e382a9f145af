use Rattle.std.proofs.Common.{ℕ, suc, cond, drop, Option, length, sym, ap, ◌∙◌}
use Rattle.std.proofs.lemmas.Bool.{lt-ltb, le-ltb}
use Rattle.std.proofs.lemmas.List.{take_rest}
use Rattle.judy_sl.specs.Arenas.{world_of}
use Rattle.judy_sl.specs.Behind.{map_behind}
use Rattle.judy_sl.specs.Counted.{ranked}
use Rattle.judy_sl.specs.Ranks.{ranked_own}
use Rattle.judy_sl.proofs.lemmas.pieces.PieceLemmas.{text-drop}
use Rattle.judy_sl.proofs.lemmas.counts.LevelRanks.{one_if, one_told}
use Rattle.judy_sl.proofs.arena.Arena.rank_own.Goals as goal

pub returns-then-key-lt8 : goal.returns-then-key-lt8
returns-then-key-lt8 c =
    c.from.ensures
    ∙ one_told c.args.itself
    ∙ sym (ap (λ (found : Option ℕ). ranked_own (world_of c.args.self.now) c.args.itself found c.args.key.now) c.in-Some.is
    ∙ ap (λ b. cond b (one_if c.args.itself) (ranked c.args.itself (map_behind (world_of c.args.self.now) (suc c.in-Some.at)) (drop 8 c.args.key.now)))
    (lt-ltb (length c.args.key.now) 8 c.if-key-lt8.true))

pub rank_behind-requires-clause-there : goal.rank_behind-requires-clause-there
rank_behind-requires-clause-there c = (c.requires.leads c.in-Some.at c.in-Some.is c.if-key-lt8.false).0

pub rank_behind-requires-clause-is_text : goal.rank_behind-requires-clause-is_text
rank_behind-requires-clause-is_text c = rw take_rest (text-drop 8 c.args.key.now c.requires.is_text)

pub rank_behind-requires-clause-few : goal.rank_behind-requires-clause-few
rank_behind-requires-clause-few c = (c.requires.leads c.in-Some.at c.in-Some.is c.if-key-lt8.false).1

pub returns : goal.returns
returns c =
    c.rank_behind.ensures
    ∙ ap (ranked c.args.itself (map_behind (world_of c.args.self.now) (suc c.in-Some.at))) (take_rest c.args.key.now 8)
    ∙ sym (ap (λ (found : Option ℕ). ranked_own (world_of c.args.self.now) c.args.itself found c.args.key.now) c.in-Some.is
    ∙ ap (λ b. cond b (one_if c.args.itself) (ranked c.args.itself (map_behind (world_of c.args.self.now) (suc c.in-Some.at)) (drop 8 c.args.key.now)))
    (le-ltb (length c.args.key.now) 8 c.if-key-lt8.false))
