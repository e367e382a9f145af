use Rattle.judy_sl.proofs.lemmas.inserts.Splits.{clash-tail}
use Rattle.judy_sl.proofs.arena.Arena.split.Goals as goal

pub read_tail-value-requires : goal.read_tail-value-requires
read_tail-value-requires c = record { tail = clash-tail c.args.self.now c.args.key.now c.args.from c.args.at c.args.left c.requires.clash c.requires.is_arena }

pub read_tail-requires : goal.read_tail-requires
read_tail-requires c = record { tail = clash-tail c.args.self.now c.args.key.now c.args.from c.args.at c.args.left c.requires.clash c.requires.is_arena }
