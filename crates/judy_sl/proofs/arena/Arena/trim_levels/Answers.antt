use Rattle.std.proofs.Common.{◌/◌, cond, refl, ap}
use Rattle.judy_tails.specs.Tails.{tail_at}
use Rattle.judy_sl.specs.Children.{is_level, level_child, tail_child}
use Rattle.judy_sl.proofs.lemmas.moves.Tries.{same_settled}
use Rattle.judy_sl.proofs.arena.Arena.trim_levels.Goals as goal

pub returns : goal.returns
returns c = same_settled c.args.self.now _ c.requires.kept (record {
  root = refl;
  children = λ at. ap (λ found. cond (is_level at) (level_child found) (tail_child (tail_at c.args.self.now.tails at))) (c.trim.ensures (at / 256));
})
