use Rattle.judy_sl.proofs.lemmas.pieces.Strings.{string_of_key}
use Rattle.judy_sl.proofs.judysl.StringsOf.level.Goals as goal

pub level-requires-clause-is_key : goal.level-requires-clause-is_key
level-requires-clause-is_key g c = string_of_key g.L.KeyLength c.args.at.now c.requires.is_key
