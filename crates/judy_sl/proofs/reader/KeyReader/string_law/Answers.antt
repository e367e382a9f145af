use Rattle.std.proofs.Common.{IfSome, subst}
use Rattle.judy_sl.specs.Readers.{KeyLeft}
use Rattle.judy_sl.specs.Strings.{IsString}
use Rattle.judy_sl.proofs.lemmas.readers.LevelSteps.{reader_string}
use Rattle.judy_sl.proofs.reader.KeyReader.string_law.Goals as goal

pub returns : goal.returns
returns c = subst (λ (key : KeyLeft). IfSome key.left IsString) c.self.view_is (reader_string c.self.inside.arena.now c.self.inside.lists.now c.self.inside.stand c.self.invariant)
