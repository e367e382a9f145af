-- The type of arrays whose keys may have any length.
use denote.RattleType.{RattleType}
use Rattle.judy_sl.specs.contracts.judysl.StringsOf as strings
use Rattle.judy_sl.specs.contracts.keys.AnyLength as any
use Rattle.judy_sl.specs.contracts.keys.AnyLengthKeyLength.TheImpl as any_lengths

abbrev pub long_strings_row : RattleType
long_strings_row = strings.the_row any.the_row any_lengths.ghosts
