use Rattle.judy_sl.proofs.lemmas.seats.Behind.{entries_behind}
use Rattle.judy_sl.proofs.laws.keys_stand_entry_by_entry.Goals as goal

pub returns : goal.returns
returns c = λ world behind seat words is here. entries_behind is seat words here
