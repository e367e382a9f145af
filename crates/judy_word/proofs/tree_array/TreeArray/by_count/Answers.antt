use Rattle.judy_word.proofs.EntryFacts.{key_alone, key_none}
use Rattle.judy_word.proofs.tree_array.TreeArray.by_count.Goals as goal

pub returns-in_err-key : goal.returns-in_err-key
returns-in_err-key g c = key_none c.in_err-key.was c.by_count_entry.ensures.key c.from_residual.ensures

pub returns : goal.returns
returns g c = key_alone c.in_ok-key.was c.by_count_entry.ensures.key
