use Rattle.judy_model.proofs.lemmas.runs.LineLemmas.{script_of-lines_of, are_lines-lines_of, lines_of-script_of}
use Rattle.judy_model.proofs.laws.lines.lines_give_the_script_back.Goals as goal

pub returns : goal.returns
returns c = record { joined = script_of-lines_of; are_lines = are_lines-lines_of; no_others = lines_of-script_of }
