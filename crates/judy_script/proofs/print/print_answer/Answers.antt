use Rattle.std.proofs.Common.{◌≡◌, ℕ, ◌++◌, [], ◌∷◌, Bool, true, false, Ok, decimal, rules, ◌∙◌}
use Rattle.std.specs.Fmt.{digits}
use Rattle.std.specs.Int.{from_bool}
use Rattle.judy_model.specs.Replies.{output_of, flag}
use Rattle.judy_script.proofs.print.print_answer.Goals as goal

-- the number of a truth value is its text
flag_text : (holds : Bool) (number : ℕ) → number ≡ from_bool holds → decimal number ++ 10 ∷ [] ≡ output_of (Ok (flag holds))
unfolding digits
flag_text true number is = rw is (search rules)
flag_text false number is = rw is (search rules)

pub returns-in-Done-clause-text : goal.returns-in-Done-clause-text
returns-in-Done-clause-text c = search rules

pub returns-in-Flag-clause-text : goal.returns-in-Flag-clause-text
returns-in-Flag-clause-text c = rw c.in-Flag.is (c.number_line-in-Flag.ensures.text ∙ flag_text c.in-Flag.holds c.from.result c.from.ensures)
