use Rattle.std.proofs.Common.{refl}
use Rattle.clap.proofs.OnLiterals.{clap_on_literals}
use Rattle.judy_options.proofs.examples.version_is_not_asked_for.Goals as goal

pub returns-clause-behind_help : goal.returns-clause-behind_help
unfolding clap_on_literals
returns-clause-behind_help c = refl

pub returns-clause-behind_a_fault : goal.returns-clause-behind_a_fault
unfolding clap_on_literals
returns-clause-behind_a_fault c = refl

pub returns-clause-with_a_value : goal.returns-clause-with_a_value
unfolding clap_on_literals
returns-clause-with_a_value c = refl

pub returns-clause-in_a_value : goal.returns-clause-in_a_value
unfolding clap_on_literals
returns-clause-in_a_value c = refl

pub returns-clause-as_a_script : goal.returns-clause-as_a_script
unfolding clap_on_literals
returns-clause-as_a_script c = refl
