use Rattle.std.proofs.Common.{refl}
use Rattle.clap.proofs.OnLiterals.{clap_on_literals}
use Rattle.judy_options.proofs.examples.version_is_asked_for.Goals as goal

pub returns-clause-alone : goal.returns-clause-alone
unfolding clap_on_literals
returns-clause-alone c = refl

pub returns-clause-short : goal.returns-clause-short
unfolding clap_on_literals
returns-clause-short c = refl

pub returns-clause-behind_files : goal.returns-clause-behind_files
unfolding clap_on_literals
returns-clause-behind_files c = refl

pub returns-clause-before_help : goal.returns-clause-before_help
unfolding clap_on_literals
returns-clause-before_help c = refl

pub returns-clause-before_a_fault : goal.returns-clause-before_a_fault
unfolding clap_on_literals
returns-clause-before_a_fault c = refl
