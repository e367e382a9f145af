use Rattle.std.proofs.Common.{◌≡◌, length}
use Rattle.judy_model.specs.Tokens.{tokens_of}
use Rattle.judy_script.proofs.tokens.behind_spaces.Given as goal

-- the spaces so far are no part of a token
abbrev pub invariant-spaces : goal.invariant-spaces
invariant-spaces l = tokens_of l.rest ≡ tokens_of l.text

abbrev pub decreases-spaces : goal.decreases-spaces
decreases-spaces l = length l.rest
