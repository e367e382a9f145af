use Rattle.std.proofs.Common.{◌≡◌, ◌≤◌, ◌-◌, ◌++◌, map, length}
use Rattle.judy_model.specs.Tokens.{tokens_of}
use Rattle.judy_script.proofs.tokens.split.Given as goal

-- the tokens taken and those of the rest are the text's
abbrev pub invariant-loop-rest : goal.invariant-loop-rest
invariant-loop-rest l =
    record { same : map (λ token. token.now) l.tokens.items ++ tokens_of l.rest ≡ tokens_of l.text; fits : length l.tokens.items ≤ 5 }

abbrev pub decreases-loop-rest : goal.decreases-loop-rest
decreases-loop-rest l = 5 - length l.tokens.items
