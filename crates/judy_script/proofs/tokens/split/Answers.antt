use Rattle.std.proofs.Common.{◌≡◌, ◌++◌, List, ℕ, take, length, sym, ap, ◌∙◌, rules}
use Rattle.std.proofs.lemmas.List.{length-map}
use Rattle.std.proofs.Math.Seq.{take-append_seam}
use Rattle.judy_model.specs.Tokens.{tokens_of}
use Rattle.judy_script.proofs.tokens.split.Goals as goal

-- five tokens taken are the first five
five_taken : (n : ℕ) (taken rest : List (List ℕ)) → length taken ≡ n → take n (taken ++ rest) ≡ taken
five_taken n taken rest long = rw (← long) (take-append_seam taken rest)

pub returns-after-loop-rest : goal.returns-after-loop-rest
returns-after-loop-rest c =
    let full : length c.loop-rest.tokens.items ≡ 5 = search rules in
    sym (five_taken 5 _ (tokens_of c.loop-rest.rest.now) (length-map c.loop-rest.tokens.items _ ∙ full)) ∙ ap (take 5) c.loop-rest.invariant.same
