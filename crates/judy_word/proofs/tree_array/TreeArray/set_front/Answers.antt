use Rattle.std.proofs.Common.{ℕ, Result, Ok, Err, OnErr, take, ap, ◌∙◌, ◌≡◌, arith}
use Rattle.judy_model.specs.Arrays.{with_map}
use Rattle.judy_word.specs.Held.{map_in, array_in, with_all}
use Rattle.judy_word.proofs.tree_array.TreeArray.set_front.Goals as goal

if_err : {A E : Type 0} {P : Type 0} (result : Result A E) → P → OnErr result P
if_err (Ok value) holds = tt
if_err (Err error) holds = holds

pub returns-in_err-set_with-clause-unchanged : goal.returns-in_err-set_with-clause-unchanged
returns-in_err-set_with-clause-unchanged g c =
    let old = c.args.self.now in
    let none : c.append-count.result ≡ 0 = omega arith in
    if_err c.from_residual.result
    (ap array_in c.in_err-set_with.ensures.unchanged
    ∙ c.append-count.ensures.set
    ∙ ap (λ (n : ℕ). with_map (array_in old) (with_all (map_in old) (take n c.args.pairs.now))) none)
