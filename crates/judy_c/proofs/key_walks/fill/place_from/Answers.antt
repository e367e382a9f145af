use Rattle.std.proofs.Common.{◌-◌, ◌∙◌, arith}
use Rattle.judy_c.proofs.PlacePairs.{few, here_within, above, here}
use Rattle.judy_c.proofs.key_walks.fill.place_from.Goals as goal

pub returns-then-not-itself-clause-at : goal.returns-then-not-itself-clause-at
returns-then-not-itself-clause-at c = c.count-up_to.ensures ∙ above c.args.array.now.map c.args.from.now c.args.itself c.if-not-itself.true

pub returns-then-not-itself-clause-most : goal.returns-then-not-itself-clause-most
returns-then-not-itself-clause-most c =
    let most = few c.args.array.now.map c.args.from.now in
    omega (arith, most, c.count-up_to.ensures, c.len-most.ensures.count, c.len-most.ensures.most)

pub overflow_sub-result : goal.overflow_sub-result
overflow_sub-result c =
    let within = here_within c.args.array.now.map c.args.from.now in
    omega (arith, within, c.count-up_to.ensures, c.count.ensures)

pub returns-clause-at : goal.returns-clause-at
returns-clause-at c =
    (λ t. c.count-up_to.ensures t - c.count.ensures t) ∙ here c.args.array.now.map c.args.from.now c.args.itself c.if-not-itself.false

pub returns-clause-most : goal.returns-clause-most
returns-clause-most c =
    let most = few c.args.array.now.map c.args.from.now in
    omega (arith, most, c.count-up_to.ensures, c.len-most.ensures.count, c.len-most.ensures.most)
