use Rattle.std.proofs.Common.{refl, sym}
use Rattle.judy_command.proofs.NamedArrays.{named-found, named-none}
use Rattle.judy_command.proofs.arrays.array_at.Goals as goal

pub returns-in-Some : goal.returns-in-Some
returns-in-Some c = (
  (refl, λ w _. c.named_mut.follows.holds w, tt),
  record { writes_back = tt; value = sym (named-found c.args.shelf.now c.args.token.now c.in-Some.ensures.name c.in-Some.array.now (sym c.in-Some.ensures.value)) },
)

pub returns-in-None : goal.returns-in-None
returns-in-None c = (
  (refl, λ w never. absurd (cc), c.named_mut.follows.holds-at-none),
  record { writes_back = tt; value = named-none c.args.shelf.now c.args.token.now (sym c.in-None.ensures.value) _ c.unnamed.ensures },
)
