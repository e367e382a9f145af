use Rattle.std.proofs.Common.{◌∷◌, [], ap, ◌∙◌}
use Rattle.std.proofs.Math.Nat.{mod-eq_of_lt}
use Rattle.judy_change.proofs.put.one_key.Goals as goal

pub returns-clause-pairs : goal.returns-clause-pairs
returns-clause-pairs g c = ap (λ tree. tree.pairs) c.close.ensures ∙ c.immediate_of_one.ensures.built.same ∙ (λ t. (mod-eq_of_lt c.requires.fits t, c.args.value) ∷ [])
