use Rattle.std.proofs.Common.{◌%◌, ◌^◌, ◌<◌, ap, sym, subst, ◌∙◌}
use Rattle.std.proofs.lemmas.Nat.{mod_below}
use Rattle.judy_leaf.proofs.WordSteps.{base_pos, key_at_place}
use Rattle.judy_leaf.proofs.place.key_in.Goals as goal

pub returns-clause-key : goal.returns-clause-key
returns-clause-key g c = c.low_part.ensures ∙ ap (λ n. n % 256 ^ g.row.W) c.without_low.ensures ∙ key_at_place g.row.W c.requires.width c.args.word c.args.at c.requires.inside

pub returns-clause-below : goal.returns-clause-below
returns-clause-below g c = subst (λ n. n < 256 ^ g.row.W) (sym c.low_part.ensures) (mod_below c.without_low.result (256 ^ g.row.W) (base_pos g.row.W c.requires.width))
