use Rattle.std.proofs.Common.{◌*◌, ◌^◌, ◌<◌, length, slice_get, sym, ap, ◌∙◌, arith}
use Rattle.std.specs.Option.{option_or}
use Rattle.judy_model.specs.WordBytes.{number_of}
use Rattle.judy_leaf.specs.KeyLists.{shift}
use Rattle.judy_query.specs.Parts.{reached}
use Rattle.judy_query.specs.Turns.{later_pair}
use Rattle.judy_query.proofs.Splits.{rest_of}
use Rattle.judy_query.proofs.TurnFacts.{turn_later_there, turn_none}
use Rattle.judy_query.proofs.turns.pair_behind.Goals as goal

pub returns-then-place-len-clause-entry : goal.returns-then-place-len-clause-entry
returns-then-place-len-clause-entry g c =
    let b = c.args.branch.now in
    let place = c.reached-place.ensures in
    let inside : c.reached-place.result < length b.children.items = omega (arith, b.children.ok.0, c.len.ensures, c.if-place-len.true) in
    c.least.ensures.entry ∙ sym (turn_later_there g.V.Words.WORDS b.width b.skip b.bytes b.children.items b.population c.requires.branch c.reached-place.result c.args.base inside _)
    ∙ ap (λ at. option_or (slice_get (shift c.args.base (rest_of (256 ^ b.width) (number_of b.skip * 256) b.bytes b.children.items at)) 0) (later_pair c.args.before)) place

pub returns-else-place-len-clause-entry : goal.returns-else-place-len-clause-entry
returns-else-place-len-clause-entry g c =
    let b = c.args.branch.now in
    c.pair_further_up.ensures.entry ∙ sym (turn_none g.V.Words.WORDS b.width b.skip b.bytes b.children.items b.population c.requires.branch
    (reached (length b.children.items) c.args.step) c.args.base (omega (arith, b.children.ok.0, c.len.ensures, c.reached-place.ensures, c.if-place-len.false)) _)
