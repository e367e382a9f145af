use Rattle.std.proofs.Common.{Bool, true, false, sym, ap, ◌∙◌}
use Rattle.judy_model.specs.Neighbours.{first, next}
use Rattle.judy_sl.specs.Cursors.{Standing}
use Rattle.judy_string_sets.specs.Walks.{to_come}
use Rattle.judy_string_sets.proofs.WalkFacts.{walked, stepped, first_least, next_least}
use Rattle.judy_string_sets.proofs.keys.CursorWalk.next.Goals as goal

pub returns-then-self : goal.returns-then-self
returns-then-self c =
    let at = c.self.inside.cursor in
    let after = c.next.new.self.key in
    stepped c.args.self.now.map _ at.map at.key after true c.next.result
    (ap (λ (begun : Bool). to_come begun at.map at.key) (sym c.if-self.true) ∙ ap (λ (s : Standing). s.map) c.self.view_is)
    (λ t. to_come (sym c.if-self.true t) (sym c.next.ensures.map t) after)
    (walked at.map at.key after true (next at.map at.key) c.next.result (next_least at.map at.key) c.next.ensures.key c.next.ensures.value)

pub returns : goal.returns
returns c =
    let at = c.self.inside.cursor in
    let after = c.first.new.self.key in
    stepped c.args.self.now.map _ at.map at.key after false c.first.result
    (ap (λ (begun : Bool). to_come begun at.map at.key) (sym c.if-self.false) ∙ ap (λ (s : Standing). s.map) c.self.view_is)
    (λ t. to_come true (sym c.first.ensures.map t) after)
    (walked at.map at.key after false (first at.map at.key) c.first.result (first_least at.map at.key) c.first.ensures.key c.first.ensures.value)
