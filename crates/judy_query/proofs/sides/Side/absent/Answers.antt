use Rattle.std.proofs.Common.{ap, sym, ◌∙◌}
use Rattle.judy_node.specs.Views.{view_pairs}
use Rattle.judy_query.specs.Parts.{width_of}
use Rattle.judy_query.proofs.AbsentSides.{told_up, told_down}
use Rattle.judy_query.proofs.sides.Side.absent.Goals as goal

pub returns-in-Up : goal.returns-in-Up
returns-in-Up g c =
    let list = c.in-Imm.list in
    told_up c.args.self (view_pairs c.args.end.now) list.pairs list.width c.args.width c.args.key c.absent_at_or_after.result (ap view_pairs c.in-Imm.is)
    (ap width_of (sym c.in-Imm.is) ∙ sym c.requires.width) c.requires.within c.in-Up.is c.absent_at_or_after.ensures

pub returns-in-Down : goal.returns-in-Down
returns-in-Down g c =
    let list = c.in-Imm.list in
    told_down c.args.self (view_pairs c.args.end.now) list.pairs list.width c.args.width c.args.key c.absent_at_or_before.result (ap view_pairs c.in-Imm.is)
    (ap width_of (sym c.in-Imm.is) ∙ sym c.requires.width) c.requires.within c.in-Down.is c.absent_at_or_before.ensures

pub returns-in-Up-self : goal.returns-in-Up-self
returns-in-Up-self g c =
    let list = c.in-Leaf.list in
    told_up c.args.self (view_pairs c.args.end.now) list.pairs list.width c.args.width c.args.key c.absent_at_or_after-in-Up-self.result (ap view_pairs c.in-Leaf.is)
    (ap width_of (sym c.in-Leaf.is) ∙ sym c.requires.width) c.requires.within c.in-Up-self.is c.absent_at_or_after-in-Up-self.ensures

pub returns-in-Down-self : goal.returns-in-Down-self
returns-in-Down-self g c =
    let list = c.in-Leaf.list in
    told_down c.args.self (view_pairs c.args.end.now) list.pairs list.width c.args.width c.args.key c.absent_at_or_before-in-Down-self.result (ap view_pairs c.in-Leaf.is)
    (ap width_of (sym c.in-Leaf.is) ∙ sym c.requires.width) c.requires.within c.in-Down-self.is c.absent_at_or_before-in-Down-self.ensures
