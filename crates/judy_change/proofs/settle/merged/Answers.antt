use Rattle.std.proofs.Common.{◌++◌, [], length, sym, ap, ◌∙◌, arith}
use Rattle.std.specs.Option.{option_to_list}
use Rattle.judy_node.specs.Kinds.{behind}
use Rattle.judy_node.proofs.Maps.{children-length}
use Rattle.judy_change.proofs.SettleFacts.{kid_deep, kid_wide, kid_merged}
use Rattle.judy_change.proofs.settle.merged.Goals as goal

pub unreachable-requires-in_default-pop : goal.unreachable-requires-in_default-pop
unreachable-requires-in_default-pop g c =
    let branch = c.args.branch.now in
    let long = children-length g.V.Words.WORDS branch.width 0 branch.bytes branch.children.items c.requires.branch.parts.children in
    let one = c.requires.one in
    let held = branch.children.ok.0 in
    c.in_default-pop.not-Some _ (c.pop.ensures.value (record { width = 0; pairs = []; form = [] }) (omega arith))

pub behind-requires-clause-deep : goal.behind-requires-clause-deep
behind-requires-clause-deep g c =
    let branch = c.args.branch.now in
    kid_deep g.V.Words.WORDS branch.width branch.skip branch.bytes branch.children.items c.pop.new.self.items branch.population c.in-Some.byte c.in-Some-pop.child c.open.result
    c.requires.branch c.requires.many c.requires.one (sym c.nth.ensures ∙ c.in-Some.is) (c.pop.ensures.items ∙ ap (λ r. c.pop.new.self.items ++ option_to_list r) c.in-Some-pop.is)
    c.open.ensures.tree c.open.ensures.level

pub behind-requires-clause-width : goal.behind-requires-clause-width
behind-requires-clause-width g c =
    let branch = c.args.branch.now in
    let wide = kid_wide g.V.Words.WORDS branch.width branch.skip branch.bytes branch.children.items c.pop.new.self.items branch.population c.in-Some.byte c.in-Some-pop.child c.open.result
    c.requires.branch c.requires.many c.requires.one (sym c.nth.ensures ∙ c.in-Some.is) (c.pop.ensures.items ∙ ap (λ r. c.pop.new.self.items ++ option_to_list r) c.in-Some-pop.is)
    c.open.ensures.tree c.open.ensures.level in
    let within = c.requires.branch.parts.within in
    omega arith

pub behind_bytes-requires-clause-width : goal.behind_bytes-requires-clause-width
behind_bytes-requires-clause-width g c =
    let branch = c.args.branch.now in
    let wide = kid_wide g.V.Words.WORDS branch.width branch.skip branch.bytes branch.children.items c.pop.new.self.items branch.population c.in-Some.byte c.in-Some-pop.child c.open.result
    c.requires.branch c.requires.many c.requires.one (sym c.nth.ensures ∙ c.in-Some.is) (c.pop.ensures.items ∙ ap (λ r. c.pop.new.self.items ++ option_to_list r) c.in-Some-pop.is)
    c.open.ensures.tree c.open.ensures.level in
    let more = ap (λ t. t.width) c.behind.ensures.tree in
    let skipped = ap length c.bytes.ensures.value in
    let within = c.requires.branch.parts.within in
    omega arith

pub returns : goal.returns
returns g c =
    let branch = c.args.branch.now in
    let is = (kid_merged g.V.Words.WORDS branch.width branch.skip branch.bytes branch.children.items c.pop.new.self.items branch.population c.in-Some.byte c.in-Some-pop.child c.open.result
    c.requires.branch c.requires.many c.requires.one (sym c.nth.ensures ∙ c.in-Some.is) (c.pop.ensures.items ∙ ap (λ r. c.pop.new.self.items ++ option_to_list r) c.in-Some-pop.is)
    c.open.ensures.tree c.open.ensures.level
    c.behind_bytes.result c.close.result c.behind_bytes.ensures.level (c.behind_bytes.ensures.tree ∙ (λ t. behind (c.bytes.ensures.value t) (c.behind.ensures.tree t))) c.close.ensures) in
    record { child = is.child; same = is.same; tight = is.tight }
