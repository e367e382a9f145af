use Rattle.std.proofs.Common.{◌-◌, [], ◌∷◌, length, drop, get_or, sym, ap, ◌∙◌, arith, length-drop}
use Rattle.std.proofs.lemmas.Bool.{eqb-true, eqb-false}
use Rattle.std.proofs.lemmas.List.{length-take-le}
use Rattle.judy_node.specs.Kinds.{tree_of, behind}
use Rattle.judy_change.proofs.SettleFacts.{behind-none, behind-first}
use Rattle.judy_change.proofs.settle.+behind_bytes.Goals as goal

pub returns-then-is_empty-clause-tree : goal.returns-then-is_empty-clause-tree
returns-then-is_empty-clause-tree g t c = behind-none c.args.bytes.now (tree_of g.V.Words.WORDS c.args.kind) (eqb-true (length c.args.bytes.now) 0 (sym c.is_empty.ensures ∙ c.if-is_empty.true))

pub behind_bytes-requires : goal.behind_bytes-requires
behind_bytes-requires g t c κs within =
    let some = eqb-false (length c.args.bytes.now) 0 (sym c.is_empty.ensures ∙ c.if-is_empty.false) in
    let rest = length-drop 1 c.args.bytes.now in
    let long = length-take-le (length c.args.bytes.now - 1) (drop 1 c.args.bytes.now) (omega arith) in
    let falls = c.decreases in
    let fits = c.requires.width in
    (omega arith, (within, (c.requires.level, (c.requires.deep, omega arith))))

pub returns-clause-tree : goal.returns-clause-tree
returns-clause-tree g t c =
    let some = eqb-false (length c.args.bytes.now) 0 (sym c.is_empty.ensures ∙ c.if-is_empty.false) in
    c.behind.ensures.tree
    ∙ ap (behind (get_or c.args.bytes.now 0 0 ∷ [])) c.behind_bytes.ensures.tree
    ∙ behind-first c.args.bytes.now (tree_of g.V.Words.WORDS c.args.kind) some
