use Rattle.std.proofs.Common.{◌≡◌, ◌^◌, ◌<◌, ◌≤◌, IfOk, length, sym, ◌∙◌, subst, arith}
use Rattle.std.proofs.lemmas.List.{length-take-le}
use Rattle.judy_node.specs.Trees.{IsMap}
use Rattle.judy_change.specs.Removals.{IsTightOf}
use Rattle.judy_change.proofs.SettleFacts.{word_fits, filled}
use Rattle.judy_change.proofs.settle.lessened.Goals as goal

pub fill-requires : goal.fill-requires
fill-requires g c =
    let small = c.requires.few in
    let few : c.pop-count.result ≤ 32 = omega (arith, c.pop-count.ensures) in
    (omega arith, (c.requires.child, (length-take-le c.pop-count.result _ few ∙ c.pop-count.ensures, word_fits c.args.width c.requires.child.high_width)))

pub small_node-requires : goal.small_node-requires
small_node-requires g c =
    let child = c.requires.child in (
      omega arith,
      (
        c.requires.one,
        (
          (child.low_width, child.high_width),
          subst (λ pairs. (0 < length pairs) × ((length pairs ≤ 32) × ((c.args.width ≡ 8 → 2 ≤ length pairs) × IsMap g.V.Words.WORDS 0 (256 ^ c.args.width) pairs)))
              (sym (filled c.pop-count.result c.fill.new.out _ c.args.child.now.pairs (sym c.pop-count.ensures) c.fill.ensures)) (child.some, (c.requires.few, (c.requires.two, child.map))),
        ),
      ),
    )

pub returns : goal.returns
returns g c =
    subst (λ pairs. IfOk c.small_node.result (λ small. IsTightOf g.V.Words.WORDS c.args.width pairs small))
    (filled c.pop-count.result c.fill.new.out _ c.args.child.now.pairs (sym c.pop-count.ensures) c.fill.ensures) c.small_node.ensures
