use Rattle.std.proofs.Common.{◌*◌, ◌/◌, ◌%◌, ◌^◌, ap, sym, subst, ◌∙◌}
use Rattle.judy_model.specs.WordBytes.{number_of}
use Rattle.judy_bits.specs.ByteSets.{place}
use Rattle.judy_node.specs.Steps.{IsKeyOf}
use Rattle.judy_node.proofs.StepFacts.{present_place}
use Rattle.judy_node.proofs.PresentFacts.{member-place, branch-there, branch-has}
use Rattle.judy_node.proofs.child.BranchOf.seat_of.Goals as goal

pub unreachable-requires : goal.unreachable-requires
unreachable-requires g c =
    let branch = c.args.self.now in
    let byte = c.without_tail.ensures ∙ ap (λ w. c.args.key / 256 ^ w) c.from-width.ensures in
    c.in_default.not-Some _
    (c.place.ensures ∙ ap (λ n. place branch.bytes (n % 256)) byte
    ∙ member-place branch.bytes (c.args.key / 256 ^ branch.width % 256)
    (branch-has g.V.Words.WORDS branch.width branch.skip branch.bytes branch.children.items branch.population c.args.key c.requires.branch c.requires.present))

pub returns : goal.returns
returns g c =
    let branch = c.args.self.now in
    let byte = c.without_tail.ensures ∙ ap (λ w. c.args.key / 256 ^ w) c.from-width.ensures in
    let rest = c.tail.ensures ∙ ap (λ w. c.args.key % 256 ^ w) c.from-width.ensures in (
      c.args.key / 256 ^ branch.width % 256,
      subst (λ n. IsKeyOf (256 ^ branch.width) (number_of branch.skip * 256) c.args.key (c.args.key / 256 ^ branch.width % 256) n) (sym rest)
          (branch-there g.V.Words.WORDS branch.width branch.skip branch.bytes branch.children.items branch.population c.args.key c.requires.branch c.requires.present),
      present_place g.V.Words.WORDS branch.width branch.bytes branch.children.items (c.args.key / 256 ^ branch.width % 256) c.in-Some.at c.requires.branch.parts.children
          (sym (ap (λ n. place branch.bytes (n % 256)) byte) ∙ sym c.place.ensures ∙ c.in-Some.is),
    )
