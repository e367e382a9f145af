use Rattle.std.proofs.Common.{◌≡◌, ◌-◌, ◌+◌, ◌^◌, drop, sym, ◌∙◌, ap, arith}
use Rattle.std.proofs.lemmas.Bool.{eqb-true}
use Rattle.judy_node.specs.Built.{sharing}
use Rattle.judy_node.proofs.MadeFacts.{sharing_front}
use Rattle.judy_node.proofs.build.stride_has.Goals as goal

pub returns-clause-shared : goal.returns-clause-shared
returns-clause-shared g c same =
    let long = c.if-pairs-at-lt-STRIDE.false in
    let within = c.requires.within in
    sharing_front g.V.Words.WORDS c.requires.sorted.0 c.args.below c.args.byte c.args.pairs.now (c.args.at + 64 - 1) (0, 0) c.requires.sorted.1 (omega arith) (sym c.requires.first)
    (sym c.byte_above.ensures ∙ eqb-true c.byte_above.result c.args.byte same)
    ∙ (let e : c.args.at + 64 - 1 + 1 ≡ c.args.at + 64 = omega arith in ap (λ n. n + sharing (256 ^ c.args.below) 256 c.args.byte (drop n c.args.pairs.now)) e)
