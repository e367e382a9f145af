use Rattle.std.proofs.Common.{length, sym, ap, ◌∙◌, arith}
use Rattle.std.proofs.lemmas.Bool.{eqb-true}
use Rattle.judy_hs.specs.LongRecords.{IsKeyOf}
use Rattle.judy_hs.proofs.LongLemmas.{bytes_are, spells-key, spells-long}
use Rattle.judy_hs.proofs.long_group.is_key.Goals as goal

pub returns-then-key-key_length : goal.returns-then-key-key_length
returns-then-key-key_length c =
    let good : IsKeyOf c.args.key_length c.args.key.now = (bytes_are c.args.key.now (λ i. omega (arith, c.type_inv.key i)), c.if-key-key_length.true) in
    let same = spells-key c.args.key_length c.args.stored.now c.requires.held c.requires.spelled c.args.key.now good in
    (λ is. same.0 (c.is_of.ensures.0 is), λ is. c.is_of.ensures.1 (same.1 is))

pub returns-else-key-key_length : goal.returns-else-key-key_length
returns-else-key-key_length c =
    let long = spells-long c.args.key_length c.args.stored.now c.requires.held c.requires.spelled in
    (λ is. absurd (c.if-key-key_length.false (eqb-true (length c.args.key.now) c.args.key_length is)), λ same. absurd (c.if-key-key_length.false (sym (ap length same) ∙ long)))
