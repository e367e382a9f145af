use Rattle.std.proofs.Common.{refl, sym, ap, subst, ◌∙◌}
use Rattle.judy_records.specs.Spots.{Spot, IsHeld, spot_at, text_of}
use Rattle.judy_records.specs.Texts.{bytes_in}
use Rattle.judy_hs.specs.LongRecords.{IsSpelled}
use Rattle.judy_hs.proofs.LongLemmas.{own-only}
use Rattle.judy_hs.proofs.long_group.is_own.Goals as goal

pub returns-then-is_empty : goal.returns-then-is_empty
returns-then-is_empty c = (
  λ is. own-only c.args.key_length c.args.chains.now c.args.place (spot_at c.args.records.now c.args.place) c.args.key.now (c.if-is_empty.ensures.0 refl) c.requires.held c.requires.there,
  λ same. refl,
)

pub is_key-requires-clause-held : goal.is_key-requires-clause-held
is_key-requires-clause-held c = subst (λ (spot : Spot). IsHeld spot) (sym c.at.ensures) c.requires.held

pub is_key-requires-clause-spelled : goal.is_key-requires-clause-spelled
is_key-requires-clause-spelled c = subst (λ (spot : Spot). IsSpelled c.args.key_length spot) (sym c.at.ensures) c.requires.spelled

pub returns : goal.returns
returns c =
    let spells = ap (λ (spot : Spot). bytes_in c.args.key_length (text_of spot)) c.at.ensures in
    (λ is. sym spells ∙ c.is_key.ensures.0 is, λ same. c.is_key.ensures.1 (spells ∙ same))
