use Rattle.std.proofs.Common.{refl, sym, ◌∙◌, true≢false}
use Rattle.judy_sl.proofs.lemmas.pieces.PieceLemmas.{text_of_key}
use Rattle.judy_sl.proofs.lemmas.pieces.Exact.{ends-text}
use Rattle.judy_sl.proofs.lemmas.pieces.Strings.{string_of_key}
use Rattle.judy_sl.proofs.judysl.StringsOf.ins.Goals as goal

pub returns-then-ends_in_zero : goal.returns-then-ends_in_zero
returns-then-ends_in_zero g c = (
  refl,
  record {
    writes_back = tt;
    value = tt;
    accepted = tt;
    refused = λ is.
        let text = text_of_key c.args.key.now (string_of_key g.L.KeyLength c.args.key.now is) in
        true≢false (sym c.if-ends_in_zero.true ∙ c.ends_in_zero.ensures.1 (ends-text c.args.key.now text));
  },
)
