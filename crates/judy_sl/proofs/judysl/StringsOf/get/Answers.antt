use Rattle.std.proofs.Common.{◌∙◌, sym, true≢false}
use Rattle.judy_sl.proofs.lemmas.pieces.PieceLemmas.{text_of_key}
use Rattle.judy_sl.proofs.lemmas.pieces.Exact.{ends-text}
use Rattle.judy_sl.proofs.lemmas.seats.Maps.{get-map_bad}
use Rattle.judy_sl.proofs.judysl.StringsOf.get.Goals as goal

pub returns-then-ends_in_zero : goal.returns-then-ends_in_zero
returns-then-ends_in_zero g c =
    rw (← c.self.view_is) (sym (get-map_bad c.self.inside.arena c.args.key.now (λ is. true≢false (sym c.if-ends_in_zero.true ∙
    c.ends_in_zero.ensures.1 (ends-text c.args.key.now (text_of_key c.args.key.now is))))))

pub returns : goal.returns
returns g c = rw (← c.self.view_is) c.get.ensures
