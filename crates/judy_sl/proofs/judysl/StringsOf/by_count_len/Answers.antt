use Rattle.std.proofs.Common.{◌∙◌, length, Some, inl, inr, refl, sym, ap, arith}
use Rattle.std.specs.Option.{option_map}
use Rattle.judy_sl.specs.Arenas.{map_of}
use Rattle.judy_sl.proofs.lemmas.places.Nths.{nth_counted, none_counted}
use Rattle.judy_sl.proofs.judysl.StringsOf.by_count_len.Goals as goal
use Rattle.judy_sl.proofs.judysl.StringsOf.by_count_len.Goals.{then-n-eq0-via-then-n-eq0, then-n-eq0-via-else-n-eq0+then-n-len}

pub returns-then-n-eq0 : goal.returns-then-n-eq0
returns-then-n-eq0 g c =
    let none = none_counted c.args.self.now.map c.args.n (elim c.then-n-eq0.branch [
      | then-n-eq0-via-then-n-eq0 w ↦ inl w.if-n-eq0.true
      | then-n-eq0-via-else-n-eq0+then-n-len w ↦ let all = w.len.ensures.count in let more = w.if-n-len.true in inr (omega (arith, all, more))
    ]) in
    rw none refl

pub returns : goal.returns
returns g c =
    let map = map_of c.self.inside.arena in
    let got = c.nth.ensures.found in
    let found = nth_counted map c.args.n c.if-n-eq0.false got.bytes got.are.at in
    rw (← c.self.view_is) (ap Some got.given ∙ sym (ap (option_map length) found))
