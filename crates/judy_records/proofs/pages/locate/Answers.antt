use Rattle.std.proofs.Common.{◌≡◌, ◌/◌, ◌*◌, ◌+◌, ◌%◌, ◌^◌, inl, inr, subst, sym, ap, ◌∙◌, arith}
use Rattle.judy_records.specs.Pages.{unit_page, unit_rest, IsAt}
use Rattle.judy_records.proofs.PageOf.{unit-is, at-is}
use Rattle.judy_records.proofs.pages.locate.Goals as goal
use Rattle.judy_records.proofs.pages.locate.Goals.{then-is_short, else-is_short, then-is_short-2, else-is_short-2}

pub returns : goal.returns
returns c =
    let unit = c.args.place / c.short_page-per.result in
    let page : c.if-is_short.page ≡ unit_page unit = elim c.if-is_short.branch [
      | then-is_short w ↦ elim (unit-is unit) [
        | inl short ↦ omega (arith, short, w.page-is)
        | inr long ↦ absurd (omega (arith, long, w.if-is_short.true))
      ]
      | else-is_short w ↦ elim (unit-is unit) [
        | inl short ↦ absurd (omega (arith, short, w.if-is_short.false))
        | inr long ↦ omega (arith, long, w.page-is)
      ]
    ] in
    let before : c.if-is_short-2.before ≡ unit_rest unit = elim c.if-is_short-2.branch [
      | then-is_short-2 w ↦ elim (unit-is unit) [
        | inl short ↦ omega (arith, short, w.before-is)
        | inr long ↦ absurd (omega (arith, long, w.if-is_short-2.true))
      ]
      | else-is_short-2 w ↦ elim (unit-is unit) [
        | inl short ↦ absurd (omega (arith, short, w.if-is_short-2.false))
        | inr long ↦ omega (arith, long, w.before-is)
      ]
    ] in
    subst (λ per. IsAt per c.args.place c.if-is_short.page (c.if-is_short-2.before * c.short_page-per.result + c.args.place % c.short_page-per.result)) c.short_page-per.ensures.value
    (at-is c.short_page-per.result c.args.place c.if-is_short.page c.if-is_short-2.before page before)
