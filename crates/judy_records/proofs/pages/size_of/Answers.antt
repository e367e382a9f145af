use Rattle.std.proofs.Common.{◌≡◌, ◌≤◌, ◌*◌, inl, inr, sym, ap, ◌∙◌, arith}
use Rattle.std.proofs.lemmas.Nat.{mul-le}
use Rattle.judy_records.specs.Pages.{units_of}
use Rattle.judy_records.proofs.PageOf.{units-are, units-most, size-is}
use Rattle.judy_records.proofs.pages.size_of.Goals as goal
use Rattle.judy_records.proofs.pages.size_of.Goals.{then-page-lt-SHORT_PAGES, else-page-lt-SHORT_PAGES}

pub returns : goal.returns
returns c =
    let units : c.if-page-lt-SHORT_PAGES.units ≡ units_of c.args.page = elim c.if-page-lt-SHORT_PAGES.branch [
      | then-page-lt-SHORT_PAGES w ↦ elim (units-are c.args.page) [
        | inl short ↦ omega (arith, short, w.units-is)
        | inr long ↦ absurd (omega (arith, long, w.if-page-lt-SHORT_PAGES.true))
      ]
      | else-page-lt-SHORT_PAGES w ↦ elim (units-are c.args.page) [
        | inl short ↦ absurd (omega (arith, short, w.if-page-lt-SHORT_PAGES.false))
        | inr long ↦ omega (arith, long, w.units-is)
      ]
    ] in
    let most = units-most c.args.page in
    let within = mul-le c.if-page-lt-SHORT_PAGES.units c.short_page.result 8 512 (omega (arith, units, most)) c.short_page.ensures.most in
    record {
      size = (λ i. units i * c.short_page.ensures.value i) ∙ sym (size-is _ c.args.page);
      most = omega (arith, within);
    }
