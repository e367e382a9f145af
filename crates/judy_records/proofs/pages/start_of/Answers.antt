use Rattle.std.proofs.Common.{◌≡◌, ◌≤◌, ◌*◌, ◌^◌, inl, inr, sym, ap, ◌∙◌, arith}
use Rattle.std.proofs.lemmas.Nat.{mul-le}
use Rattle.judy_records.specs.Pages.{units_before}
use Rattle.judy_records.proofs.PageOf.{units-are, start-is, per-some}
use Rattle.judy_records.proofs.pages.start_of.Goals as goal
use Rattle.judy_records.proofs.pages.start_of.Goals.{then-page-lt-SHORT_PAGES, else-page-lt-SHORT_PAGES}

pub overflow_mul-units : goal.overflow_mul-units
overflow_mul-units c = elim (units-are c.args.page) [
  | inl short ↦ absurd (omega (arith, short, c.if-page-lt-SHORT_PAGES.false))
  | inr long ↦
      let per = 2 ^ c.args.shift in
      let is = start-is per c.args.page in
      let some = per-some c.args.shift in
      let least = mul-le (units_before c.args.page) 1 (units_before c.args.page) per (omega arith) (omega (arith, some)) in
      omega (arith, long, is, least, c.requires.fits)
]

pub returns : goal.returns
returns c =
    let units : c.if-page-lt-SHORT_PAGES.units ≡ units_before c.args.page = elim c.if-page-lt-SHORT_PAGES.branch [
      | then-page-lt-SHORT_PAGES w ↦ elim (units-are c.args.page) [
        | inl short ↦ omega (arith, short, w.units-is)
        | inr long ↦ absurd (omega (arith, long, w.if-page-lt-SHORT_PAGES.true))
      ]
      | else-page-lt-SHORT_PAGES w ↦ elim (units-are c.args.page) [
        | inl short ↦ absurd (omega (arith, short, w.if-page-lt-SHORT_PAGES.false))
        | inr long ↦ omega (arith, long, w.units-is)
      ]
    ] in
    (λ i. units i * c.short_page.ensures.value i) ∙ sym (start-is _ c.args.page)

pub overflow_mul-result : goal.overflow_mul-result
overflow_mul-result c =
    let units : c.if-page-lt-SHORT_PAGES.units ≡ units_before c.args.page = elim c.if-page-lt-SHORT_PAGES.branch [
      | then-page-lt-SHORT_PAGES w ↦ elim (units-are c.args.page) [
        | inl short ↦ omega (arith, short, w.units-is)
        | inr long ↦ absurd (omega (arith, long, w.if-page-lt-SHORT_PAGES.true))
      ]
      | else-page-lt-SHORT_PAGES w ↦ elim (units-are c.args.page) [
        | inl short ↦ absurd (omega (arith, short, w.if-page-lt-SHORT_PAGES.false))
        | inr long ↦ omega (arith, long, w.units-is)
      ]
    ] in
    let is = (λ i. units i * c.short_page.ensures.value i) ∙ sym (start-is _ c.args.page) in
    omega (arith, is, c.requires.fits)
