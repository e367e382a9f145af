use Rattle.std.proofs.Common.{◌≡◌, ◌≤◌, ◌+◌, ◌-◌, ◌*◌, ◌^◌, ℕ, ap, ◌∙◌, sym, arith}
use Rattle.std.proofs.lemmas.Nat.{mul-le}
use Rattle.judy_records.specs.Pages.{size_of, page_of, rest_of}
use Rattle.judy_records.proofs.PageOf.{place-in, per-some}
use Rattle.judy_records.proofs.pages.words_more.Goals as goal

-- What is left of a page behind so many of its records.
left-words : (stride size rest : ℕ) → rest ≤ size → rest * stride + stride * (size - rest) ≡ size * stride
left-words stride size rest within =
    let whole : rest + (size - rest) ≡ size = omega (arith, within) in
    let parts : (rest + (size - rest)) * stride ≡ rest * stride + stride * (size - rest) = grind arith in
    sym parts ∙ ap (λ n. n * stride) whole

pub overflow_sub-size_of : goal.overflow_sub-size_of
overflow_sub-size_of c =
    let per = 2 ^ c.args.shift in
    let own = place-in per (per-some c.args.shift) c.args.end in
    let size = c.size_of.ensures.size ∙ ap (size_of per) c.locate-page.ensures.page_is in
    let rest = c.locate-page.ensures.rest_is in
    omega (arith, own, size, rest)

pub returns-clause-one : goal.returns-clause-one
returns-clause-one c =
    let per = 2 ^ c.args.shift in
    let own = place-in per (per-some c.args.shift) c.args.end in
    let size = c.size_of.ensures.size ∙ ap (size_of per) c.locate-page.ensures.page_is in
    let rest = c.locate-page.ensures.rest_is in
    let least = mul-le (c.args.size + 1) 1 (c.args.size + 1) (c.size_of.result - c.locate-page.result.1) (omega arith) (omega (arith, own, size, rest)) in
    omega (arith, least, c.min.ensures, c.saturating_add.ensures, c.saturating_mul-left.ensures, c.requires.size)

pub returns-clause-most : goal.returns-clause-most
returns-clause-most c =
    let per = 2 ^ c.args.shift in
    let own = place-in per (per-some c.args.shift) c.args.end in
    let size = c.size_of.ensures.size ∙ ap (size_of per) c.locate-page.ensures.page_is in
    let rest = c.locate-page.ensures.rest_is in
    let left = left-words (c.args.size + 1) c.size_of.result c.locate-page.result.1 (omega (arith, own, size, rest)) in
    let rests = ap (λ n. n * (c.args.size + 1)) rest in
    let sizes = ap (λ n. n * (c.args.size + 1)) size in
    omega (arith, left, rests, sizes, c.min.ensures, c.saturating_mul-left.ensures)
