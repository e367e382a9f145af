use Rattle.std.proofs.Common.{◌≡◌, ◌/◌, ◌-◌, suc, length, drop, sym, ap, ◌∙◌, arith}
use Rattle.std.proofs.lemmas.List.{length-drop}
use Rattle.judy_hs.specs.Eights.{words_from}
use Rattle.judy_hs.proofs.hash.by_eights.Goals as goal

pub chunks-preserved : goal.chunks-preserved
chunks-preserved c =
    let rest = c.chunks.rest.now in
    let cut = c.in-Some.ensures.cases in
    let l = length-drop 8 rest in
    let one : (length rest - 1) / 8 ≡ suc ((length (drop 8 rest) - 1) / 8) = omega (arith, l, c.chunks-test.true) in
    rw (cut.1, c.word_step-hash.ensures, c.from_le_bytes.ensures, cut.0) (sym (ap (λ n. words_from n c.chunks.hash rest) one) ∙ c.chunks.invariant)
