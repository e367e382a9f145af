use Rattle.std.proofs.Common.{ap, ◌∙◌, subst, take}
use Rattle.judy_sums.specs.Pairs.{Pairs, sum_of}
use Rattle.judy_sums.specs.Chunks.{IsPlace}
use Rattle.judy_sums.proofs.PairLemmas.{sum_placed}
use Rattle.judy_sums.proofs.chunk.Chunk.below.Goals as goal

pub returns : goal.returns
returns c =
    let at = c.place.result in
    c.sum.ensures
    ∙ ap (λ (pairs : Pairs). sum_of (take at pairs)) (c.deref.ensures.value ∙ c.self.view_is)
    ∙ sum_placed c.args.self.now c.args.word at (subst (λ (pairs : Pairs). IsPlace pairs c.args.word at) (c.deref-2.ensures.value ∙ c.self.view_is) c.place.ensures)
