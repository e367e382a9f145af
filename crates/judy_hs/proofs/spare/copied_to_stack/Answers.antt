use Rattle.std.proofs.Common.{◌++◌, take, ap, ◌∙◌, arith}
use Rattle.std.specs.List.{flat_map}
use Rattle.std.proofs.lemmas.List.{take_all}
use Rattle.judy_model.specs.WordBytes.{low_bytes}
use Rattle.judy_records.proofs.BackLemmas.{bytes-more}
use Rattle.judy_hs.proofs.spare.copied_to_stack.Goals as goal

pub loop-word-preserved : goal.loop-word-preserved
loop-word-preserved c =
    bytes-more c.args.words.now c.loop-word.word-index c.loop-word-test.true c.loop-word.bytes.items c.try_extend_from_slice.new.self.items c.loop-word.invariant
    (c.in-Ok.ensures.ok ∙ ap (λ more. c.loop-word.bytes.items ++ more) c.to_be_bytes.ensures)

pub returns : goal.returns
returns c =
    let whole = take_all c.loop-word.word-index c.args.words.now (omega (arith, c.loop-word-test.false)) in
    c.truncate.ensures.items ∙ ap (take c.args.count) (c.loop-word.invariant ∙ ap (flat_map (λ word. low_bytes 8 word)) whole)
