use Rattle.std.proofs.Common.{◌≡◌, ◌≤◌, length, drop, sym, ap, ◌∙◌, arith, ◌<◌, length-drop}
use Rattle.std.proofs.lemmas.List.{length-take-le, take_all}
use Rattle.judy_script.proofs.CutLemmas.{front_longer, front_is_without, rest_behind, chunk_without, chunk_at}
use Rattle.judy_script.proofs.cut.len_before_by.Goals as goal

pub first_place-here-requires : goal.first_place-here-requires
first_place-here-requires g c =
    let cut = c.in-Some.ensures.cases in
    let long : length c.in-Some.chunk.now ≡ g.row.N = ap length cut.0 ∙ length-take-le g.row.N c.chunks.rest.now (omega (arith, cut.2)) in
    (omega (arith, c.requires.few), (long, c.requires.few))

pub returns-then-here-clause-front : goal.returns-then-here-clause-front
returns-then-here-clause-front g c =
    let here = c.first_place-here.result in
    let rest = c.chunks.rest.now in
    let cut = c.in-Some.ensures.cases in
    let inside = c.if-here.true in
    front_longer c.args.byte c.args.text.now rest c.chunks.count c.chunks.invariant.rest here c.chunks.invariant.front
    (chunk_without c.args.byte c.args.text.now rest c.chunks.count c.chunks.invariant.rest g.row.N c.in-Some.chunk.now cut.0 (omega (arith, cut.2)) here c.first_place-here.ensures.first here
    (omega arith) (omega arith))

pub returns-then-here-clause-end : goal.returns-then-here-clause-end
returns-then-here-clause-end g c = λ _.
    let here = c.first_place-here.result in
    let rest = c.chunks.rest.now in
    let cut = c.in-Some.ensures.cases in
    sym (chunk_at c.args.byte c.args.text.now rest c.chunks.count c.chunks.invariant.rest g.row.N c.in-Some.chunk.now cut.0 (omega (arith, cut.2)) here c.first_place-here.ensures.first c.if-here.true)
    ∙ c.first_place-here.ensures.holds c.if-here.true

pub chunks-preserved : goal.chunks-preserved
chunks-preserved g c =
    let here = c.first_place-here.result in
    let rest = c.chunks.rest.now in
    let cut = c.in-Some.ensures.cases in
    let past = c.if-here.false in
    record {
      counted = omega (arith, cut.2, c.chunks.invariant.counted);
      rest = cut.1 ∙ rest_behind c.args.byte c.args.text.now rest c.chunks.count c.chunks.invariant.rest g.row.N;
      front =
          front_longer c.args.byte c.args.text.now rest c.chunks.count c.chunks.invariant.rest g.row.N c.chunks.invariant.front
          (chunk_without c.args.byte c.args.text.now rest c.chunks.count c.chunks.invariant.rest g.row.N c.in-Some.chunk.now cut.0
          (omega (arith, cut.2)) here c.first_place-here.ensures.first g.row.N (omega arith) (omega arith));
    }

pub returns-in-Some-split_last_chunk-clause-front : goal.returns-in-Some-split_last_chunk-clause-front
returns-in-Some-split_last_chunk-clause-front g c =
    let text = c.args.text.now in
    let last = c.in-Some-split_last_chunk.last.now in
    let cut = c.in-Some-split_last_chunk.ensures.cases in
    let at = length c.in-Some-split_last_chunk.front.now in
    let here = c.first_place.result in
    let some = c.min.result in
    let most : some ≤ here = omega (arith, c.min.ensures) in
    let few : some ≤ g.row.N = omega (arith, c.min.ensures) in
    let few_left : length c.chunks.rest.now < g.row.N = c.in_default.ensures.cases in
    let counted = c.chunks.invariant.counted in
    let is : last ≡ drop at text = cut.1 ∙ ap (λ n. drop n text) (omega (arith, cut.2)) in
    let sixteen : length last ≡ g.row.N = ap length is ∙ length-drop at text ∙ omega (arith, cut.2) in
    front_longer c.args.byte text last at is some (front_is_without c.args.byte text at c.chunks.count (omega (arith, cut.2, counted, few_left)) c.chunks.invariant.front)
    (chunk_without c.args.byte text last at is g.row.N last (sym (take_all g.row.N last (omega (arith, sixteen)))) (omega (arith, sixteen)) here c.first_place.ensures.first some few most)
