use Rattle.std.proofs.Common.{◌≡◌, ◌-◌, ◌&&◌, true, false, length, take, drop, sym, ap, ◌∙◌, arith}
use Rattle.std.specs.List.{list_all}
use Rattle.std.proofs.lemmas.List.{drop-drop}
use Rattle.judy_model.specs.KeyTokens.{is_shown}
use Rattle.judy_command.proofs.KeyReadLemmas.{shown_in_parts, shown_by_last}
use Rattle.judy_command.proofs.keys.are_shown_by.Goals as goal

pub returns-then-not-few_are_shown : goal.returns-then-not-few_are_shown
returns-then-not-few_are_shown g c =
    let rest = c.chunks.rest.now in
    let not : list_all is_shown (take g.row.N rest) ≡ false = ap (list_all is_shown) (sym c.in-Some.ensures.cases.0) ∙ sym c.few_are_shown.ensures ∙ c.if-not-few_are_shown.true in
    sym (shown_in_parts rest g.row.N ∙ ap (λ front. front && list_all is_shown (drop g.row.N rest)) not) ∙ c.chunks.invariant.same

pub chunks-preserved : goal.chunks-preserved
chunks-preserved g c =
    let rest = c.chunks.rest.now in
    let signs = c.args.signs.now in
    let cut = c.in-Some.ensures.cases in
    let are : list_all is_shown (take g.row.N rest) ≡ true = ap (list_all is_shown) (sym cut.0) ∙ sym c.few_are_shown.ensures ∙ c.if-not-few_are_shown.false in
    record {
      within = omega (arith, cut.2, c.chunks.invariant.within);
      rest = cut.1 ∙ ap (drop g.row.N) c.chunks.invariant.rest ∙ drop-drop g.row.N (length signs - length rest) signs ∙ ap (λ n. drop n signs) (omega (arith, cut.2, c.chunks.invariant.within));
      same = ap (list_all is_shown) cut.1 ∙ sym (shown_in_parts rest g.row.N ∙ ap (λ front. front && list_all is_shown (drop g.row.N rest)) are) ∙ c.chunks.invariant.same;
    }

pub returns-in-Some-split_last_chunk : goal.returns-in-Some-split_last_chunk
returns-in-Some-split_last_chunk g c =
    let cut = c.in-Some-split_last_chunk.ensures.cases in
    c.few_are_shown-in-Some-split_last_chunk.ensures ∙ ap (list_all is_shown) cut.1
    ∙ shown_by_last g.row.N c.args.signs.now c.chunks.rest.now (omega (arith, c.in_default.ensures.cases)) (omega (arith, cut.2)) c.chunks.invariant.rest c.chunks.invariant.same
