use Rattle.std.proofs.Common.{◌%◌, ◌^◌, cond, Some, None, count_ones, sym, ap, ◌∙◌, arith}
use Rattle.std.proofs.lemmas.Bool.{eq-eqb, ne_eqb}
use Rattle.std.specs.Int.{bit_at}
use Rattle.judy_bits.proofs.TopLemmas.{top_clear, top_set}
use Rattle.judy_bits.proofs.bits.ones_below_one.Goals as goal

pub overflow_sub-result : goal.overflow_sub-result
overflow_sub-result c =
    let counted = (top_set c.args.word c.args.place c.requires c.if-up_to-eq0.false).1 in
    omega arith

pub returns-then-up_to-eq0 : goal.returns-then-up_to-eq0
returns-then-up_to-eq0 c =
    let clear = top_clear c.args.word c.args.place c.requires c.if-up_to-eq0.true in
    sym (ap (λ b. cond b (Some (count_ones (c.args.word % 2 ^ c.args.place))) None) (ne_eqb (bit_at c.args.word c.args.place) 1 (λ one. let never : ⊥ = omega arith in never)))

pub returns-else-up_to-eq0 : goal.returns-else-up_to-eq0
returns-else-up_to-eq0 c =
    let set = top_set c.args.word c.args.place c.requires c.if-up_to-eq0.false in
    let counted = set.1 in
    ap Some (omega arith) ∙ sym (ap (λ b. cond b (Some (count_ones (c.args.word % 2 ^ c.args.place))) None) (eq-eqb (bit_at c.args.word c.args.place) 1 set.0))
