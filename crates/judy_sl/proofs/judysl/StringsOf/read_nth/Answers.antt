use Rattle.std.proofs.Common.{◌-◌, inl, inr, refl, sym, ap, ◌∙◌, arith}
use Rattle.std.specs.FinMap.{len}
use Rattle.judy_model.specs.Keys.{byte_order}
use Rattle.judy_model.specs.Arrays.{ArrayOf}
use Rattle.judy_model.proofs.lemmas.queries.CountsLemmas.{by_count_none}
use Rattle.judy_model.proofs.lemmas.maps.TableLemmas.{byte_order_total, byte_order_same}
use Rattle.judy_sl.proofs.lemmas.readers.FirstReads.{root_stands, root_list, root_within, root_left}
use Rattle.judy_sl.proofs.judysl.StringsOf.read_nth.Goals as goal
use Rattle.judy_sl.proofs.judysl.StringsOf.read_nth.Goals.{then-n-eq0-via-then-n-eq0, then-n-eq0-via-else-n-eq0+then-n-len}

pub returns-then-n-eq0 : goal.returns-then-n-eq0
returns-then-n-eq0 g c = elim c.then-n-eq0.branch [
  | then-n-eq0-via-then-n-eq0 w ↦ (by_count_none byte_order_total byte_order_same c.args.self.now.map c.args.n).1 (inl w.if-n-eq0.true)
  | then-n-eq0-via-else-n-eq0+then-n-len w ↦ let all = w.len.ensures.count in let more = w.if-n-len.true in
      (by_count_none byte_order_total byte_order_same c.args.self.now.map c.args.n).1 (inr (omega (arith, all, more)))
]

pub invariant_of-result : goal.invariant_of-result
invariant_of-result g c =
    let arena = c.self.inside.arena in
    let is = c.self.invariant.0.is_arena in
    let same = ap (λ (array : ArrayOf byte_order). len array.map) c.self.view_is in
    record {
      is_arena = is;
      counted = c.self.invariant.1;
      listed = c.self.invariant.3;
      stands = record {
        told = root_stands arena is c.len-2.result (c.len-2.ensures.count ∙ sym same);
        list = root_list arena is c.self.inside.firsts c.self.invariant.2;
        within = root_within arena is (c.args.n - 1) (let all = c.len.ensures.count in let most = c.if-n-len.false in let some = c.if-n-eq0.false in omega (arith, all, most, some, same));
      };
    }

pub returns : goal.returns
returns g c =
    let same = ap (λ (array : ArrayOf byte_order). len array.map) c.self.view_is in
    rw (← c.self.view_is) (root_left c.self.inside.arena c.self.invariant.0.is_arena c.args.n c.if-n-eq0.false
    (let all = c.len.ensures.count in let most = c.if-n-len.false in omega (arith, all, most, same)) _ refl)
