use Rattle.std.proofs.Common.{◌≡◌, ◌≢◌, true≢false, sym, ◌∙◌, arith}
use Rattle.judy_model.specs.Ranges.{outside}
use Rattle.judy_sets.proofs.RangeFacts.{count-within, within-none, within-most, within-less, outside-all, none_first, past_first, first_held, first_low}
use Rattle.judy_sets.proofs.ranges.remove_keys.Goals as goal

pub returns-in_default-clause-count : goal.returns-in_default-clause-count
returns-in_default-clause-count g c =
    let from = c.args.from in
    let to = c.args.to in
    let here = c.keys.array.map in
    let none = within-none from to here (none_first from to here c.in_default.ensures) in
    let counted = c.keys.invariant.counted in
    let all = count-within from to c.args.array.now.map in
    omega (arith, none, counted, all)

pub returns-in_default-clause-left : goal.returns-in_default-clause-left
returns-in_default-clause-left g c =
    let from = c.args.from in
    let to = c.args.to in
    let here = c.keys.array.map in
    let same : here ≡ outside c.args.array.now.map from to = sym (outside-all from to here (none_first from to here c.in_default.ensures)) ∙ c.keys.invariant.left in
    λ t. record { limit = c.keys.invariant.limit t; map = same t }

pub returns-then-key-to-clause-count : goal.returns-then-key-to-clause-count
returns-then-key-to-clause-count g c =
    let from = c.args.from in
    let to = c.args.to in
    let here = c.keys.array.map in
    let none = within-none from to here (past_first from to here c.in-Some.key c.in-Some.ensures c.if-key-to.true) in
    let counted = c.keys.invariant.counted in
    let all = count-within from to c.args.array.now.map in
    omega (arith, none, counted, all)

pub returns-then-key-to-clause-left : goal.returns-then-key-to-clause-left
returns-then-key-to-clause-left g c =
    let from = c.args.from in
    let to = c.args.to in
    let here = c.keys.array.map in
    let same : here ≡ outside c.args.array.now.map from to = sym (outside-all from to here (past_first from to here c.in-Some.key c.in-Some.ensures c.if-key-to.true)) ∙ c.keys.invariant.left in
    λ t. record { limit = c.keys.invariant.limit t; map = same t }

pub delete_within-count-requires : goal.delete_within-count-requires
delete_within-count-requires g c = (omega arith, (c.requires, (first_low c.args.from c.args.to c.keys.array.map c.in-Some.key c.in-Some.ensures, c.if-key-to.false)))

pub overflow_add-count : goal.overflow_add-count
overflow_add-count g c =
    let from = c.args.from in
    let to = c.args.to in
    let less = within-less from to c.keys.array.map c.delete_within-count.new.self.map c.delete_within-count.result c.delete_within-count.ensures.outside c.delete_within-count.ensures.count in
    let counted = c.keys.invariant.counted in
    let most = within-most from to c.args.array.now.map in
    let long = c.len-most.ensures.count in
    omega (arith, less, counted, most, long)

pub keys-smaller : goal.keys-smaller
keys-smaller g c =
    let held = first_held c.args.from c.args.to c.keys.array.map c.in-Some.key c.in-Some.ensures in
    let some : c.delete_within-count.result ≢ 0 = λ none. true≢false (sym held ∙ c.delete_within-count.ensures.some none) in
    let counted = c.delete_within-count.ensures.count in
    omega (arith, some, counted)

pub keys-preserved : goal.keys-preserved
keys-preserved g c =
    let from = c.args.from in
    let to = c.args.to in
    let less = within-less from to c.keys.array.map c.delete_within-count.new.self.map c.delete_within-count.result c.delete_within-count.ensures.outside c.delete_within-count.ensures.count in
    let counted = c.keys.invariant.counted in record {
      limit = c.delete_within-count.ensures.limit ∙ c.keys.invariant.limit;
      left = c.delete_within-count.ensures.outside ∙ c.keys.invariant.left;
      counted = omega (arith, less, counted);
    }
