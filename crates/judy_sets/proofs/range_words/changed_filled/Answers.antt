use Rattle.std.proofs.Common.{◌-◌, arith}
use Rattle.judy_sets.specs.RangeWords.{changed}
use Rattle.judy_sets.proofs.RangeFacts.{count-within, within-most}
use Rattle.judy_sets.proofs.WordPuts.{changed_counts, new_is, not_over, share_most}
use Rattle.judy_sets.proofs.range_words.changed_filled.Goals as goal

pub overflow_sub-stay : goal.overflow_sub-stay
overflow_sub-stay c =
    let keys = c.count-keys.ensures in
    let within = count-within c.args.from c.args.to c.args.set.now.map in
    let most = within-most c.args.from c.args.to c.args.set.now.map in
    let shared = c.share.ensures in
    let small = share_most c.args.turned c.count-keys.result in
    let long = c.len.ensures.count in
    omega (arith, keys, within, most, shared, small, long)

pub returns-then-exceeds-clause-refused : goal.returns-then-exceeds-clause-refused
returns-then-exceeds-clause-refused c =
    let counted = changed_counts c.args.turned c.args.set.now.map c.args.from c.args.to c.count-keys.result (c.len.result - c.share.result) c.requires.order c.count-keys.ensures
    (λ t. c.len.ensures.count t - c.share.ensures t) in
    let over = c.exceeds.ensures.0 c.if-exceeds.true in
    let limit = c.limit.ensures.value in
    omega (arith, counted, over, limit)

pub returns-then-not-has_room-clause-refused : goal.returns-then-not-has_room-clause-refused
returns-then-not-has_room-clause-refused c =
    let counted = changed_counts c.args.turned c.args.set.now.map c.args.from c.args.to c.count-keys.result (c.len.result - c.share.result) c.requires.order c.count-keys.ensures
    (λ t. c.len.ensures.count t - c.share.ensures t) in
    let few = not_over c.exceeds.result c.limit.result _ c.exceeds.ensures c.if-exceeds.false in
    let limit = c.limit.ensures.value in
    omega (arith, counted, few, limit)

pub returns-in-Ok-clause-map : goal.returns-in-Ok-clause-map
returns-in-Ok-clause-map c =
    new_is c.new-made.result c.put_changed.new.made (changed c.args.turned c.args.set.now.map c.args.from c.args.to) c.new-made.ensures.map c.in-Ok.ensures

pub returns-in-Ok-clause-within : goal.returns-in-Ok-clause-within
returns-in-Ok-clause-within c =
    let counted = changed_counts c.args.turned c.args.set.now.map c.args.from c.args.to c.count-keys.result (c.len.result - c.share.result) c.requires.order c.count-keys.ensures
    (λ t. c.len.ensures.count t - c.share.ensures t) in
    let few = not_over c.exceeds.result c.limit.result _ c.exceeds.ensures c.if-exceeds.false in
    let limit = c.limit.ensures.value in
    omega (arith, counted, few, limit)

pub returns-in-Err-clause-refused : goal.returns-in-Err-clause-refused
returns-in-Err-clause-refused c =
    let counted = changed_counts c.args.turned c.args.set.now.map c.args.from c.args.to c.count-keys.result (c.len.result - c.share.result) c.requires.order c.count-keys.ensures
    (λ t. c.len.ensures.count t - c.share.ensures t) in
    let few = not_over c.exceeds.result c.limit.result _ c.exceeds.ensures c.if-exceeds.false in
    let limit = c.limit.ensures.value in
    omega (arith, counted, few, limit)
