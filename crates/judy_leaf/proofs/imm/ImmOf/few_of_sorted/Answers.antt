use Rattle.std.proofs.Common.{◌%◌, ◌^◌, ◌<◌, ℕ, length, take, get_or, ap, sym, subst, ◌∙◌, arith}
use Rattle.std.proofs.lemmas.List.{length-take-le, take_all}
use Rattle.std.proofs.lemmas.Nat.{mod_below}
use Rattle.judy_model.proofs.lemmas.orders.ByteLemmas.{unit_pos}
use Rattle.judy_bits.specs.ByteSets as set
use Rattle.judy_leaf.specs.KeyLists.{keys_of, low_pairs, with_pair}
use Rattle.judy_leaf.specs.Immediates.{imm_room}
use Rattle.judy_leaf.proofs.LowPairs.{length-low, low_at, first_absent, with_next}
use Rattle.judy_leaf.proofs.imm.ImmOf.few_of_sorted.Goals as goal

pub insert_pair-requires-clause-absent : goal.insert_pair-requires-clause-absent
insert_pair-requires-clause-absent g c =
    let unit = 256 ^ c.args.width in
    let pairs = c.args.pairs.now in
    let at = c.loop-key.key-index in
    let inside = c.loop-key-test.true in
    let long = length-low unit pairs in
    let low = c.low_part.ensures ∙ ap (λ w. (get_or pairs at (0, 0)).0 % 256 ^ w) c.from.ensures ∙ ap (λ pair. pair.0) (sym (low_at unit pairs at (0, 0) inside)) in
    (λ t. set.has (keys_of (c.loop-key.invariant t).pairs) (low t)) ∙ first_absent (low_pairs unit pairs) at c.requires.list.ascending (omega arith)

pub insert_pair-requires-clause-room : goal.insert_pair-requires-clause-room
insert_pair-requires-clause-room g c =
    let lows = low_pairs (256 ^ c.args.width) c.args.pairs.now in
    let all = length-low (256 ^ c.args.width) c.args.pairs.now in
    let inside = c.loop-key-test.true in
    let most = c.requires.few in
    let long = length-take-le c.loop-key.key-index lows (omega arith) in
    subst (λ list. length list.pairs < imm_room g.V.Words.WORDS list.width) (sym c.loop-key.invariant) (omega arith)

pub insert_pair-requires-clause-below : goal.insert_pair-requires-clause-below
insert_pair-requires-clause-below g c =
    let unit = 256 ^ c.args.width in
    let key = (get_or c.args.pairs.now c.loop-key.key-index (0, 0)).0 in
    let low = c.low_part.ensures ∙ ap (λ w. key % 256 ^ w) c.from.ensures in
    subst (λ list. c.low_part.result < 256 ^ list.width) (sym c.loop-key.invariant) (subst (λ k. k < unit) (sym low) (mod_below key unit (unit_pos c.args.width)))

pub loop-key-preserved : goal.loop-key-preserved
loop-key-preserved g c =
    let unit = 256 ^ c.args.width in
    let pairs = c.args.pairs.now in
    let at = c.loop-key.key-index in
    let inside = c.loop-key-test.true in
    let long = length-low unit pairs in
    let low = c.low_part.ensures ∙ ap (λ w. (get_or pairs at (0, 0)).0 % 256 ^ w) c.from.ensures in
    c.insert_pair.ensures
    ∙ (λ t. record { width = (c.loop-key.invariant t).width; pairs = with_pair (low t) (get_or pairs at (0, 0)).1 (c.loop-key.invariant t).pairs })
    ∙ ap (λ (pair : ℕ × ℕ). record { width = c.args.width; pairs = with_pair pair.0 pair.1 (take at (low_pairs unit pairs)) }) (sym (low_at unit pairs at (0, 0) inside))
    ∙ ap (λ ps. record { width = c.args.width; pairs = ps }) (with_next (low_pairs unit pairs) at c.requires.list.ascending (omega arith))

pub returns : goal.returns
returns g c =
    let lows = low_pairs (256 ^ c.args.width) c.args.pairs.now in
    let all = length-low (256 ^ c.args.width) c.args.pairs.now in
    let past = c.loop-key-test.false in
    c.loop-key.invariant ∙ ap (λ ps. record { width = c.args.width; pairs = ps }) (take_all c.loop-key.key-index lows (omega arith))
