use Rattle.std.proofs.Common.{◌≡◌, ◌-◌, ◌+◌, ◌*◌, true, Some, sym, ap, ◌∙◌, subst, arith}
use Rattle.judy_bits.specs.ByteSets.{place}
use Rattle.judy_leaf.specs.KeyLists.{keys_of}
use Rattle.judy_node.specs.Kinds.{tree_of, bit_tree, IsLevel}
use Rattle.judy_node.specs.Slots.{with_value}
use Rattle.judy_node.specs.Seats.{HasSeat, kind_written, value_at}
use Rattle.judy_node.proofs.SeatFacts.{kind-level, kind-tree, kind-value, kind-seat, child-narrow, bit-none, bit-seat}
use Rattle.judy_change.specs.Inserted.{has_key}
use Rattle.judy_change.proofs.GivenValues.{there_valued, bit_front, leaf_spot, bit_spot}
use Rattle.judy_change.proofs.childless.overwrite.Goals as goal

pub slot-requires : goal.slot-requires
slot-requires g c =
    let words = g.V.Words.WORDS in
    let spot = leaf_spot words c.args.kind.now c.in-Leaf.count c.in-Leaf.block c.args.key c.in-Some.at c.in-Leaf.is c.requires.level
    (sym c.in-Some.is ∙ c.find.ensures ∙ ap (λ l. place (keys_of l.pairs) c.args.key) c.new.ensures) in
    let narrow = child-narrow words c.args.width (tree_of words c.args.kind.now) c.requires.child in
    subst (λ k. HasSeat words c.args.width k c.in-Some.at) c.in-Leaf.is (kind-seat words c.args.width c.args.kind.now c.args.key c.in-Some.at 0 c.requires.words c.requires.level spot (omega arith))

pub returns-in-Some : goal.returns-in-Some
returns-in-Some g c =
    let words = g.V.Words.WORDS in
    let spot = leaf_spot words c.args.kind.now c.in-Leaf.count c.in-Leaf.block c.args.key c.in-Some.at c.in-Leaf.is c.requires.level
    (sym c.in-Some.is ∙ c.find.ensures ∙ ap (λ l. place (keys_of l.pairs) c.args.key) c.new.ensures) in
    record {
      level =
          subst (λ k. IsLevel words (kind_written k c.in-Some.at 0 c.replace-in-Leaf.new.dest)) c.in-Leaf.is
          (kind-level words c.args.kind.now c.args.key c.in-Some.at 0 c.replace-in-Leaf.new.dest c.requires.words c.requires.level spot);
      was = sym (kind-value words c.args.kind.now c.args.key c.in-Some.at 0 c.requires.words c.requires.level spot)
          ∙ ap (λ k. value_at k c.in-Some.at 0) c.in-Leaf.is ∙ ap Some (sym (c.replace-in-Leaf.ensures.value ∙ c.slot.ensures.word));
      written = sym (ap (λ k. tree_of words (kind_written k c.in-Some.at 0 c.replace-in-Leaf.new.dest)) c.in-Leaf.is)
          ∙ kind-tree words c.args.kind.now c.args.key c.in-Some.at 0 c.replace-in-Leaf.new.dest c.requires.words c.requires.level spot
          ∙ ap (λ v. with_value (tree_of words c.args.kind.now) c.args.key v) c.replace-in-Leaf.ensures.after;
    }

pub overflow_sub-low : goal.overflow_sub-low
overflow_sub-low g c =
    let words = g.V.Words.WORDS in
    let front = bit_front words c.in-Bit.head c.args.key c.in-Bit.block (subst (λ k. has_key c.args.key (tree_of words k) ≡ true) c.in-Bit.is c.requires.there) in
    let number = c.number.ensures.value in
    omega arith

pub unreachable-requires-in_default-find : goal.unreachable-requires-in_default-find
unreachable-requires-in_default-find g c =
    let words = g.V.Words.WORDS in
    let held = subst (λ k. has_key c.args.key (tree_of words k) ≡ true) c.in-Bit.is c.requires.there in
    let front = bit_front words c.in-Bit.head c.args.key c.in-Bit.block held in
    let number = c.number.ensures.value in
    let low = c.args.key - c.number.result * 256 in
    there_valued c.args.key (bit_tree words c.in-Bit.head c.in-Bit.block).pairs held (bit-none words c.in-Bit.head c.args.key low c.in-Bit.block (omega arith)
    (sym c.in_default-find.is ∙ c.find-in-Bit.ensures ∙ ap (λ l. place (keys_of l.pairs) low) c.new-in-Bit.ensures))

pub overflow_add-at : goal.overflow_add-at
overflow_add-at g c =
    let low = c.args.key - c.number.result * 256 in
    let seat = bit-seat g.V.Words.WORDS low c.in-Some-find.at c.in-Bit.block (sym c.in-Some-find.is ∙ c.find-in-Bit.ensures ∙ ap (λ l. place (keys_of l.pairs) low) c.new-in-Bit.ensures) in
    let small = seat.1 in
    omega arith

pub slot-requires-in-Bit : goal.slot-requires-in-Bit
slot-requires-in-Bit g c =
    let words = g.V.Words.WORDS in
    let front = bit_front words c.in-Bit.head c.args.key c.in-Bit.block (subst (λ k. has_key c.args.key (tree_of words k) ≡ true) c.in-Bit.is c.requires.there) in
    let number = c.number.ensures.value in
    let low = c.args.key - c.number.result * 256 in
    let spot = bit_spot words c.args.kind.now c.in-Bit.head c.in-Bit.block c.args.key low c.in-Some-find.at c.in-Bit.is (omega arith)
    (sym c.in-Some-find.is ∙ c.find-in-Bit.ensures ∙ ap (λ l. place (keys_of l.pairs) low) c.new-in-Bit.ensures) in
    let narrow = child-narrow words c.args.width (tree_of words c.args.kind.now) c.requires.child in
    subst (λ k. HasSeat words c.args.width k (4 + c.in-Some-find.at)) c.in-Bit.is (kind-seat words c.args.width c.args.kind.now c.args.key
    (4 + c.in-Some-find.at) 0 c.requires.words c.requires.level spot (omega arith))

pub returns-in-Some-find : goal.returns-in-Some-find
returns-in-Some-find g c =
    let words = g.V.Words.WORDS in
    let front = bit_front words c.in-Bit.head c.args.key c.in-Bit.block (subst (λ k. has_key c.args.key (tree_of words k) ≡ true) c.in-Bit.is c.requires.there) in
    let number = c.number.ensures.value in
    let low = c.args.key - c.number.result * 256 in
    let spot = bit_spot words c.args.kind.now c.in-Bit.head c.in-Bit.block c.args.key low c.in-Some-find.at c.in-Bit.is (omega arith)
    (sym c.in-Some-find.is ∙ c.find-in-Bit.ensures ∙ ap (λ l. place (keys_of l.pairs) low) c.new-in-Bit.ensures) in
    record {
      level =
          subst (λ k. IsLevel words (kind_written k (4 + c.in-Some-find.at) 0 c.replace-in-Bit.new.dest)) c.in-Bit.is
          (kind-level words c.args.kind.now c.args.key (4 + c.in-Some-find.at) 0 c.replace-in-Bit.new.dest c.requires.words c.requires.level spot);
      was = sym (kind-value words c.args.kind.now c.args.key (4 + c.in-Some-find.at) 0 c.requires.words c.requires.level spot)
          ∙ ap (λ k. value_at k (4 + c.in-Some-find.at) 0) c.in-Bit.is ∙ ap Some (sym (c.replace-in-Bit.ensures.value ∙ c.slot-in-Bit.ensures.word));
      written = sym (ap (λ k. tree_of words (kind_written k (4 + c.in-Some-find.at) 0 c.replace-in-Bit.new.dest)) c.in-Bit.is)
          ∙ kind-tree words c.args.kind.now c.args.key (4 + c.in-Some-find.at) 0 c.replace-in-Bit.new.dest c.requires.words c.requires.level spot
          ∙ ap (λ v. with_value (tree_of words c.args.kind.now) c.args.key v) c.replace-in-Bit.ensures.after;
    }
