use Rattle.std.proofs.Common.{◌≡◌, ℕ, ◌+◌, ◌-◌, ◌*◌, ◌^◌, ◌<◌, false, length, Some, refl, sym, ap, ◌∙◌, subst, arith}
use Rattle.judy_model.specs.Forms.{loose_in}
use Rattle.judy_bits.specs.ByteSets.{has, place}
use Rattle.judy_leaf.specs.KeyLists.{KeyList, keys_of}
use Rattle.judy_leaf.specs.BitLeaves.{bit_list}
use Rattle.judy_node.specs.Kinds.{bit_tree, IsBit}
use Rattle.judy_node.specs.declared.child.KindOf.TheVariants.{Bit}
use Rattle.judy_change.specs.LeafTrees.{one_bitmap}
use Rattle.judy_change.proofs.PairPlaces.{length-with_pair}
use Rattle.judy_change.proofs.Added.{present-find, has-bitmap, pairs-bitmap, tight-bitmap, child-with}
use Rattle.judy_change.proofs.bitmaps.into_bitmap.Goals as goal

pub returns-in-Ok-clause-inserted : goal.returns-in-Ok-clause-inserted
returns-in-Ok-clause-inserted g c =
    let list = bit_list g.V.Words.WORDS c.args.block.now in
    let byte = c.low_part-byte.result in
    let along = c.requires.along in
    let low = c.low_part-byte.ensures in
    let is : c.args.pair.key ≡ c.args.head.now * 256 + byte = omega arith in
    let found = present-find (keys_of list.pairs) byte (Some c.in-Ok.field-0) (sym c.in-Ok.ensures ∙ ap (λ (l : KeyList). place (keys_of l.pairs) byte) c.new.ensures) refl in
    (has-bitmap c.args.head.now byte c.args.pair.key is list ∙ found, refl)

pub returns-in-Err-put_in_bit_leaf-clause-inserted : goal.returns-in-Err-put_in_bit_leaf-clause-inserted
returns-in-Err-put_in_bit_leaf-clause-inserted g c =
    let words = g.V.Words.WORDS in
    let list = bit_list words c.args.block.now in
    let byte = c.low_part-byte.result in
    let along = c.requires.along in
    let low = c.low_part-byte.ensures in
    let is : c.args.pair.key ≡ c.args.head.now * 256 + byte = omega arith in
    let absent : has (keys_of list.pairs) byte ≡ false = ap (λ (l : KeyList). has (keys_of l.pairs) byte) (sym c.new.ensures) ∙ c.in-Err.ensures.0 in
    (has-bitmap c.args.head.now byte c.args.pair.key is list ∙ absent, ap (bit_tree words c.args.head.now) c.in-Err-put_in_bit_leaf.ensures.unchanged)

pub returns-in-Ok-put_in_bit_leaf : goal.returns-in-Ok-put_in_bit_leaf
returns-in-Ok-put_in_bit_leaf g c =
    let words = g.V.Words.WORDS in
    let list = bit_list words c.args.block.now in
    let made = c.in-Ok-put_in_bit_leaf.ensures in
    let byte = c.low_part-byte.result in
    let along = c.requires.along in
    let low = c.low_part-byte.ensures in
    let is : c.args.pair.key ≡ c.args.head.now * 256 + byte = omega arith in
    let absent : has (keys_of list.pairs) byte ≡ false = ap (λ (l : KeyList). has (keys_of l.pairs) byte) (sym c.new.ensures) ∙ c.in-Err.ensures.0 in
    let one = length-with_pair byte c.args.pair.value list.pairs in
    let long = ap (λ l. length l.pairs) made.added in
    let level : IsBit words c.args.head.now c.put_in_bit_leaf.new.block = record {
      parts = made.parts;
      some = omega arith;
      skips = subst (λ w. c.args.head.now < 256 ^ (w - 1)) (sym (ap (λ l. l.width) made.added)) c.requires.level.skips;
    } in
    let held = has-bitmap c.args.head.now byte c.args.pair.key is list ∙ absent in
    let pairs = ap (λ l. (one_bitmap c.args.head.now l).pairs) made.added ∙ pairs-bitmap c.args.head.now byte c.args.pair.key is list c.args.pair.value in
    record {
      level = level;
      child =
          child-with {V = ℕ} words c.args.width c.args.pair.key c.args.pair.value (bit_tree words c.args.head.now c.args.block.now) (Bit c.args.head.now c.put_in_bit_leaf.new.block) c.requires.child
          level (ap (λ l. l.width) made.added) pairs held c.requires.fits c.requires.no_value;
      inserted = record {
        absent = held;
        pairs = pairs;
        tight = λ tight. ap (λ l. loose_in (one_bitmap c.args.head.now l).form) made.added ∙ tight-bitmap c.args.head.now byte c.args.pair.key is list c.args.pair.value tight;
      };
    }
