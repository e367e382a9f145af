use Rattle.std.proofs.Common.{◌+◌, ◌*◌, length, refl, ap, sym, ◌∙◌, arith}
use Rattle.judy_bits.specs.ByteSets as set
use Rattle.judy_leaf.specs.BitLeaves.{bit_list}
use Rattle.judy_leaf.proofs.BitSteps.{bit_fits, bit_needed, room_keys}
use Rattle.judy_leaf.proofs.in_place.put_in_bit_leaf.Goals as goal

pub capacity_for-requires-clause-count : goal.capacity_for-requires-clause-count
capacity_for-requires-clause-count g c =
    bit_fits g.V.Words.WORDS c.args.block.now c.requires.parts (bit_list g.V.Words.WORDS c.args.block.now) refl c.bit_count.result c.args.byte c.bit_count.ensures c.ranges.byte.fits c.requires.absent

pub give_room-requires-clause-fits : goal.give_room-requires-clause-fits
give_room-requires-clause-fits g c =
    let needed = bit_needed g.V.Words.WORDS c.args.block.now c.requires.parts (bit_list g.V.Words.WORDS c.args.block.now) refl c.bit_count.result c.WORDS.result c.bit_count.ensures c.WORDS.ensures in
    omega arith

pub put-requires-clause-absent : goal.put-requires-clause-absent
put-requires-clause-absent g c =
    let words = g.V.Words.WORDS in
    let block = c.args.block.now in
    ap (λ keys. set.has keys c.args.byte) (room_keys words block c.requires.parts (bit_list words block) refl
    (4 + c.WORDS.result * (c.bit_count.result + 1)) c.give_room.new.block c.in_ok-give_room.ensures.room) ∙ c.requires.absent

pub put-requires-clause-place : goal.put-requires-clause-place
put-requires-clause-place g c =
    let words = g.V.Words.WORDS in
    let block = c.args.block.now in
    c.requires.place
    ∙ ap (λ keys. set.rank keys c.args.byte) (sym (room_keys words block c.requires.parts (bit_list words block) refl
    (4 + c.WORDS.result * (c.bit_count.result + 1)) c.give_room.new.block c.in_ok-give_room.ensures.room))

pub put-requires-clause-room : goal.put-requires-clause-room
put-requires-clause-room g c =
    let needed = bit_needed g.V.Words.WORDS c.args.block.now c.requires.parts (bit_list g.V.Words.WORDS c.args.block.now) refl c.bit_count.result c.WORDS.result c.bit_count.ensures c.WORDS.ensures in
    let same = ap length c.in_ok-give_room.ensures.room.words in
    let room = c.in_ok-give_room.ensures.room.room in
    omega arith
