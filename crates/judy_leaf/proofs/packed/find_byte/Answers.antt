use Rattle.judy_leaf.proofs.FirstByte.{place-above, place-first, place-behind}
use Rattle.judy_leaf.proofs.packed.find_byte.Goals as goal

pub returns-then-key-gt255 : goal.returns-then-key-gt255
returns-then-key-gt255 c = place-above c.args.count c.args.words.now c.requires.packed c.requires.ascending c.args.key c.if-key-gt255.true

pub returns-then-at-count : goal.returns-then-at-count
returns-then-at-count c = place-first c.args.count c.args.words.now c.requires.packed c.requires.ascending c.args.key c.bytes_before-at.result c.bytes_before-at.ensures c.if-at-count.true

pub returns-else-at-count : goal.returns-else-at-count
returns-else-at-count c = place-behind c.args.count c.args.words.now c.requires.packed c.requires.ascending c.args.key c.bytes_before-at.result c.bytes_before-at.ensures c.if-at-count.false
