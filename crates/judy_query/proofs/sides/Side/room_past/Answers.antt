use Rattle.std.proofs.Common.{◌≡◌, ◌+◌, ◌*◌, ◌^◌, sym, subst, arith}
use Rattle.judy_model.specs.WordBytes.{number_of}
use Rattle.judy_node.proofs.Maps.{children-few}
use Rattle.std.proofs.lemmas.Option.{slice_get_within}
use Rattle.judy_query.specs.Rooms.{IsRoomFrom, IsRoomPast, branch_words, edge_word, words_end}
use Rattle.judy_query.proofs.Splits.{next_unit}
use Rattle.judy_query.proofs.BranchRooms.{bytes_ascend, as_many, rank_next, rank_before}
use Rattle.judy_query.proofs.sides.Side.room_past.Goals as goal

pub overflow_add-passed : goal.overflow_add-passed
overflow_add-passed g c =
    let b = c.args.passed.branch.now in
    let few = children-few g.V.Words.WORDS b.width 0 b.bytes b.children.items (omega arith) c.requires.branch.parts.children in
    let many = as_many g.V.Words.WORDS b.width b.skip b.bytes b.children.items b.population c.requires.branch in
    let within = slice_get_within b.bytes c.args.passed.place c.args.passed.edge c.requires.child in
    omega arith

pub overflow_add-passed-in-Up : goal.overflow_add-passed-in-Up
overflow_add-passed-in-Up g c = omega (arith, c.requires.small)

pub room_from-requires : goal.room_from-requires
room_from-requires g c =
    let b = c.args.passed.branch.now in
    let ascend = bytes_ascend g.V.Words.WORDS b.width b.skip b.bytes b.children.items b.population c.requires.branch in
    record {
      branch = c.requires.branch;
      edge = omega (arith, c.requires.small);
      place = sym (rank_next b.bytes ascend c.args.passed.edge c.args.passed.place (rank_before b.bytes c.args.passed.edge c.args.passed.place ascend c.requires.child) c.requires.child);
      fits = c.requires.fits;
    }

pub returns-in-Up : goal.returns-in-Up
returns-in-Up g c =
    let passed = c.args.passed in
    let b = passed.branch.now in
    let next = next_unit (number_of b.skip * 256) passed.edge (256 ^ b.width) in
    let start : passed.base + (number_of b.skip * 256 + (passed.edge + 1)) * 256 ^ b.width ≡ edge_word passed + 256 ^ b.width = omega arith in
    subst (λ side. IsRoomPast side g.V.Words.WORDS (branch_words passed) passed.base (words_end passed) (edge_word passed) (256 ^ b.width) c.room_from.result) (sym c.in-Up.is)
    (subst (λ n. IsRoomFrom g.V.Words.WORDS (branch_words passed) n (words_end passed) c.room_from.result) start c.room_from.ensures.room)

pub room_up_to-requires : goal.room_up_to-requires
room_up_to-requires g c =
    let b = c.args.passed.branch.now in
    let ascend = bytes_ascend g.V.Words.WORDS b.width b.skip b.bytes b.children.items b.population c.requires.branch in
    record {
      branch = c.requires.branch;
      edge = omega (arith, c.requires.small);
      place = sym (rank_before b.bytes c.args.passed.edge c.args.passed.place ascend c.requires.child);
      fits = c.requires.fits;
    }

pub returns-in-Down : goal.returns-in-Down
returns-in-Down g c =
    let passed = c.args.passed in
    subst (λ side. IsRoomPast side g.V.Words.WORDS (branch_words passed) passed.base (words_end passed) (edge_word passed) (256 ^ passed.branch.now.width) c.room_up_to.result)
    (sym c.in-Down.is) c.room_up_to.ensures.room
