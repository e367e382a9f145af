use Rattle.std.proofs.Common.{◌∙◌, ◌+◌, ◌^◌, Some, None, arith}
use Rattle.judy_query.specs.Rooms.{low_of, high_of}
use Rattle.judy_query.proofs.SideRooms.{high_within, absent_below, nearest-empty, absent_nowhere, absent_at, in_room, absent_in}
use Rattle.judy_query.proofs.empties.empty_beside.Goals as goal

pub returns-in-Nowhere-clause-word : goal.returns-in-Nowhere-clause-word
returns-in-Nowhere-clause-word g c =
    let words = g.V.Words.WORDS in
    let pairs = c.args.tree.now.pairs in
    let side = c.args.side in
    let low = low_of side c.args.key in
    let high = high_of side c.args.key (2 ^ 64) in
    nearest-empty side words pairs c.args.key None c.law.ensures.map (omega (arith, c.ranges.key)) (absent_nowhere words pairs low high c.seek.result side c.in-Nowhere.is c.seek.ensures.room)

pub returns-in-At-clause-word : goal.returns-in-At-clause-word
returns-in-At-clause-word g c =
    let words = g.V.Words.WORDS in
    let pairs = c.args.tree.now.pairs in
    let side = c.args.side in
    let low = low_of side c.args.key in
    let high = high_of side c.args.key (2 ^ 64) in
    nearest-empty side words pairs c.args.key (Some c.in-At.word) c.law.ensures.map (omega (arith, c.ranges.key))
    (absent_at words pairs low high c.seek.result side c.in-At.word c.in-At.is c.seek.ensures.room)

pub nearest_in-requires : goal.nearest_in-requires
nearest_in-requires g c =
    let words = g.V.Words.WORDS in
    let pairs = c.args.tree.now.pairs in
    let side = c.args.side in
    let low = low_of side c.args.key in
    let high = high_of side c.args.key (2 ^ 64) in
    let room = in_room words pairs low high c.seek.result side c.in-In.child c.in-In.width c.in-In.start c.in-In.is c.seek.ensures.room in
    (omega (arith, room.narrow), (omega (arith, c.seek.ensures.visits, c.requires), (room.child, (room.narrow, room.room))))

pub overflow_add-result : goal.overflow_add-result
overflow_add-result g c =
    let words = g.V.Words.WORDS in
    let pairs = c.args.tree.now.pairs in
    let side = c.args.side in
    let low = low_of side c.args.key in
    let high = high_of side c.args.key (2 ^ 64) in
    let word = absent_in words pairs low high c.seek.result side c.in-In.child c.in-In.width c.in-In.start c.nearest_in.result c.in-In.is c.seek.ensures.room c.nearest_in.ensures.word in
    omega (arith, absent_below side pairs low high (c.in-In.start + c.nearest_in.result) word, high_within side c.args.key (2 ^ 64) (omega (arith, c.ranges.key)))

pub returns-in-In : goal.returns-in-In
returns-in-In g c =
    let words = g.V.Words.WORDS in
    let pairs = c.args.tree.now.pairs in
    let side = c.args.side in
    let low = low_of side c.args.key in
    let high = high_of side c.args.key (2 ^ 64) in
    let narrow = (in_room words pairs low high c.seek.result side c.in-In.child c.in-In.width c.in-In.start c.in-In.is c.seek.ensures.room).narrow in
    record {
      word = nearest-empty side words pairs c.args.key (Some (c.in-In.start + c.nearest_in.result)) c.law.ensures.map (omega (arith, c.ranges.key))
          (absent_in words pairs low high c.seek.result side c.in-In.child c.in-In.width c.in-In.start c.nearest_in.result c.in-In.is c.seek.ensures.room c.nearest_in.ensures.word);
      no_fewer = omega (arith, c.seek.ensures.no_fewer, c.nearest_in.ensures.no_fewer);
      spared = c.nearest_in.ensures.spared ∙ c.seek.ensures.spared;
      visits = omega (arith, c.seek.ensures.visits, c.nearest_in.ensures.visits);
    }
