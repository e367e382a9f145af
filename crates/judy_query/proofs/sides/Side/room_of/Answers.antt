use Rattle.std.proofs.Common.{◌≡◌, ◌+◌, ◌-◌, ◌*◌, ◌^◌, ◌<◌, length, Some, refl, sym, ap, ◌∙◌, subst, arith, ltb-true, nat_lt}
use Rattle.judy_model.specs.WordBytes.{number_of}
use Rattle.judy_model.proofs.lemmas.orders.ByteLemmas.{unit_pos, number_of-lt}
use Rattle.judy_leaf.specs.KeyLists.{shift}
use Rattle.judy_node.specs.Trees.{branch_pairs}
use Rattle.judy_node.specs.declared.step.Step.TheVariants.{Below, Above}
use Rattle.judy_node.proofs.StepFacts.{rank_zero}
use Rattle.judy_query.specs.Rooms.{IsFirstAbsent, IsLastAbsent, IsRoomUpTo}
use Rattle.judy_query.proofs.Blocks.{block_word}
use Rattle.judy_query.proofs.Runs.{run-none}
use Rattle.judy_query.proofs.BranchRooms.{rank_all, as_many, least_top, words_behind, none_behind, raised_beside}
use Rattle.judy_query.proofs.SideRooms.{room_told}
use Rattle.judy_query.proofs.sides.Side.room_of.Goals as goal

pub room_from-requires : goal.room_from-requires
room_from-requires g c = record { branch = c.requires.branch; edge = omega arith; place = sym (rank_zero c.args.branch.now.bytes); fits = c.requires.fits }

pub room_up_to-requires : goal.room_up_to-requires
room_up_to-requires g c =
    let b = c.args.branch.now in
    let all_below = rank_all g.V.Words.WORDS b.width b.skip b.bytes b.children.items b.population c.requires.branch in
    let many = as_many g.V.Words.WORDS b.width b.skip b.bytes b.children.items b.population c.requires.branch in
    record { branch = c.requires.branch; edge = omega arith; place = omega (arith, c.len-in-Down-2.ensures, b.children.ok.0); fits = c.requires.fits }

pub returns-in-Up-clause-room : goal.returns-in-Up-clause-room
returns-in-Up-clause-room g c =
    let words = g.V.Words.WORDS in
    let b = c.args.branch.now in
    let base = c.args.base in
    let all = shift base (branch_pairs b.width b.skip b.bytes b.children.items) in
    let whole = unit_pos (length b.skip + 1 + b.width) in
    let front = block_word (number_of b.skip * 256) (256 ^ b.width) (unit_pos b.width) in
    let number = c.number-number.ensures in
    let more = c.if-number-gt0.true in
    let top = base + 256 ^ (length b.skip + 1 + b.width) in
    room_told _ c.args.self words all base top (Some base) (rw c.in-Up.is (let told : IsFirstAbsent all base top (Some base) = (
      omega arith,
      run-none all base base refl,
      raised_beside words b.width b.skip b.bytes b.children.items b.population c.requires.branch base Below 0 base (omega arith) tt (omega arith) whole,
    ) in told))

pub returns-in-Down-clause-room : goal.returns-in-Down-clause-room
returns-in-Down-clause-room g c =
    let words = g.V.Words.WORDS in
    let b = c.args.branch.now in
    let base = c.args.base in
    let all = shift base (branch_pairs b.width b.skip b.bytes b.children.items) in
    let unit = 256 ^ (length b.skip + 1 + b.width) in
    let whole = unit_pos (length b.skip + 1 + b.width) in
    let less : number_of b.skip + 1 < 256 ^ length b.skip = subst (λ n. number_of b.skip + 1 < 256 ^ n) c.len.ensures.count
    (subst (λ n. n + 1 < 256 ^ c.len.result) c.number-number.ensures (ltb-true (c.number-number.result + 1) (256 ^ c.len.result) (sym c.has_next.ensures ∙ c.if-has_next.true))) in
    let left = words_behind words b.width b.skip b.bytes b.children.items b.population c.requires.branch less in
    let last = c.last_word.ensures.value in
    let wide : 256 ^ c.args.wide ≡ unit = ap (λ w. 256 ^ w) c.requires.wide in
    let word = c.args.base + c.last_word.result in
    room_told _ c.args.self words all base (base + unit) (Some word) (rw c.in-Down.is (let told : IsLastAbsent all base (base + unit) (Some word) = (
      omega arith,
      run-none all (word + 1) (base + unit) (omega arith),
      raised_beside words b.width b.skip b.bytes b.children.items b.population c.requires.branch base Above (unit - 1) word (omega arith) tt (omega arith) (omega arith),
    ) in told))

pub returns-in-Down-2-clause-room : goal.returns-in-Down-2-clause-room
returns-in-Down-2-clause-room g c =
    let words = g.V.Words.WORDS in
    let b = c.args.branch.now in
    let base = c.args.base in
    let below = number_of-lt b.skip c.requires.branch.parts.skipped_bytes in
    let most = least_top (number_of b.skip) (256 ^ length b.skip) below ((λ t. nat_lt (sym c.number-number.ensures t + 1) (256 ^ sym c.len.ensures.count t)) ∙
    sym c.has_next.ensures ∙ c.if-has_next.false) in
    rw c.in-Down-2.is (subst (λ n. IsRoomUpTo words (shift base (branch_pairs b.width b.skip b.bytes b.children.items)) base (base + n) c.room_up_to.result)
    (none_behind words b.width b.skip b.bytes b.children.items b.population c.requires.branch most) c.room_up_to.ensures.room)
