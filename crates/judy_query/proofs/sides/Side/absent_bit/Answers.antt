use Rattle.std.proofs.Common.{◌+◌, ◌-◌, ◌*◌, ◌^◌, ◌<◌, ◌≤◌, ◌⊎◌, inl, inr, ap, sym, ◌∙◌, subst, arith, ltb-true, nat_lt}
use Rattle.std.proofs.Math.Nat.{pow-le-pow_right}
use Rattle.judy_leaf.specs.KeyLists.{shift}
use Rattle.judy_query.specs.Rooms.{IsAbsent, low_of, high_of}
use Rattle.judy_query.proofs.BranchRooms.{least_top}
use Rattle.judy_query.proofs.Runs.{beside_bits, bits_before_end, bits_fit}
use Rattle.judy_query.proofs.SideRooms.{key_absent}
use Rattle.judy_query.proofs.AbsentSides.{byte_told, behind_told, before_told, none_behind_told, none_before_told}
use Rattle.judy_query.proofs.sides.Side.absent_bit.Goals.{then-key-front-via-then-key-front, then-key-front-via-else-key-front+then-key-front-gt255}
use Rattle.judy_query.proofs.sides.Side.absent_bit.Goals as goal

pub overflow_mul-front : goal.overflow_mul-front
overflow_mul-front g c =
    let fits = bits_fit c.args.skipped c.args.width c.requires.width.0 c.requires.width.1 c.requires.skipped in
    omega arith

pub returns-then-key-front : goal.returns-then-key-front
returns-then-key-front g c =
    let beside : (c.args.key < c.args.skipped * 256) ⊎ (c.args.skipped * 256 + 256 ≤ c.args.key) = elim c.then-key-front.branch [
      | then-key-front-via-then-key-front w ↦ inl w.if-key-front.true
      | then-key-front-via-else-key-front+then-key-front-gt255 w ↦ inr (omega (arith, w.if-key-front.false, w.if-key-front-gt255.true))
    ] in
    key_absent c.args.self (shift (c.args.skipped * 256) c.args.list.now.pairs) c.args.key (256 ^ c.args.width) c.requires.within
    (beside_bits g.V.Words.WORDS c.args.skipped c.args.width c.args.list.now.pairs c.requires.map c.args.key beside)

pub returns-in-Some : goal.returns-in-Some
returns-in-Some g c =
    let side = c.args.self in
    let at = c.args.key - c.args.skipped * 256 in
    byte_told g.V.Words.WORDS c.args.skipped c.args.width c.args.list.now.pairs c.requires.width.0 c.requires.skipped c.requires.map c.args.key
    (omega (arith, c.if-key-front.false)) (omega (arith, c.if-key-front-gt255.false)) side c.in-Some.byte
    (subst (IsAbsent side c.args.list.now.pairs (low_of side at) (high_of side at 256)) c.in-Some.is c.absent_byte.ensures)

pub overflow_add-result-in-Up : goal.overflow_add-result-in-Up
overflow_add-result-in-Up g c =
    let less = ltb-true (c.args.skipped + 1) (256 ^ (c.from.result - 1)) (sym c.has_next.ensures ∙ c.if-has_next.true) in
    let within = bits_before_end c.args.skipped c.args.width c.requires.width.0 (subst (λ w. c.args.skipped + 1 < 256 ^ (w - 1)) c.from.ensures less) in
    let most : 256 ^ c.args.width ≤ 256 ^ 8 = pow-le-pow_right {n = 256} (omega arith) c.requires.width.1 in
    omega arith

pub returns-in-Up : goal.returns-in-Up
returns-in-Up g c =
    let side = c.args.self in
    let at = c.args.key - c.args.skipped * 256 in
    let less = ltb-true (c.args.skipped + 1) (256 ^ (c.from.result - 1)) (sym c.has_next.ensures ∙ c.if-has_next.true) in
    behind_told g.V.Words.WORDS c.args.skipped c.args.width c.args.list.now.pairs c.requires.width.0 c.requires.skipped c.requires.map c.args.key
    (omega (arith, c.if-key-front.false)) (omega (arith, c.if-key-front-gt255.false)) side c.in-Up.is (subst (λ w. c.args.skipped + 1 < 256 ^ (w - 1)) c.from.ensures less)
    (subst (IsAbsent side c.args.list.now.pairs (low_of side at) (high_of side at 256)) c.in_default.is c.absent_byte.ensures)

pub returns-in-Down : goal.returns-in-Down
returns-in-Down g c =
    let side = c.args.self in
    let at = c.args.key - c.args.skipped * 256 in
    before_told g.V.Words.WORDS c.args.skipped c.args.width c.args.list.now.pairs c.requires.width.0 c.requires.skipped c.requires.map c.args.key
    (omega (arith, c.if-key-front.false)) (omega (arith, c.if-key-front-gt255.false)) side c.in-Down.is c.if-front-gt0.true
    (subst (IsAbsent side c.args.list.now.pairs (low_of side at) (high_of side at 256)) c.in_default.is c.absent_byte.ensures)

pub returns-in_default-self : goal.returns-in_default-self
returns-in_default-self g c =
    let side = c.args.self in
    let at = c.args.key - c.args.skipped * 256 in
    let most = least_top c.args.skipped (256 ^ (c.args.width - 1)) c.requires.skipped (ap (λ w. nat_lt (c.args.skipped + 1) (256 ^ (w - 1))) (sym c.from.ensures) ∙
    sym c.has_next.ensures ∙ c.if-has_next.false) in
    none_behind_told g.V.Words.WORDS c.args.skipped c.args.width c.args.list.now.pairs c.requires.width.0 c.requires.skipped c.requires.map c.args.key
    (omega (arith, c.if-key-front.false)) (omega (arith, c.if-key-front-gt255.false)) side c.in-Up.is most
    (subst (IsAbsent side c.args.list.now.pairs (low_of side at) (high_of side at 256)) c.in_default.is c.absent_byte.ensures)

pub returns-in_default-self-2 : goal.returns-in_default-self-2
returns-in_default-self-2 g c =
    let side = c.args.self in
    let at = c.args.key - c.args.skipped * 256 in
    none_before_told g.V.Words.WORDS c.args.skipped c.args.width c.args.list.now.pairs c.requires.width.0 c.requires.skipped c.requires.map c.args.key
    (omega (arith, c.if-key-front.false)) (omega (arith, c.if-key-front-gt255.false)) side c.in-Down.is (omega (arith, c.if-front-gt0.false))
    (subst (IsAbsent side c.args.list.now.pairs (low_of side at) (high_of side at 256)) c.in_default.is c.absent_byte.ensures)
