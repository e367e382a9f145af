use Rattle.std.proofs.Common.{refl, sym, ap, ◌∙◌, subst, arith}
use Rattle.std.specs.Option.{ghost_name_of}
use borrow.Follows.Closed.{read_of}
use Rattle.judy_node.specs.Slots.{value_of, with_value}
use Rattle.judy_node.proofs.SeatFacts.{lent_kind, kind-level, kind-tree, kind-value, kind-seat, child-narrow}
use Rattle.judy_node.proofs.child.ChildOf.slot_at.Goals as goal

pub slot_at-requires-clause-seat : goal.slot_at-requires-clause-seat
slot_at-requires-clause-seat g c =
    let words = g.V.Words.WORDS in
    let kind = c.kind_mut-kind.result.now in
    let lent = lent_kind words c.kind_mut-kind.ensures.value c.self.invariant.1 c.self.view_is in
    let narrow = child-narrow words c.args.width c.args.self.now c.requires.child in
    let deep = c.requires.depth in
    let wide = ap (λ s. s.width) lent.1 in
    kind-seat words g.D.Depth.DEPTH kind c.args.key c.in_ok-seat.seat.at c.in_ok-seat.seat.rest c.requires.words lent.0 c.in_ok-seat.ensures.seat (omega arith)

-- What is known of the value of the key is known of the value at its place.
pub slot_at-requires-clause-known : goal.slot_at-requires-clause-known
slot_at-requires-clause-known g c =
    let words = g.V.Words.WORDS in
    let kind = c.kind_mut-kind.result.now in
    let lent = lent_kind words c.kind_mut-kind.ensures.value c.self.invariant.1 c.self.view_is in
    subst (λ value. g.K.Sought.known value)
    (sym (kind-value words kind c.args.key c.in_ok-seat.seat.at c.in_ok-seat.seat.rest c.requires.words lent.0 c.in_ok-seat.ensures.seat
    ∙ ap (λ s. value_of c.args.key s.pairs) lent.1))
    c.requires.known

pub invariant_of-self-lent : goal.invariant_of-self-lent
invariant_of-self-lent g c =
    let words = g.V.Words.WORDS in
    let lent = lent_kind words c.kind_mut-kind.ensures.value c.self.invariant.1 c.self.view_is in
    λ _. (
      λ w. (refl {a = 1}, kind-level words c.kind_mut-kind.result.now c.args.key c.in_ok-seat.seat.at c.in_ok-seat.seat.rest w c.requires.words lent.0 c.in_ok-seat.ensures.seat),
      (refl {a = 1}, lent.0),
    )

pub returns : goal.returns
returns g c =
    let words = g.V.Words.WORDS in
    let kind = c.kind_mut-kind.result.now in
    let lent = lent_kind words c.kind_mut-kind.ensures.value c.self.invariant.1 c.self.view_is in (
      λ t. read_of (ghost_name_of c.slot_at.result)
          (λ w. (kind-tree words kind c.args.key c.in_ok-seat.seat.at c.in_ok-seat.seat.rest w c.requires.words lent.0 c.in_ok-seat.ensures.seat ∙ ap (λ s. with_value s c.args.key w) lent.1) t)
          (lent.1 t),
      record {
        changes = tt;
        value = c.slot_at.ensures.value
            ∙ kind-value words kind c.args.key c.in_ok-seat.seat.at c.in_ok-seat.seat.rest c.requires.words lent.0 c.in_ok-seat.ensures.seat
            ∙ ap (λ s. value_of c.args.key s.pairs) lent.1;
      },
    )
