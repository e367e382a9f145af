use Rattle.std.proofs.Common.{◌+◌, ◌-◌, arith}
use Rattle.judy_leaf.proofs.HalfSteps.{place_from, place_before}
use Rattle.judy_leaf.proofs.halves.half_with.Goals as goal

pub returns-then-words-from : goal.returns-then-words-from
returns-then-words-from c =
    let half = c.requires.half in
    let within = c.requires.window.0 in (
      omega arith,
      λ held.
          let place = c.requires.window.1 held in
          let behind = place_from c.args.words.now c.args.key c.requires.ascending (c.args.from + (c.args.size - c.args.next)) (omega arith) c.if-words-from.true in
          (omega arith, omega arith),
    )

pub returns-else-words-from : goal.returns-else-words-from
returns-else-words-from c =
    let half = c.requires.half in
    let within = c.requires.window.0 in (
      omega arith,
      λ held.
          let place = c.requires.window.1 held in
          let before = place_before c.args.words.now c.args.key c.requires.ascending (c.args.from + (c.args.size - c.args.next)) (omega arith) (let e = c.if-words-from.false in omega arith) held in
          (place.0, omega arith),
    )
