use Rattle.std.proofs.Common.{◌≡◌, ◌+◌, ◌*◌, length, get_or, ap, sym, ◌∙◌, arith}
use Rattle.std.proofs.lemmas.Bool.{ltb-false}
use Rattle.judy_tails.specs.Short.{ShortLists}
use Rattle.judy_tails.proofs.ListLemmas.{next-at, next-past}
use Rattle.judy_tails.proofs.LengthLemmas.{next-read}
use Rattle.judy_tails.proofs.short.ShortTails.next_place.Goals as goal

pub overflow_mul-result : goal.overflow_mul-result
overflow_mul-result c =
    omega (
      arith,
      (next-read c.self.inside.lists.items c.self.invariant c.list_for-number.result c.deref.ensures.value c.in-Some.list.now
          (sym c.in-Some.ensures.lookup.0) c.in-Some.ensures.lookup.1 c.next_place.result c.next_place.ensures).1,
    )

pub overflow_add-result : goal.overflow_add-result
overflow_add-result c =
    omega (
      arith,
      (next-read c.self.inside.lists.items c.self.invariant c.list_for-number.result c.deref.ensures.value c.in-Some.list.now
          (sym c.in-Some.ensures.lookup.0) c.in-Some.ensures.lookup.1 c.next_place.result c.next_place.ensures).1,
    )

pub returns-in-Some : goal.returns-in-Some
returns-in-Some c =
    let number = c.list_for-number.result in
    let next = (next-read c.self.inside.lists.items c.self.invariant c.list_for-number.result c.deref.ensures.value c.in-Some.list.now
    (sym c.in-Some.ensures.lookup.0) c.in-Some.ensures.lookup.1 c.next_place.result c.next_place.ensures).0 ∙ sym (next-at c.self.inside.lists.items number) ∙
    ap (λ (all : ShortLists). get_or all.next number 0) c.self.view_is in
    (λ i. next i * 256 + number) ∙ ap (λ n. get_or c.args.self.now.next n 0 * 256 + n) c.list_for-number.ensures

pub returns-in-None : goal.returns-in-None
returns-in-None c =
    let lists = c.self.inside.lists.items in
    let number = c.list_for-number.result in
    let past = ltb-false number (length c.deref.result.now) (sym c.in-None.ensures.lookup.0) in
    let none = next-past lists number (omega (arith, past, ap length c.deref.ensures.value)) in
    let start : number ≡ 0 * 256 + number = omega arith in
    start
    ∙ (λ i. sym none i * 256 + number)
    ∙ ap (λ (all : ShortLists). get_or all.next number 0 * 256 + number) c.self.view_is
    ∙ ap (λ n. get_or c.args.self.now.next n 0 * 256 + n) c.list_for-number.ensures
