use Rattle.std.proofs.Common.{◌≡◌, ◌∙◌, ℕ, List, [], length, take, sym, ap, arith}
use Rattle.judy_sl.specs.Children.{Child, Tail}
use Rattle.judy_sl.proofs.lemmas.scans.Fronts.{same_owner, same_room}
use Rattle.judy_sl.proofs.arena.Arena.read_tail.Goals as goal

same_tail : (child : Child) (one other : List ℕ × ℕ) → child ≡ Tail one → child ≡ Tail other → one ≡ other
same_tail child one other is are = let both : Tail one ≡ Tail other = sym is ∙ are in cc

pub push_to-requires : goal.push_to-requires
push_to-requires c =
    let same = ap (λ (tail : List ℕ × ℕ). length tail.0) (same_tail _ c.requires.tail.0 c.in-Tail.tail c.requires.tail.1 c.in-Tail.ensures) in
    let short = c.requires.tail.2 in
    omega (arith, same, short, c.new-key.ensures.len)

pub returns-clause-tail : goal.returns-clause-tail
returns-clause-tail c =
    let before = c.new-key.result in
    let front = c.push_to.new.key in
    let stays = c.push_to.ensures.beyond in
    let room = same_room before.buffer.now front.buffer.now front.len before.buffer.ghost_name front.buffer.ghost_name stays ∙ ap length c.new-key.ensures.bytes in
    let owner = same_owner before.buffer.now front.buffer.now front.len before.buffer.ghost_name front.buffer.ghost_name stays ∙ c.new-key.ensures.same in
    let given = c.push_to.ensures.has [] (c.new-key.ensures.len, λ fits. ap (λ n. take n before.buffer.now) c.new-key.ensures.len) in
    let last = c.buffer-1.given.1.1 (sym owner) in (
      c.in-Tail.tail.0,
      c.in-Tail.ensures ∙ (λ t. Tail ((c.in-Tail.tail.0, sym c.value.ensures t))),
      c.len.ensures ∙ given.0,
      λ fits. rw (c.len.ensures, last) (given.1 (omega (arith, fits, room))),
    )

pub returns-clause-room : goal.returns-clause-room
returns-clause-room c =
    let before = c.new-key.result in
    let front = c.push_to.new.key in
    let stays = c.push_to.ensures.beyond in
    let room = same_room before.buffer.now front.buffer.now front.len before.buffer.ghost_name front.buffer.ghost_name stays ∙ ap length c.new-key.ensures.bytes in
    let owner = same_owner before.buffer.now front.buffer.now front.len before.buffer.ghost_name front.buffer.ghost_name stays ∙ c.new-key.ensures.same in
    let last = c.buffer-1.given.1.1 (sym owner) in
    rw last room
