use Rattle.std.proofs.Common.{◌≡◌, ◌≤◌, ◌∙◌, ℕ, List, Option, IfSome, length, take, inl, inr, refl, sym, ap, subst, arith}
use Rattle.judy_model.specs.Counts.{by_count}
use Rattle.judy_sl.specs.Arenas.{map_of}
use Rattle.judy_sl.specs.Scans.{value_found, IsFront}
use Rattle.judy_sl.proofs.lemmas.places.Nths.{nth_counted, none_counted}
use Rattle.judy_sl.proofs.lemmas.scans.Fronts.{same_owner, same_room, front-written}
use Rattle.judy_sl.proofs.judysl.StringsOf.by_count_in.Goals as goal
use Rattle.judy_sl.proofs.judysl.StringsOf.by_count_in.Goals.{then-n-eq0-via-then-n-eq0, then-n-eq0-via-else-n-eq0+then-n-len}

pub returns-then-n-eq0 : goal.returns-then-n-eq0
returns-then-n-eq0 g c =
    let none = none_counted c.args.self.now.map c.args.n (elim c.then-n-eq0.branch [
      | then-n-eq0-via-then-n-eq0 w ↦ inl w.if-n-eq0.true
      | then-n-eq0-via-else-n-eq0+then-n-len w ↦ let all = w.len.ensures.count in let more = w.if-n-len.true in inr (omega (arith, all, more))
    ]) in
    rw none (record { key = (refl, refl); value = refl })

pub nth-value-requires-clause-none : goal.nth-value-requires-clause-none
nth-value-requires-clause-none g c = (c.new-key.ensures.len, λ fits. ap (λ n. take n c.new-key.result.buffer.now) c.new-key.ensures.len)

pub returns : goal.returns
returns g c =
    let map = map_of c.self.inside.arena in
    let buffer = c.args.buffer.now in
    let before = c.new-key.result in
    let front = c.nth-value.new.key in
    let got = c.nth-value.ensures.found in
    let found = nth_counted map c.args.n c.if-n-eq0.false got.bytes got.are.at in
    let stays = c.nth-value.ensures.beyond in
    let room = same_room before.buffer.now front.buffer.now front.len before.buffer.ghost_name front.buffer.ghost_name stays ∙ ap length c.new-key.ensures.bytes in
    let owner = same_owner before.buffer.now front.buffer.now front.len before.buffer.ghost_name front.buffer.ghost_name stays ∙ c.new-key.ensures.same in
    let asked : IfSome (by_count map c.args.n) (λ one. length one ≤ length buffer) = rw (← c.self.view_is) at c.requires.room in
    let fits : length got.bytes ≤ length buffer = subst (λ (one : Option (List ℕ)). IfSome one (λ key. length key ≤ length buffer)) found asked in
    let long = got.given.0 in
    let written : take front.len front.buffer.now ≡ got.bytes = got.given.1 (omega (arith, fits, room)) in
    let last = c.buffer-1.given.1.1 (sym owner) in
    let is = front-written before.buffer.now front.buffer.now front.len before.buffer.ghost_name front.buffer.ghost_name stays got.bytes (omega (arith, fits, room, long)) written in
    rw (← c.self.view_is) (record {
      key = rw (c.len-2.ensures, last, found) (subst (λ all. IsFront got.bytes all front.len front.buffer.now) c.new-key.ensures.bytes is);
      value = got.are.answer ∙ sym got.are.held ∙ sym (ap (value_found map) found);
    })
