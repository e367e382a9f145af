use Rattle.std.proofs.Common.{◌≡◌, ◌+◌, ◌-◌, ◌*◌, ◌<◌, ◌≤◌, length, inl, inr, ap, sym, ◌∙◌, refl, arith, subst}
use Rattle.judy_records.specs.Texts.{words_of}
use Rattle.judy_records.specs.Spots.{held, put_at, IsNext}
use Rattle.judy_records.specs.PageSpots.{PageList, HasRoom}
use Rattle.judy_records.proofs.PageStands.{count-fits, next-known, next-end, spots-long, end-room, free-long, free-next, pushed, pushed-spots, pushed-are, refilled, refilled-spots, refilled-are}
use Rattle.judy_records.proofs.page.Page.put.Goals as goal

-- ---- at the end

pub push_record-requires-clause-room : goal.push_record-requires-clause-room
push_record-requires-clause-room c =
    let room = end-room c.self.inside c.self.invariant c.if-self-eq0.true (subst HasRoom (sym c.self.view_is) c.requires.room) in
    omega (arith, room, c.self.inside.words.ok)

pub push_record-requires-clause-fits : goal.push_record-requires-clause-fits
push_record-requires-clause-fits c = c.requires.fits ∙ ap (λ (page : PageList). page.size) (sym c.self.view_is)

pub overflow_add-self : goal.overflow_add-self
overflow_add-self c = (let fits = count-fits c.self.inside c.self.invariant in omega (arith, fits))

pub invariant_of-self : goal.invariant_of-self
invariant_of-self c =
    let size = c.requires.fits ∙ ap (λ (page : PageList). page.size) (sym c.self.view_is) in
    pushed-are c.self.inside c.self.invariant c.args.value c.args.bytes.now size c.if-self-eq0.true c.push_record.new.words c.push_record.ensures.words

pub returns-then-self-eq0-clause-spots : goal.returns-then-self-eq0-clause-spots
returns-then-self-eq0-clause-spots c =
    let size = c.requires.fits ∙ ap (λ (page : PageList). page.size) (sym c.self.view_is) in
    pushed-spots c.self.inside c.self.invariant c.args.value c.args.bytes.now size c.if-self-eq0.true c.push_record.new.words c.push_record.ensures.words
    ∙ ap (λ (page : PageList). put_at page.spots page.next (held c.args.value (words_of c.args.bytes.now))) c.self.view_is

pub returns-then-self-eq0-clause-next : goal.returns-then-self-eq0-clause-next
returns-then-self-eq0-clause-next c = next-known _ (invariant_of-self c)

-- ---- at the first free place

pub overflow_mul-start : goal.overflow_mul-start
overflow_mul-start c =
    let size = c.requires.fits ∙ ap (λ (page : PageList). page.size) (sym c.self.view_is) in
    let some : 0 < c.self.inside.spare = omega (arith, c.if-self-eq0.false) in
    let long = free-long c.self.inside c.self.invariant c.args.value c.args.bytes.now size some in
    omega (arith, long, c.self.inside.words.ok, c.self.inside.words.small)

pub index-requires : goal.index-requires
index-requires c =
    let size = c.requires.fits ∙ ap (λ (page : PageList). page.size) (sym c.self.view_is) in
    let some : 0 < c.self.inside.spare = omega (arith, c.if-self-eq0.false) in
    let long = free-long c.self.inside c.self.invariant c.args.value c.args.bytes.now size some in
    omega (arith, long, c.self.inside.words.ok)

pub write_record-requires-clause-within : goal.write_record-requires-clause-within
write_record-requires-clause-within c =
    let size = c.requires.fits ∙ ap (λ (page : PageList). page.size) (sym c.self.view_is) in
    let some : 0 < c.self.inside.spare = omega (arith, c.if-self-eq0.false) in
    let long = free-long c.self.inside c.self.invariant c.args.value c.args.bytes.now size some in
    omega (arith, long, c.self.inside.words.ok)

pub write_record-requires-clause-fits : goal.write_record-requires-clause-fits
write_record-requires-clause-fits c = c.requires.fits ∙ ap (λ (page : PageList). page.size) (sym c.self.view_is)

pub invariant_of-self-2 : goal.invariant_of-self-2
invariant_of-self-2 c =
    let size = c.requires.fits ∙ ap (λ (page : PageList). page.size) (sym c.self.view_is) in
    let some : 0 < c.self.inside.spare = omega (arith, c.if-self-eq0.false) in
    refilled-are c.self.inside c.self.invariant c.args.value c.args.bytes.now size some c.write_record.new.words c.write_record.ensures.words _
    (free-next c.self.inside c.self.invariant c.args.value c.args.bytes.now size some c.index.ensures)

pub returns-clause-spots : goal.returns-clause-spots
returns-clause-spots c =
    let size = c.requires.fits ∙ ap (λ (page : PageList). page.size) (sym c.self.view_is) in
    let some : 0 < c.self.inside.spare = omega (arith, c.if-self-eq0.false) in
    refilled-spots c.self.inside c.self.invariant c.args.value c.args.bytes.now size some c.write_record.new.words c.write_record.ensures.words _
    (free-next c.self.inside c.self.invariant c.args.value c.args.bytes.now size some c.index.ensures)
    ∙ ap (λ (page : PageList). put_at page.spots page.next (held c.args.value (words_of c.args.bytes.now))) c.self.view_is

pub returns-clause-next : goal.returns-clause-next
returns-clause-next c = next-known _ (invariant_of-self-2 c)

pub returns-then-self-eq0-clause-place : goal.returns-then-self-eq0-clause-place
returns-then-self-eq0-clause-place c = sym (next-end c.self.inside c.self.invariant c.if-self-eq0.true) ∙ ap (λ (page : PageList). page.next) c.self.view_is
