use Rattle.std.proofs.Common.{◌≡◌, ◌*◌, ◌+◌, ap, sym, ◌∙◌, arith}
use Rattle.std.proofs.lemmas.Nat.{mul-le}
use Rattle.judy_records.specs.Texts.{words_of}
use Rattle.judy_records.specs.Spots.{RecordList, held}
use Rattle.judy_records.proofs.PageOf.{size-some}
use Rattle.judy_records.proofs.ListHolds.{per, some, shift-fits, start-fits}
use Rattle.judy_records.proofs.ListGrows.{free-roomy, roomy-there, roomy-kind, roomy-start, roomy-room, roomy-size, roomy-are, roomy-spots}
use Rattle.judy_records.proofs.ListGrows.{gone-there, gone-kind, gone-start, gone-none, gone-size-is, gone-are, gone-spots}
use Rattle.judy_records.proofs.ListGrows.{end-last}
use Rattle.judy_records.proofs.records.Records.put.Goals as goal

-- ---- in a page with a place

pub places_of-places-requires-clause-shift : goal.places_of-places-requires-clause-shift
places_of-places-requires-clause-shift c = shift-fits c.self.inside c.self.invariant

pub places_of-places-requires-clause-within : goal.places_of-places-requires-clause-within
places_of-places-requires-clause-within c = roomy-start c.self.inside c.self.invariant c.self.view_is c.in-Some.number c.in-Some.ensures

pub put_in-rest-requires-clause-within : goal.put_in-rest-requires-clause-within
put_in-rest-requires-clause-within c = roomy-there c.self.inside c.self.invariant c.self.view_is c.in-Some.number c.in-Some.ensures

pub put_in-rest-requires-clause-is_roomy : goal.put_in-rest-requires-clause-is_roomy
put_in-rest-requires-clause-is_roomy c = roomy-kind c.self.inside c.self.invariant c.self.view_is c.in-Some.number c.in-Some.ensures

pub put_in-rest-requires-clause-room : goal.put_in-rest-requires-clause-room
put_in-rest-requires-clause-room c = roomy-room c.self.inside c.self.invariant c.self.view_is c.in-Some.number c.in-Some.ensures

pub put_in-rest-requires-clause-fits : goal.put_in-rest-requires-clause-fits
put_in-rest-requires-clause-fits c =
    c.requires ∙ ap (λ (list : RecordList). list.size) (sym c.self.view_is) ∙ sym (roomy-size c.self.inside c.self.invariant c.self.view_is c.in-Some.number c.in-Some.ensures)

pub start_of-requires-clause-shift : goal.start_of-requires-clause-shift
start_of-requires-clause-shift c = shift-fits c.self.inside c.self.invariant

pub start_of-requires-clause-fits : goal.start_of-requires-clause-fits
start_of-requires-clause-fits c =
    start-fits c.self.inside c.self.invariant c.in-Some.number (roomy-there c.self.inside c.self.invariant c.self.view_is c.in-Some.number c.in-Some.ensures)

pub invariant_of-self : goal.invariant_of-self
invariant_of-self c =
    roomy-are c.self.inside c.self.invariant c.self.view_is c.in-Some.number c.in-Some.ensures c.places_of-places.result c.places_of-places.ensures c.put_in-rest.new.pages c.put_in-rest.new.turns
    (held c.args.value (words_of c.args.bytes.now)) tt c.put_in-rest.ensures.pages c.put_in-rest.ensures.filled c.put_in-rest.ensures.full c.put_in-rest.ensures.roomy

pub returns-in-Some-clause-put : goal.returns-in-Some-clause-put
returns-in-Some-clause-put c =
    roomy-spots c.self.inside c.self.invariant c.self.view_is c.in-Some.number c.in-Some.ensures c.places_of-places.result c.places_of-places.ensures c.put_in-rest.new.pages c.put_in-rest.new.turns
    (held c.args.value (words_of c.args.bytes.now)) tt c.put_in-rest.ensures.pages c.put_in-rest.ensures.filled c.put_in-rest.ensures.full c.put_in-rest.ensures.roomy

-- ---- in a page that has gone

pub size_of-requires : goal.size_of-requires
size_of-requires c = shift-fits c.self.inside c.self.invariant

pub reopen-requires-clause-within : goal.reopen-requires-clause-within
reopen-requires-clause-within c = gone-there c.self.inside c.self.invariant c.self.view_is c.in-Some-next_gone.number (sym c.in-None.ensures) c.in-Some-next_gone.ensures

pub reopen-requires-clause-is_gone : goal.reopen-requires-clause-is_gone
reopen-requires-clause-is_gone c = gone-kind c.self.inside c.self.invariant c.self.view_is c.in-Some-next_gone.number (sym c.in-None.ensures) c.in-Some-next_gone.ensures

pub reopen-requires-clause-empty : goal.reopen-requires-clause-empty
reopen-requires-clause-empty c = gone-none c.self.inside c.self.invariant c.self.view_is c.in-Some-next_gone.number (sym c.in-None.ensures) c.in-Some-next_gone.ensures

pub reopen-requires-clause-words : goal.reopen-requires-clause-words
reopen-requires-clause-words c =
    let own = gone-size-is c.self.inside c.self.invariant c.self.view_is c.in-Some-next_gone.number (sym c.in-None.ensures) c.in-Some-next_gone.ensures in
    let positive = size-some (per c.self.inside c.self.invariant) (some c.self.inside c.self.invariant) c.in-Some-next_gone.number in
    let least = mul-le (c.self.inside.size + 1) 1 (c.self.inside.size + 1) c.size_of.result (omega arith) (omega (arith, positive, c.size_of.ensures.size)) in
    let within = c.self.invariant.size_within in
    omega (arith, own, least, within, c.saturating_mul-words.ensures)

pub returns-in_err-reopen-in-Some-next_gone-clause-unasked : goal.returns-in_err-reopen-in-Some-next_gone-clause-unasked
returns-in_err-reopen-in-Some-next_gone-clause-unasked c = λ has. absurd (free-roomy c.self.inside c.self.invariant c.self.view_is has (sym c.in-None.ensures))

pub places_of-places-requires-in-Some-next_gone-clause-shift : goal.places_of-places-requires-in-Some-next_gone-clause-shift
places_of-places-requires-in-Some-next_gone-clause-shift c = shift-fits c.self.inside c.self.invariant

pub places_of-places-requires-in-Some-next_gone-clause-within : goal.places_of-places-requires-in-Some-next_gone-clause-within
places_of-places-requires-in-Some-next_gone-clause-within c =
    gone-start c.self.inside c.self.invariant c.self.view_is c.in-Some-next_gone.number (sym c.in-None.ensures) c.in-Some-next_gone.ensures

pub start_of-requires-in-Some-next_gone-clause-shift : goal.start_of-requires-in-Some-next_gone-clause-shift
start_of-requires-in-Some-next_gone-clause-shift c = shift-fits c.self.inside c.self.invariant

pub start_of-requires-in-Some-next_gone-clause-fits : goal.start_of-requires-in-Some-next_gone-clause-fits
start_of-requires-in-Some-next_gone-clause-fits c =
    start-fits c.self.inside c.self.invariant c.in-Some-next_gone.number
    (gone-there c.self.inside c.self.invariant c.self.view_is c.in-Some-next_gone.number (sym c.in-None.ensures) c.in-Some-next_gone.ensures)

pub invariant_of-self-in-Some-next_gone : goal.invariant_of-self-in-Some-next_gone
invariant_of-self-in-Some-next_gone c =
    let page = c.in_ok-reopen-in-Some-next_gone.ensures.page in
    let capacity = page.capacity in
    let few = page.few in
    let sizes = ap (λ n. n * (c.self.inside.size + 1)) c.size_of.ensures.size in
    let turned : (c.self.inside.size + 1) * c.size_of.result ≡ c.size_of.result * (c.self.inside.size + 1) = grind arith in
    gone-are c.self.inside c.self.invariant c.self.view_is c.in-Some-next_gone.number (sym c.in-None.ensures) c.in-Some-next_gone.ensures
    c.saturating_mul-words.result (omega (arith, capacity, few, sizes, turned, c.saturating_mul-words.ensures)) c.reopen.new.pages c.reopen.new.turns c.reopen.ensures.pages page
    c.in_ok-reopen-in-Some-next_gone.ensures.moved c.places_of-places-in-Some-next_gone.result c.places_of-places-in-Some-next_gone.ensures
    c.put_in-rest-in-Some-next_gone.new.pages c.put_in-rest-in-Some-next_gone.new.turns (held c.args.value (words_of c.args.bytes.now)) tt c.put_in-rest-in-Some-next_gone.ensures.pages
    c.put_in-rest-in-Some-next_gone.ensures.filled c.put_in-rest-in-Some-next_gone.ensures.full c.put_in-rest-in-Some-next_gone.ensures.roomy

pub returns-in_ok-reopen-in-Some-next_gone-clause-put : goal.returns-in_ok-reopen-in-Some-next_gone-clause-put
returns-in_ok-reopen-in-Some-next_gone-clause-put c =
    let page = c.in_ok-reopen-in-Some-next_gone.ensures.page in
    let capacity = page.capacity in
    let few = page.few in
    let sizes = ap (λ n. n * (c.self.inside.size + 1)) c.size_of.ensures.size in
    let turned : (c.self.inside.size + 1) * c.size_of.result ≡ c.size_of.result * (c.self.inside.size + 1) = grind arith in
    gone-spots c.self.inside c.self.invariant c.self.view_is c.in-Some-next_gone.number (sym c.in-None.ensures) c.in-Some-next_gone.ensures
    c.saturating_mul-words.result (omega (arith, capacity, few, sizes, turned, c.saturating_mul-words.ensures)) c.reopen.new.pages c.reopen.new.turns c.reopen.ensures.pages page
    c.in_ok-reopen-in-Some-next_gone.ensures.moved c.places_of-places-in-Some-next_gone.result c.places_of-places-in-Some-next_gone.ensures
    c.put_in-rest-in-Some-next_gone.new.pages c.put_in-rest-in-Some-next_gone.new.turns (held c.args.value (words_of c.args.bytes.now)) tt c.put_in-rest-in-Some-next_gone.ensures.pages
    c.put_in-rest-in-Some-next_gone.ensures.filled c.put_in-rest-in-Some-next_gone.ensures.full c.put_in-rest-in-Some-next_gone.ensures.roomy

-- ---- at the end

pub put_at_end-requires-clause-at_end : goal.put_at_end-requires-clause-at_end
put_at_end-requires-clause-at_end c = end-last c.self.inside c.self.invariant c.self.view_is (sym c.in-None.ensures) (sym c.in-None-next_gone.ensures)

pub returns-in-None-next_gone-clause-unasked : goal.returns-in-None-next_gone-clause-unasked
returns-in-None-next_gone-clause-unasked c = λ has. absurd (free-roomy c.self.inside c.self.invariant c.self.view_is has (sym c.in-None.ensures))
