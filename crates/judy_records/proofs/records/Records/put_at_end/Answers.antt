use Rattle.std.proofs.Common.{Result, Ok, Err, OnErr, ap, refl, sym, ◌∙◌, arith}
use Rattle.std.specs.Vec.{with_item}
use Rattle.judy_records.specs.Texts.{words_of}
use Rattle.judy_records.specs.Spots.{RecordList, held}
use Rattle.judy_records.specs.PageSpots.{PageList}
use Rattle.judy_records.proofs.ListHolds.{shift-fits}
use Rattle.judy_records.proofs.ListGrows.{no_roomy, no_gone, end-next, end-number, last-there, last-read, last-size, last-within, begun-are, begun-spots, begun-next, pushed-records, pushed-list}
use Rattle.judy_records.proofs.records.Records.put_at_end.Goals as goal

on-err : {A E P : Type 0} (result : Result A E) → P → OnErr result P
on-err (Ok value) holds = tt
on-err (Err error) holds = holds

pub begin-requires-clause-none_roomy : goal.begin-requires-clause-none_roomy
begin-requires-clause-none_roomy c = no_roomy c.self.inside c.self.invariant c.self.view_is c.requires.at_end

pub begin-requires-clause-none_gone : goal.begin-requires-clause-none_gone
begin-requires-clause-none_gone c = no_gone c.self.inside c.self.invariant c.self.view_is c.requires.at_end

pub locate-number-requires : goal.locate-number-requires
locate-number-requires c = shift-fits c.self.inside c.self.invariant

pub begin-requires-clause-next : goal.begin-requires-clause-next
begin-requires-clause-next c =
    let most = end-number c.self.inside c.self.invariant c.self.view_is c.requires.at_end in
    omega (arith, most, c.locate-number.ensures.page_is)

pub words_more-requires-clause-shift : goal.words_more-requires-clause-shift
words_more-requires-clause-shift c = shift-fits c.self.inside c.self.invariant

pub index_mut-page-requires : goal.index_mut-page-requires
index_mut-page-requires c =
    let there = last-there c.self.inside c.self.invariant c.self.view_is c.requires.at_end c.locate-number.result.0 c.locate-number.ensures.page_is
    c.begin.new.pages c.begin.new.turns c.in_ok-begin.ensures.begun in
    omega (arith, there, c.begin.new.pages.ok)

pub widen-requires : goal.widen-requires
widen-requires c =
    let own = last-size c.self.inside c.self.invariant c.self.view_is c.requires.at_end c.locate-number.result.0 c.locate-number.ensures.page_is
    c.begin.new.pages c.begin.new.turns c.in_ok-begin.ensures.begun c.index_mut-page.result.now c.index_mut-page.ensures.value in
    omega (arith, own, c.words_more.ensures.one)

pub put-requires-clause-fits : goal.put-requires-clause-fits
put-requires-clause-fits c =
    c.requires.fits ∙ ap (λ (list : RecordList). list.size) (sym c.self.view_is)
    ∙ sym (c.widen.ensures.size ∙ last-size c.self.inside c.self.invariant c.self.view_is c.requires.at_end c.locate-number.result.0 c.locate-number.ensures.page_is
    c.begin.new.pages c.begin.new.turns c.in_ok-begin.ensures.begun c.index_mut-page.result.now c.index_mut-page.ensures.value)

pub invariant_of-self-in_err-widen : goal.invariant_of-self-in_err-widen
invariant_of-self-in_err-widen c =
    let read = last-read c.self.inside c.self.invariant c.self.view_is c.requires.at_end c.locate-number.result.0 c.locate-number.ensures.page_is
    c.begin.new.pages c.begin.new.turns c.in_ok-begin.ensures.begun c.index_mut-page.result.now c.index_mut-page.ensures.value in
    begun-are c.self.inside c.self.invariant c.self.view_is c.requires.at_end c.locate-number.result.0 c.locate-number.ensures.page_is
    c.begin.new.pages c.begin.new.turns c.in_ok-begin.ensures.begun (with_item c.begin.new.pages c.locate-number.result.0 c.widen.new.self) c.widen.new.self refl
    (c.widen.ensures.size ∙ ap (λ (page : PageList). page.size) read) (c.widen.ensures.spots ∙ ap (λ (page : PageList). page.spots) read)
    (c.widen.ensures.next ∙ ap (λ (page : PageList). page.next) read) (c.in_err-widen.ensures.same ∙ ap (λ (page : PageList). page.capacity) read)

pub returns-in_err-widen-clause-same : goal.returns-in_err-widen-clause-same
returns-in_err-widen-clause-same c =
    let read = last-read c.self.inside c.self.invariant c.self.view_is c.requires.at_end c.locate-number.result.0 c.locate-number.ensures.page_is
    c.begin.new.pages c.begin.new.turns c.in_ok-begin.ensures.begun c.index_mut-page.result.now c.index_mut-page.ensures.value in
    on-err c.from_residual-in_err-widen.result
    (begun-spots c.self.inside c.self.invariant c.self.view_is c.requires.at_end c.locate-number.result.0 c.locate-number.ensures.page_is
    c.begin.new.pages c.begin.new.turns c.in_ok-begin.ensures.begun (with_item c.begin.new.pages c.locate-number.result.0 c.widen.new.self) c.widen.new.self refl
    (c.widen.ensures.size ∙ ap (λ (page : PageList). page.size) read) (c.widen.ensures.spots ∙ ap (λ (page : PageList). page.spots) read)
    (c.widen.ensures.next ∙ ap (λ (page : PageList). page.next) read) (c.in_err-widen.ensures.same ∙ ap (λ (page : PageList). page.capacity) read))

pub returns-in_err-widen-clause-next : goal.returns-in_err-widen-clause-next
returns-in_err-widen-clause-next c =
    let read = last-read c.self.inside c.self.invariant c.self.view_is c.requires.at_end c.locate-number.result.0 c.locate-number.ensures.page_is
    c.begin.new.pages c.begin.new.turns c.in_ok-begin.ensures.begun c.index_mut-page.result.now c.index_mut-page.ensures.value in
    on-err c.from_residual-in_err-widen.result
    (begun-next c.self.inside c.self.invariant c.self.view_is c.requires.at_end c.locate-number.result.0 c.locate-number.ensures.page_is
    c.begin.new.pages c.begin.new.turns c.in_ok-begin.ensures.begun (with_item c.begin.new.pages c.locate-number.result.0 c.widen.new.self) c.widen.new.self refl
    (c.widen.ensures.size ∙ ap (λ (page : PageList). page.size) read) (c.widen.ensures.spots ∙ ap (λ (page : PageList). page.spots) read)
    (c.widen.ensures.next ∙ ap (λ (page : PageList). page.next) read) (c.in_err-widen.ensures.same ∙ ap (λ (page : PageList). page.capacity) read))

pub invariant_of-self-2 : goal.invariant_of-self-2
invariant_of-self-2 c =
    let read = last-read c.self.inside c.self.invariant c.self.view_is c.requires.at_end c.locate-number.result.0 c.locate-number.ensures.page_is
    c.begin.new.pages c.begin.new.turns c.in_ok-begin.ensures.begun c.index_mut-page.result.now c.index_mut-page.ensures.value in
    pushed-records c.self.inside c.self.invariant c.self.view_is c.requires.at_end c.locate-number.result.0 c.locate-number.ensures.page_is
    c.begin.new.pages c.begin.new.turns c.in_ok-begin.ensures.begun (with_item c.begin.new.pages c.locate-number.result.0 c.put.new.self) c.widen.new.self c.put.new.self refl
    (c.widen.ensures.size ∙ ap (λ (page : PageList). page.size) read) (c.widen.ensures.spots ∙ ap (λ (page : PageList). page.spots) read)
    (c.widen.ensures.next ∙ ap (λ (page : PageList). page.next) read)
    (last-within c.self.inside c.self.invariant c.self.view_is c.requires.at_end c.locate-number.result.0 c.locate-number.ensures.page_is
    c.begin.new.pages c.begin.new.turns c.in_ok-begin.ensures.begun c.index_mut-page.result.now c.index_mut-page.ensures.value c.widen.new.self.capacity c.words_more.result
    c.widen.ensures.capacity c.words_more.ensures.most)
    (held c.args.value (words_of c.args.bytes.now)) tt
    (record { size_is = c.put.ensures.size; spots = c.put.ensures.spots; next = c.put.ensures.next; capacity = c.put.ensures.capacity }) (omega (arith, c.if-place-ge-MOST.false))

pub returns-clause-put : goal.returns-clause-put
returns-clause-put c =
    let read = last-read c.self.inside c.self.invariant c.self.view_is c.requires.at_end c.locate-number.result.0 c.locate-number.ensures.page_is
    c.begin.new.pages c.begin.new.turns c.in_ok-begin.ensures.begun c.index_mut-page.result.now c.index_mut-page.ensures.value in
    pushed-list c.self.inside c.self.invariant c.self.view_is c.requires.at_end c.locate-number.result.0 c.locate-number.ensures.page_is
    c.begin.new.pages c.begin.new.turns c.in_ok-begin.ensures.begun (with_item c.begin.new.pages c.locate-number.result.0 c.put.new.self) c.widen.new.self c.put.new.self refl
    (c.widen.ensures.size ∙ ap (λ (page : PageList). page.size) read) (c.widen.ensures.spots ∙ ap (λ (page : PageList). page.spots) read)
    (c.widen.ensures.next ∙ ap (λ (page : PageList). page.next) read)
    (last-within c.self.inside c.self.invariant c.self.view_is c.requires.at_end c.locate-number.result.0 c.locate-number.ensures.page_is
    c.begin.new.pages c.begin.new.turns c.in_ok-begin.ensures.begun c.index_mut-page.result.now c.index_mut-page.ensures.value c.widen.new.self.capacity c.words_more.result
    c.widen.ensures.capacity c.words_more.ensures.most)
    (held c.args.value (words_of c.args.bytes.now)) tt
    (record { size_is = c.put.ensures.size; spots = c.put.ensures.spots; next = c.put.ensures.next; capacity = c.put.ensures.capacity }) (omega (arith, c.if-place-ge-MOST.false))

pub returns-clause-place : goal.returns-clause-place
returns-clause-place c = end-next c.self.inside c.self.invariant c.self.view_is c.requires.at_end
