use Rattle.std.proofs.Common.{◌≡◌, sym, ap, ◌∙◌}
use Rattle.judy_model.specs.Neighbours as neighbours
use Rattle.judy_model.specs.Counts as counts
use Rattle.judy_model.specs.CommandWords as command
use Rattle.judy_model.specs.Replies.{string_entry}
use Rattle.judy_model.specs.Commands.{entry_or_nothing}
use Rattle.judy_command.specs.Replies.{answer_of, checked}
use Rattle.judy_command.specs.KeyReads.{read_into}
use Rattle.judy_command.proofs.ScanLemmas.{first_found, next_found, last_found, prev_found, nth_found, Follows-found, Follows-nth}
use Rattle.judy_command.proofs.strings.strings_on_key.Goals as goal

pub returns-in_ok-read_string_key-in-First : goal.returns-in_ok-read_string_key-in-First
returns-in_ok-read_string_key-in-First c =
    let key = c.read_string_key.new.key.items in
    let map = c.args.strings.now.map in
    let said = sym c.read_string_key.ensures.said ∙ ap (λ r. read_into r key) c.in_ok-read_string_key-in-First.was in
    let is : answer_of c.entry_or_nothing.result ≡ entry_or_nothing string_entry map (neighbours.first map key) =
    c.entry_or_nothing.ensures ∙ rw (c.first.ensures.value, c.first.ensures.key) (first_found map key) in
    rw c.in-First.is (Follows-found command.first c.args.strings.now c.args.token.now key _ said is)

pub returns-in_ok-read_string_key-in-Next : goal.returns-in_ok-read_string_key-in-Next
returns-in_ok-read_string_key-in-Next c =
    let key = c.read_string_key-in-Next.new.key.items in
    let map = c.args.strings.now.map in
    let said = sym c.read_string_key-in-Next.ensures.said ∙ ap (λ r. read_into r key) c.in_ok-read_string_key-in-Next.was in
    let is : answer_of c.entry_or_nothing-in-Next.result ≡ entry_or_nothing string_entry map (neighbours.next map key) =
    c.entry_or_nothing-in-Next.ensures ∙ rw (c.next.ensures.value, c.next.ensures.key) (next_found map key) in
    rw c.in-Next.is (Follows-found command.next c.args.strings.now c.args.token.now key _ said is)

pub returns-in_ok-read_string_key-in-Last : goal.returns-in_ok-read_string_key-in-Last
returns-in_ok-read_string_key-in-Last c =
    let key = c.read_string_key-in-Last.new.key.items in
    let map = c.args.strings.now.map in
    let said = sym c.read_string_key-in-Last.ensures.said ∙ ap (λ r. read_into r key) c.in_ok-read_string_key-in-Last.was in
    let is : answer_of c.entry_or_nothing-in-Last.result ≡ entry_or_nothing string_entry map (neighbours.last map key) =
    c.entry_or_nothing-in-Last.ensures ∙ rw (c.last.ensures.value, c.last.ensures.key) (last_found map key) in
    rw c.in-Last.is (Follows-found command.last c.args.strings.now c.args.token.now key _ said is)

pub returns-in_ok-read_string_key-in-Prev : goal.returns-in_ok-read_string_key-in-Prev
returns-in_ok-read_string_key-in-Prev c =
    let key = c.read_string_key-in-Prev.new.key.items in
    let map = c.args.strings.now.map in
    let said = sym c.read_string_key-in-Prev.ensures.said ∙ ap (λ r. read_into r key) c.in_ok-read_string_key-in-Prev.was in
    let is : answer_of c.entry_or_nothing-in-Prev.result ≡ entry_or_nothing string_entry map (neighbours.prev map key) =
    c.entry_or_nothing-in-Prev.ensures ∙ rw (c.prev.ensures.value, c.prev.ensures.key) (prev_found map key) in
    rw c.in-Prev.is (Follows-found command.prev c.args.strings.now c.args.token.now key _ said is)

pub returns-in_ok-n-in-ByCount : goal.returns-in_ok-n-in-ByCount
returns-in_ok-n-in-ByCount c =
    let map = c.args.strings.now.map in
    let said = sym c.word.ensures.said ∙ ap checked c.in_ok-n-in-ByCount.was in
    let is : answer_of c.entry_or_nothing-in-ByCount.result ≡ entry_or_nothing string_entry map (counts.by_count map c.in_ok-n-in-ByCount.n) =
    c.entry_or_nothing-in-ByCount.ensures ∙ rw (c.by_count.ensures.value, c.by_count.ensures.key) (nth_found map c.args.key.now.items c.in_ok-n-in-ByCount.n) in
    rw c.in-ByCount.is (Follows-nth c.args.strings.now c.args.token.now c.in_ok-n-in-ByCount.n _ said is)
