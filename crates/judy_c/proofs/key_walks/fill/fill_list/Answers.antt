-- `fill_list`: each turn writes the pair of the next entry; where there is none, or no room for it, those that fit are written.
use Rattle.std.proofs.Common.{◌≡◌, ◌+◌, ◌-◌, true, false, nat_le, ◌∷◌, length, drop, sym, ap, subst, ◌∙◌}
use Rattle.std.proofs.lemmas.Bool.{ltb-true, ltb-false}
use Rattle.judy_hs.specs.Listed.{entries_in, key_bytes}
use Rattle.judy_c.specs.KeyWalks.{Pairs, page_of, fitting}
use Rattle.judy_c.proofs.PageLemmas.{IsSoFar, so_far_all, so_far_more, fitting_none, fitting_long}
use Rattle.judy_c.proofs.PairLemmas.{entries_some, entries_none}
use Rattle.judy_c.proofs.key_walks.fill.fill_list.Goals as goal

pub loop-count-preserved : goal.loop-count-preserved
loop-count-preserved c =
    let entry = c.in-Some.entry.now in
    let list = entries_in c.args.list.now in
    let before = page_of c.args.bytes.now c.args.entries.now in
    let now = page_of c.loop-count.bytes c.loop-count.entries in
    let text = c.bytes-key.ensures in
    let found = entries_some c.args.list.now c.loop-count.count entry (ltb-true c.loop-count.count (length c.args.list.now) (sym c.in-Some.ensures.lookup.0)) c.in-Some.ensures.lookup.1 in
    let so : IsSoFar list before c.loop-count.used c.loop-count.count ((key_bytes entry.key, entry.value) ∷ drop (c.loop-count.count + 1) list) now = subst
    (λ (rest : Pairs). IsSoFar list before c.loop-count.used c.loop-count.count rest now) found c.loop-count.invariant in
    let fits : nat_le (length (key_bytes entry.key)) (length c.loop-count.bytes - c.loop-count.used) ≡
    true = ap (λ t. nat_le (length t) (length c.loop-count.bytes - c.loop-count.used)) (sym text) ∙ sym c.copy_key.ensures.fits ∙ c.if-not-copy_key.false in
    let taken = c.copy_key.ensures.copied c.if-not-copy_key.false in
    let dropped = c.copy_key.ensures.behind c.if-not-copy_key.false in
    rw text
    (so_far_more list before c.loop-count.used c.loop-count.count (key_bytes entry.key, entry.value) (drop (c.loop-count.count + 1) list) now so fits c.loop-count-test.true c.copy_key.new.bytes
    (rw (sym text) taken) (rw (sym text) dropped) c.copy_key.ensures.len)

pub returns-in_default : goal.returns-in_default
returns-in_default c =
    let list = entries_in c.args.list.now in
    let none = entries_none c.args.list.now c.loop-count.count (ltb-false c.loop-count.count (length c.args.list.now) (sym c.in_default.ensures.lookup.0)) in
    so_far_all list (page_of c.args.bytes.now c.args.entries.now) c.loop-count.used c.loop-count.count (drop c.loop-count.count list)
    (page_of c.loop-count.bytes c.loop-count.entries) c.loop-count.invariant
    (ap (fitting (length c.args.bytes.now - c.loop-count.used) (length c.args.entries.now - c.loop-count.count)) none ∙
    fitting_none (length c.args.bytes.now - c.loop-count.used) (length c.args.entries.now - c.loop-count.count))

pub returns-then-not-copy_key : goal.returns-then-not-copy_key
returns-then-not-copy_key c =
    let entry = c.in-Some.entry.now in
    let list = entries_in c.args.list.now in
    let found = entries_some c.args.list.now c.loop-count.count entry (ltb-true c.loop-count.count (length c.args.list.now) (sym c.in-Some.ensures.lookup.0)) c.in-Some.ensures.lookup.1 in
    let stays = c.copy_key.ensures.stays c.if-not-copy_key.true in
    let room = length c.args.bytes.now - c.loop-count.used in
    let few = length c.args.entries.now - c.loop-count.count in
    let long : nat_le (length (key_bytes entry.key)) room ≡ false = (λ t. nat_le (length (sym c.bytes-key.ensures t)) (sym c.loop-count.auto.bytes t - c.loop-count.used)) ∙
    sym c.copy_key.ensures.fits ∙ c.if-not-copy_key.true in
    rw stays
    (so_far_all list (page_of c.args.bytes.now c.args.entries.now) c.loop-count.used c.loop-count.count (drop c.loop-count.count list)
    (page_of c.loop-count.bytes c.loop-count.entries) c.loop-count.invariant
    (ap (fitting room few) found ∙ fitting_long room few (key_bytes entry.key, entry.value) (drop (c.loop-count.count + 1) list) long))
