use Rattle.std.proofs.Common.{◌≡◌, ◌-◌, ◌≤◌, ◌∙◌, length, drop, sym, ap, subst, ⊎_elim, arith}
use Rattle.std.proofs.lemmas.List.{drop-map, length-drop, take_all}
use Rattle.judy_hs.specs.Listed.{entries_in, key_bytes}
use Rattle.judy_c.specs.KeyWalks.{Pairs, IsFilled, page_of}
use Rattle.judy_c.proofs.PageLemmas.{nothing_fits}
use Rattle.judy_c.proofs.PairLemmas.{entries_none}
use Rattle.judy_c.proofs.key_walks.fill.fill_behind.Goals as goal

pub returns-in-Some : goal.returns-in-Some
returns-in-Some c =
    let list = c.args.list.now in
    let size = length-drop c.args.behind list in
    let is : c.in-Some.rest.now ≡ drop c.args.behind list = c.in-Some.ensures.lookup.0.2 ∙ take_all (length list - c.args.behind) (drop c.args.behind list) (omega (arith, size)) in
    let same : entries_in c.in-Some.rest.now ≡ drop c.args.behind (entries_in list) = ap entries_in is ∙ sym (drop-map (λ entry. (key_bytes entry.key, entry.value)) c.args.behind list) in
    subst (λ (pairs : Pairs). IsFilled pairs (page_of c.args.bytes.now c.args.entries.now) c.fill_list.result (page_of c.fill_list.new.bytes c.fill_list.new.entries)) same c.fill_list.ensures

pub returns-in-None : goal.returns-in-None
returns-in-None c =
    let past : length c.args.list.now ≤ c.args.behind = ⊎_elim (λ less. omega (arith, less)) (λ less. absurd (omega (arith, less))) c.in-None.ensures.lookup.0 in
    nothing_fits (drop c.args.behind (entries_in c.args.list.now)) (page_of c.args.bytes.now c.args.entries.now) (entries_none c.args.list.now c.args.behind past)
