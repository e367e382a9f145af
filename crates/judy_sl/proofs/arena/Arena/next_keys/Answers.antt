use Rattle.std.proofs.Common.{All, sym, ap, ◌∙◌, subst, length, arith}
use Rattle.std.proofs.lemmas.List.Elements.{All-take}
use Rattle.judy_sums.specs.Pairs.{Pairs}
use Rattle.judy_sl.specs.Arenas.{world_of}
use Rattle.judy_sl.specs.Counted.{LeadsOn, keys_behind_all}
use Rattle.judy_sl.proofs.lemmas.places.PageCounts.{page_full}
use Rattle.judy_sl.proofs.arena.Arena.next_keys.Goals as goal

pub page_keys-requires-clause-leads : goal.page_keys-requires-clause-leads
page_keys-requires-clause-leads c =
    let page = page_full c.args.entries.now c.args.page.now c.fill.new.out c.fill.result c.requires.there (omega (arith, c.fill.ensures.count, c.requires.there)) c.fill.auto.out c.fill.ensures.out in
    subst (λ (pairs : Pairs). All (LeadsOn (world_of c.args.self.now)) pairs) (sym page) (All-take (LeadsOn (world_of c.args.self.now)) (length c.args.page.now) c.args.entries.now c.requires.leads)

pub page_keys-requires-clause-fits : goal.page_keys-requires-clause-fits
page_keys-requires-clause-fits c =
    let page = page_full c.args.entries.now c.args.page.now c.fill.new.out c.fill.result c.requires.there (omega (arith, c.fill.ensures.count, c.requires.there)) c.fill.auto.out c.fill.ensures.out in
    omega (arith, ap (keys_behind_all (world_of c.args.self.now)) page, c.requires.fits)

pub returns-clause-page : goal.returns-clause-page
returns-clause-page c =
    page_full c.args.entries.now c.args.page.now c.fill.new.out c.fill.result c.requires.there (omega (arith, c.fill.ensures.count, c.requires.there)) c.fill.auto.out c.fill.ensures.out

pub returns-clause-keys : goal.returns-clause-keys
returns-clause-keys c =
    let page = page_full c.args.entries.now c.args.page.now c.fill.new.out c.fill.result c.requires.there (omega (arith, c.fill.ensures.count, c.requires.there)) c.fill.auto.out c.fill.ensures.out in
    c.page_keys.ensures ∙ ap (keys_behind_all (world_of c.args.self.now)) page
