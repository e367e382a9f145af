use Rattle.std.proofs.Common.{◌≡◌, ℕ, length, ap, subst, ◌∙◌, arith}
use Rattle.std.specs.FinMap.{FinMap}
use Rattle.judy_model.specs.Keys.{byte_order}
use Rattle.judy_sl.specs.Arenas.{IsStrings}
use Rattle.judy_sl.proofs.lemmas.made.PlantedKeys.{planted-new, planted-none, strings-planted, counted-planted, firsts-planted, map-planted}
use Rattle.judy_sl.proofs.judysl.StringsOf.of_openers.Goals as goal

pub plant_all-requires-clause-planted : goal.plant_all-requires-clause-planted
plant_all-requires-clause-planted g c = planted-new c.new-arena.result c.new-arena.ensures.levels c.new-arena.ensures.tails c.new-arena.ensures.root

pub plant_all-requires-clause-empty : goal.plant_all-requires-clause-empty
plant_all-requires-clause-empty g c = planted-none c.new-arena.result c.new-arena.ensures.levels c.new-arena.ensures.tails c.new-arena.ensures.root

pub of-requires-clause-strings : goal.of-requires-clause-strings
of-requires-clause-strings g c =
    let entries = c.in_ok-entries.entries.items in
    let longest = c.in_ok-entries.longest in
    let told = c.len.ensures in
    let few = c.in_ok-entries.ensures.few in
    let within = c.requires.few in
    let count : length entries ≡ c.len.result = omega arith in
    subst (λ n. IsStrings g.L.KeyLength.LONGEST longest c.args.limit n (record c.plant_all.new.arena { root = c.in-Ok.root })) count
    (strings-planted c.plant_all.new.arena entries c.in_ok-entries.ensures.planted c.in-Ok.root c.in-Ok.ensures.limit
    (c.in-Ok.ensures.pairs ∙ c.deref.ensures.value) g.L.KeyLength.LONGEST longest c.args.limit c.in_ok-entries.ensures.within c.in_ok-entries.ensures.most
    c.requires.some c.requires.most (omega (arith, few, within)))

pub of-requires-clause-counted : goal.of-requires-clause-counted
of-requires-clause-counted g c =
    counted-planted c.plant_all.new.arena c.in_ok-entries.entries.items c.in_ok-entries.ensures.planted c.in-Ok.root c.in-Ok.ensures.limit (c.in-Ok.ensures.pairs ∙ c.deref.ensures.value)

pub of-requires-clause-firsts : goal.of-requires-clause-firsts
of-requires-clause-firsts g c =
    firsts-planted c.plant_all.new.arena c.in_ok-entries.entries.items c.in_ok-entries.ensures.planted c.in-Ok.root c.in-Ok.ensures.limit (c.in-Ok.ensures.pairs ∙ c.deref.ensures.value)

pub returns : goal.returns
returns g c =
    let made = map-planted c.plant_all.new.arena c.in_ok-entries.entries.items c.in_ok-entries.ensures.planted c.in-Ok.root c.in-Ok.ensures.limit (c.in-Ok.ensures.pairs ∙ c.deref.ensures.value) in
    c.of.ensures ∙ ap (λ (map : FinMap byte_order ℕ). record { limit = c.args.limit; map = map }) (made ∙ c.in_ok-entries.ensures.map)
