use Rattle.std.proofs.Common.{◌∙◌, ap, sym, arith, ℕ, ◌<◌, subst, List, All}
use Rattle.std.specs.Option.{option_copied}
use Rattle.judy_sl.specs.Arenas.{world_of}
use Rattle.judy_sl.specs.Counted.{LeadsOn, keys_behind_all}
use Rattle.judy_sl.specs.Nth.{IsSpotIn, IsSpotOf}
use Rattle.judy_sl.proofs.lemmas.counts.LoneKeys.{level_keys, level_long, lone_spot}
use Rattle.judy_sl.proofs.lemmas.places.PageCounts.{entries_lead}
use Rattle.judy_sl.proofs.lemmas.places.NthFirsts.{before_first, before_fits, first_some, chosen_spot}
use Rattle.judy_sl.proofs.lemmas.places.NthReads.{spot_of, only_spot}
use Rattle.judy_sl.proofs.arena.Arena.spot_at.Goals as goal

pub entry_spot-requires-clause-within : goal.entry_spot-requires-clause-within
entry_spot-requires-clause-within c =
    let stands = c.requires.told in
    let all = level_keys c.requires.is_arena.is_world stands.seat c.args.level.now.map stands.is_level in
    omega (arith, all, stands.told, c.requires.within, c.from-keys.ensures, c.if-keys-entries.true, c.len-entries.ensures.count)

pub entry_spot-requires-clause-fits : goal.entry_spot-requires-clause-fits
entry_spot-requires-clause-fits c =
    let stands = c.requires.told in
    let all = level_keys c.requires.is_arena.is_world stands.seat c.args.level.now.map stands.is_level in
    omega (arith, all, stands.told, c.requires.within, c.ranges.keys.fits)

pub returns-then-keys-entries : goal.returns-then-keys-entries
returns-then-keys-entries c =
    let stands = c.requires.told in
    let alone = sym stands.told ∙ sym c.from-keys.ensures ∙ c.if-keys-entries.true ∙ c.len-entries.ensures.count in
    let spot = c.entry_spot.result in
    subst (λ left. IsSpotOf (world_of c.args.self.now) c.args.level.now.map c.args.place (record { piece = spot.piece; value = spot.value; place = left })) (sym c.entry_spot.ensures.place)
    (lone_spot c.requires.is_arena.is_world stands.seat c.args.level.now.map stands.is_level alone c.args.place spot.piece spot.value c.entry_spot.ensures.at c.entry_spot.ensures.held)

pub entry_spot-requires-then-entries-eq1-clause-within : goal.entry_spot-requires-then-entries-eq1-clause-within
entry_spot-requires-then-entries-eq1-clause-within c =
    let one = c.if-entries-eq1.true in
    let count = c.len-entries.ensures.count in
    omega arith

pub returns-then-entries-eq1 : goal.returns-then-entries-eq1
returns-then-entries-eq1 c =
    let one = sym c.len-entries.ensures.count ∙ c.if-entries-eq1.true in
    let spot = c.entry_spot-then-entries-eq1.result in
    subst (λ left. IsSpotOf (world_of c.args.self.now) c.args.level.now.map c.args.place (record { piece = spot.piece; value = spot.value; place = left }))
    (sym c.entry_spot-then-entries-eq1.ensures.place)
    (only_spot (world_of c.args.self.now) c.args.level.now.map c.args.place spot.piece spot.value one c.entry_spot-then-entries-eq1.ensures.at
    c.entry_spot-then-entries-eq1.ensures.held c.requires.within)

pub read_spot-requires-clause-leads : goal.read_spot-requires-clause-leads
read_spot-requires-clause-leads c =
    let stands = c.requires.told in
    subst (λ (all : List (ℕ × ℕ)). All (LeadsOn (world_of c.args.self.now)) all) (sym c.iter.ensures) (entries_lead c.requires.is_arena.is_world stands.seat c.args.level.now.map stands.is_level)

pub read_back-requires-clause-leads : goal.read_back-requires-clause-leads
read_back-requires-clause-leads c =
    let stands = c.requires.told in
    entries_lead c.requires.is_arena.is_world stands.seat c.args.level.now.map stands.is_level

pub read_spot-requires-clause-within : goal.read_spot-requires-clause-within
read_spot-requires-clause-within c = subst (λ (all : List (ℕ × ℕ)). c.args.place < keys_behind_all (world_of c.args.self.now) all) (sym c.iter.ensures) c.requires.within

pub read_back-requires-clause-all : goal.read_back-requires-clause-all
read_back-requires-clause-all c =
    let stands = c.requires.told in
    c.from-keys.ensures ∙ stands.told ∙ level_keys c.requires.is_arena.is_world stands.seat c.args.level.now.map stands.is_level

pub read_back-requires-clause-within : goal.read_back-requires-clause-within
read_back-requires-clause-within c =
    let stands = c.requires.told in
    let all = level_keys c.requires.is_arena.is_world stands.seat c.args.level.now.map stands.is_level in
    omega (arith, all, stands.told, c.requires.within, c.from-keys.ensures)

pub returns-then-place-keys : goal.returns-then-place-keys
returns-then-place-keys c =
    spot_of (world_of c.args.self.now) c.args.level.now.map c.args.place c.read_spot.result (subst (λ (all : List (ℕ × ℕ)). IsSpotIn
    (world_of c.args.self.now) all c.args.place c.read_spot.result) c.iter.ensures c.read_spot.ensures)

pub returns-else-place-keys : goal.returns-else-place-keys
returns-else-place-keys c = spot_of (world_of c.args.self.now) c.args.level.now.map c.args.place c.read_back.result c.read_back.ensures

-- ---- by the level's list

pub listed_spot-requires-clause-some : goal.listed_spot-requires-clause-some
listed_spot-requires-clause-some c =
    let world = c.requires.is_arena.is_world in
    let stands = c.requires.told in
    let words = c.args.level.now.map in
    let listed = c.requires.list c.in-Some.list.now (ap option_copied c.in-Some.is) in
    first_some world listed.0 words listed.1 c.in-Some.list.now listed.2 c.args.place (omega (arith, level_keys world listed.0 words listed.1, c.requires.within))

pub listed_spot-requires-clause-few : goal.listed_spot-requires-clause-few
listed_spot-requires-clause-few c =
    let stands = c.requires.told in
    omega (arith, level_long c.requires.is_arena.is_world stands.seat c.args.level.now.map stands.is_level, stands.told, c.ranges.keys.fits)

pub listed_spot-requires-clause-first : goal.listed_spot-requires-clause-first
listed_spot-requires-clause-first c =
    let world = c.requires.is_arena.is_world in
    let stands = c.requires.told in
    let words = c.args.level.now.map in
    let listed = c.requires.list c.in-Some.list.now (ap option_copied c.in-Some.is) in
    before_first world listed.0 words listed.1 c.in-Some.list.now listed.2
    (first_some world listed.0 words listed.1 c.in-Some.list.now listed.2 c.args.place (omega (arith, level_keys world listed.0 words listed.1, c.requires.within)))

pub listed_spot-requires-clause-fits : goal.listed_spot-requires-clause-fits
listed_spot-requires-clause-fits c =
    let world = c.requires.is_arena.is_world in
    let stands = c.requires.told in
    let words = c.args.level.now.map in
    let listed = c.requires.list c.in-Some.list.now (ap option_copied c.in-Some.is) in
    before_fits world listed.0 words listed.1 c.in-Some.list.now listed.2
    (omega (arith, level_keys world listed.0 words listed.1, level_keys world stands.seat words stands.is_level, stands.told, c.ranges.keys.fits))

pub returns-in-Some : goal.returns-in-Some
returns-in-Some c =
    let world = c.requires.is_arena.is_world in
    let stands = c.requires.told in
    let words = c.args.level.now.map in
    let listed = c.requires.list c.in-Some.list.now (ap option_copied c.in-Some.is) in
    let spot = c.listed_spot.result in
    let is = c.listed_spot.ensures in
    subst (λ left. IsSpotOf (world_of c.args.self.now) words c.args.place (record { piece = spot.piece; value = spot.value; place = left })) (sym is.left)
    (chosen_spot world listed.0 words listed.1 c.in-Some.list.now listed.2 c.args.place (omega (arith, level_keys world listed.0 words listed.1, c.requires.within)) is.mark is.chosen
    spot.piece spot.value is.at is.held)
