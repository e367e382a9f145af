use Rattle.std.proofs.Common.{ap, arith}
use Rattle.std.specs.Option.{option_copied}
use Rattle.judy_sl.specs.Arenas.{world_of}
use Rattle.judy_sl.proofs.lemmas.counts.CountWays.{between_keys, rank_rises}
use Rattle.judy_sl.proofs.lemmas.counts.FirstSums.{list_keys_below}
use Rattle.judy_sl.proofs.lemmas.counts.LoneKeys.{level_keys}
use Rattle.judy_sl.proofs.lemmas.places.PageCounts.{rest_keys}
use Rattle.judy_sl.proofs.arena.Arena.keys_counted.Goals as goal

pub listed_below-before-requires : goal.listed_below-before-requires
listed_below-before-requires c =
    let stands = c.requires.told in
    let words = c.args.level.now.map in
    let listed = c.requires.list c.in-Some.list.now (ap option_copied c.in-Some.is) in
    let below = list_keys_below c.requires.is_arena.is_world listed.0 words listed.1 c.in-Some.list.now listed.2 c.args.low in
    let rest = rest_keys (world_of c.args.self.now) words c.args.low in
    let all = level_keys c.requires.is_arena.is_world stands.seat words stands.is_level in
    omega (arith, below, rest, all, stands.told, c.ranges.keys.fits)

pub listed_below-requires : goal.listed_below-requires
listed_below-requires c =
    let stands = c.requires.told in
    let words = c.args.level.now.map in
    let listed = c.requires.list c.in-Some.list.now (ap option_copied c.in-Some.is) in
    let below = list_keys_below c.requires.is_arena.is_world listed.0 words listed.1 c.in-Some.list.now listed.2 c.args.high in
    let rest = rest_keys (world_of c.args.self.now) words c.args.high in
    let all = level_keys c.requires.is_arena.is_world stands.seat words stands.is_level in
    omega (arith, below, rest, all, stands.told, c.ranges.keys.fits)

pub overflow_sub-result : goal.overflow_sub-result
overflow_sub-result c =
    let words = c.args.level.now.map in
    let listed = c.requires.list c.in-Some.list.now (ap option_copied c.in-Some.is) in
    let low = list_keys_below c.requires.is_arena.is_world listed.0 words listed.1 c.in-Some.list.now listed.2 c.args.low in
    let high = list_keys_below c.requires.is_arena.is_world listed.0 words listed.1 c.in-Some.list.now listed.2 c.args.high in
    let between = between_keys (world_of c.args.self.now) words c.args.low c.args.high (rank_rises words c.args.low c.args.high c.requires.rising) in
    omega (arith, low, high, between, c.listed_below-before.ensures, c.listed_below.ensures)

pub returns : goal.returns
returns c =
    let words = c.args.level.now.map in
    let listed = c.requires.list c.in-Some.list.now (ap option_copied c.in-Some.is) in
    let low = list_keys_below c.requires.is_arena.is_world listed.0 words listed.1 c.in-Some.list.now listed.2 c.args.low in
    let high = list_keys_below c.requires.is_arena.is_world listed.0 words listed.1 c.in-Some.list.now listed.2 c.args.high in
    let between = between_keys (world_of c.args.self.now) words c.args.low c.args.high (rank_rises words c.args.low c.args.high c.requires.rising) in
    omega (arith, low, high, between, c.listed_below-before.ensures, c.listed_below.ensures)
