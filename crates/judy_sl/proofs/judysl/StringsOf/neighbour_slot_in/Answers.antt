use Rattle.std.proofs.Common.{◌∙◌, sym, ap, inl, take}
use Rattle.judy_model.specs.Arrays.{ArrayOf}
use Rattle.judy_model.specs.Keys.{byte_order}
use Rattle.judy_sl.specs.Arenas.{map_of}
use Rattle.judy_sl.specs.Lends.{with_value}
use Rattle.judy_sl.proofs.lemmas.counts.FirstWays.{firsts_slot}
use Rattle.judy_sl.proofs.lemmas.counts.CountedWrites.{counted_written}
use Rattle.judy_sl.proofs.lemmas.seats.Keeping.{strings-written, array-written, value-place}
use Rattle.judy_sl.proofs.lemmas.scans.Fronts.{front-key}
use Rattle.judy_sl.proofs.lemmas.scans.ScanMaps.{value_there}
use Rattle.judy_sl.proofs.lemmas.counts.ListWrites.{listed_slot}
use Rattle.judy_sl.proofs.judysl.StringsOf.neighbour_slot_in.Goals as goal

pub invariant_of-self-lent : goal.invariant_of-self-lent
invariant_of-self-lent g c w =
    let at = c.in-Some.ensures.stands in
    let key = take c.nearest_in.new.len c.nearest_in.new.buffer in (
      strings-written _ _ _ c.self.invariant.0 key at.0 c.in-Some.found.place at.1 w,
      counted_written c.self.inside.arena c.self.invariant.0.is_arena key c.in-Some.found.place at.1 w c.self.invariant.1,
      firsts_slot _ _ _ c.self.invariant.0 key at.0 c.in-Some.found.place at.1 c.self.inside.firsts c.self.invariant.2 w,
      listed_slot _ _ _ c.self.invariant.0 key at.0 c.in-Some.found.place at.1 w c.self.inside.lists c.self.invariant.3,
    )

pub returns-in-Some : goal.returns-in-Some
returns-in-Some g c =
    let at = c.in-Some.ensures.stands in
    let key = take c.nearest_in.new.len c.nearest_in.new.buffer in (
      λ t. inl (c.lend.result.ghost_name, λ w. (array-written _ _ _ c.self.invariant.0 key at.0 c.in-Some.found.place at.1 w ∙ ap (λ (s : ArrayOf byte_order). with_value s key w) c.self.view_is) t),
      rw (← c.self.view_is) (record {
        writes_back = tt;
        key = c.in-Some.ensures.key;
        value = sym c.lend.ensures.value ∙ value-place _ _ _ c.self.invariant.0 key at.0 c.in-Some.found.place at.1
            ∙ value_there (map_of c.self.inside.arena) _ c.in-Some.found.value (take c.args.len.now c.args.buffer.now) key c.in-Some.ensures.value (front-key _ _ _ _ c.in-Some.ensures.key);
      }),
    )

pub nearest_in-requires-clause-room : goal.nearest_in-requires-clause-room
nearest_in-requires-clause-room g c = rw (← c.self.view_is) at c.requires.room
