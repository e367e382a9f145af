use Rattle.std.proofs.Common.{◌≡◌, true, false, is_some, refl, sym, subst, ◌∙◌, take}
use Rattle.std.proofs.lemmas.List.{take_rest}
use Rattle.judy_sl.specs.declared.arena.Arena.{Arena}
use Rattle.judy_sl.specs.Pieces.{pieces}
use Rattle.judy_sl.specs.World.{World, lookup}
use Rattle.judy_sl.specs.WorldInvariants.{AllLed}
use Rattle.judy_sl.specs.Arenas.{world_of, IsArena}
use Rattle.judy_sl.specs.Ways.{levels_passed}
use Rattle.judy_sl.specs.Shrunk.{place_without, IsLeft, IsCutWhere, IsShrunk}
use Rattle.judy_sl.specs.Listed.{AreLeft}
use Rattle.judy_sl.specs.Noted.{AreNoted, AreFirstPassed}
use Rattle.judy_sl.specs.Counted.{IsAmong, AreStepped, AreCountedBut}
use Rattle.judy_sl.proofs.lemmas.pieces.PieceLemmas.{text_of_key, pieces_are}
use Rattle.judy_sl.proofs.lemmas.counts.PassedLevels.{passed-few}
use Rattle.judy_sl.proofs.lemmas.inserts.Filled.{level-stands}
use Rattle.judy_sl.proofs.lemmas.removals.Shrinks.{cut-found, shrunk-last, shrunk-on, on-arena, on-is_orphan}
use Rattle.judy_sl.proofs.lemmas.counts.Stepping.{can-go, go-counted}
use Rattle.judy_sl.proofs.lemmas.counts.CountedKeys.{shrunk-counted}
use Rattle.judy_sl.proofs.lemmas.counts.CountedLost.{lost-stays, left-among, left-first, counted-lost, left-same}
use Rattle.judy_sl.proofs.lemmas.counts.WayLevels.{first-taken, first-few}
use Rattle.judy_sl.proofs.lemmas.counts.LedLevels.{stays_before}
use Rattle.judy_sl.proofs.lemmas.removals.Beside.{beside-left}
use Rattle.judy_sl.proofs.arena.Arena.remove.Given.{Over}
use Rattle.judy_sl.proofs.arena.Arena.remove.Goals.{After-noted, After-count_noted}
use Rattle.judy_sl.proofs.arena.Arena.remove.Goals as goal

-- ---- the key is counted out

-- The key is there,
there : (g : Over) (c : After-count_noted g) → is_some (lookup (world_of c.args.self.now) 0 (pieces c.args.key.now)) ≡ true
there g c = cut-found c.args.self.now c.requires.is_arena c.requires.led c.args.key.now c.in-Some.cut c.in-Some.ensures.cut.0

-- and these levels stay on its way: they are noted,
noted : (g : Over) (c : After-noted g) → AreNoted c.noted.result (take c.in-Some.cut.depth (levels_passed (world_of c.args.self.now) c.args.key.now))
noted g c =
    let world = world_of c.args.self.now in
    c.noted.ensures (take c.in-Some.cut.depth (levels_passed world c.args.key.now)) (first-few world c.args.key.now g.N.LevelNotes.most c.in-Some.cut.depth c.requires.few)
    (c.keep_first.ensures (levels_passed world c.args.key.now) (passed-few world c.args.key.now g.N.LevelNotes.most c.requires.few) (c.in-Some.ensures.passed refl))

-- and counted.
stepped : (g : Over) (c : After-count_noted g) → AreStepped false c.args.self.now c.count_noted.new.self (take c.in-Some.cut.depth (levels_passed (world_of c.args.self.now) c.args.key.now))
stepped g c =
    let world = world_of c.args.self.now in
    c.count_noted.ensures (take c.in-Some.cut.depth (levels_passed world c.args.key.now))
    (c.noted.ensures (take c.in-Some.cut.depth (levels_passed world c.args.key.now)) (first-few world c.args.key.now g.N.LevelNotes.most c.in-Some.cut.depth c.requires.few)
    (c.keep_first.ensures (levels_passed world c.args.key.now) (passed-few world c.args.key.now g.N.LevelNotes.most c.requires.few) (c.in-Some.ensures.passed refl)))
    (first-taken world c.args.key.now c.in-Some.cut.depth)

-- The way stays, and the key is cut off where it was found to be.
led : (g : Over) (c : After-count_noted g) → AllLed (world_of c.count_noted.new.self)
led g c = subst AllLed (sym (stepped g c).world) c.requires.led

cut : (g : Over) (c : After-count_noted g) → IsCutWhere (Unit {0}) (world_of c.count_noted.new.self) c.args.key.now c.in-Some.cut
cut g c = subst (λ (w : World). IsCutWhere (Unit {0}) w c.args.key.now c.in-Some.cut) (sym (stepped g c).world) c.in-Some.ensures.cut.0

counted : (g : Over) (c : After-count_noted g) →
    AreCountedBut c.count_noted.new.self (take c.in-Some.cut.depth (levels_passed (world_of c.count_noted.new.self) c.args.key.now))
counted g c =
    subst (λ (w : World). AreCountedBut c.count_noted.new.self (take c.in-Some.cut.depth (levels_passed w c.args.key.now))) (sym (stepped g c).world) (
    go-counted c.args.self.now c.requires.is_arena c.requires.counted c.args.key.now c.requires.is_key (there g c) c.in-Some.cut.depth c.count_noted.new.self (stepped g c))

pub count_noted-requires-clause-noted : goal.count_noted-requires-clause-noted
count_noted-requires-clause-noted g c = (
  take c.in-Some.cut.depth (levels_passed (world_of c.args.self.now) c.args.key.now),
  noted g (goal.at.count_noted-requires-clause-noted g c).After-noted,
  first-taken (world_of c.args.self.now) c.args.key.now c.in-Some.cut.depth,
  can-go c.args.self.now c.requires.is_arena c.requires.counted c.args.key.now c.requires.is_key
      (cut-found c.args.self.now c.requires.is_arena c.requires.led c.args.key.now c.in-Some.cut c.in-Some.ensures.cut.0) c.in-Some.cut.depth,
)

-- ---- and taken out

pub take_out-requires : goal.take_out-requires
take_out-requires g c =
    let is = cut g (goal.at.take_out-requires g c).After-count_noted in
    level-stands c.count_noted.new.self c.in-Some.cut.place is.map is.is_level

shrunk : (g : Over) (c : After-count_noted g) (after : Arena) → IsShrunk c.count_noted.new.self after c.args.key.now → IsShrunk c.args.self.now after c.args.key.now
shrunk g c after is = shrunk-counted c.args.self.now c.count_noted.new.self after c.args.key.now (stepped g c).world is

pub clear-requires-clause-is_arena : goal.clear-requires-clause-is_arena
clear-requires-clause-is_arena g c =
    let to = (goal.at.clear-requires-clause-is_arena g c).After-count_noted in
    on-arena c.count_noted.new.self (stepped g to).is_arena (led g to) c.args.key.now c.in-Some.cut (cut g to) c.take_out.new.self c.take_out.ensures c.in-Some-below.at c.in-Some-below.is

pub clear-requires-clause-loose : goal.clear-requires-clause-loose
clear-requires-clause-loose g c =
    let to = (goal.at.clear-requires-clause-loose g c).After-count_noted in
    rw take_rest (on-is_orphan c.count_noted.new.self (stepped g to).is_arena (led g to) c.args.key.now c.in-Some.cut
    (cut g to) c.take_out.new.self c.take_out.ensures c.in-Some-below.at c.in-Some-below.is)

pub returns-in-Some-below-clause-answer : goal.returns-in-Some-below-clause-answer
returns-in-Some-below-clause-answer g c = sym c.in-Some.ensures.cut.1

pub returns-in_default-below-clause-answer : goal.returns-in_default-below-clause-answer
returns-in_default-below-clause-answer g c = sym c.in-Some.ensures.cut.1

pub returns-in-Some-below-clause-shrunk : goal.returns-in-Some-below-clause-shrunk
returns-in-Some-below-clause-shrunk g c =
    let to = (goal.at.returns-in-Some-below-clause-shrunk g c).After-count_noted in
    shrunk g to c.clear.new.self (shrunk-on c.count_noted.new.self (stepped g to).is_arena (led g to) c.args.key.now c.in-Some.cut
    (cut g to) c.take_out.new.self c.take_out.ensures c.in-Some-below.at c.in-Some-below.is c.clear.new.self
    (pieces_are c.args.key.now (text_of_key c.args.key.now c.requires.is_key)) c.clear.ensures.cleared)

pub returns-in_default-below-clause-shrunk : goal.returns-in_default-below-clause-shrunk
returns-in_default-below-clause-shrunk g c =
    let to = (goal.at.returns-in_default-below-clause-shrunk g c).After-count_noted in
    shrunk g to c.take_out.new.self (shrunk-last c.count_noted.new.self (stepped g to).is_arena (led g to) c.args.key.now c.in-Some.cut
    (cut g to) c.take_out.new.self c.take_out.ensures c.in_default-below.is)

pub returns-in-Some-below-clause-counted : goal.returns-in-Some-below-clause-counted
returns-in-Some-below-clause-counted g c =
    let to = (goal.at.returns-in-Some-below-clause-counted g c).After-count_noted in
    counted-lost c.count_noted.new.self c.take_out.new.self c.clear.new.self (stepped g to).is_arena c.args.key.now c.requires.is_key c.in-Some.cut
    (cut g to) c.take_out.ensures c.clear.ensures.cleared.left (shrunk-on c.count_noted.new.self (stepped g to).is_arena (led g to) c.args.key.now c.in-Some.cut
    (cut g to) c.take_out.new.self c.take_out.ensures c.in-Some-below.at c.in-Some-below.is c.clear.new.self
    (pieces_are c.args.key.now (text_of_key c.args.key.now c.requires.is_key)) c.clear.ensures.cleared)
    (cut-found c.count_noted.new.self (stepped g to).is_arena (led g to) c.args.key.now c.in-Some.cut (cut g to)) (counted g to)

pub returns-in_default-below-clause-counted : goal.returns-in_default-below-clause-counted
returns-in_default-below-clause-counted g c =
    let to = (goal.at.returns-in_default-below-clause-counted g c).After-count_noted in
    counted-lost c.count_noted.new.self c.take_out.new.self c.take_out.new.self (stepped g to).is_arena c.args.key.now c.requires.is_key c.in-Some.cut
    (cut g to) c.take_out.ensures (left-same c.take_out.new.self) (shrunk-last c.count_noted.new.self (stepped g to).is_arena (led g to) c.args.key.now c.in-Some.cut
    (cut g to) c.take_out.new.self c.take_out.ensures c.in_default-below.is) (cut-found c.count_noted.new.self (stepped g to).is_arena
    (led g to) c.args.key.now c.in-Some.cut (cut g to)) (counted g to)

pub returns-in-Some-below-clause-beside : goal.returns-in-Some-below-clause-beside
returns-in-Some-below-clause-beside g c =
    let to = (goal.at.returns-in-Some-below-clause-beside g c).After-count_noted in
    c.is_below-beside.ensures ∙ beside-left c.count_noted.new.self c.take_out.new.self c.clear.new.self (stepped g to).is_arena c.args.key.now
    c.clear.ensures.cleared.left c.in-Some.cut (cut g to) c.take_out.ensures

pub returns-in_default-below-clause-beside : goal.returns-in_default-below-clause-beside
returns-in_default-below-clause-beside g c =
    let to = (goal.at.returns-in_default-below-clause-beside g c).After-count_noted in
    c.is_below-beside.ensures ∙ beside-left c.count_noted.new.self c.take_out.new.self c.take_out.new.self (stepped g to).is_arena c.args.key.now
    (left-same c.take_out.new.self) c.in-Some.cut (cut g to) c.take_out.ensures

-- ---- the levels that are left

left : (g : Over) (c : After-count_noted g) (mid after : Arena) → mid ≡ place_without c.count_noted.new.self c.in-Some.cut.place → IsLeft mid after → IsArena after →
    AreLeft c.args.self.now after c.args.key.now (take c.in-Some.cut.depth (levels_passed (world_of c.args.self.now) c.args.key.now))
left g c mid after mid_is is is_after =
    let same = (stepped g c).world in
    record {
      count = c.in-Some.cut.depth;
      are = refl;
      stays = stays_before false c.args.self.now c.count_noted.new.self after (take c.in-Some.cut.depth (levels_passed (world_of c.args.self.now) c.args.key.now)) (stepped g c)
          (lost-stays c.count_noted.new.self mid after (stepped g c).is_arena c.args.key.now c.requires.is_key c.in-Some.cut (cut g c) mid_is is);
      still = subst (λ (w : World). AreFirstPassed (world_of after) c.args.key.now (take c.in-Some.cut.depth (levels_passed w c.args.key.now))) same
          (left-first c.count_noted.new.self mid after (stepped g c).is_arena c.args.key.now c.requires.is_key c.in-Some.cut (cut g c) mid_is is is_after);
      among = λ at map front rest is_level inner way parts. subst (λ (w : World). IsAmong (take c.in-Some.cut.depth (levels_passed w c.args.key.now)) at) same
          (left-among c.count_noted.new.self mid after (stepped g c).is_arena c.args.key.now c.requires.is_key c.in-Some.cut (cut g c) mid_is is at map front rest is_level inner way parts);
    }

pub returns-in-Some-below-clause-left : goal.returns-in-Some-below-clause-left
returns-in-Some-below-clause-left g c = λ some.
    let to = (goal.at.returns-in-Some-below-clause-left g c).After-count_noted in
    let world = world_of c.args.self.now in (
      take c.in-Some.cut.depth (levels_passed world c.args.key.now),
      c.keep_first.ensures (levels_passed world c.args.key.now) (passed-few world c.args.key.now g.N.LevelNotes.most c.requires.few) (c.in-Some.ensures.passed refl),
      left g to c.take_out.new.self c.clear.new.self c.take_out.ensures c.clear.ensures.cleared.left c.clear.ensures.cleared.is_arena,
    )

pub returns-in_default-below-clause-left : goal.returns-in_default-below-clause-left
returns-in_default-below-clause-left g c = λ some.
    let to = (goal.at.returns-in_default-below-clause-left g c).After-count_noted in
    let world = world_of c.args.self.now in
    let shrunk = shrunk-last c.count_noted.new.self (stepped g to).is_arena (led g to) c.args.key.now c.in-Some.cut (cut g to) c.take_out.new.self c.take_out.ensures c.in_default-below.is in (
      take c.in-Some.cut.depth (levels_passed world c.args.key.now),
      c.keep_first.ensures (levels_passed world c.args.key.now) (passed-few world c.args.key.now g.N.LevelNotes.most c.requires.few) (c.in-Some.ensures.passed refl),
      left g to c.take_out.new.self c.take_out.new.self c.take_out.ensures (left-same c.take_out.new.self) shrunk.is_arena,
    )
