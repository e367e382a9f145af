use Rattle.std.proofs.Common.{◌≤◌, false, true≢false, ℕ, List, length, Some, sym, subst, refl}
use Rattle.judy_sl.specs.declared.arena.Arena.{Arena}
use Rattle.judy_sl.specs.Pieces.{pieces}
use Rattle.judy_sl.specs.Arenas.{world_of}
use Rattle.judy_sl.specs.Counted.{IsAmong}
use Rattle.judy_sl.specs.Grown.{IsChange}
use Rattle.judy_sl.specs.Listed.{AreListed, AreListedBut}
use Rattle.judy_sl.proofs.lemmas.counts.WayLevels.{first-few}
use Rattle.judy_sl.proofs.lemmas.counts.ListLost.{lost_but}
use Rattle.judy_sl.proofs.firsts.remove_noted.Goals as goal

pub list_noted-requires-clause-noted : goal.list_noted-requires-clause-noted
list_noted-requires-clause-noted g c =
    let noted = c.in_ok-value.ensures.left refl in
    let left = noted.2 in
    let shrunk = c.in_ok-value.ensures.shrunk in
    let back : IsChange (world_of c.remove_first.new.arena) (world_of c.args.arena.now) (pieces c.args.key.now) (Some c.in_ok-value.value) =
    record { at_key = sym c.in_ok-value.ensures.answer; elsewhere = λ ps are ne. sym (shrunk.change.elsewhere ps are ne) } in
    let few = subst (λ (places : List ℕ). length places ≤ g.N.LevelNotes.most) (sym left.are)
    (first-few (world_of c.args.arena.now) c.args.key.now g.N.LevelNotes.most left.count c.requires.few) in (
      noted.0,
      c.noted.ensures noted.0 few noted.1,
      left.still,
      subst (λ (places : List ℕ). AreListedBut false c.remove_first.new.arena c.args.lists.now places c.args.key.now) (sym left.are)
          (lost_but c.args.arena.now c.remove_first.new.arena c.requires.kept.is_arena shrunk.is_arena c.requires.kept.led shrunk.led c.args.key.now c.requires.is_key
          c.in_ok-value.value back shrunk.change.at_key left.stays c.args.lists.now c.requires.listed left.count
          (λ at map front rest is_level inner way parts. subst (λ (places : List ℕ). IsAmong places at) left.are (left.among at map front rest is_level inner way parts))),
      -- Which list is raised is asked only where a key comes in.
      λ comes. absurd (true≢false (sym comes)),
    )

pub list_noted-requires-clause-is_arena : goal.list_noted-requires-clause-is_arena
list_noted-requires-clause-is_arena g c = c.in_ok-value.ensures.shrunk.is_arena

pub returns-in_err-value-clause-listed : goal.returns-in_err-value-clause-listed
returns-in_err-value-clause-listed g c =
    subst (λ (arena : Arena). AreListed (world_of arena) c.args.lists.now) (sym (c.in_err-value.ensures.unchanged refl)) c.requires.listed
