use Rattle.std.proofs.Common.{ℕ, List, [], ◌∷◌, ◌+◌, length, sym, ap, subst, ◌∙◌, arith}
use Rattle.std.proofs.lemmas.List.{length-append}
use Rattle.judy_model.specs.Keys.{word_order}
use Rattle.judy_model.specs.Arrays.{ArrayOf}
use Rattle.judy_sl.specs.declared.arena.Arena.{Arena}
use Rattle.judy_sl.specs.Pieces.{pieces}
use Rattle.judy_sl.specs.Ways.{left_of}
use Rattle.judy_sl.specs.Children.{IsTaken}
use Rattle.judy_sl.specs.Arenas.{child_at}
use Rattle.judy_sl.specs.Branches.{AreSingle}
use Rattle.judy_sl.specs.Shrunk.{IsVacated}
use Rattle.judy_sl.proofs.lemmas.inserts.Hangs.{stands-start, stands-put, stands-taken, stands-value, taken-led, room-less}
use Rattle.judy_sl.proofs.lemmas.inserts.Grafted.{IsGrafting, grafting-start, grafting-up, singles-front, single-contains, no-items}
use Rattle.judy_sl.proofs.lemmas.inserts.GraftedEntry.{grafted}
use Rattle.judy_sl.proofs.arena.Arena.graft.Goals as goal

pub loop-piece-init : goal.loop-piece-init
loop-piece-init c = record {
  room = c.requires.room;
  stands = stands-start c.args.self.now;
  singles = c.requires.singles;
  grafting = λ before key left made graft hung. grafting-start before c.args.self.now key c.args.from c.args.at left made c.args.branch graft hung;
}

pub link-requires : goal.link-requires
link-requires c =
    single-contains c.in-Some.piece c.in-Some.above (singles-front c.pop.new.self.items c.in-Some.piece c.in-Some.above (subst AreSingle c.in-Some.ensures.items c.loop-piece.invariant.singles)).1

pub loop-piece-preserved : goal.loop-piece-preserved
loop-piece-preserved c =
    let items = c.in-Some.ensures.items in
    let single = singles-front c.pop.new.self.items c.in-Some.piece c.in-Some.above (subst AreSingle items c.loop-piece.invariant.singles) in
    let l = ap (λ (xs : List (ℕ × ArrayOf word_order)). length xs) items in
    let a = length-append c.pop.new.self.items ((c.in-Some.piece, c.in-Some.above) ∷ []) in
    record {
      room =
          c.put_level-place.ensures.room (length c.pop.new.self.items + 1) (room-less c.loop-piece.self (length c.loop-piece.upper.items + 1)
          (length c.pop.new.self.items + 1 + 1) (omega (arith, l, a)) c.loop-piece.invariant.room);
      stands = stands-put c.args.self.now c.loop-piece.self c.put_level-place.new.self _ c.put_level-place.result c.loop-piece.invariant.stands c.put_level-place.ensures.put;
      singles = single.0;
      grafting =
          λ before key left made graft hung. grafting-up before c.loop-piece.self c.put_level-place.new.self _ _ _ _ c.loop-piece.upper.items c.pop.new.self.items
          c.loop-piece.level c.in-Some.above c.link.new.level c.in-Some.piece c.put_level-place.result
          (c.loop-piece.invariant.grafting before key left made graft hung) items single.1 c.put_level-place.ensures.put c.link.ensures;
    }

pub lead-requires : goal.lead-requires
lead-requires c =
    let top = c.put_level-place-2.new.self in
    let stands = stands-put c.args.self.now c.loop-piece.self top _ c.put_level-place-2.result c.loop-piece.invariant.stands c.put_level-place-2.ensures.put in
    stands-value c.args.self.now top c.args.from stands c.requires.entry

pub vacate-requires : goal.vacate-requires
vacate-requires c =
    let top = c.put_level-place-2.new.self in
    let stands = stands-put c.args.self.now c.loop-piece.self top _ c.put_level-place-2.result c.loop-piece.invariant.stands c.put_level-place-2.ensures.put in
    record {
      taken = subst (λ (arena : Arena). IsTaken (child_at arena c.args.at)) (sym c.lead.ensures) (
          taken-led top c.args.from c.put_level-place-2.result c.args.at (stands-value c.args.self.now top c.args.from stands c.requires.entry)
          (stands-taken c.args.self.now top c.args.at stands c.requires.taken));
    }

pub returns : goal.returns
returns c = λ before key left made graft hung.
    let nothing = no-items c.loop-piece.upper.items (sym c.loop-piece.upper.ok.0 ∙ c.in_default.ensures.cases.0) in
    grafted before c.loop-piece.self c.put_level-place-2.new.self c.vacate.new.self key c.args.from c.args.at left made graft c.loop-piece.level
    (subst (λ upper. IsGrafting before c.loop-piece.self graft.clash.leads.front graft.clash.held (pieces (left_of key left)) graft.clash.value upper c.loop-piece.level) nothing
    (c.loop-piece.invariant.grafting before key left made graft hung))
    c.put_level-place-2.result c.put_level-place-2.ensures.put (subst (λ (arena : Arena). IsVacated arena c.vacate.new.self c.args.at) c.lead.ensures c.vacate.ensures.vacated)
