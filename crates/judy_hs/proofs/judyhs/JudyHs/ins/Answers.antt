use Rattle.judy_hs.proofs.HsLemmas.{ok_only, on_ok, if_ok, if_err}
use Rattle.judy_hs.proofs.PlacedLemmas.{placed-hs, placed-value, placed-accepted, written-hs, written-array}
use Rattle.judy_hs.proofs.judyhs.JudyHs.ins.Goals as goal

pub invariant_of-self-lent : goal.invariant_of-self-lent
invariant_of-self-lent g c =
    let placed = c.in_ok-placed.ensures.placed in
    let room = c.in_ok-placed.ensures.room in
    rw c.from.ensures (λ lent. (
      λ w. written-hs g.H.ByteHash.hash_of g.H.ByteHash.LONGEST c.self.inside.limit c.self.inside.count c.self.inside.groups c.self.invariant c.find_or_add.new.groups
          c.args.key.now c.in_ok-placed.placed.spot c.in_ok-placed.placed.is_new placed room w,
      placed-hs g.H.ByteHash.hash_of g.H.ByteHash.LONGEST c.self.inside.limit c.self.inside.count c.self.inside.groups c.self.invariant c.find_or_add.new.groups
          c.args.key.now c.in_ok-placed.placed.spot c.in_ok-placed.placed.is_new placed room,
    ))

pub returns : goal.returns
returns g c =
    let placed = c.in_ok-placed.ensures.placed in
    let room = c.in_ok-placed.ensures.room in
    rw (← c.self.view_is) (
      ok_only c.slot_of.result c.slot_of.ensures.present _ _ _ _ (written-array g.H.ByteHash.hash_of g.H.ByteHash.LONGEST c.self.inside.limit c.self.inside.count
          c.self.inside.groups c.self.invariant c.find_or_add.new.groups c.args.key.now c.in_ok-placed.placed.spot c.in_ok-placed.placed.is_new placed room),
      record {
        writes_back = tt;
        value =
            if_ok c.slot_of.result _ _ (λ slot. placed-value g.H.ByteHash.hash_of g.H.ByteHash.LONGEST c.self.inside.limit c.self.inside.count c.self.inside.groups
            c.self.invariant c.find_or_add.new.groups c.args.key.now c.in_ok-placed.placed.spot c.in_ok-placed.placed.is_new placed room slot.now) c.slot_of.ensures.value;
        fits = on_ok c.slot_of.result _ (rw c.LONGEST.ensures at c.if-key-LONGEST.false);
        accepted =
            on_ok c.slot_of.result _ (placed-accepted g.H.ByteHash.hash_of g.H.ByteHash.LONGEST c.self.inside.limit c.self.inside.count c.self.inside.groups
            c.self.invariant c.find_or_add.new.groups c.args.key.now c.in_ok-placed.placed.spot c.in_ok-placed.placed.is_new placed room);
        refused = if_err c.slot_of.result _ c.slot_of.ensures.present;
      },
    )
