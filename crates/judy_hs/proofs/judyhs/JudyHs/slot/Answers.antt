use Rattle.std.proofs.Common.{refl, sym, ◌∙◌}
use Rattle.std.specs.Option.{ghost_name_of}
use borrow.Follows.Closed.{read_of}
use Rattle.judy_hs.specs.Kept.{array_of}
use Rattle.judy_hs.proofs.HsLemmas.{spot-value, array-written, IsHs-written}
use Rattle.judy_hs.proofs.judyhs.JudyHs.slot.Goals as goal

pub invariant_of-self-lent : goal.invariant_of-self-lent
invariant_of-self-lent g c =
    let found = c.in-Some.ensures in
    λ lent. (
      λ w. IsHs-written g.H.ByteHash.hash_of g.H.ByteHash.LONGEST c.self.inside.limit c.self.inside.count c.self.inside.groups c.self.invariant c.args.key.now
          found.is_key c.in-Some.spot.group c.in-Some.spot.inside found.is_spot w,
      c.self.invariant,
    )

pub returns-in-Some : goal.returns-in-Some
returns-in-Some g c =
    let found = c.in-Some.ensures in
    rw (← c.self.view_is) (
      λ t. read_of (ghost_name_of c.slot.result)
          (λ w. array-written g.H.ByteHash.hash_of g.H.ByteHash.LONGEST c.self.inside.limit c.self.inside.count c.self.inside.groups c.self.invariant c.args.key.now
          found.is_key c.in-Some.spot.group c.in-Some.spot.inside found.is_spot w t)
          (array_of g.H.ByteHash.hash_of g.H.ByteHash.LONGEST c.self.inside.limit c.self.inside.groups),
      record {
        writes_back = tt;
        value =
            c.slot.ensures.value ∙ sym (spot-value g.H.ByteHash.hash_of g.H.ByteHash.LONGEST c.self.inside.groups c.args.key.now found.is_key c.in-Some.spot.group c.in-Some.spot.inside found.is_spot);
      },
    )

pub returns-in-None : goal.returns-in-None
returns-in-None g c = rw (← c.self.view_is) (refl, record { writes_back = tt; value = sym c.in-None.ensures })
