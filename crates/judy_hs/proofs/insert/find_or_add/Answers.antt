use Rattle.std.proofs.Common.{sym, ap, arith}
use Rattle.judy_hs.specs.Placed.{why_not}
use Rattle.judy_hs.proofs.HsLemmas.{is_key_of}
use Rattle.judy_hs.proofs.PlacedLemmas.{placed-there, placed-new, unplaced}
use Rattle.judy_hs.proofs.insert.find_or_add.Goals as goal

pub returns-in-Added-clause-placed : goal.returns-in-Added-clause-placed
returns-in-Added-clause-placed g c =
    let is_key = is_key_of g.H.ByteHash.LONGEST c.args.key.now (λ i. omega (arith, c.type_inv.key i)) c.requires.fits in
    let absent = rw c.part_of-part.ensures at c.in-Added.ensures.absent in
    let new = rw c.part_of-part.ensures at c.in-Added.ensures.place in
    let made = rw c.part_of-part.ensures at c.in-Added.ensures.added in
    placed-new g.H.ByteHash.hash_of g.H.ByteHash.LONGEST c.args.groups.now c.requires.kept c.args.key.now is_key absent c.in-Added.spot new c.try_add.new.self made

pub returns-in-Some-clause-placed : goal.returns-in-Some-clause-placed
returns-in-Some-clause-placed g c =
    let is_key = is_key_of g.H.ByteHash.LONGEST c.args.key.now (λ i. omega (arith, c.type_inv.key i)) c.requires.fits in
    let spot = rw (c.part_of-part.ensures, c.in-Open.ensures.unchanged) at c.in-Some.ensures in
    rw (c.in-Open.ensures.unchanged) (placed-there g.H.ByteHash.hash_of g.H.ByteHash.LONGEST c.args.groups.now c.requires.kept c.args.key.now is_key c.in-Some.spot spot)

pub returns-then-is_full-clause-refused : goal.returns-then-is_full-clause-refused
returns-then-is_full-clause-refused g c =
    let is_key = is_key_of g.H.ByteHash.LONGEST c.args.key.now (λ i. omega (arith, c.type_inv.key i)) c.requires.fits in
    let absent = rw (c.part_of-part.ensures, c.in-Open.ensures.unchanged) at c.in-None.ensures in
    unplaced g.H.ByteHash.hash_of g.H.ByteHash.LONGEST c.args.groups.now c.requires.kept c.args.key.now is_key absent c.try_add.new.self c.in-Open.ensures.unchanged c.args.is_full _
    (sym (ap why_not c.if-is_full.true))

pub returns-in-Ok-clause-placed : goal.returns-in-Ok-clause-placed
returns-in-Ok-clause-placed g c =
    let is_key = is_key_of g.H.ByteHash.LONGEST c.args.key.now (λ i. omega (arith, c.type_inv.key i)) c.requires.fits in
    let absent = rw (c.part_of-part.ensures, c.in-Open.ensures.unchanged) at c.in-None.ensures in
    let new = rw (c.part_of-part.ensures, c.in-Open.ensures.unchanged) at c.in-Ok.ensures.place in
    let made = rw (c.part_of-part.ensures, c.in-Open.ensures.unchanged) at c.in-Ok.ensures.added in
    placed-new g.H.ByteHash.hash_of g.H.ByteHash.LONGEST c.args.groups.now c.requires.kept c.args.key.now is_key absent c.in-Ok.spot new c.add.new.self made
