use Rattle.std.proofs.Common.{true, false, refl, ◌∙◌, arith}
use Rattle.judy_hs.proofs.HsLemmas.{is_key_of}
use Rattle.judy_hs.proofs.RelaidLemmas.{relaid-keyed, relaid-value}
use Rattle.judy_hs.proofs.PlacedLemmas.{placed-new, unplaced, placed-on, unplaced-on}
use Rattle.judy_hs.proofs.insert.add_again.Goals as goal

pub returns-then-not-shrink-clause-refused : goal.returns-then-not-shrink-clause-refused
returns-then-not-shrink-clause-refused g c =
    let is_key = is_key_of g.H.ByteHash.LONGEST c.args.key.now (λ i. omega (arith, c.type_inv.key i)) c.requires.fits in
    let kept = relaid-keyed c.args.groups.now c.shrink.new.self c.shrink.ensures g.H.ByteHash.hash_of g.H.ByteHash.LONGEST c.requires.kept in
    let absent = relaid-value c.args.groups.now c.shrink.new.self c.shrink.ensures g.H.ByteHash.hash_of c.args.key.now ∙ c.requires.absent in
    unplaced-on g.H.ByteHash.hash_of g.H.ByteHash.LONGEST c.args.groups.now c.shrink.new.self c.shrink.ensures c.shrink.new.self c.args.key.now false _
    (unplaced g.H.ByteHash.hash_of g.H.ByteHash.LONGEST c.shrink.new.self kept c.args.key.now is_key absent c.shrink.new.self refl false _ refl)

pub returns-in-Ok-clause-placed : goal.returns-in-Ok-clause-placed
returns-in-Ok-clause-placed g c =
    let is_key = is_key_of g.H.ByteHash.LONGEST c.args.key.now (λ i. omega (arith, c.type_inv.key i)) c.requires.fits in
    let kept = relaid-keyed c.args.groups.now c.shrink.new.self c.shrink.ensures g.H.ByteHash.hash_of g.H.ByteHash.LONGEST c.requires.kept in
    let absent = relaid-value c.args.groups.now c.shrink.new.self c.shrink.ensures g.H.ByteHash.hash_of c.args.key.now ∙ c.requires.absent in
    let new = rw c.part_of-part.ensures at c.in-Ok.ensures.place in
    let made = rw c.part_of-part.ensures at c.in-Ok.ensures.added in
    placed-on g.H.ByteHash.hash_of g.H.ByteHash.LONGEST c.args.groups.now c.shrink.new.self c.shrink.ensures c.add.new.self c.args.key.now c.in-Ok.spot true
    (placed-new g.H.ByteHash.hash_of g.H.ByteHash.LONGEST c.shrink.new.self kept c.args.key.now is_key absent c.in-Ok.spot new c.add.new.self made)

pub returns-in-Err-clause-refused : goal.returns-in-Err-clause-refused
returns-in-Err-clause-refused g c =
    let is_key = is_key_of g.H.ByteHash.LONGEST c.args.key.now (λ i. omega (arith, c.type_inv.key i)) c.requires.fits in
    let kept = relaid-keyed c.args.groups.now c.shrink.new.self c.shrink.ensures g.H.ByteHash.hash_of g.H.ByteHash.LONGEST c.requires.kept in
    let absent = relaid-value c.args.groups.now c.shrink.new.self c.shrink.ensures g.H.ByteHash.hash_of c.args.key.now ∙ c.requires.absent in
    unplaced-on g.H.ByteHash.hash_of g.H.ByteHash.LONGEST c.args.groups.now c.shrink.new.self c.shrink.ensures c.add.new.self c.args.key.now false _
    (unplaced g.H.ByteHash.hash_of g.H.ByteHash.LONGEST c.shrink.new.self kept c.args.key.now is_key absent c.add.new.self c.in-Err.ensures.unchanged false _ refl)
