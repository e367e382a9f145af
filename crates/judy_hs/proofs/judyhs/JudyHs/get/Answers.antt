use Rattle.std.proofs.Common.{sym, ap, ◌∙◌, arith}
use Rattle.judy_hs.specs.Keyed.{in_keyed}
use Rattle.judy_hs.proofs.HsLemmas.{is_key_of, get_is, get_long}
use Rattle.judy_hs.proofs.judyhs.JudyHs.get.Goals as goal

pub returns-then-key-LONGEST : goal.returns-then-key-LONGEST
returns-then-key-LONGEST g c = rw (← c.self.view_is) (sym (get_long g.H.ByteHash.hash_of g.H.ByteHash.LONGEST c.self.inside.groups c.args.key.now (rw c.LONGEST.ensures at c.if-key-LONGEST.true)))

pub returns : goal.returns
returns g c =
    let is_key = is_key_of g.H.ByteHash.LONGEST c.args.key.now (λ i. omega (arith, c.type_inv.key i)) (rw c.LONGEST.ensures at c.if-key-LONGEST.false) in
    rw (← c.self.view_is) (
    c.get.ensures
    ∙ ap (λ part. in_keyed c.self.inside.groups part c.args.key.now) c.part_of.ensures
    ∙ sym (get_is g.H.ByteHash.hash_of g.H.ByteHash.LONGEST c.self.inside.groups c.args.key.now is_key)
    )
