use Rattle.std.proofs.Common.{IsSome, IfSome, Option, subst, sym}
use Rattle.judy_model.specs.Keys.{word_order}
use Rattle.judy_model.specs.Arrays.{ArrayOf}
use Rattle.judy_hs.specs.Kept.{map_of}
use Rattle.judy_hs.specs.InnerForm.{IsShortGroup, IsLongGroup}
use Rattle.judy_hs.proofs.InnerLemmas.{group-there, group-short, group-long, some_copied, if_copied}
use Rattle.judy_hs.proofs.judyhs.JudyHs.group_map.Goals as goal

pub returns-clause-there : goal.returns-clause-there
returns-clause-there g c =
    let there = group-there g.H.ByteHash.hash_of g.H.ByteHash.LONGEST c.self.inside.groups c.self.invariant.is_keyed c.args.n in
    rw (← c.self.view_is) (
      λ e. there.0 (subst (λ (o : Option (ArrayOf word_order)). IsSome o) c.group.ensures ((some_copied c.group.result).1 e)),
      λ found. (some_copied c.group.result).0 (subst (λ (o : Option (ArrayOf word_order)). IsSome o) (sym c.group.ensures) (there.1 found)),
    )

pub returns-clause-short : goal.returns-clause-short
returns-clause-short g c = rw (← c.self.view_is) (λ few.
    if_copied c.group.result (λ (group : ArrayOf word_order). IsShortGroup (map_of g.H.ByteHash.hash_of g.H.ByteHash.LONGEST c.self.inside.groups) c.args.n group.map)
    (subst (λ (o : Option (ArrayOf word_order)). IfSome o (λ group. IsShortGroup (map_of g.H.ByteHash.hash_of g.H.ByteHash.LONGEST c.self.inside.groups) c.args.n group.map))
    (sym c.group.ensures) (group-short g.H.ByteHash.hash_of g.H.ByteHash.LONGEST c.self.inside.groups c.self.invariant.is_keyed c.args.n few)))

pub returns-clause-long : goal.returns-clause-long
returns-clause-long g c = rw (← c.self.view_is) (λ many.
    if_copied c.group.result (λ (group : ArrayOf word_order). IsLongGroup g.H.ByteHash.hash_of (map_of g.H.ByteHash.hash_of g.H.ByteHash.LONGEST c.self.inside.groups) c.args.n group.map)
    (subst (λ (o : Option (ArrayOf word_order)). IfSome o (λ group. IsLongGroup g.H.ByteHash.hash_of
    (map_of g.H.ByteHash.hash_of g.H.ByteHash.LONGEST c.self.inside.groups) c.args.n group.map)) (sym c.group.ensures)
    (group-long g.H.ByteHash.hash_of g.H.ByteHash.LONGEST c.self.inside.groups c.self.invariant.is_keyed c.args.n many)))
