use Rattle.std.proofs.Common.{◌<◌, length, sym, subst, arith}
use Rattle.judy_query.specs.Walks.{IsScan}
use Rattle.judy_query.proofs.EndFacts.{start_fits, key_fits, bits_inside, bits_at}
use Rattle.judy_leaf.proofs.NextKeys.{key_there}
use Rattle.judy_query.proofs.scan.entry_on.Goals as goal

pub next_key-key-requires : goal.next_key-key-requires
next_key-key-requires g c =
    subst (λ n. n < length c.in-BitLeaf.list.pairs) (sym (subst (λ v. IsScan v c.args.at c.args.byte.now) c.in-BitLeaf.is c.requires.scan))
    (bits_inside g.V.Words.WORDS c.args.view.now c.in-BitLeaf.skipped c.in-BitLeaf.list c.in-BitLeaf.is c.requires.shown c.args.at c.requires.inside)

pub overflow_mul-result : goal.overflow_mul-result
overflow_mul-result g c =
    let fits = start_fits g.V.Words.WORDS c.args.view.now c.in-BitLeaf.skipped c.in-BitLeaf.list c.in-BitLeaf.is c.requires.shown in
    omega arith

pub overflow_add-result : goal.overflow_add-result
overflow_add-result g c =
    let fits = key_fits g.V.Words.WORDS c.args.view.now c.in-BitLeaf.skipped c.in-BitLeaf.list c.in-BitLeaf.is c.requires.shown c.next_key-key.result c.next_key-key.ensures.below in
    omega arith

pub value_at-requires : goal.value_at-requires
value_at-requires g c = bits_inside g.V.Words.WORDS c.args.view.now c.in-BitLeaf.skipped c.in-BitLeaf.list c.in-BitLeaf.is c.requires.shown c.args.at c.requires.inside

pub returns-clause-entry : goal.returns-clause-entry
returns-clause-entry g c =
    let words = g.V.Words.WORDS in
    let inside = bits_inside words c.args.view.now c.in-BitLeaf.skipped c.in-BitLeaf.list c.in-BitLeaf.is c.requires.shown c.args.at c.requires.inside in
    let place = subst (λ v. IsScan v c.args.at c.args.byte.now) c.in-BitLeaf.is c.requires.scan in
    bits_at words c.args.view.now c.in-BitLeaf.skipped c.in-BitLeaf.list c.in-BitLeaf.is c.requires.shown c.args.at c.next_key-key.result c.value_at.result inside
    (key_there c.in-BitLeaf.list.pairs c.args.at _ c.next_key-key.result place inside c.next_key-key.ensures.key) c.value_at.ensures
