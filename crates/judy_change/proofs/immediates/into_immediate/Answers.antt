use Rattle.std.proofs.Common.{◌≢◌, ◌<◌, length, sym, ap, ◌∙◌, subst}
use Rattle.std.proofs.lemmas.Bool.{eqb-false}
use Rattle.judy_bits.specs.ByteSets.{place}
use Rattle.judy_leaf.specs.KeyLists.{KeyList, keys_of, with_pair}
use Rattle.judy_leaf.specs.Immediates.{imm_room}
use Rattle.judy_node.specs.Kinds.{imm_tree, tree_of}
use Rattle.judy_change.proofs.Added.{absent-find, more-added, not_full, child-told}
use Rattle.judy_change.proofs.immediates.into_immediate.Goals as goal

pub returns-in-Ok-clause-inserted : goal.returns-in-Ok-clause-inserted
returns-in-Ok-clause-inserted g c =
    let words = g.V.Words.WORDS in
    let old = imm_tree words c.args.head c.args.word in
    let seen = ap (λ l. l.pairs) c.imm_of-imm.ensures in
    let absent = absent-find (keys_of old.pairs) c.args.pair.key c.find.result (c.find.ensures ∙ ap (λ ps. place (keys_of ps) c.args.pair.key) seen) (sym c.is_some.ensures ∙ c.if-is_some.false) in
    more-added words c.args.width c.args.pair.key c.args.pair.value old c.requires.child absent c.requires.fits c.requires.no_value
    (with_pair c.args.pair.key c.args.pair.value c.imm_of-imm.result.pairs)
    (ap (with_pair c.args.pair.key c.args.pair.value) seen) (tree_of words c.in-Ok.leaf) c.in-Ok.ensures.built

pub insert_pair-requires-clause-room : goal.insert_pair-requires-clause-room
insert_pair-requires-clause-room g c =
    let words = g.V.Words.WORDS in
    let seen = c.imm_of-imm.ensures in
    let room = not_full words c.args.width c.args.head c.args.word c.requires.one c.requires.immediate c.requires.child
    (subst (λ (l : KeyList). length l.pairs ≢ imm_room words l.width) seen (eqb-false (length c.imm_of-imm.result.pairs) (imm_room words c.imm_of-imm.result.width)
    (sym c.is_full.ensures ∙ c.if-is_full.false))) in
    subst (λ (l : KeyList). length l.pairs < imm_room words l.width) (sym seen) room.1

pub returns-clause-child : goal.returns-clause-child
returns-clause-child g c =
    let words = g.V.Words.WORDS in
    let old = imm_tree words c.args.head c.args.word in
    let seen = ap (λ l. l.pairs) c.imm_of-imm.ensures in
    let absent = absent-find (keys_of old.pairs) c.args.pair.key c.find.result (c.find.ensures ∙ ap (λ ps. place (keys_of ps) c.args.pair.key) seen) (sym c.is_some.ensures ∙ c.if-is_some.false) in
    let made = c.keys_kind.ensures in
    let wide = made.width ∙ ap (λ l. l.width) c.insert_pair.ensures ∙ ap (λ l. l.width) c.imm_of-imm.ensures in
    child-told words c.args.width c.args.pair.key c.args.pair.value old c.keys_kind.result c.requires.child made.level (λ _. wide)
    (made.pairs ∙ ap (λ l. l.pairs) c.insert_pair.ensures ∙ ap (with_pair c.args.pair.key c.args.pair.value) seen) absent c.requires.fits c.requires.no_value
