use Rattle.std.proofs.Common.{◌≡◌, ◌++◌, length, ap, sym, ◌∙◌, arith}
use Rattle.judy_leaf.specs.KeyLists.{values_of}
use Rattle.judy_leaf.proofs.Appended.{length-values, put_with_values, put_keys_alone}
use Rattle.judy_leaf.proofs.pairs.put_all.Goals as goal

pub append-requires-clause-front : goal.append-requires-clause-front
append-requires-clause-front g c = let none = ap length c.requires.empty in omega arith

pub append-requires-then-WORDS-eq1-clause-behind : goal.append-requires-then-WORDS-eq1-clause-behind
append-requires-then-WORDS-eq1-clause-behind g c =
    ap (λ b. length b.words) c.append.ensures ∙ ap (λ words. length (words ++ values_of c.args.pairs.now)) c.requires.empty ∙ length-values c.args.pairs.now

pub returns-then-WORDS-eq1 : goal.returns-then-WORDS-eq1
returns-then-WORDS-eq1 g c =
    let done = put_with_values g.V.Words.WORDS c.args.width c.args.pairs.now c.append.new.block c.append-then-WORDS-eq1.new.block (sym c.WORDS.ensures ∙ c.if-WORDS-eq1.true)
    (ap (λ b. b.tag) c.append.ensures ∙ c.requires.tag) (ap (λ b. b.words) c.append.ensures ∙ ap (λ words. words ++ values_of c.args.pairs.now) c.requires.empty) c.append-then-WORDS-eq1.ensures in
    record { tag = done.0; keys = done.1; pairs = done.2 }

pub returns-else-WORDS-eq1-clause-pairs : goal.returns-else-WORDS-eq1-clause-pairs
returns-else-WORDS-eq1-clause-pairs g c =
    let is = c.WORDS.ensures in
    let most = c.requires.one in
    let apart = c.if-WORDS-eq1.false in
    let none : g.V.Words.WORDS ≡ 0 = omega arith in
    (put_keys_alone g.V.Words.WORDS c.args.width c.args.pairs.now c.args.block.now c.append-else-WORDS-eq1.new.block none c.requires.tag (c.requires.no_values none) c.append-else-WORDS-eq1.ensures).2
