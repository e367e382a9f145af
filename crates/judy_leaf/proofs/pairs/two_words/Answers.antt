use Rattle.std.proofs.Common.{◌≡◌, ◌*◌, ◌^◌, ◌∷◌, [], ap, sym, ◌∙◌, arith}
use Rattle.judy_leaf.specs.KeyLists.{low_pairs}
use Rattle.judy_leaf.specs.Leaves.{leaf_list, AreKeysFrom}
use Rattle.judy_leaf.proofs.Appended.{made_with_values, made_alone}
use Rattle.judy_leaf.proofs.pairs.two_words.Given.{Over}
use Rattle.judy_leaf.proofs.pairs.two_words.Goals as goal

-- What is known of the block with values.
with_values : (g : Over) (c : goal.In_ok-block g)
    → AreKeysFrom c.args.width 2 (g.V.Words.WORDS * 2) c.in_ok-block.block × ((leaf_list g.V.Words.WORDS 2 c.in_ok-block.block).pairs ≡ low_pairs (256 ^ c.args.width) (c.args.low ∷ c.args.high ∷ []))
with_values g c =
    let is = c.in_ok-block.ensures in
    let made = made_with_values g.V.Words.WORDS c.args.width (c.args.low ∷ c.args.high ∷ []) c.in_ok-block.block c.requires.wide.0 c.requires.wide.1
    (ap (λ b. b.tag) is ∙ c.from-tag.ensures) (omega arith)
    (c.requires.below_low, (c.requires.below_high, tt)) (sym c.WORDS.ensures ∙ c.if-WORDS-eq1.true) (ap (λ b. b.words) is) in
    (made.1, made.2)

pub returns-then-WORDS-eq1-clause-keys : goal.returns-then-WORDS-eq1-clause-keys
returns-then-WORDS-eq1-clause-keys g c = (with_values g c).0

pub returns-then-WORDS-eq1-clause-pairs : goal.returns-then-WORDS-eq1-clause-pairs
returns-then-WORDS-eq1-clause-pairs g c = (with_values g c).1

-- And of the one without.
alone : (g : Over) (c : goal.In_ok-block-2 g)
    → AreKeysFrom c.args.width 2 (g.V.Words.WORDS * 2) c.in_ok-block-2.block × ((leaf_list g.V.Words.WORDS 2 c.in_ok-block-2.block).pairs ≡
    low_pairs (256 ^ c.args.width) (c.args.low ∷ c.args.high ∷ []))
alone g c =
    let number = c.WORDS.ensures in
    let most = c.requires.one in
    let apart = c.if-WORDS-eq1.false in
    let none : g.V.Words.WORDS ≡ 0 = omega arith in
    let is = c.in_ok-block-2.ensures in
    let made = made_alone g.V.Words.WORDS c.args.width (c.args.low ∷ c.args.high ∷ []) c.in_ok-block-2.block c.requires.wide.0 c.requires.wide.1 (ap (λ b. b.tag) is ∙ c.from-tag.ensures) (omega arith)
    (c.requires.below_low, (c.requires.below_high, tt)) none (c.requires.no_values none) (ap (λ b. b.words) is) in
    (made.1, made.2)

pub returns-clause-keys : goal.returns-clause-keys
returns-clause-keys g c = (alone g c).0

pub returns-clause-pairs : goal.returns-clause-pairs
returns-clause-pairs g c = (alone g c).1
