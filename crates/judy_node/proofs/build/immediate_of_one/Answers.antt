use Rattle.std.proofs.Common.{◌≡◌, ℕ, zero, suc, ◌^◌, ◌≤◌, ◌∷◌, [], sym, ap, refl, ◌∙◌, subst, arith}
use Rattle.std.proofs.Math.Nat.{pow-le-pow_right, mod-eq_of_lt}
use Rattle.std.proofs.lemmas.Nat.{mod_below}
use Rattle.judy_model.proofs.lemmas.orders.ByteLemmas.{unit_pos}
use Rattle.judy_model.specs.Shapes.{immediate_limit}
use Rattle.judy_leaf.specs.KeyLists.{low_pairs}
use Rattle.judy_leaf.specs.Immediates.{parts_list, IsImmParts}
use Rattle.judy_leaf.proofs.Placed.{per_pos}
use Rattle.judy_node.specs.Trees.{Pairs}
use Rattle.judy_node.proofs.BuiltFacts.{few_done, one_done}
use Rattle.judy_node.proofs.build.immediate_of_one.Goals as goal

-- An immediate holds a key at least.
one_within : (words width : ℕ) → 1 ≤ width → width ≤ 8 → 1 ≤ immediate_limit words width
one_within zero width low high = let some = per_pos width (record { some = low; most = high }) in omega arith
one_within (suc words) width low high = omega arith

pub new-requires : goal.new-requires
new-requires g c =
    let within = c.requires.width.1 in
    let most = pow-le-pow_right {n = 256} (omega arith) within in
    let below = c.requires.fits in
    omega arith

pub returns-then-WORDS-eq0-clause-built : goal.returns-then-WORDS-eq0-clause-built
returns-then-WORDS-eq0-clause-built g c =
    let words = g.V.Words.WORDS in
    let high = c.requires.width.1 in
    let pairs : Pairs = (c.args.key, c.args.value) ∷ [] in
    let count = c.into_parts-count.result.0 in
    let keys = c.into_parts-count.result.1 in
    let wide = ap (λ l. l.width) c.one.ensures in
    let made = c.into_parts-count.ensures in
    let low : pairs ≡ low_pairs (256 ^ c.args.width) pairs = λ t. (sym (mod-eq_of_lt c.requires.fits) t, c.args.value) ∷ [] in
    (few_done words c.args.width count keys c.of_keys.result pairs (sym c.WORDS.ensures ∙ c.if-WORDS-eq0.true)
    (subst (λ w. IsImmParts words w count keys) wide made.parts)
    (ap (λ w. parts_list words w count keys) (sym wide) ∙ made.list ∙ c.one.ensures ∙ ap (λ ps. record { width = c.args.width; pairs = ps }) low)
    c.of_keys.ensures c.requires.width.0 (omega arith) (omega arith, mod_below c.args.key (256 ^ c.args.width) (unit_pos c.args.width), c.requires.no_value, tt)).1

pub returns-else-WORDS-eq0-clause-built : goal.returns-else-WORDS-eq0-clause-built
returns-else-WORDS-eq0-clause-built g c =
    let high = c.requires.width.1 in
    let pairs : Pairs = (c.args.key, c.args.value) ∷ [] in
    one_done g.V.Words.WORDS c.args.width c.new.result c.args.value pairs c.requires.one (λ none. c.if-WORDS-eq0.false (c.WORDS.ensures ∙ none)) (omega arith)
    (one_within g.V.Words.WORDS c.args.width c.requires.width.0 (omega arith))
    (c.new.ensures ∙ sym (mod-eq_of_lt c.requires.fits)) refl c.requires.width.0 (omega arith) (omega arith, mod_below c.args.key (256 ^ c.args.width) (unit_pos c.args.width), c.requires.no_value, tt)
