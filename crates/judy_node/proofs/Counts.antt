-- Populations of children.
use Rattle.std.proofs.Common.{◌≡◌, ℕ, ◌+◌, ◌-◌, ◌*◌, ◌^◌, ◌<◌, ◌≤◌, List, [], ◌∷◌, ◌++◌, length, take, drop, get_or, Some, slice_get, sym, refl, ap, ◌∙◌, subst, arith, length-append, length-drop}
use Rattle.std.proofs.lemmas.List.{take_more, take-append-drop, take_all}
use Rattle.judy_leaf.specs.KeyLists.{shift}
use Rattle.judy_node.specs.Trees.{Tree, join, AreChildren, IsBranch}
use Rattle.judy_model.specs.WordBytes.{number_of}
use Rattle.std.proofs.lemmas.Option.{slice_get-get_or}
use Rattle.judy_node.specs.Populations.{population}
use Rattle.judy_node.proofs.Maps.{length-shift}

pub population-append : (one other : List Tree) → population (one ++ other) ≡ population one + population other
population-append [] other = omega arith
population-append (kid ∷ one) other = let rest = population-append one other in omega arith

-- The pairs of a branch are as many as its children have.
pub length-join : (words width low unit block : ℕ) (bytes : List ℕ) (kids : List Tree) → AreChildren words width low bytes kids → length (join unit block bytes kids) ≡ population kids
length-join words width low unit block [] [] are = refl
length-join words width low unit block [] (kid ∷ kids) are = absurd are
length-join words width low unit block (byte ∷ bytes) [] are = absurd are
length-join words width low unit block (byte ∷ bytes) (kid ∷ kids) are =
    let here = length-shift ((block + byte) * unit) kid.pairs in
    let both = length-append (shift ((block + byte) * unit) kid.pairs) (join unit block bytes kids) in
    let rest = length-join words width (byte + 1) unit block bytes kids are.3 in
    omega arith

-- One child more.
pub population-more : (kids : List Tree) (at : ℕ) (d : Tree) → at < length kids → population (take (at + 1) kids) ≡ population (take at kids) + length (get_or kids at d).pairs
population-more kids at d within =
    ap population (take_more kids at d within) ∙ population-append (take at kids) (get_or kids at d ∷ []) ∙
    ap (λ n. population (take at kids) + n) (let e : length (get_or kids at d).pairs + 0 ≡ length (get_or kids at d).pairs = omega arith in e)

-- No front has more than all.
pub population-take : (kids : List Tree) (at : ℕ) → population (take at kids) + population (drop at kids) ≡ population kids
population-take kids at = sym (population-append (take at kids) (drop at kids)) ∙ ap population (take-append-drop at kids)

pub population-step : (kids : List Tree) (at : ℕ) (kid : Tree) → at < length kids → kid ≡ get_or kids at kid → population (take (at + 1) kids) ≡ population (take at kids) + length kid.pairs
population-step kids at kid within is = population-more kids at kid within ∙ ap (λ k. population (take at kids) + length k.pairs) (sym is)

-- The same of the child before a place.
pub population-last : (kids : List Tree) (place : ℕ) (kid : Tree) → 1 ≤ place → place ≤ length kids → kid ≡ get_or kids (place - 1) kid →
    population (take place kids) ≡ population (take (place - 1) kids) + length kid.pairs
population-last kids place kid some within is =
    subst (λ p. population (take p kids) ≡ population (take (place - 1) kids) + length kid.pairs) (omega arith) (population-step kids (place - 1) kid (omega arith) is)

-- A child's keys are among all.
pub population-within : (kids : List Tree) (at : ℕ) (kid : Tree) → at < length kids → kid ≡ get_or kids at kid → population (take at kids) + length kid.pairs ≤ population kids
population-within kids at kid within is = let step = population-step kids at kid within is in let all = population-take kids (at + 1) in omega arith

pub there : (kids : List Tree) (at : ℕ) (kid : Tree) → at < length kids → kid ≡ get_or kids at kid → slice_get kids at ≡ Some kid
there kids at kid within is = slice_get-get_or kids at kid within ∙ ap Some (sym is)

pub branch_population : (words width : ℕ) (skipped bytes : List ℕ) (kids : List Tree) (count : ℕ) → IsBranch words width skipped bytes kids count → count ≡ population kids
branch_population words width skipped bytes kids count is = is.parts.counted ∙ length-join words width 0 (256 ^ width) (number_of skipped * 256) bytes kids is.parts.children

-- The children from a place on have what the ones before it don't.
pub rest_population : (kids : List Tree) (at : ℕ) → population (take at kids) + population (take (length kids - at) (drop at kids)) ≡ population kids
rest_population kids at =
    let long = length-drop at kids in
    ap (λ rest. population (take at kids) + population rest) (take_all (length kids - at) (drop at kids) (omega arith)) ∙ population-take kids at
