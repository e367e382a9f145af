use Rattle.std.proofs.Common.{◌≡◌, ℕ, ◌+◌, ◌-◌, ◌^◌, ◌<◌, ◌++◌, length, take, drop, take-add, sym, ap, ◌∙◌, subst, arith}
use Rattle.std.proofs.lemmas.List.{take_all, length-drop}
use Rattle.judy_model.specs.Keys.{word_order}
use Rattle.judy_model.specs.Arrays.{ArrayOf, with_map}
use Rattle.judy_node.specs.Trees.{Pairs, IsMap}
use Rattle.judy_word.specs.Held.{map_in, array_in, with_all}
use Rattle.judy_word.specs.Refusals.{IsRefusalOfAll}
use Rattle.judy_word.proofs.FrontFacts.{with_all-append, map_rest}
use Rattle.judy_word.proofs.FillingFacts.{array_after}
use Rattle.judy_word.proofs.tree_array.fronts.set_all.Goals as goal

-- What is left of a list, as a range of it.
rest_is : (done : ℕ) (pairs : Pairs) → take (length pairs - done) (drop done pairs) ≡ drop done pairs
rest_is done pairs = take_all (length pairs - done) (drop done pairs) (let long = length-drop done pairs in omega (arith, long))

pub set_front-requires : goal.set_front-requires
set_front-requires g c =
    let pairs = c.args.pairs.now in
    let rest = rest_is c.fronts.done pairs in
    let long = length-drop c.fronts.done pairs in
    let more = c.fronts-test.true in (
      omega arith,
      (
        c.requires.one,
        (
          subst (λ (ps : Pairs). 0 < length ps) (sym rest) (omega (arith, long, more)),
          subst (IsMap g.V.Words.WORDS 0 (256 ^ 8)) (sym rest) (map_rest g.V.Words.WORDS 0 (256 ^ 8) c.fronts.done pairs c.requires.map),
        ),
      ),
    )

pub fronts-preserved : goal.fronts-preserved
fronts-preserved g c =
    let pairs = c.args.pairs.now in
    let done = c.fronts.done in
    let count = c.in-Ok.count in
    let rest = rest_is done pairs in
    let long = ap length rest ∙ length-drop done pairs in
    let within = c.in-Ok.ensures.within in
    let more = c.fronts-test.true in
    let front = take count (take (length pairs - done) (drop done pairs)) in
    let old = c.args.array.now in
    let fronts : take done pairs ++ front ≡ take (done + count) pairs = ap (λ (ps : Pairs). take done pairs ++ take count ps) rest ∙ sym (take-add done count pairs) in (
      omega (arith, long, within, more),
      c.in-Ok.ensures.set ∙ ap (λ (a : ArrayOf word_order). with_map a (with_all a.map front)) c.fronts.invariant.1
          ∙ ap (with_map (array_in old)) (sym (with_all-append (map_in old) (take done pairs) front) ∙ ap (with_all (map_in old)) fronts),
      c.set_front.ensures.loose ∙ c.fronts.invariant.2,
    )

pub returns-in_default-clause-same : goal.returns-in_default-clause-same
returns-in_default-clause-same g c = array_after c.fronts.done (array_in c.args.array.now) (array_in c.set_front.new.self) c.args.pairs.now (c.in_default.ensures.unchanged ∙ c.fronts.invariant.1)

pub returns-in_default-clause-refused : goal.returns-in_default-clause-refused
returns-in_default-clause-refused g c =
    subst (λ (array : ArrayOf word_order). IsRefusalOfAll array c.refusal_of.result)
    (array_after c.fronts.done (array_in c.args.array.now) (array_in c.set_front.new.self) c.args.pairs.now (c.in_default.ensures.unchanged ∙ c.fronts.invariant.1))
    c.refusal_of.ensures
