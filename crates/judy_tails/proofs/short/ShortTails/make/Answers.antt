use Rattle.std.proofs.Common.{◌≡◌, ◌++◌, ◌∷◌, [], slice_get, length, ap, sym, ◌∙◌, arith, subst}
use Rattle.std.proofs.lemmas.List.{length-map}
use Rattle.judy_records.specs.Texts.{words_for}
use Rattle.judy_records.specs.Spots.{empty_list}
use Rattle.judy_tails.specs.Short.{ShortLists, list_for}
use Rattle.judy_tails.specs.Inside.{AreTails, AreSame, lists_of, tails_in}
use Rattle.judy_tails.proofs.LengthLemmas.{first_for, longer, longer-are, longer-same, longer-for}
use Rattle.judy_tails.proofs.short.ShortTails.make.Goals as goal

pub invariant_of-self-2 : goal.invariant_of-self-2
invariant_of-self-2 c =
    let lists = c.self.inside.lists.items in
    let words = words_for c.args.bytes in
    let pushed : c.push_reserved.new.self.items ≡ longer lists words = c.push_reserved.ensures.items ∙
    (λ i. c.in_ok-reserve_exact.ensures.items i ++ (c.new.ensures ∙ ap empty_list c.words_for.ensures) i ∷ []) in
    let none : first_for words lists ≡ length lists = ap (λ (all : ShortLists). list_for all c.args.bytes) c.self.view_is ∙ c.requires.none ∙
    ap (λ (all : ShortLists). length all.lists) (sym c.self.view_is) ∙ length-map lists tails_in in
    subst AreTails (sym pushed) (longer-are lists words (omega (arith, c.requires.short)) none c.self.invariant)

pub returns-clause-made : goal.returns-clause-made
returns-clause-made c =
    let lists = c.self.inside.lists.items in
    let words = words_for c.args.bytes in
    let pushed : c.push_reserved.new.self.items ≡ longer lists words = c.push_reserved.ensures.items ∙
    (λ i. c.in_ok-reserve_exact.ensures.items i ++ (c.new.ensures ∙ ap empty_list c.words_for.ensures) i ∷ []) in
    let at : list_for c.args.self.now c.args.bytes ≡ length lists = c.requires.none ∙ ap (λ (all : ShortLists). length all.lists) (sym c.self.view_is) ∙ length-map lists tails_in in
    (λ i. slice_get (lists_of (pushed i)).words (at i)) ∙ longer-for lists words

pub returns-clause-same : goal.returns-clause-same
returns-clause-same c =
    let lists = c.self.inside.lists.items in
    let words = words_for c.args.bytes in
    let pushed : c.push_reserved.new.self.items ≡ longer lists words = c.push_reserved.ensures.items ∙
    (λ i. c.in_ok-reserve_exact.ensures.items i ++ (c.new.ensures ∙ ap empty_list c.words_for.ensures) i ∷ []) in
    subst (λ all. AreSame all (lists_of c.push_reserved.new.self.items)) c.self.view_is (subst (λ items. AreSame (lists_of lists) (lists_of items)) (sym pushed) (longer-same lists words))
