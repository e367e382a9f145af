use Rattle.std.proofs.Common.{ℕ, List, All, sym, ap, subst, ◌∙◌}
use Rattle.std.proofs.lemmas.List.Elements.{All-nil, All-push}
use Rattle.judy_model.specs.Keys.{IsWord}
use Rattle.judy_hs.specs.Chains.{Pairs, value_in}
use Rattle.judy_hs.specs.ChainEntries.{pairs_of}
use Rattle.judy_hs.specs.Values.{AreWords}
use Rattle.judy_hs.proofs.ChainEntryLemmas.{shown, shown-more, shown-on, shown-all}
use Rattle.judy_hs.proofs.ValueLemmas.{entries_words}
use Rattle.judy_hs.proofs.chain.Chain.words_law.Goals as goal

pub entries-init : goal.entries-init
entries-init c = (sym c.self.view_is ∙ ap pairs_of (sym c.into_iter-value-iterator.ensures.into_iter_gives.0), All-nil (λ (pair : List ℕ × ℕ). IsWord pair.1))

pub entries-preserved : goal.entries-preserved
entries-preserved c = (
  shown-on c.entries.yielded c.in-Some.field-0-0 c.in-Some.value c.args.self.now c.entries.value-iterator c.next.new.self c.entries.invariant.0 c.in-Some.ensures.steps,
  subst (All (λ (pair : List ℕ × ℕ). IsWord pair.1)) (sym (shown-more c.entries.yielded c.in-Some.field-0-0 c.in-Some.value))
      (All-push (λ (pair : List ℕ × ℕ). IsWord pair.1) (shown c.entries.yielded) (c.in-Some.field-0-0.now.items, c.in-Some.value.now) c.entries.invariant.1 c.word_law.ensures),
)

pub returns : goal.returns
returns c =
    let all = shown-all c.entries.yielded c.args.self.now c.entries.value-iterator c.entries.invariant.0 c.in-None.ensures.steps.0 in
    subst (λ (pairs : Pairs). AreWords (value_in pairs)) (sym all) (entries_words (shown c.entries.yielded) c.entries.invariant.1)
