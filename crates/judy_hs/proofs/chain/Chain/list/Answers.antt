use Rattle.std.proofs.Common.{List, ℕ, sym, ap, ◌∙◌, ◌++◌, append-nil}
use Rattle.judy_hs.specs.Chains.{Pairs}
use Rattle.judy_hs.specs.ChainEntries.{pairs_of}
use Rattle.judy_hs.specs.Listed.{entries_in}
use Rattle.judy_hs.proofs.ChainEntryLemmas.{shown-on, shown-all, listed-more}
use Rattle.judy_hs.proofs.chain.Chain.list.Goals as goal

pub entries-init : goal.entries-init
entries-init c = (sym c.self.view_is ∙ ap pairs_of (sym c.into_iter-key-iterator.ensures.into_iter_gives.0), sym (append-nil (entries_in c.args.list.now.items)))

pub entries-preserved : goal.entries-preserved
entries-preserved c = (
  shown-on c.entries.yielded c.in-Some.key c.in-Some.value c.args.self.now c.entries.key-iterator c.next.new.self c.entries.invariant.0 c.in-Some.ensures.steps,
  listed-more c.entries.yielded c.in-Some.key c.in-Some.value c.args.list.now.items c.entries.list.items c.push.new.self.items _ c.entries.invariant.1 c.in_ok-push.ensures.items
      (ap (λ (bytes : List ℕ). (bytes, c.in-Some.value.now)) c.as_slice.ensures.value),
)

pub returns : goal.returns
returns c =
    let all = shown-all c.entries.yielded c.args.self.now c.entries.key-iterator c.entries.invariant.0 c.in-None.ensures.steps.0 in
    c.entries.invariant.1 ∙ ap (λ (pairs : Pairs). entries_in c.args.list.now.items ++ pairs) (sym all)
