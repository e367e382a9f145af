use Rattle.std.proofs.Common.{◌++◌, ℕ, sym, ap, ◌∙◌, append-nil}
use Rattle.std.specs.List.{flat_map}
use Rattle.std.specs.FinMap.{entries}
use Rattle.std.proofs.lemmas.List.Concat.{flat_map_single}
use Rattle.judy_model.specs.WordBytes.{low_bytes}
use Rattle.judy_hs.specs.Chains.{Pairs}
use Rattle.judy_hs.specs.Listed.{entries_in}
use Rattle.judy_hs.proofs.WalkLemmas.{spelled, came_on, came_all, listed_on, listed_more}
use Rattle.judy_hs.proofs.group.list_words.Goals as goal

pub words-init : goal.words-init
words-init c = (sym c.into_iter-word-iterator.ensures.into_iter_gives, sym (append-nil (entries_in c.args.list.now.items)))

pub words-preserved : goal.words-preserved
words-preserved c =
    let entry : ℕ × ℕ = (c.in-Some.word, c.in-Some.value) in
    let pushed = listed_more c.words.list.items c.push.new.self.items _ _ c.in_ok-push.ensures.items (λ t. (c.short_key.ensures t, c.in-Some.value)) in (
      came_on (entries c.args.words.now.map) c.words.yielded c.words.word-iterator c.next.new.self entry c.words.invariant.0 c.in-Some.ensures.steps,
      listed_on (spelled c.args.key_length) (entries_in c.args.list.now.items) (entries_in c.words.list.items) (entries_in c.push.new.self.items) c.words.yielded entry c.words.invariant.1 pushed,
    )

pub returns : goal.returns
returns c =
    let all = came_all (entries c.args.words.now.map) c.words.yielded c.words.word-iterator c.words.invariant.0 c.in-None.ensures.steps.0 in
    c.words.invariant.1
    ∙ ap (λ (more : Pairs). entries_in c.args.list.now.items ++ more) (ap (flat_map (spelled c.args.key_length)) all ∙
    flat_map_single (λ (entry : ℕ × ℕ). (low_bytes c.args.key_length entry.0, entry.1)) (entries c.args.words.now.map))
