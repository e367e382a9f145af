use Rattle.std.proofs.Common.{◌≡◌, ◌≢◌, ◌∷◌, ◌++◌, [], List, ℕ, All, sym, ap, subst, ◌∙◌}
use Rattle.std.specs.FinMap.{entries}
use Rattle.std.proofs.lemmas.List.Elements.{All-nil, All-push}
use Rattle.judy_hs.specs.Chains.{value_in}
use Rattle.judy_hs.specs.LongGroups.{Long, chain_at}
use Rattle.judy_hs.specs.Values.{AreWords}
use Rattle.judy_hs.proofs.LongLemmas.{is-used}
use Rattle.judy_hs.proofs.ValueLemmas.{chains_words}
use Rattle.judy_hs.proofs.WalkLemmas.{came_on, came_all, entry_held}
use Rattle.judy_hs.proofs.long_group.LongGroup.words_law.Goals as goal

pub hashes-init : goal.hashes-init
hashes-init c = (
  sym (c.into_iter-place-iterator.ensures.into_iter_gives ∙ ap (λ (all : Long). entries all.hashes.map) c.self.view_is),
  All-nil (λ (entry : ℕ × ℕ). AreWords (value_in (chain_at c.args.self.now entry.1))),
)

pub words_law_at-requires : goal.words_law_at-requires
words_law_at-requires c =
    let all : entries c.self.inside.hashes.map ≡ c.hashes.yielded ++ (c.in-Some.field-0-0, c.in-Some.place) ∷ c.next.new.self =
    ap (λ (long : Long). entries long.hashes.map) c.self.view_is ∙ c.hashes.invariant.0 ∙ ap (λ (left : List (ℕ × ℕ)). c.hashes.yielded ++ left) c.in-Some.ensures.steps in
    let leads = entry_held c.self.inside.hashes.map c.hashes.yielded c.next.new.self c.in-Some.field-0-0 c.in-Some.place all in
    subst (λ (long : Long). chain_at long c.in-Some.place ≢ []) c.self.view_is (is-used c.self.inside.key_length c.self.inside.chains c.self.inside.records c.in-Some.place
    (c.self.invariant.led c.in-Some.field-0-0 c.in-Some.place leads))

pub hashes-preserved : goal.hashes-preserved
hashes-preserved c =
    let entry : ℕ × ℕ = (c.in-Some.field-0-0, c.in-Some.place) in (
      came_on (entries c.args.self.now.hashes.map) c.hashes.yielded c.hashes.place-iterator c.next.new.self entry c.hashes.invariant.0 c.in-Some.ensures.steps,
      All-push (λ (entry : ℕ × ℕ). AreWords (value_in (chain_at c.args.self.now entry.1))) c.hashes.yielded entry c.hashes.invariant.1 c.words_law_at.ensures,
    )

pub returns : goal.returns
returns c =
    let all = came_all (entries c.args.self.now.hashes.map) c.hashes.yielded c.hashes.place-iterator c.hashes.invariant.0 c.in-None.ensures.steps.0 in
    chains_words c.args.self.now (subst (All (λ (entry : ℕ × ℕ). AreWords (value_in (chain_at c.args.self.now entry.1)))) all c.hashes.invariant.1)
