use Rattle.std.proofs.Common.{◌≡◌, ◌≢◌, ◌∷◌, ◌++◌, [], List, ℕ, All, sym, ap, subst, ◌∙◌}
use Rattle.std.specs.FinMap.{entries}
use Rattle.std.proofs.lemmas.List.{map-append}
use Rattle.std.proofs.lemmas.List.Elements.{All-push}
use Rattle.std.proofs.lemmas.List.Sorted.{All-permutation}
use Rattle.judy_hs.specs.LongGroups.{Long, chain_at}
use Rattle.judy_hs.proofs.LongLemmas.{is-used}
use Rattle.judy_hs.proofs.WalkLemmas.{came_on, entry_held}
use Rattle.judy_hs.proofs.long_group.LongGroup.places.Goals as goal

pub hashes-preserved : goal.hashes-preserved
hashes-preserved c =
    let entry : ℕ × ℕ = (c.in-Some.field-0-0, c.in-Some.place) in
    let all : entries c.self.inside.hashes.map ≡ c.hashes.yielded ++ (c.in-Some.field-0-0, c.in-Some.place) ∷ c.next.new.self =
    ap (λ (long : Long). entries long.hashes.map) c.self.view_is ∙ c.hashes.invariant.came ∙ ap (λ (left : List (ℕ × ℕ)). c.hashes.yielded ++ left) c.in-Some.ensures.steps in
    let leads = entry_held c.self.inside.hashes.map c.hashes.yielded c.next.new.self c.in-Some.field-0-0 c.in-Some.place all in
    let stands : chain_at c.args.self.now c.in-Some.place ≢ [] =
    subst (λ (long : Long). chain_at long c.in-Some.place ≢ []) c.self.view_is (is-used c.self.inside.key_length c.self.inside.chains c.self.inside.records c.in-Some.place
    (c.self.invariant.led c.in-Some.field-0-0 c.in-Some.place leads)) in
    record {
      came = came_on (entries c.args.self.now.hashes.map) c.hashes.yielded c.hashes.place-iterator c.next.new.self entry c.hashes.invariant.came c.in-Some.ensures.steps;
      listed =
          c.in_ok-push.ensures.items ∙ ap (λ (places : List ℕ). places ++ c.in-Some.place ∷ []) c.hashes.invariant.listed ∙ sym (map-append (λ (entry : ℕ × ℕ). entry.1) c.hashes.yielded (entry ∷ []));
      used =
          subst (All (λ (place : ℕ). chain_at c.args.self.now place ≢ [])) (sym c.in_ok-push.ensures.items)
          (All-push (λ (place : ℕ). chain_at c.args.self.now place ≢ []) c.hashes.places.items c.in-Some.place c.hashes.invariant.used stands);
    }

pub returns-clause-used : goal.returns-clause-used
returns-clause-used c =
    All-permutation (λ (place : ℕ). chain_at c.args.self.now place ≢ []) c.hashes.places.items c.sort_unstable.new.self.items c.sort_unstable.ensures.permutation c.hashes.invariant.used
