use Rattle.std.proofs.Common.{◌≡◌, ◌≢◌, ℕ, zero, suc, ◌<◌, List, [], ◌∷◌, length, set, slice_get, Option, Some, refl, ap, ◌∙◌, arith}
use Rattle.std.specs.FinMap.{FinMap}
use Rattle.judy_model.specs.Keys.{word_order}
use Rattle.judy_sums.specs.Listed.{list_in, list_at}
use Rattle.judy_sums.proofs.level_sums.LevelSums.put.Goals as goal

-- The place that is written has what was written, and each other what it had.
there : {A : Type 0} (all : List A) (at : ℕ) (one : A) → at < length all → slice_get (set all at one) at ≡ Some one
there [] at one within = absurd (omega arith)
there (first ∷ rest) zero one within = refl
there (first ∷ rest) (suc at) one within = there rest at one (omega arith)

elsewhere : {A : Type 0} (all : List A) (at other : ℕ) (one : A) → other ≢ at → slice_get (set all at one) other ≡ slice_get all other
elsewhere [] at other one apart = refl
elsewhere (first ∷ rest) zero zero one apart = absurd (apart refl)
elsewhere (first ∷ rest) zero (suc other) one apart = refl
elsewhere (first ∷ rest) (suc at) zero one apart = refl
elsewhere (first ∷ rest) (suc at) (suc other) one apart = elsewhere rest at other one (λ e. apart (ap (λ n. suc n) e))

pub returns-clause-put : goal.returns-clause-put
returns-clause-put c =
    let long = c.in_ok-lengthen.ensures.long in
    let lists = ap (λ (all : List (Option (FinMap word_order ℕ))). length all) c.self.view_is in
    ap list_in (there c.self.inside.lists.items c.args.index (Some c.args.list) (omega arith))

pub returns-clause-others : goal.returns-clause-others
returns-clause-others c = λ other apart.
    ap list_in (elsewhere c.self.inside.lists.items c.args.index other (Some c.args.list) apart)
    ∙ ap (λ (all : List (Option (FinMap word_order ℕ))). list_at all other) c.self.view_is
    ∙ c.in_ok-lengthen.ensures.same other
