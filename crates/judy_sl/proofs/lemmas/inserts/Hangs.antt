-- What stands still while a branch is built.
use Rattle.std.proofs.Common.{◌≡◌, ℕ, ◌≤◌, Option, None, Some, IsSome, inl, inr, refl, sym, ap, subst, ◌∙◌, arith}
use Rattle.std.proofs.lemmas.Bool.{cases_eq, false≢true}
use Rattle.std.specs.FinMap.{get}
use Rattle.judy_model.specs.Keys.{word_order}
use Rattle.judy_model.specs.Arrays.{ArrayOf}
use Rattle.judy_sl.specs.Children.{Child, Free, Tail, Level, child_with, value_at, IsTaken}
use Rattle.judy_sl.specs.declared.arena.Arena.{Arena}
use Rattle.judy_sl.specs.declared.arena.Place.{Place}
use Rattle.judy_sl.specs.declared.arena.Place.TheVariants.{Root, Below}
use Rattle.judy_sl.specs.declared.branches.Twig.{Twig}
use Rattle.judy_sl.specs.declared.branches.Branch.{Branch}
use Rattle.judy_sl.specs.World.{gone}
use Rattle.judy_sl.specs.Arenas.{node_of, child_at, HasRoom}
use Rattle.judy_sl.specs.Places.{place_with, place_value}
use Rattle.judy_sl.specs.Grown.{IsPut, IsHung, AreHung, IsSame}
use Rattle.judy_sl.proofs.lemmas.seats.Linked.{can-with, child_at-same, child_at-other}

-- The first level and each child that is there stay.
pub record StandsStill (before after : Arena) : Type 0 where
  pub root : after.root ≡ before.root
  pub children : (at : ℕ) → IsTaken (child_at before at) → child_at after at ≡ child_at before at

pub stands-start : (before : Arena) → StandsStill before before
stands-start before = record { root = refl; children = λ at there. refl }

pub stands-same : (before after : Arena) → IsSame before after → StandsStill before after
stands-same before after same = record { root = same.root; children = λ at there. same.children at }

taken-some : (child : Child) → IsTaken child → node_of child ≡ gone → ⊥
taken-some Free there e = there
taken-some (Tail rest) there e = cc
taken-some (Level keys words) there e = cc

pub stands-put : (before now after : Arena) (child : Child) (to : ℕ) → StandsStill before now → IsPut now after child to → StandsStill before after
stands-put before now after child to stands put = record {
  root = put.root ∙ stands.root;
  children = λ at there.
      let stood = stands.children at there in
      put.elsewhere at (λ e. taken-some (child_at now at) (subst IsTaken (sym stood) there) (ap (λ k. node_of (child_at now k)) e ∙ put.was_free)) ∙ stood;
}

stands-hung : (before now after : Arena) (words linked : ArrayOf word_order) (twig : Option Twig) (at : Option ℕ) → StandsStill before now →
    IsHung now after words linked twig at → StandsStill before after
stands-hung before now after words linked None None stands is = subst (StandsStill before) (sym is.0) stands
stands-hung before now after words linked None (Some at) stands is = absurd is
stands-hung before now after words linked (Some twig) None stands is = absurd is
stands-hung before now after words linked (Some twig) (Some at) stands is = stands-put before now after (Tail ((twig.rest.now, twig.value))) at stands is.0

pub stands-both : (before now after : Arena) (branch linked : Branch) → StandsStill before now → AreHung now after branch linked → StandsStill before after
stands-both before now after branch linked stands are =
    stands-hung before are.middle after are.words linked.fork branch.new are.new_at (stands-hung before now are.middle branch.fork are.words branch.old are.old_at stands are.old) are.new

value-taken : (child : Child) (piece : ℕ) → IsSome (value_at child piece) → IsTaken child
value-taken Free piece some = absurd (false≢true some)
value-taken (Tail rest) piece some = tt
value-taken (Level keys words) piece some = tt

pub stands-taken : (before after : Arena) (at : ℕ) → StandsStill before after → IsTaken (child_at before at) → IsTaken (child_at after at)
stands-taken before after at stands there = subst IsTaken (sym (stands.children at there)) there

pub stands-value : (before after : Arena) (place : Place) → StandsStill before after → IsSome (place_value before place) → IsSome (place_value after place)
stands-value before after (Root piece) stands some = subst (λ (words : ArrayOf word_order). IsSome (get words.map piece)) (sym stands.root) some
stands-value before after (Below at piece) stands some =
    subst (λ child. IsSome (value_at child piece)) (sym (stands.children at (value-taken (child_at before at) piece some))) some

taken-with : (child : Child) (piece value : ℕ) → IsTaken child → IsTaken (child_with child piece value)
taken-with Free piece value there = there
taken-with (Tail rest) piece value there = tt
taken-with (Level keys words) piece value there = tt

-- A child stays where an entry is led elsewhere.
pub taken-led : (arena : Arena) (place : Place) (value at : ℕ) → IsSome (place_value arena place) → IsTaken (child_at arena at) → IsTaken (child_at (place_with arena place value) at)
taken-led arena (Root piece) value at some there = there
taken-led arena (Below to piece) value at some there =
    let to_there = value-taken (child_at arena to) piece some in
    let can = can-with arena to piece value to_there in
    let child = child_with (child_at arena to) piece value in
    elim (cases_eq at to) [
      | inl e ↦ subst IsTaken (sym (child_at-same arena to child can at e)) (taken-with (child_at arena to) piece value to_there)
      | inr apart ↦ subst IsTaken (sym (child_at-other arena to child can at apart)) there
    ]

-- ---- room

pub room-less : (arena : Arena) (more less : ℕ) → less ≤ more → HasRoom arena more → HasRoom arena less
room-less arena more less within room = record { fits = (let f = room.fits in omega (arith, f, within)); few = room.few }
