-- The levels that a branch brings, and the pieces behind which they stand.
use Rattle.std.proofs.Common.{◌≡◌, ℕ, List, ◌++◌, None, Some, Option, ◌⊎◌, inl, refl, sym, subst}
use Rattle.judy_model.specs.Keys.{word_order}
use Rattle.judy_model.specs.Arrays.{ArrayOf}
use Rattle.judy_sl.specs.Children.{Child, Free, Tail, Level}
use Rattle.judy_sl.specs.declared.arena.Arena.{Arena}
use Rattle.judy_sl.specs.declared.branches.Twig.{Twig}
use Rattle.judy_sl.specs.Arenas.{child_at}
use Rattle.judy_sl.specs.Grown.{IsHung}
use Rattle.judy_sl.proofs.lemmas.counts.CountedAdded.{LevelWas}
use Rattle.judy_sl.proofs.lemmas.counts.Growing.{GrowsOn, grows-same, grows-put}

-- Pieces go on from those of a tail's place along what it holds, and along what is left of a new key.
pub record IsBetween (front held new place : List ℕ) : Type 0 where
  pub mid : List ℕ
  pub held_more : List ℕ
  pub new_more : List ℕ
  pub place_is : place ≡ front ++ mid
  pub held_is : held ≡ mid ++ held_more
  pub new_is : new ≡ mid ++ new_more

-- A level was one before, or it tells two keys and stands between.
abbrev pub LevelMade : Arena → List ℕ → List ℕ → List ℕ → List ℕ → ℕ → Child → Type 0
LevelMade before front held new place at Free = Unit {0}
LevelMade before front held new place at (Tail rest) = Unit {0}
LevelMade before front held new place at (Level told words) = ((was : ArrayOf word_order) × (child_at before at ≡ Level told was)) ⊎ ((told ≡ 2) × IsBetween front held new place)

pub made-was : (before : Arena) (front held new place : List ℕ) (at : ℕ) (child : Child) → LevelWas before at child → LevelMade before front held new place at child
made-was before front held new place at Free was = tt
made-was before front held new place at (Tail rest) was = tt
made-was before front held new place at (Level told words) was = inl was

pub made-then : (before middle : Arena) (front held new place : List ℕ) (at : ℕ) (child : Child) → LevelMade before front held new place at (child_at middle at) →
    LevelWas middle at child → LevelMade before front held new place at child
made-then before middle front held new place at Free made was = tt
made-then before middle front held new place at (Tail rest) made was = tt
made-then before middle front held new place at (Level told words) made was = subst (LevelMade before front held new place at) was.1 made

-- A twig that is hung up leaves the levels.
pub grows-hung : (before after : Arena) (words linked : ArrayOf word_order) (twig : Option Twig) (at : Option ℕ) → IsHung before after words linked twig at → GrowsOn before after
grows-hung before after words linked None None is = subst (GrowsOn before) (sym is.0) (grows-same before before (record { root = refl; children = λ at. refl }))
grows-hung before after words linked None (Some at) is = absurd is
grows-hung before after words linked (Some twig) None is = absurd is
grows-hung before after words linked (Some twig) (Some at) is = grows-put before after (twig.rest.now, twig.value) at is.0
