-- Levels that a way has passed, as notes tell of them.
use Rattle.std.specs.Prelude.{◌≡◌, ℕ, List, length, take}
use Rattle.judy_sl.specs.declared.passed.Noted.{Noted}
use Rattle.judy_sl.specs.declared.passed.Noted.TheVariants.{Places, Count}
use Rattle.judy_sl.specs.World.{World}
use Rattle.judy_sl.specs.Ways.{levels_passed}

-- The levels stand at these places; or there are as many.
abbrev pub AreNoted : Noted → List ℕ → Type 0
AreNoted (Places noted) places = noted.now ≡ places
AreNoted (Count count) places = count ≡ length places

-- Places are those of the first levels that the way of a key passes.
abbrev pub AreFirstPassed : World → List ℕ → List ℕ → Type 0
AreFirstPassed world key places = take (length places) (levels_passed world key) ≡ places
