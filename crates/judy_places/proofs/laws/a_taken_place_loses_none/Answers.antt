use Rattle.judy_places.proofs.PlaceLemmas.{taken-reused}
use Rattle.judy_places.proofs.laws.a_taken_place_loses_none.Goals as goal

pub returns : goal.returns
returns c = taken-reused
