use Rattle.judy_places.proofs.PlaceLemmas.{place-freed}
use Rattle.judy_places.proofs.laws.a_freed_place_loses_none.Goals as goal

pub returns : goal.returns
returns c = place-freed
