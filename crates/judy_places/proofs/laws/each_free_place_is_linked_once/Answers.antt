use Rattle.judy_places.proofs.PlaceLemmas.{free-linked}
use Rattle.judy_places.proofs.laws.each_free_place_is_linked_once.Goals as goal

pub returns : goal.returns
returns c = free-linked
