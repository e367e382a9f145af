-- `sellumaq_judyl_next_slot`: the walk of the calls that find a key, at the call that it makes. Assumes `Logic`.
use Rattle.judy_model.specs.Neighbours.{next}
use Rattle.judy_c.proofs.map.Map.next_slot.Met.{met as lender_met}
use Rattle.judy_c.proofs.told.hand_out.Met.{met as teller_met}
use Rattle.judy_c.proofs.NearestSlots.{searches}
use Rattle.judy_c.specs.contracts.map.Map.next_slot.Key.{name as lends}
use Rattle.judy_c.specs.contracts.nearest_slots.sellumaq_judyl_next_slot.Key.{name}
use Rattle.judy_c.proofs.nearest_slots.sellumaq_judyl_next_slot.Statement.{statement}
use Rattle.judy_c.proofs.nearest_slots.sellumaq_judyl_next_slot.Code as code

pub sellumaq_judyl_next_slot_spec : {M : Type 1} → statement M
sellumaq_judyl_next_slot_spec 𝓤 𝓛 𝓜 𝓡 wired =
    searches next 𝓤 𝓛 _ _ _ 𝓜 𝓡 name lends (code.unfolded 𝓤 𝓛.H 𝓜 𝓡 wired) (lender_met 𝓤 𝓛 𝓜 𝓡 (code.calls-judy_c::map::Map::next_slot 𝓡.env wired))
    (teller_met 𝓤 𝓛 𝓜 𝓡 (code.calls-judy_c::told::hand_out 𝓡.env wired))
