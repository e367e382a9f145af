-- `sellumaq_judysl_slot`: the walk of the calls that hand out the slot of a byte string, at its handle. Assumes `Logic`.
use Rattle.judy_c.proofs.strings.Strings.slot.Met.{met as lender_met}
use Rattle.judy_c.proofs.told.hand_out.Met.{met as teller_met}
use Rattle.judy_c.proofs.KeySlots.{hands_out_slot}
use Rattle.judy_c.specs.StringMaps.{array_in}
use Rattle.judy_c.specs.contracts.strings.Strings.{the_row}
use Rattle.judy_c.specs.contracts.strings.Strings.slot.Key.{name as lends}
use Rattle.judy_c.specs.contracts.judysl.sellumaq_judysl_slot.Key.{name}
use Rattle.judy_c.proofs.judysl.sellumaq_judysl_slot.Statement.{statement}
use Rattle.judy_c.proofs.judysl.sellumaq_judysl_slot.Code as code

pub sellumaq_judysl_slot_spec : {M : Type 1} → statement M
sellumaq_judysl_slot_spec 𝓤 𝓛 𝓜 𝓡 wired =
    hands_out_slot the_row tt array_in 𝓤 𝓛 _ _ _ _ 𝓜 𝓡 name lends (code.unfolded 𝓤 𝓛.H 𝓜 𝓡 wired) (lender_met 𝓤 𝓛 𝓜 𝓡 (code.calls-judy_c::strings::Strings::slot 𝓡.env wired))
    (teller_met 𝓤 𝓛 𝓜 𝓡 (code.calls-judy_c::told::hand_out 𝓡.env wired))
