-- `sellumaq_judysl_next_slot`: the walk of the calls that scan for a slot, at the call that it makes. Assumes `Logic`.
use Rattle.judy_model.specs.Neighbours.{next}
use Rattle.judy_c.proofs.strings.Strings.next_slot.Met.{met as lender_met}
use Rattle.judy_c.proofs.answers.answer_scan.Met.{met as teller_met}
use Rattle.judy_c.proofs.ScannedSlots.{scans}
use Rattle.judy_c.specs.contracts.strings.Strings.next_slot.Key.{name as lends}
use Rattle.judy_c.specs.contracts.string_slots.sellumaq_judysl_next_slot.Key.{name}
use Rattle.judy_c.proofs.string_slots.sellumaq_judysl_next_slot.Statement.{statement}
use Rattle.judy_c.proofs.string_slots.sellumaq_judysl_next_slot.Code as code

pub sellumaq_judysl_next_slot_spec : {M : Type 1} → statement M
sellumaq_judysl_next_slot_spec 𝓤 𝓛 𝓜 𝓡 wired =
    scans next 𝓤 𝓛 _ _ _ _ 𝓜 𝓡 name lends (code.unfolded 𝓤 𝓛.H 𝓜 𝓡 wired) (lender_met 𝓤 𝓛 𝓜 𝓡 (code.calls-judy_c::strings::Strings::next_slot 𝓡.env wired))
    (teller_met 𝓤 𝓛 𝓜 𝓡 (code.calls-judy_c::answers::answer_scan 𝓡.env wired))
