-- `sellumaq_judyhs_ins`: the walk of the calls that put a byte string in, at its handle. Assumes `Logic`.
use Rattle.judy_c.specs.KeyInserts.{IsShort}
use Rattle.judy_c.proofs.bytes.Bytes.ins.Met.{met as lender_met}
use Rattle.judy_c.proofs.answers.answer_insert.Met.{met as teller_met}
use Rattle.judy_c.proofs.KeyInserts.{answers_slot}
use Rattle.judy_c.specs.ByteMaps.{array_in}
use Rattle.judy_c.specs.contracts.bytes.Bytes.{the_row}
use Rattle.judy_c.specs.contracts.bytes.Bytes.ins.Key.{name as lends}
use Rattle.judy_c.specs.contracts.judyhs.sellumaq_judyhs_ins.Key.{name}
use Rattle.judy_c.proofs.judyhs.sellumaq_judyhs_ins.Statement.{statement}
use Rattle.judy_c.proofs.judyhs.sellumaq_judyhs_ins.Code as code

pub sellumaq_judyhs_ins_spec : {M : Type 1} → statement M
sellumaq_judyhs_ins_spec 𝓤 𝓛 𝓜 𝓡 wired =
    answers_slot the_row tt array_in IsShort 𝓤 𝓛 _ _ _ _ 𝓜 𝓡 name lends (code.unfolded 𝓤 𝓛.H 𝓜 𝓡 wired) (lender_met 𝓤 𝓛 𝓜 𝓡 (code.calls-judy_c::bytes::Bytes::ins 𝓡.env wired))
    (teller_met 𝓤 𝓛 𝓜 𝓡 (code.calls-judy_c::answers::answer_insert 𝓡.env wired))
