-- `sellumaq_judysl_ins`: the walk of the calls that put a byte string in, at its handle. Assumes `Logic`.
use Rattle.judy_sl.specs.Strings.{IsString}
use Rattle.judy_c.proofs.strings.Strings.ins.Met.{met as lender_met}
use Rattle.judy_c.proofs.answers.answer_insert.Met.{met as teller_met}
use Rattle.judy_c.proofs.KeyInserts.{answers_slot}
use Rattle.judy_c.specs.StringMaps.{array_in}
use Rattle.judy_c.specs.contracts.strings.Strings.{the_row}
use Rattle.judy_c.specs.contracts.strings.Strings.ins.Key.{name as lends}
use Rattle.judy_c.specs.contracts.judysl.sellumaq_judysl_ins.Key.{name}
use Rattle.judy_c.proofs.judysl.sellumaq_judysl_ins.Statement.{statement}
use Rattle.judy_c.proofs.judysl.sellumaq_judysl_ins.Code as code

pub sellumaq_judysl_ins_spec : {M : Type 1} → statement M
sellumaq_judysl_ins_spec 𝓤 𝓛 𝓜 𝓡 wired =
    answers_slot the_row tt array_in IsString 𝓤 𝓛 _ _ _ _ 𝓜 𝓡 name lends (code.unfolded 𝓤 𝓛.H 𝓜 𝓡 wired) (lender_met 𝓤 𝓛 𝓜 𝓡 (code.calls-judy_c::strings::Strings::ins 𝓡.env wired))
    (teller_met 𝓤 𝓛 𝓜 𝓡 (code.calls-judy_c::answers::answer_insert 𝓡.env wired))
