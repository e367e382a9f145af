use Rattle.std.proofs.Common.{◌≡◌, ℕ, List, Bor, sym, ap, ◌∙◌, subst, arith}
use Rattle.std.proofs.lemmas.Grind.{common_steps}
use Rattle.std.proofs.lemmas.Result.{IfOk-at_ok}
use Rattle.std.specs.Prelude.{IfOk}
use Rattle.judy_model.specs.Keys.{IsBytesKey}
use Rattle.judy_model.proofs.lemmas.commands.Outcomes.{bytes_key_at-IsBytesKey}
use Rattle.judy_model.specs.Commands.{bytes_key_at}
use Rattle.judy_command.specs.Slots.{said}
use Rattle.judy_command.specs.KeyReads.{read_into}
use Rattle.judy_command.proofs.KeyReadLemmas.{IfOk-said}
use Rattle.judy_command.proofs.keys.bytes_key.Goals as goal

pub returns-in-61-clause-key : goal.returns-in-61-clause-key
returns-in-61-clause-key c =
    let same : said (λ (bytes : Bor (List ℕ)). bytes.now) c.signs_key.result ≡ bytes_key_at c.args.token.now = grind (arith, common_steps) in
    IfOk-said (λ (bytes : Bor (List ℕ)). bytes.now) IsBytesKey c.signs_key.result (subst (λ r. IfOk r IsBytesKey) (sym same) (bytes_key_at-IsBytesKey c.args.token.now))

pub returns-clause-key : goal.returns-clause-key
returns-clause-key c =
    let key = c.read_bytes_key.new.key.items in
    let was = sym c.read_bytes_key.ensures ∙ ap (λ r. read_into r key) c.in_ok-read_bytes_key.was in
    subst IsBytesKey (sym c.as_slice.ensures.value) (IfOk-at_ok IsBytesKey was (bytes_key_at-IsBytesKey c.args.token.now))
