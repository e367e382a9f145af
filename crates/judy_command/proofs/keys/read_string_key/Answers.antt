use Rattle.std.proofs.Common.{◌≡◌, not, ◌==◌, true, false, sym, ap, ◌∙◌}
use Rattle.std.specs.List.{list_all}
use Rattle.std.proofs.lemmas.Result.{IfOk-at_ok}
use Rattle.judy_model.specs.Keys.{IsStringKey}
use Rattle.judy_model.specs.KeyTokens.{key_of}
use Rattle.judy_model.proofs.lemmas.commands.Outcomes.{string_key_at-IsStringKey}
use Rattle.judy_command.specs.Replies.{refusal_of}
use Rattle.judy_command.specs.KeyReads.{read_into}
use Rattle.judy_command.proofs.MakeLemmas.{error_is}
use Rattle.judy_command.proofs.KeyReadLemmas.{string_key-from, string_key-refused}
use Rattle.judy_command.proofs.keys.read_string_key.Goals as goal

pub returns-in_err-read_bytes_key-clause-said : goal.returns-in_err-read_bytes_key-clause-said
returns-in_err-read_bytes_key-clause-said c =
    let refusal = c.in_err-read_bytes_key.field-0.0 in
    ap (λ r. read_into r c.read_bytes_key.new.key.items) (error_is c.from_residual.result refusal c.from_residual.ensures.1)
    ∙ sym (string_key-refused (key_of c.args.token.now) (refusal_of refusal) (sym c.read_bytes_key.ensures ∙ ap (λ r. read_into r c.read_bytes_key.new.key.items) c.in_err-read_bytes_key.was))

pub returns-then-not-are_nonzero-clause-said : goal.returns-then-not-are_nonzero-clause-said
returns-then-not-are_nonzero-clause-said c =
    let key = c.read_bytes_key.new.key.items in
    let holds : list_all (λ byte. not (byte == 0)) key ≡ false = ap (list_all (λ byte. not (byte == 0))) (sym c.deref.ensures.0) ∙ sym c.are_nonzero.ensures ∙ c.if-not-are_nonzero.true in
    sym (string_key-from (key_of c.args.token.now) key false holds (sym c.read_bytes_key.ensures ∙ ap (λ r. read_into r key) c.in_ok-read_bytes_key.was))

pub returns-clause-said : goal.returns-clause-said
returns-clause-said c =
    let key = c.read_bytes_key.new.key.items in
    let holds : list_all (λ byte. not (byte == 0)) key ≡ true = ap (list_all (λ byte. not (byte == 0))) (sym c.deref.ensures.0) ∙ sym c.are_nonzero.ensures ∙ c.if-not-are_nonzero.false in
    sym (string_key-from (key_of c.args.token.now) key true holds (sym c.read_bytes_key.ensures ∙ ap (λ r. read_into r key) c.in_ok-read_bytes_key.was))

pub returns-clause-key : goal.returns-clause-key
returns-clause-key c =
    let key = c.read_bytes_key.new.key.items in
    let holds : list_all (λ byte. not (byte == 0)) key ≡ true = ap (list_all (λ byte. not (byte == 0))) (sym c.deref.ensures.0) ∙ sym c.are_nonzero.ensures ∙ c.if-not-are_nonzero.false in
    let said = string_key-from (key_of c.args.token.now) key true holds (sym c.read_bytes_key.ensures ∙ ap (λ r. read_into r key) c.in_ok-read_bytes_key.was) in
    IfOk-at_ok IsStringKey said (string_key_at-IsStringKey c.args.token.now)
