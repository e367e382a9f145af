use Rattle.std.proofs.Common.{◌≡◌, false, ap, ◌∙◌, rules}
use Rattle.std.specs.Prelude.{take}
use Rattle.judy_model.specs.Lines.{Line, is_too_long, text_of}
use Rattle.judy_model.specs.Tokens.{tokens_of}
use Rattle.judy_shelf.specs.Shelves.{store_of}
use Rattle.judy_command.specs.Texts.{texts}
use Rattle.judy_script.proofs.StepsOfLines.{Step-Follows, outcome_of-tokens}
use Rattle.judy_script.proofs.line.line_reply.Goals as goal

pub returns : goal.returns
returns c =
    let line : Line = record { bytes = c.args.bytes.now; ended = c.args.ended } in
    let fits : is_too_long line ≡ false = search rules in
    let tokens : texts c.deref.result.now ≡ take 5 (tokens_of (text_of line)) =
    ap texts c.deref.ensures.0 ∙ c.split.ensures ∙ ap (λ text. take 5 (tokens_of text)) c.without_return.ensures in
    Step-Follows (store_of c.args.shelf.now) (store_of c.execute.new.shelf) line _
    (rw (outcome_of-tokens (store_of c.args.shelf.now) line (texts c.deref.result.now) fits tokens) c.execute.ensures)
