use Rattle.std.proofs.Common.{◌≡◌, ℕ, ◌<◌, ◌==◌, false, length, sym, ◌∙◌, rules}
use Rattle.std.proofs.lemmas.Result.{on_ok_weaker, on_err_weaker}
use Rattle.judy_shelf.specs.Shelves.{store_of}
use Rattle.judy_command.specs.Replies.{line_reply_of}
use Rattle.judy_script.proofs.FeedLemmas.{Ran-last, RanInPart-last}
use Rattle.judy_script.proofs.engine.finish.Goals as goal

some_bytes : (n : ℕ) → (n == 0) ≡ false → 0 < n
some_bytes n h = search rules

pub returns-clause-ok : goal.returns-clause-ok
returns-clause-ok g c =
    on_ok_weaker c.put_out.result (λ written first fed before so_far.
    Ran-last first fed before _ _ _ so_far _ _ (some_bytes (length so_far.rest) (sym (c.is_empty.ensures.told so_far.rest so_far.holds) ∙ c.if-is_empty.false))
    (record { reply = line_reply_of (store_of c.reply-reply.new.shelf) c.reply-reply.result; step = c.reply-reply.ensures so_far.rest so_far.holds; written = written })) c.put_out.ensures.ok

pub returns-clause-err : goal.returns-clause-err
returns-clause-err g c =
    on_err_weaker c.put_out.result (λ written first fed before so_far.
    RanInPart-last first fed before _ _ _ so_far _ _ (some_bytes (length so_far.rest) (sym (c.is_empty.ensures.told so_far.rest so_far.holds) ∙ c.if-is_empty.false))
    (record { reply = line_reply_of (store_of c.reply-reply.new.shelf) c.reply-reply.result; step = c.reply-reply.ensures so_far.rest so_far.holds; written = written })) c.put_out.ensures.err
