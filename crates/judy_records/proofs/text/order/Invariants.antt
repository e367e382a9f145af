use Rattle.std.proofs.Common.{◌≡◌, drop}
use Rattle.judy_model.specs.Keys.{byte_order}
use Rattle.judy_records.specs.Texts.{words_of}
use Rattle.judy_records.proofs.text.order.Given as goal

abbrev pub invariant-loop-word : goal.invariant-loop-word
invariant-loop-word l = byte_order (drop l.word-index l.text) (words_of l.rest) ≡ byte_order l.text (words_of l.bytes)
