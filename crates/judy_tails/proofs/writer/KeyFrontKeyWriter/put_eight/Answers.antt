use Rattle.std.proofs.Common.{◌≡◌, ◌+◌, ◌-◌, length, drop, ap, ◌∙◌, arith}
use borrow.Rule.Slice.PartMut.{same_len_mid}
use Rattle.std.proofs.lemmas.Slice.{drop-put_mid}
use Rattle.std.proofs.lemmas.List.{length-take-le, length-drop}
use Rattle.judy_tails.proofs.writer.KeyFrontKeyWriter.put_eight.Goals as goal
use Rattle.judy_tails.proofs.writer.KeyFrontKeyWriter.put_eight.Goals.{then-end-self, else-end-self}

pub returns-clause-beyond : goal.returns-clause-beyond
returns-clause-beyond c = λ place behind.
    let key = c.args.self.now in
    let room = key.buffer.now in
    elim c.if-end-self.branch [
      | then-end-self w ↦
          let bytes = w.copy_from_slice.new.self in
          let within = w.if-end-self.true in
          let rest = length-drop key.len room in
          let eight : length bytes ≡ key.len + 8 - key.len = w.copy_from_slice.ensures.len ∙ length-take-le (key.len + 8 - key.len) _ (omega (arith, rest, within)) in
          ap (λ (k : _). (drop place k.buffer.now, length k.buffer.now, k.buffer.ghost_name)) w.self-is
          ∙ (λ t. (
            drop-put_mid key.len (key.len + 8 - key.len) room bytes place (omega (arith, behind)) (omega (arith, within)) eight t,
            same_len_mid key.len (key.len + 8 - key.len) room bytes w.copy_from_slice.ensures.len t,
            key.buffer.ghost_name,
          ))
      | else-end-self w ↦ ap (λ (k : _). (drop place k.buffer.now, length k.buffer.now, k.buffer.ghost_name)) w.self-is
    ]
