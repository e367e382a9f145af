use Rattle.std.proofs.Common.{◌≡◌, ◌≤◌, ◌+◌, ◌-◌, ◌++◌, ℕ, List, [], ◌∷◌, get_or, length, take, drop, ap, sym, subst, ◌∙◌, arith}
use Rattle.std.proofs.lemmas.List.{length-take-le, append_assoc, take_more}
use borrow.Rule.Slice.PartMut.{same_len_mid}
use Rattle.std.proofs.lemmas.Slice.{drop-put_mid}
use Rattle.judy_tails.proofs.Joined.{put-first}
use Rattle.judy_tails.proofs.Writing.{stays-beyond}
use Rattle.judy_tails.proofs.writer.KeyFrontKeyWriter.put_first.Goals as goal

pub loop-byte-preserved : goal.loop-byte-preserved
loop-byte-preserved c =
    let bytes = take c.args.count c.args.bytes.now in
    let at = c.loop-byte.byte-index in
    record {
      len = omega (arith, c.put.ensures.len, c.loop-byte.invariant.len);
      has = λ key is.
          subst (λ (more : List ℕ).
          (c.put.new.self.len ≡ length more) × (length more ≤ length c.put.new.self.buffer.now → take c.put.new.self.len c.put.new.self.buffer.now ≡ more))
          (append_assoc key (take at bytes) (get_or bytes at 0 ∷ []) ∙ ap (λ more. key ++ more) (sym (take_more bytes at 0 c.loop-byte-test.true)))
          (c.put.ensures.has (key ++ take at bytes) (c.loop-byte.invariant.has key is));
      beyond =
          stays-beyond (λ key. key.len) (λ key place. (drop place key.buffer.now, length key.buffer.now, key.buffer.ghost_name)) c.args.self.now c.loop-byte.self c.put.new.self 1 c.put.ensures.len
          c.loop-byte.invariant.beyond c.put.ensures.beyond;
    }

pub returns-in-Some-clause-beyond : goal.returns-in-Some-clause-beyond
returns-in-Some-clause-beyond c = λ place behind.
    let key = c.args.self.now in
    let count = c.args.count in
    let room = key.buffer.now in
    let first = take count c.args.bytes.now in
    let is = put-first key.len count room c.in-Some.stand first c.copy_from_slice.new.self c.requires.count c.in-Some.ensures.1 c.in-Some.ensures.0
    (c.copy_from_slice.ensures.after ∙ c.joined-eight.ensures) in
    let long = length-take-le count c.args.bytes.now (omega (arith, c.told-bytes, c.requires.count)) in
    let within = c.in-Some.ensures.1 in
    let left = ap (drop place) is ∙ drop-put_mid key.len count room first place (omega (arith, behind)) (omega (arith, within)) long in
    λ t. (left t, same_len_mid key.len (key.len + 8 - key.len) room c.copy_from_slice.new.self c.copy_from_slice.ensures.len t, key.buffer.ghost_name)
