use Rattle.std.proofs.Common.{sym, ◌∙◌, ap, subst}
use Rattle.judy_model.specs.Keys.{word_order}
use Rattle.judy_model.specs.Nearest.{IsLast}
use Rattle.judy_bits.specs.ByteSets as set
use Rattle.judy_leaf.specs.KeyLists.{keys_of}
use Rattle.judy_leaf.specs.Nearby.{is_absent}
use Rattle.judy_leaf.proofs.AbsentBytes.{last_absent_byte_from}
use Rattle.judy_leaf.proofs.bit_ref.BitRef.absent_at_or_before.Goals as goal

pub returns : goal.returns
returns g c =
    let keys = keys_of c.args.self.now.pairs in
    subst (λ found. IsLast word_order (is_absent 256 keys) c.args.number found) (sym (c.as_word.ensures ∙ c.prev_absent.ensures ∙
    ap (λ ks. set.prev_absent ks c.min.result) c.bits.ensures.value ∙ ap (set.prev_absent keys) c.min.ensures)) (last_absent_byte_from keys c.args.number)
