use Rattle.std.proofs.Common.{sym, ◌∙◌, ap, subst}
use Rattle.judy_model.specs.Keys.{word_order}
use Rattle.judy_model.specs.Nearest.{IsFirst}
use Rattle.judy_bits.specs.ByteSets as set
use Rattle.judy_leaf.specs.KeyLists.{keys_of}
use Rattle.judy_leaf.specs.Nearby.{is_absent}
use Rattle.judy_leaf.proofs.AbsentBytes.{first_absent_byte}
use Rattle.judy_leaf.proofs.bit_ref.BitRef.absent_at_or_after.Goals as goal

pub returns-then-number-lt256 : goal.returns-then-number-lt256
returns-then-number-lt256 g c =
    let keys = keys_of c.args.self.now.pairs in
    subst (λ found. IsFirst word_order (is_absent 256 keys) c.args.number found) (sym (c.as_word.ensures ∙ c.next_absent.ensures ∙
    ap (λ ks. set.next_absent ks c.args.number) c.bits.ensures.value)) (first_absent_byte keys c.args.number)
