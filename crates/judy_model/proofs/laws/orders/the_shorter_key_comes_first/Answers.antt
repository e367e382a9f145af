use Rattle.std.proofs.Common.{length, Equal, ap, sym}
use Rattle.std.specs.Ordering.{ordering_then}
use Rattle.std.specs.Cmp.{nat_cmp_is}
use Rattle.judy_model.specs.Keys.{byte_order}
use Rattle.judy_model.proofs.lemmas.orders.WordOrder.{less_word}
use Rattle.judy_model.proofs.laws.orders.the_shorter_key_comes_first.Goals as goal

pub returns : goal.returns
returns c = record {
  shorter = λ left right below. ap (λ first. ordering_then first (byte_order left right)) (less_word (length left) (length right) below);
  alike = λ left right same. ap (λ first. ordering_then first (byte_order left right)) (sym (nat_cmp_is (length left) (length right) Equal same));
}
