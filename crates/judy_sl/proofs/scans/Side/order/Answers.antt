use Rattle.std.proofs.Common.{◌∙◌, sym, ap}
use Rattle.std.specs.Ordering.{ordering_reverse}
use Rattle.judy_model.proofs.lemmas.maps.TableLemmas.{byte_order_total}
use Rattle.judy_sl.proofs.scans.Side.order.Goals as goal

pub returns-in-Above : goal.returns-in-Above
returns-in-Above c = rw c.in-Above.is (c.reverse.ensures ∙ ap ordering_reverse c.order-order.ensures ∙ sym (byte_order_total.antisymm c.args.rest.now c.args.tail.now.0))
