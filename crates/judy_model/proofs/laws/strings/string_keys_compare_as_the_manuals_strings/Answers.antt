use Rattle.judy_model.proofs.lemmas.orders.StringLemmas.{byte_order-strings}
use Rattle.judy_model.proofs.laws.strings.string_keys_compare_as_the_manuals_strings.Goals as goal

pub returns : goal.returns
returns c = byte_order-strings
