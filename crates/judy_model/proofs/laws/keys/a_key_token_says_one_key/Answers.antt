use Rattle.judy_model.proofs.lemmas.commands.KeyTokenLemmas.{key_of-one, printed_key-one}
use Rattle.judy_model.proofs.laws.keys.a_key_token_says_one_key.Goals as goal

pub returns : goal.returns
returns c = record { said = key_of-one; printed = printed_key-one }
