use Rattle.judy_model.proofs.lemmas.commands.OrderedRefusals.{drop-of, free-of, key-of, pair-of, bad_named}
use Rattle.judy_model.proofs.laws.commands.order.a_bad_name_is_refused.Goals as goal

pub returns : goal.returns
returns c = record {
  drop = bad_named drop-of;
  free = bad_named free-of;
  one = λ which word token named. bad_named (key-of which word token named);
  two = λ which word first second named. bad_named (pair-of which word first second named);
}
