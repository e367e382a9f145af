use Rattle.judy_model.proofs.lemmas.dumps.SharedKeys.{shares_front, front_is_shared}
use Rattle.judy_model.proofs.laws.dumps.the_shared_front_is_the_longest.Goals as goal

pub returns : goal.returns
returns c = record {
  within_left = λ left right. (shares_front left right).within_left;
  within_right = λ left right. (shares_front left right).within_right;
  shared = λ left right. (shares_front left right).same;
  longest = front_is_shared;
}
