use Rattle.judy_model.proofs.laws.run_ends.a_script_is_too_long_where_more_is_given.Goals as goal

pub returns : goal.returns
returns c = record {
  done = λ before after max_bytes given output at_end end. (end.fits, end.at_end, end.ran);
  read = λ before after max_bytes given output at_end left. left.fits;
  too_long = λ before after max_bytes given output at_end left. left.exceeds;
}
