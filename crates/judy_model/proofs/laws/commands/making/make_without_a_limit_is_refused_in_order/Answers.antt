use Rattle.judy_model.proofs.lemmas.commands.MakeCommands.{refused_name_alone, refused_kind_alone, refused_known_alone, refused_many_alone}
use Rattle.judy_model.proofs.laws.commands.making.make_without_a_limit_is_refused_in_order.Goals as goal

pub returns : goal.returns
returns c = record { name = refused_name_alone; kind = refused_kind_alone; known = refused_known_alone; many = refused_many_alone }
