use Rattle.judy_model.proofs.lemmas.commands.MakeCommands.{refused_name, refused_kind, refused_word, refused_zero, refused_limit, refused_known, refused_many}
use Rattle.judy_model.proofs.laws.commands.making.make_is_refused_in_order.Goals as goal

pub returns : goal.returns
returns c = record { name = refused_name; kind = refused_kind; word = refused_word; zero = refused_zero; limit = refused_limit; known = refused_known; many = refused_many }
