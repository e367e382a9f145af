use Rattle.std.proofs.Common.{List, ℕ, Contains}
use Rattle.judy_model.proofs.lemmas.maps.Ascending.{among_from_Contains, Contains-from_among}
use Rattle.judy_model.proofs.lemmas.maps.TableLemmas.{ListsAll, get-table, get-table_bad}
use Rattle.judy_model.proofs.laws.tables.a_table_answers_as_its_function.Goals as goal

-- A list holds all that it contains.
itself : (keys : List (List ℕ)) → ListsAll keys (λ key. Contains keys key)
itself keys = record { there = λ key here. among_from_Contains keys key here; only = λ key here. Contains-from_among keys key here }

pub returns-clause-listed : goal.returns-clause-listed
returns-clause-listed c = λ keys answer key here. get-table (itself keys) answer key here

pub returns-clause-others : goal.returns-clause-others
returns-clause-others c = λ keys answer key missing. get-table_bad (itself keys) answer key missing
