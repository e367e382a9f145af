use Rattle.std.specs.Cmp.{nat_cmp_total}
use Rattle.std.specs.Cmp.Lexicographic.{nat_list_cmp_total}
use Rattle.std.specs.FinMap.{nat_cmp-IsAntisymmetric, slice_cmp-IsAntisymmetric}
use Rattle.judy_model.proofs.lemmas.maps.TwoMapsLemmas.{get-within}
use Rattle.judy_laws.proofs.laws.parts.within_answers_from_one_key_to_another.Goals as goal

pub returns : goal.returns
returns c = record { words = get-within nat_cmp_total nat_cmp-IsAntisymmetric; byte_strings = get-within nat_list_cmp_total (slice_cmp-IsAntisymmetric nat_cmp-IsAntisymmetric) }
