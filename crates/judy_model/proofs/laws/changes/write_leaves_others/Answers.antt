use Rattle.std.specs.Cmp.{nat_cmp_total}
use Rattle.std.specs.Cmp.Lexicographic.{nat_list_cmp_total}
use Rattle.std.specs.FinMap.{nat_cmp-IsAntisymmetric, slice_cmp-IsAntisymmetric}
use Rattle.judy_model.proofs.lemmas.maps.ChangesLemmas.{get-write_other}
use Rattle.judy_model.proofs.laws.changes.write_leaves_others.Goals as goal

pub returns : goal.returns
returns c = record {
  words = λ value map key. get-write_other nat_cmp_total map key nat_cmp-IsAntisymmetric value;
  byte_strings = λ value map key. get-write_other nat_list_cmp_total map key (slice_cmp-IsAntisymmetric nat_cmp-IsAntisymmetric) value;
}
