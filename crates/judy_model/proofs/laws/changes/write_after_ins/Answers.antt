use Rattle.std.specs.Cmp.{nat_cmp_total}
use Rattle.std.specs.Cmp.Lexicographic.{nat_list_cmp_total}
use Rattle.std.specs.FinMap.{nat_cmp-IsAntisymmetric, slice_cmp-IsAntisymmetric}
use Rattle.judy_model.proofs.lemmas.maps.ChangesLemmas.{write-ins}
use Rattle.judy_model.proofs.laws.changes.write_after_ins.Goals as goal

pub returns : goal.returns
returns c = record {
  words = λ map key. write-ins nat_cmp_total map key nat_cmp-IsAntisymmetric;
  byte_strings = λ map key. write-ins nat_list_cmp_total map key (slice_cmp-IsAntisymmetric nat_cmp-IsAntisymmetric);
}
