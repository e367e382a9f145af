use Rattle.std.proofs.Common.{inl, refl, ⊎_elim, arith}
use Rattle.judy_model.proofs.examples.ways.one_node_holds_all_keys.Goals as goal

pub returns : goal.returns
returns c = record { of_33 = inl (refl, refl); elsewhere = inl (refl, refl); of_34 = λ h. ⊎_elim (λ one. let e = one.1 in omega arith) (λ never. never) h }
