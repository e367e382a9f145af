use Rattle.std.proofs.Common.{inl, inr, refl, ⊎_elim, arith}
use Rattle.judy_model.proofs.examples.ways.a_node_below_holds_fewer.Goals as goal

pub returns-clause-branch : goal.returns-clause-branch
returns-clause-branch c = inl (refl, refl)

pub returns-clause-below : goal.returns-clause-below
returns-clause-below c = inr (inl (refl, refl))

pub returns-clause-beside : goal.returns-clause-beside
returns-clause-beside c = λ h. ⊎_elim
    (λ root. let e = root.1 in omega arith)
    (λ below. ⊎_elim (λ leaf. let e = leaf.0 in omega arith) (λ last. ⊎_elim (λ key. let e = key.1 in omega arith) (λ never. never) last) below)
    h
