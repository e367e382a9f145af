use Rattle.std.proofs.Common.{◌≡◌, ℕ, ◌+◌, ◌*◌, ◌/◌, ◌<◌, ◌≤◌, ◌==◌, Bool, true, false, true≢false, nat_lt, lt-ltb, refl, sym, ◌∙◌, arith}
use Rattle.std.proofs.Math.Nat.{div-lt_iff_lt-mul}
use Rattle.std.proofs.lemmas.Bool.{ltb-true, eq-eqb, ne_eqb}
use Rattle.judy_leaf.proofs.one_word.is_full.Goals as goal

-- No further key fits where one more would take more than eight bytes.
full : (width count : ℕ) → 1 ≤ width → count ≤ 8 / width → nat_lt 8 ((count + 1) * width) ≡ (count == 8 / width)
full width count some within = told (nat_lt 8 ((count + 1) * width)) refl
  where
    told : (b : Bool) → nat_lt 8 ((count + 1) * width) ≡ b → nat_lt 8 ((count + 1) * width) ≡ (count == 8 / width)
    told true is =
        let above : 8 / width < count + 1 = (div-lt_iff_lt-mul some).1 (ltb-true 8 ((count + 1) * width) is) in
        is ∙ sym (eq-eqb count (8 / width) (omega arith))
    told false is =
        is ∙ sym (ne_eqb count (8 / width) (λ same.
        let above : 8 < (count + 1) * width = (div-lt_iff_lt-mul some).0 (omega arith) in
        true≢false (sym (lt-ltb 8 ((count + 1) * width) above) ∙ is)))

pub returns : goal.returns
returns c = full c.args.width c.args.count c.requires.width.some c.requires.within
