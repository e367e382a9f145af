-- What bytes share with a key that was found.
use Rattle.std.proofs.Common.{◌≡◌, ℕ, Bool, true, false, List, length, Option, Some, None, refl, sym, ◌∙◌, arith, true≢false, ⊎_elim}
use Rattle.std.proofs.lemmas.Bool.{eqb-true, eq-eqb, cases_lt}
use Rattle.std.proofs.lemmas.Option.{none-some}
use Rattle.judy_model.specs.DumpText.{shared_length}
use Rattle.judy_sl.specs.Readers.{shared_left, ends_left}
use Rattle.judy_sl.specs.Scans.{value_found}
use Rattle.judy_string_sets.specs.Walks.{Strings}
use Rattle.judy_string_sets.proofs.FrontFacts.{shared_most}
use Rattle.judy_string_sets.specs.Reaches.{IsReached}
use Rattle.judy_string_sets.specs.declared.longest.Reached.TheVariants.{Whole, Part}

module _ (m : Strings) (bytes : List ℕ) where
  -- By a reader that has all of the key left.
  module _ (found : Option (List ℕ)) (value len : ℕ) (ends : Bool) (held : value_found m found ≡ Some value) (long : len ≡ shared_left found bytes)
      (is : ends ≡ ends_left found bytes) where
    pub whole_read : ends ≡ true → IsReached m found bytes (Whole len value)
    whole_read all = by found held long is
      where
        by : (found : Option (List ℕ)) → value_found m found ≡ Some value → len ≡ shared_left found bytes → ends ≡ ends_left found bytes → IsReached m found bytes (Whole len value)
        by None held long is = absurd (none-some value held)
        by (Some key) held long is =
            let same = eqb-true (shared_length key bytes) (length key) (sym is ∙ all) in
            (key, refl, same, long ∙ same, held)

    pub part_read : ends ≡ false → IsReached m found bytes (Part len)
    part_read off = by found held long is
      where
        by : (found : Option (List ℕ)) → value_found m found ≡ Some value → len ≡ shared_left found bytes → ends ≡ ends_left found bytes → IsReached m found bytes (Part len)
        by None held long is = absurd (none-some value held)
        by (Some key) held long is =
            let most = (shared_most key bytes).0 in (
              key,
              refl,
              long,
              ⊎_elim
                  (λ less. omega (arith, less, long))
                  (λ more.
                  let same : shared_length key bytes ≡ length key = omega (arith, most, more) in
                  absurd (true≢false (sym (eq-eqb (shared_length key bytes) (length key) same) ∙ sym is ∙ off)))
                  (cases_lt (shared_length key bytes) (length key)),
            )
