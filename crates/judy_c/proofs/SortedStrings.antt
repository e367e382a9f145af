-- What a fault of a list of strings is answered as.
use Rattle.std.proofs.Common.{◌≡◌, ℕ, List, [], ◌∷◌, map, inr, refl, sym, ap, subst, ◌∙◌}
use Rattle.std.specs.Prelude.{Result, Ok, Err, IfErr}
use Rattle.std.specs.Result.{IsErrAnd}
use Rattle.std.specs.Borrow.{Bor}
use Rattle.judy_model.specs.Keys.{byte_order}
use Rattle.judy_model.specs.Arrays.{ArrayOf}
use Rattle.judy_sl.specs.Strings.{IsString}
use Rattle.judy_sl.specs.Sorted.{pairs_in, strings_in, IsFault}
use Rattle.judy_sl.specs.declared.sorted.SlSortedError.{SlSortedError}
use Rattle.judy_sl.specs.declared.sorted.SlSortedError.TheVariants.{BadKey, NotAscending, Full, NoMemory}
use Rattle.judy_c.specs.KeyWalks.{Page}
use Rattle.judy_c.specs.SortedStrings.{pairs_on, most_strings, number_of, place_of, AreWhole, IsUnfit, IsMadeOf}

-- the strings of the list are those on the page
strings_listed : (pairs : List (Bor (List ℕ) × ℕ)) → strings_in pairs ≡ map (λ pair. pair.0) (pairs_in pairs)
strings_listed [] = refl
strings_listed (pair ∷ pairs) = ap (λ rest. pair.0.now ∷ rest) (strings_listed pairs)

-- a list whose strings don't fit
pub list_unfit : (page : Page) (pairs : List (Bor (List ℕ) × ℕ)) (fault : SlSortedError) → AreWhole page → pairs_in pairs ≡ pairs_on page.bytes page.entries →
    IsFault IsString most_strings (strings_in pairs) fault → IsUnfit page fault
list_unfit page pairs fault whole listed is = inr (whole, subst (λ strings. IsFault IsString most_strings strings fault) (strings_listed pairs ∙ ap (map (λ pair. pair.0)) listed) is)

-- what is answered then
pub unfit_answered : (page : Page) (array : ArrayOf byte_order) (same : Type 0) (fault : SlSortedError) (before answer after : ℕ) → IsUnfit page fault →
    answer ≡ number_of fault → after ≡ place_of fault before → same → IsMadeOf page array same before answer after
unfit_answered page array same (BadKey at) before answer after is number told kept = subst (λ n. IsMadeOf page array same before n after) (sym number) (BadKey at, is, refl, told, kept)
unfit_answered page array same (NotAscending at) before answer after is number told kept = subst (λ n. IsMadeOf page array same before n after) (sym number) (NotAscending at, is, refl, told, kept)
unfit_answered page array same (Full at) before answer after is number told kept = subst (λ n. IsMadeOf page array same before n after) (sym number) (Full at, is, refl, told, kept)
unfit_answered page array same NoMemory before answer after is number told kept = subst (λ n. IsMadeOf page array same before n after) (sym number) (NoMemory, is, refl, told, kept)

-- what is handed on is unfit as that was
pub handed_on : {X : Type 0} (page : Page) (fault : SlSortedError) (result : Result X SlSortedError) → IsErrAnd result (λ told. told ≡ fault) → IsUnfit page fault → IfErr result (IsUnfit page)
handed_on page fault (Ok value) is unfit = absurd is
handed_on page fault (Err told) is unfit = subst (IsUnfit page) (sym is) unfit
