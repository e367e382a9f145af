-- What is read of a slice is a front of it.
use Rattle.std.proofs.Common.{◌≡◌, ℕ, ◌≤◌, Bool, true, List, [], ◌∷◌, ◌++◌, length, take, drop, Some, Result, Ok, Err, refl, sym, ap, subst, ◌∙◌, append-nil, arith}
use Rattle.std.proofs.lemmas.List.{take_all, take-append-drop}
use Rattle.std.specs.Result.{result_err}
use Rattle.judy_model.specs.Arrays.{ArrayValue}
use Rattle.judy_model.specs.Fields.{truncated, value_of}
use Rattle.judy_model.specs.DumpGrammar as grammar
use Rattle.judy_model.specs.DumpGrammar.{IsDump, flaw_of}
use Rattle.judy_model.specs.DumpPlaces.{EndsAtEntry}
use Rattle.judy_pipe.specs.Pipe.{grown}
use Rattle.judy_shelf.specs.declared.one.OneFault.{OneFault}
use Rattle.judy_shelf.specs.declared.one.OneFault.TheVariants.{Load, NotOne, OtherKind}
use Rattle.judy_shelf.specs.Reads.{Drawn, drawn, Cause, reader, memory, cut, told, cause_of, LoadsFault}
use Rattle.judy_shelf.specs.Ones.{LoadedOne, SaysOthers, SaysKindBeside}
use Rattle.judy_saved.specs.Loads.{IsFaultOf, IsLoaded}
use Rattle.judy_saved.specs.Sources.{told_of}

same_halves : (one other left right : List ℕ) → length one ≡ length other → one ++ left ≡ other ++ right → (one ≡ other) × (left ≡ right)
same_halves [] [] left right same is = (refl, is)
same_halves [] (y ∷ other) left right same is = absurd (omega (arith, same))
same_halves (x ∷ one) [] left right same is = absurd (omega (arith, same))
same_halves (x ∷ one) (y ∷ other) left right same is =
    let head : x ≡ y = cc in
    let tail : one ++ left ≡ other ++ right = cc in
    let rest = same_halves one other left right (omega (arith, same)) tail in
    let first = rest.0 in
    ((λ t. head t ∷ first t), rest.1)

module _ (first : Bool) (whole other : List ℕ) (given : ℕ) (ended : Bool) (within : given ≤ length other) (last : ended ≡ true → given ≡ length other) where
  abbrev before : Drawn
  before = drawn (Some (told_of whole 0)) (Some first) 0

  abbrev after : Drawn
  after = drawn (Some (told_of other given)) (Some ended) 0

  -- The slice is the one that it was, and what was read is its front.
  front_read : (input : List ℕ) → after.given ≡ grown before.given input → (other ≡ whole) × (take given other ≡ input)
  front_read input is =
      let counts : length other ≡ length whole = cc in
      let bytes : other ++ take given other ≡ (whole ++ take 0 whole) ++ input = cc in
      same_halves other whole (take given other) input counts (bytes ∙ ap (λ all. all ++ input) (append-nil whole))

  behind : (input : List ℕ) → after.given ≡ grown before.given input → input ++ drop given whole ≡ whole
  behind input is =
      let front = front_read input is in
      ap (λ all. all ++ drop given whole) (sym front.1 ∙ ap (take given) front.0) ∙ take-append-drop given whole

  at_end : (input : List ℕ) → after.given ≡ grown before.given input → ended ≡ true → input ≡ whole
  at_end input is end =
      let front = front_read input is in
      let all = last end in
      sym front.1 ∙ take_all given other (omega (arith, all)) ∙ front.0

  fault_bytes : (cause : Cause) → LoadsFault cause before after → IsFaultOf cause whole
  fault_bytes reader read = absurd (omega (arith, read.stops.0))
  fault_bytes memory read = (read.input, (drop given whole, sym (behind read.input read.given)), read.stops.1)
  fault_bytes cut read =
      ap (λ r. result_err (value_of r)) (subst (λ bytes. grammar.store bytes ≡ Err truncated) (at_end read.input read.given read.stops.1) read.stops.2)
  fault_bytes (told flaw) read =
      ap (λ r. result_err (value_of r)) (subst (λ bytes. grammar.store bytes ≡ Err flaw) (behind read.input read.given) (read.stops.1 (drop given whole)))

  pub loaded_bytes : {X : Type 0} (kind : ℕ) (with_most : ℕ → X → ArrayValue) (result : Result X OneFault) → LoadedOne kind with_most before result after → IsLoaded kind with_most whole result
  loaded_bytes kind with_most (Ok made) read =
      let name = read.0 in
      let limit = read.1 in
      let all = at_end read.2.input read.2.given read.2.ended in
      let ends = front_read read.3.0 read.3.1 in
      let same = front_read read.2.input read.2.given in
      record {
        version = read.2.version;
        name = name;
        limit = limit;
        is_dump = subst (λ bytes. IsDump read.2.version bytes ((name, with_most limit made) ∷ [])) all read.2.is_dump;
        is_store = read.2.is_store;
        is_regular = read.2.is_regular;
        ends = subst EndsAtEntry (sym ends.1 ∙ same.1 ∙ all) read.3.2;
      }
  loaded_bytes kind with_most (Err (Load fault)) read = fault_bytes (cause_of fault) read
  loaded_bytes kind with_most (Err NotOne) read = (drop given whole, subst (SaysOthers (drop given whole)) (behind read.input read.given) (read.holds (drop given whole)))
  loaded_bytes kind with_most (Err OtherKind) read = (drop given whole, subst (SaysKindBeside kind (drop given whole)) (behind read.input read.given) (read.holds (drop given whole)))
