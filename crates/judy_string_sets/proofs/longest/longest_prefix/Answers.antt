use Rattle.std.proofs.Common.{◌≡◌, ◌≢◌, ◌≤◌, ◌<◌, ℕ, List, All, length, take, sym, ap, ◌∙◌, subst, Some, arith}
use Rattle.std.specs.FinMap.{get}
use Rattle.std.specs.Option.{option_map}
use Rattle.std.proofs.lemmas.List.{take_all, length-take-le, get_or-take}
use Rattle.judy_model.specs.DumpText.{shared_length}
use Rattle.judy_model.specs.Neighbours.{last}
use Rattle.judy_string_sets.specs.declared.longest.Reached.{Reached}
use Rattle.judy_string_sets.specs.Reaches.{IsReached}
use Rattle.judy_string_sets.proofs.FrontFacts.{shared_front, shared_most}
use Rattle.judy_string_sets.proofs.PrefixSteps.{none_there, whole_there, shorter, others_short}
use Rattle.judy_string_sets.proofs.longest.longest_prefix.Goals as goal

-- Where all of a key is shared, the front of the bytes is the key.
whole_front : (key bytes : List ℕ) (shared : ℕ) → shared_length key bytes ≡ length key → shared ≡ length key → take shared bytes ≡ key
whole_front key bytes shared same long =
    ap (λ n. take n bytes) (long ∙ sym same) ∙ sym (shared_front key bytes) ∙ ap (λ n. take n key) same ∙ take_all (length key) key (omega arith)

-- A shorter front has no zero byte either.
still : (bytes : List ℕ) (short end : ℕ) → short ≤ end → end ≤ length bytes → All (λ byte. byte ≢ 0) (take end bytes) → All (λ byte. byte ≢ 0) (take short bytes)
still bytes short end less within all = λ k d inside zero.
    let front = length-take-le end bytes within in
    let few = length-take-le short bytes (omega (arith, less, within)) in
    all k d (omega (arith, inside, few, less, front)) (get_or-take end bytes k d (omega (arith, inside, few, less)) ∙ sym (get_or-take short bytes k d (omega (arith, inside, few))) ∙ zero)

pub returns-in_err-shared-clause-key : goal.returns-in_err-shared-clause-key
returns-in_err-shared-clause-key g c =
    ap (option_map (λ (found : ℕ × ℕ). take found.0 c.args.bytes.now)) c.from_residual.ensures
    ∙ sym (none_there c.args.strings.now.map c.args.bytes.now c.fronts.end c.fronts.invariant.others c.in_err-shared.ensures)

pub returns-in-Whole-clause-within : goal.returns-in-Whole-clause-within
returns-in-Whole-clause-within g c =
    let m = c.args.strings.now.map in
    let bytes = c.args.bytes.now in
    let is = subst (λ (r : Reached). IsReached m (last m (take c.fronts.end bytes)) bytes r) c.in-Whole.is c.in_ok-shared.ensures in
    let most = (shared_most is.0 bytes).1 in
    let same = is.2 in
    let long = is.3 in
    omega (arith, most, same, long)

pub returns-in-Whole-clause-key : goal.returns-in-Whole-clause-key
returns-in-Whole-clause-key g c =
    let m = c.args.strings.now.map in
    let bytes = c.args.bytes.now in
    let is = subst (λ (r : Reached). IsReached m (last m (take c.fronts.end bytes)) bytes r) c.in-Whole.is c.in_ok-shared.ensures in
    ap Some (whole_front is.0 bytes c.in-Whole.shared is.2 is.3) ∙ sym (whole_there m bytes c.fronts.end is.0 is.1 c.fronts.invariant.others is.2)

pub returns-in-Whole-clause-value : goal.returns-in-Whole-clause-value
returns-in-Whole-clause-value g c =
    let m = c.args.strings.now.map in
    let bytes = c.args.bytes.now in
    let is = subst (λ (r : Reached). IsReached m (last m (take c.fronts.end bytes)) bytes r) c.in-Whole.is c.in_ok-shared.ensures in
    ap (get m) (whole_front is.0 bytes c.in-Whole.shared is.2 is.3) ∙ is.4

pub fronts-smaller : goal.fronts-smaller
fronts-smaller g c =
    let m = c.args.strings.now.map in
    let bytes = c.args.bytes.now in
    let is = subst (λ (r : Reached). IsReached m (last m (take c.fronts.end bytes)) bytes r) c.in-Part.is c.in_ok-shared.ensures in
    let shared = is.2 in
    let few = is.3 in
    let less = shorter m bytes c.fronts.end is.0 is.1 (omega (arith, shared, few)) in
    omega (arith, less, shared)

pub fronts-preserved : goal.fronts-preserved
fronts-preserved g c =
    let m = c.args.strings.now.map in
    let bytes = c.args.bytes.now in
    let end = c.fronts.end in
    let is = subst (λ (r : Reached). IsReached m (last m (take end bytes)) bytes r) c.in-Part.is c.in_ok-shared.ensures in
    let shared = is.2 in
    let few = is.3 in
    let part : shared_length is.0 bytes < length is.0 = omega (arith, shared, few) in
    let less = shorter m bytes end is.0 is.1 part in
    let most = (shared_most is.0 bytes).1 in
    let short = c.fronts.invariant.short in
    record {
      within = omega (arith, shared, most);
      short = omega (arith, less, shared, short);
      without_zero = still bytes c.in-Part.shared end (omega (arith, less, shared)) c.fronts.invariant.within c.fronts.invariant.without_zero;
      others = λ other there begins.
          let long = others_short m bytes end is.0 is.1 c.fronts.invariant.others part other there begins in
          omega (arith, long, shared);
    }
