-- What remains of a run without the lines that wanted memory.
use Rattle.std.proofs.Common.{◌≡◌, ℕ, suc, ◌≤◌, Bool, true, false, ◌&&◌, ◌||◌, nat_lt, List, [], ◌∷◌, length, Ok, Err, refl, sym, ap, subst, ◌∙◌, arith, rules}
use Rattle.std.specs.Prelude.{flat_map}
use Rattle.std.specs.List.{list_all}
use Rattle.std.proofs.lemmas.Bool.{ltb-true}
use Rattle.judy_model.specs.Lines.{Line, lines_of}
use Rattle.judy_model.specs.LineLists.{are_lines}
use Rattle.judy_model.specs.Stores.{Store}
use Rattle.judy_model.specs.Replies.{Reply, Refusal, output_of, line_too_long, unknown_command, argument_count, bad_name, no_such_array, wrong_kind, bad_word, bad_key, bad_limit}
use Rattle.judy_model.specs.Replies.{exists, too_many_arrays, full, no_memory}
use Rattle.judy_model.specs.Steps.{step, Step}
use Rattle.judy_model.specs.Runs.{Steps, Run}
use Rattle.judy_model.specs.AmpleRuns.{ample_replies, ample_store, ample_output, store_after}
use Rattle.judy_model.specs.Remaining.{wants_memory, remaining_lines, remaining_replies, remaining_script}
use Rattle.judy_model.proofs.lemmas.commands.StepLemmas.{Step-no_memory}
use Rattle.judy_model.proofs.lemmas.runs.RunLaws.{Step-ample}
use Rattle.judy_model.proofs.lemmas.runs.LineLemmas.{is_inner, are_lines-lines_of, lines_of-script_of}
use Rattle.judy_model.proofs.lemmas.maps.Tests.{second_true}

-- ---- what drops out

wanted_by : (refusal : Refusal) → wants_memory (Err refusal) ≡ true → refusal ≡ no_memory
wanted_by line_too_long is = cc
wanted_by unknown_command is = cc
wanted_by argument_count is = cc
wanted_by bad_name is = cc
wanted_by no_such_array is = cc
wanted_by wrong_kind is = cc
wanted_by bad_word is = cc
wanted_by bad_key is = cc
wanted_by bad_limit is = cc
wanted_by exists is = cc
wanted_by too_many_arrays is = cc
wanted_by full is = cc
wanted_by no_memory is = refl

pub wanted : (reply : Reply) → wants_memory reply ≡ true → reply ≡ Err no_memory
wanted (Ok answer) is = cc
wanted (Err refusal) is = ap (λ why. Err why) (wanted_by refusal is)

-- a line that drops out, and one that remains, before others
module _ (line : Line) (lines : List Line) (replies : List Reply) where
  pub drops : (reply : Reply) → wants_memory reply ≡ true
      → (remaining_lines (line ∷ lines) (reply ∷ replies) ≡ remaining_lines lines replies) × (remaining_replies (line ∷ lines) (reply ∷ replies) ≡ remaining_replies lines replies)
  drops reply is = rw is (refl, refl)

  pub remains : (reply : Reply) → wants_memory reply ≡ false
      → (remaining_lines (line ∷ lines) (reply ∷ replies) ≡ line ∷ remaining_lines lines replies) × (remaining_replies (line ∷ lines) (reply ∷ replies) ≡ reply ∷ remaining_replies lines replies)
  remains reply is = rw is (refl, refl)

-- ---- what remains is answered by `step` alone

abbrev IsAnswered : Store → List Line → List Reply → Store → Type 0
IsAnswered before lines replies after =
    (ample_replies before (remaining_lines lines replies) ≡ remaining_replies lines replies) × (ample_store before (remaining_lines lines replies) ≡ after)

module _ (before after : Store) (line : Line) (lines : List Line) (reply : Reply) (replies : List Reply) where
  -- a line that drops out left the store as it was
  with_dropped : (between : Store) → wants_memory reply ≡ true → Step before line reply between → IsAnswered between lines replies after → IsAnswered before (line ∷ lines) (reply ∷ replies) after
  with_dropped between is step rest =
      let out = drops line lines replies reply is in
      let same : between ≡ before = Step-no_memory before between line (subst (λ r. Step before line r between) (wanted reply is) step) in (
        ap (ample_replies before) out.0 ∙ ap (λ store. ample_replies store (remaining_lines lines replies)) (sym same) ∙ rest.0 ∙ sym out.1,
        ap (ample_store before) out.0 ∙ ap (λ store. ample_store store (remaining_lines lines replies)) (sym same) ∙ rest.1,
      )

  -- a line that remains was answered as `step` says
  with_remaining : (between : Store) → wants_memory reply ≡ false → Step before line reply between → IsAnswered between lines replies after → IsAnswered before (line ∷ lines) (reply ∷ replies) after
  with_remaining between is its_step rest =
      let kept = remains line lines replies reply is in
      let does = Step-ample before between line reply its_step (λ short. cc (sym is ∙ ap wants_memory short)) in
      let here : (step before line).0 ≡ reply = ap (λ pair. pair.0) (sym does) in
      let there : (step before line).1 ≡ between = ap (λ pair. pair.1) (sym does) in (
        ap (ample_replies before) kept.0 ∙ ap (λ first. first ∷ ample_replies (step before line).1 (remaining_lines lines replies)) here
            ∙ ap (λ store. reply ∷ ample_replies store (remaining_lines lines replies)) there ∙ ap (λ others. reply ∷ others) rest.0 ∙ sym kept.1,
        ap (ample_store before) kept.0 ∙ ap (λ store. ample_store store (remaining_lines lines replies)) there ∙ rest.1,
      )

pub Steps-remaining : (before after : Store) (lines : List Line) (replies : List Reply) → Steps before lines replies after → IsAnswered before lines replies after
Steps-remaining before after [] [] steps = (refl, sym steps)
Steps-remaining before after [] (reply ∷ replies) steps = absurd steps
Steps-remaining before after (line ∷ lines) [] steps = absurd steps
Steps-remaining before after (line ∷ lines) (reply ∷ replies) steps =
    let rest = Steps-remaining steps.0 after lines replies steps.2 in
    elim (wants_memory reply) as (λ wants. wants_memory reply ≡ wants → IsAnswered before (line ∷ lines) (reply ∷ replies) after) [
      | true ↦ λ is. with_dropped before after line lines reply replies steps.0 is steps.1 rest
      | false ↦ λ is. with_remaining before after line lines reply replies steps.0 is steps.1 rest
    ] refl

-- ---- what remains is the lines of a script

remaining-fewer : (lines : List Line) (replies : List Reply) → length (remaining_lines lines replies) ≤ length lines
remaining-fewer [] replies = omega arith
remaining-fewer (line ∷ lines) [] = omega arith
remaining-fewer (line ∷ lines) (reply ∷ replies) =
    let rest = remaining-fewer lines replies in
    elim (wants_memory reply) as (λ wants. wants_memory reply ≡ wants → length (remaining_lines (line ∷ lines) (reply ∷ replies)) ≤ suc (length lines)) [
      | true ↦ λ is. rw is (omega arith)
      | false ↦ λ is. rw is (omega arith)
    ] refl

-- a line that was the last one, or that an LF ended, is so among fewer
still_a_line : (inner ended last last' some rest rest' : Bool) → (last ≡ true → last' ≡ true) → rest' ≡ true → ((inner && (ended || last && some)) && rest) ≡ true →
    ((inner && (ended || last' && some)) && rest') ≡ true
still_a_line true true last last' some rest rest' fewer is h = is
still_a_line true false true last' true rest rest' fewer is h = rw (fewer refl) is
still_a_line true false true last' false rest rest' fewer is h = cc
still_a_line true false false last' some rest rest' fewer is h = cc
still_a_line false ended last last' some rest rest' fewer is h = cc

are_lines-remaining : (lines : List Line) (replies : List Reply) → are_lines lines ≡ true → are_lines (remaining_lines lines replies) ≡ true
are_lines-remaining [] replies are = refl
are_lines-remaining (line ∷ lines) [] are = refl
are_lines-remaining (line ∷ lines) (reply ∷ replies) are =
    let rest = are_lines-remaining lines replies (second_true _ (are_lines lines) are) in
    elim (wants_memory reply) as (λ wants. wants_memory reply ≡ wants → are_lines (remaining_lines (line ∷ lines) (reply ∷ replies)) ≡ true) [
      | true ↦ λ is. ap are_lines (drops line lines replies reply is).0 ∙ rest
      | false ↦ λ is. ap are_lines (remains line lines replies reply is).0
          ∙ still_a_line (list_all is_inner line.bytes) line.ended (nat_lt (length lines) 1) _ _ (are_lines lines) _ (fewer (length lines) _ (remaining-fewer lines replies)) rest are
    ] refl
  where
    fewer : (n m : ℕ) → m ≤ n → nat_lt n 1 ≡ true → nat_lt m 1 ≡ true
    fewer n m less none = let small = ltb-true n 1 none in search (arith, rules)

pub lines_of-remaining : (script : List ℕ) (replies : List Reply) → lines_of (remaining_script script replies) ≡ remaining_lines (lines_of script) replies
lines_of-remaining script replies = lines_of-script_of _ (are_lines-remaining (lines_of script) replies (are_lines-lines_of script))

pub Run-remaining : (before after : Store) (script output : List ℕ) (run : Run before script output after)
    → (ample_output before (remaining_script script run.0) ≡ flat_map output_of (remaining_replies (lines_of script) run.0)) × (store_after before (remaining_script script run.0) ≡ after)
Run-remaining before after script output run =
    let lines = lines_of-remaining script run.0 in
    let answered = Steps-remaining before after (lines_of script) run.0 run.1 in
    (ap (λ l. flat_map output_of (ample_replies before l)) lines ∙ ap (flat_map output_of) answered.0, ap (ample_store before) lines ∙ answered.1)
