-- Runs: one after another, with ample memory, and cut off.
use Rattle.std.proofs.Common.{◌≡◌, ◌≢◌, ◌↔◌, ℕ, ◌<◌, Bool, true, false, ◌&&◌, ◌||◌, ◌⊎◌, inl, inr, ⊎_elim, length-append, List, [], ◌∷◌, ◌++◌, length, take, drop, Err, refl, sym}
use Rattle.std.proofs.Common.{ap, subst, ◌∙◌, arith, All, append_assoc, append-nil, nat_lt}
use Rattle.std.specs.Prelude.{flat_map}
use Rattle.std.specs.List.{list_all}
use Rattle.std.proofs.lemmas.Bool.{false_from_ne_true, ltb-true}
use Rattle.std.proofs.lemmas.Grind.{flat_map-append}
use Rattle.std.proofs.lemmas.List.{take-append-drop}
use Rattle.std.proofs.lemmas.List.Elements.{All-head, All-tail}
use Rattle.std.proofs.Math.Seq.{take-append_seam}
use Rattle.judy_model.specs.Lines.{Line, lines_of}
use Rattle.judy_model.specs.LineLists.{are_whole_lines, whole_line, script_of, are_lines}
use Rattle.judy_model.specs.Stores.{Store}
use Rattle.judy_model.specs.Replies.{Reply, no_memory, output_of}
use Rattle.judy_model.specs.Steps.{step, Step}
use Rattle.judy_model.specs.Runs.{Steps, Run, CutOff}
use Rattle.judy_model.specs.AmpleRuns.{ample_replies, ample_store, ample_output, store_after}
use Rattle.judy_model.specs.CutRuns.{Begins, RanInto}
use Rattle.judy_model.proofs.lemmas.runs.LineLemmas.{is_inner, all_ended, no_lines, script_of-lines_of, are_lines-lines_of, lines_of-script_of, lines_of-whole_lines}
use Rattle.judy_model.proofs.lemmas.maps.Tests.{first_true, second_true, both_true}

-- ---- lines after lines

pub Steps-append : (before between after : Store) (lines more : List Line) (replies later : List Reply) → Steps before lines replies between → Steps between more later after →
    Steps before (lines ++ more) (replies ++ later) after
Steps-append before between after [] more [] later first second = subst (λ store. Steps store more later after) first second
Steps-append before between after [] more (reply ∷ replies) later first second = absurd first
Steps-append before between after (line ∷ lines) more [] later first second = absurd first
Steps-append before between after (line ∷ lines) more (reply ∷ replies) later first second =
    (first.0, first.1, Steps-append first.0 between after lines more replies later first.2 second)

-- the steps of lines and more: those of the lines, and then those of the rest
pub record CutSteps (before after : Store) (lines more : List Line) (replies : List Reply) : Type 0 where
  pub between : Store
  pub first : List Reply
  pub later : List Reply
  pub split : replies ≡ first ++ later
  pub lines_do : Steps before lines first between
  pub rest_does : Steps between more later after

pub Steps-cut : (before after : Store) (lines more : List Line) (replies : List Reply) → Steps before (lines ++ more) replies after → CutSteps before after lines more replies
Steps-cut before after [] more replies steps =
    record { between = before; first = []; later = replies; split = refl; lines_do = refl; rest_does = steps }
Steps-cut before after (line ∷ lines) more [] steps = absurd steps
Steps-cut before after (line ∷ lines) more (reply ∷ replies) steps =
    let cut = Steps-cut steps.0 after lines more replies steps.2 in
    record {
      between = cut.between;
      first = reply ∷ cut.first;
      later = cut.later;
      split = ap (λ others. reply ∷ others) cut.split;
      lines_do = (steps.0, steps.1, cut.lines_do);
      rest_does = cut.rest_does;
    }

-- ---- scripts of no line and of one

pub Run-none : (before after : Store) (output : List ℕ) → Run before [] output after ↔ ((output ≡ []) × (after ≡ before))
Run-none before after output = (λ run. forth run.0 run.1 run.2, λ is. ([], is.1, is.0))
  where
    forth : (replies : List Reply) → Steps before [] replies after → output ≡ flat_map output_of replies → (output ≡ []) × (after ≡ before)
    forth [] steps put_out = (put_out, steps)
    forth (reply ∷ replies) steps put_out = absurd steps

-- the step that the steps of one line are
Steps-one : (before after : Store) (line : Line) (replies : List Reply) → Steps before (line ∷ []) replies after → (reply : Reply) × (replies ≡ reply ∷ []) × Step before line reply after
Steps-one before after line [] steps = absurd steps
Steps-one before after line (reply ∷ []) steps = (reply, refl, subst (Step before line reply) (sym steps.2) steps.1)
Steps-one before after line (reply ∷ other ∷ replies) steps = absurd steps.2

pub Run-one : (before after : Store) (script output : List ℕ) (line : Line) → lines_of script ≡ line ∷ [] →
    Run before script output after ↔ ((reply : Reply) × Step before line reply after × (output ≡ output_of reply))
Run-one before after script output line one = (
  λ run.
      let only = Steps-one before after line run.0 (subst (λ lines. Steps before lines run.0 after) one run.1) in
      (only.0, only.2, run.2 ∙ ap (flat_map output_of) only.1 ∙ append-nil (output_of only.0)),
  λ is. (
    is.0 ∷ [],
    subst (λ lines. Steps before lines (is.0 ∷ []) after) (sym one) (after, is.1, refl),
    is.2 ∙ sym (append-nil (output_of is.0)),
  ),
)

-- ---- run after run

pub Run-append : (before after : Store) (front rest output : List ℕ) → are_whole_lines front ≡ true
    → Run before (front ++ rest) output after ↔ ((between : Store) × (first second : List ℕ) × Run before front first between × Run between rest second after × (output ≡ first ++ second))
Run-append before after front rest output whole = (
  λ run.
      let cut = Steps-cut before after (lines_of front) (lines_of rest) run.0 (subst (λ lines. Steps before lines run.0 after) same run.1) in (
        cut.between,
        flat_map output_of cut.first,
        flat_map output_of cut.later,
        (cut.first, cut.lines_do, refl),
        (cut.later, cut.rest_does, refl),
        run.2 ∙ ap (flat_map output_of) cut.split ∙ flat_map-append output_of cut.first cut.later,
      ),
  λ runs.
      let first = runs.3 in
      let second = runs.4 in (
        first.0 ++ second.0,
        subst (λ lines. Steps before lines (first.0 ++ second.0) after) (sym same) (Steps-append before runs.0 after (lines_of front) (lines_of rest) first.0 second.0 first.1 second.1),
        runs.5 ∙ ap (λ bytes. bytes ++ runs.2) first.2 ∙ ap (λ bytes. flat_map output_of first.0 ++ bytes) second.2 ∙ sym (flat_map-append output_of first.0 second.0),
      ),
)
  where
    same : lines_of (front ++ rest) ≡ lines_of front ++ lines_of rest
    same = lines_of-whole_lines front rest whole

-- ---- ample memory

pub Steps-ample : (before : Store) (lines : List Line) → Steps before lines (ample_replies before lines) (ample_store before lines)
Steps-ample before [] = refl
Steps-ample before (line ∷ lines) = ((step before line).1, inl refl, Steps-ample (step before line).1 lines)

pub Run-ample : (before : Store) (script : List ℕ) → Run before script (ample_output before script) (store_after before script)
Run-ample before script = (ample_replies before (lines_of script), Steps-ample before (lines_of script), refl)

abbrev HasMemory : Reply → Type 0
HasMemory reply = reply ≢ Err no_memory

-- a line that isn't answered want of memory is answered as `step` says
pub Step-ample : (before after : Store) (line : Line) (reply : Reply) → Step before line reply after → HasMemory reply → (reply, after) ≡ step before line
Step-ample before after line reply (inl is) has = is
Step-ample before after line reply (inr (grown, short, same)) has = absurd (has short)

Steps-determined : (before after : Store) (lines : List Line) (replies : List Reply) → Steps before lines replies after → All HasMemory replies →
    (replies ≡ ample_replies before lines) × (after ≡ ample_store before lines)
Steps-determined before after [] [] steps have = (refl, steps)
Steps-determined before after [] (reply ∷ replies) steps have = absurd steps
Steps-determined before after (line ∷ lines) [] steps have = absurd steps
Steps-determined before after (line ∷ lines) (reply ∷ replies) steps have =
    let is = Step-ample before steps.0 line reply steps.1 (All-head HasMemory reply replies have) in
    let rest = Steps-determined steps.0 after lines replies steps.2 (All-tail HasMemory reply replies have) in
    let here : reply ≡ (step before line).0 = ap (λ pair. pair.0) is in
    let there : steps.0 ≡ (step before line).1 = ap (λ pair. pair.1) is in (
      ap (λ first. first ∷ replies) here ∙ ap (λ others. (step before line).0 ∷ others) (rest.0 ∙ ap (λ store. ample_replies store lines) there),
      rest.1 ∙ ap (λ store. ample_store store lines) there,
    )

pub Run-determined : (before after : Store) (script output : List ℕ) (run : Run before script output after) → All HasMemory run.0 →
    (output ≡ ample_output before script) × (after ≡ store_after before script)
Run-determined before after script output run have =
    let is = Steps-determined before after (lines_of script) run.0 run.1 have in (run.2 ∙ ap (flat_map output_of) is.0, is.1)

-- ---- runs that are cut off

-- lines before a line of a script are lines, each ended by an LF
record AreBefore (earlier : List Line) (line : Line) (later : List Line) : Type 0 where
  pub lines : are_lines earlier ≡ true
  pub ended : all_ended earlier ≡ true
  pub rest : are_lines (line ∷ later) ≡ true

-- of a line that isn't the last: its LF ended it
not_last : (ended last some : Bool) → last ≡ false → (ended || last && some) ≡ true → ended ≡ true
not_last true last some other h = refl
not_last false true some other h = cc
not_last false false some other h = h

more_than_none : (n : ℕ) → 0 < n → nat_lt n 1 ≡ false
more_than_none n some = false_from_ne_true (nat_lt n 1) (λ none. let below = ltb-true n 1 none in absurd (omega arith))

are_before : (earlier : List Line) (line : Line) (later : List Line) → are_lines (earlier ++ line ∷ later) ≡ true → AreBefore earlier line later
are_before [] line later are = record { lines = refl; ended = refl; rest = are }
are_before (first ∷ earlier) line later are =
    let here = first_true _ (are_lines (earlier ++ line ∷ later)) are in
    let long = length-append earlier (line ∷ later) in
    let some : 0 < length (earlier ++ line ∷ later) = omega arith in
    let many : nat_lt (length (earlier ++ line ∷ later)) 1 ≡ false = more_than_none (length (earlier ++ line ∷ later)) some in
    let others : AreBefore earlier line later = are_before earlier line later (second_true _ _ are) in
    let ended : first.ended ≡ true = not_last first.ended _ _ many (second_true (list_all is_inner first.bytes) _ here) in
    record {
      lines = both_true _ _ (both_true _ _ (first_true _ _ here) (ap (λ b. b || nat_lt (length earlier) 1 && nat_lt 0 (length first.bytes)) ended)) others.lines;
      ended = both_true _ _ ended others.ended;
      rest = others.rest;
    }

-- a line with others behind it is a line alone
alone : (inner ended last some rest : Bool) → ((inner && (ended || last && some)) && rest) ≡ true → ((inner && (ended || some)) && true) ≡ true
alone true true last some rest h = refl
alone true false true true rest h = refl
alone true false true false rest h = cc
alone true false false some rest h = cc
alone false ended last some rest h = cc

-- the bytes of a line of a script are a script of that line
lines_of-one : (line : Line) (later : List Line) → are_lines (line ∷ later) ≡ true → lines_of (script_of (line ∷ [])) ≡ line ∷ []
lines_of-one line later are =
    lines_of-script_of (line ∷ []) (alone (list_all is_inner line.bytes) line.ended (nat_lt (length later) 1) (nat_lt 0 (length line.bytes)) (are_lines later) are)

ended_or_last : (ended last some : Bool) → (ended || last && some) ≡ true → (ended ≡ true) ⊎ (last ≡ true)
ended_or_last true last some h = inl refl
ended_or_last false true some h = inr refl
ended_or_last false false some h = cc

module _ (before : Store) (script output : List ℕ) (after : Store) where
  pub CutOff-RanInto : CutOff before script output after → RanInto before script output after
  CutOff-RanInto cut =
      let are = are_before cut.earlier cut.line cut.later (ap are_lines (sym cut.lines) ∙ are_lines-lines_of script) in
      let front_lines : lines_of (script_of cut.earlier) ≡ cut.earlier = lines_of-script_of cut.earlier are.lines in
      let own_lines : lines_of (script_of (cut.line ∷ [])) ≡ cut.line ∷ [] = lines_of-one cut.line cut.later are.rest in
      record {
        front = script_of cut.earlier;
        line = script_of (cut.line ∷ []);
        later = script_of cut.later;
        split = sym (script_of-lines_of script) ∙ ap script_of cut.lines ∙ flat_map-append whole_line cut.earlier (cut.line ∷ cut.later)
            ∙ ap (λ bytes. script_of cut.earlier ++ bytes) (flat_map-append whole_line (cut.line ∷ []) cut.later);
        whole = ap all_ended front_lines ∙ are.ended;
        one_line = ap length own_lines;
        line_end = ⊎_elim
            (λ ended. inl (ap all_ended own_lines ∙ both_true _ _ ended refl))
            (λ last. inr (ap script_of (no_lines cut.later last)))
            (ended_or_last cut.line.ended _ _ (second_true (list_all is_inner cut.line.bytes) _ (first_true _ (are_lines cut.later) are.rest)));
        between = cut.between;
        answers = flat_map output_of cut.replies;
        ran = (cut.replies, subst (λ lines. Steps before lines cut.replies cut.between) (sym front_lines) cut.steps, refl);
        answer = output_of cut.reply;
        last = (
          cut.reply ∷ [],
          subst (λ lines. Steps cut.between lines (cut.reply ∷ []) after) (sym own_lines) (after, cut.step, refl),
          sym (append-nil (output_of cut.reply)),
        );
        part = take cut.written (output_of cut.reply);
        put_out = cut.front;
        is_front = (drop cut.written (output_of cut.reply), sym (take-append-drop cut.written (output_of cut.reply)));
      }

  the_line : (lines : List Line) → length lines ≡ 1 → (line : Line) × (lines ≡ line ∷ [])
  the_line [] one = absurd (omega arith)
  the_line (line ∷ []) one = (line, refl)
  the_line (line ∷ other ∷ lines) one = absurd (omega arith)

  pub RanInto-CutOff : RanInto before script output after → CutOff before script output after
  RanInto-CutOff into =
      let own = the_line (lines_of into.line) into.one_line in
      let last = Steps-one into.between after own.0 into.last.0 (subst (λ lines. Steps into.between lines into.last.0 after) own.1 into.last.1) in
      let answer : into.part ++ into.is_front.0 ≡ output_of last.0 =
      sym into.is_front.1 ∙ into.last.2 ∙ ap (flat_map output_of) last.1 ∙ append-nil (output_of last.0) in
      record {
        earlier = lines_of into.front;
        line = own.0;
        later = lines_of into.later;
        lines = ap lines_of into.split ∙ lines_of-whole_lines into.front (into.line ++ into.later) into.whole
            ∙ ap (λ lines. lines_of into.front ++ lines) (with_later ∙ ap (λ lines. lines ++ lines_of into.later) own.1);
        replies = into.ran.0;
        between = into.between;
        steps = into.ran.1;
        reply = last.0;
        step = last.2;
        written = length into.part;
        front = into.put_out ∙ ap (λ bytes. bytes ++ into.part) into.ran.2
            ∙ ap (λ bytes. flat_map output_of into.ran.0 ++ bytes) (sym (take-append_seam into.part into.is_front.0) ∙ ap (take (length into.part)) answer);
      }
    where
      with_later : lines_of (into.line ++ into.later) ≡ lines_of into.line ++ lines_of into.later
      with_later = ⊎_elim
          (λ whole. lines_of-whole_lines into.line into.later whole)
          (λ none. ap (λ later. lines_of (into.line ++ later)) none ∙ ap lines_of (append-nil into.line) ∙ sym (append-nil (lines_of into.line)) ∙
          ap (λ later. lines_of into.line ++ lines_of later) (sym none))
          into.line_end

  -- the run that would have gone on, with ample memory from there
  pub CutOff-goes_on : CutOff before script output after → (whole : List ℕ) × (last : Store) × Run before script whole last × Begins output whole
  CutOff-goes_on cut =
      let rest = ample_replies after cut.later in
      let replies = cut.replies ++ cut.reply ∷ rest in (
        flat_map output_of replies,
        ample_store after cut.later,
        (
          replies,
          subst (λ lines. Steps before lines replies (ample_store after cut.later)) (sym cut.lines)
              (Steps-append before cut.between (ample_store after cut.later) cut.earlier (cut.line ∷ cut.later) cut.replies (cut.reply ∷ rest) cut.steps
              (after, cut.step, Steps-ample after cut.later)),
          refl,
        ),
        (
          drop cut.written (output_of cut.reply) ++ flat_map output_of rest,
          flat_map-append output_of cut.replies (cut.reply ∷ rest)
              ∙ ap (λ bytes. flat_map output_of cut.replies ++ (bytes ++ flat_map output_of rest)) (sym (take-append-drop cut.written (output_of cut.reply)))
              ∙ ap (λ bytes. flat_map output_of cut.replies ++ bytes) (append_assoc (take cut.written (output_of cut.reply)) (drop cut.written (output_of cut.reply)) (flat_map output_of rest))
              ∙ sym (append_assoc (flat_map output_of cut.replies) (take cut.written (output_of cut.reply)) (drop cut.written (output_of cut.reply) ++ flat_map output_of rest))
              ∙ ap (λ bytes. bytes ++ (drop cut.written (output_of cut.reply) ++ flat_map output_of rest)) (sym cut.front),
        ),
      )
