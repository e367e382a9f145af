-- A run that is fed piece by piece.
use Rattle.std.proofs.Common.{◌≡◌, ℕ, ◌<◌, Bool, true, false, ◌&&◌, List, [], ◌∷◌, ◌++◌, length, take, Option, Some, None, refl, sym, ap, ◌∙◌, arith, append_assoc, append-nil, length-append}
use Rattle.std.specs.Prelude.{flat_map, Result, Ok, Err, OnErr}
use Rattle.std.proofs.Math.Seq.{take-length}
use Rattle.std.specs.List.{list_all}
use Rattle.std.proofs.lemmas.List.Folds.{list_all-append}
use Rattle.judy_model.specs.Lines.{Line, lines_of}
use Rattle.judy_model.specs.LineLists.{are_whole_lines, whole_lines}
use Rattle.judy_model.specs.Stores.{Store}
use Rattle.judy_model.specs.Replies.{output_of}
use Rattle.judy_model.proofs.lemmas.runs.LineLemmas.{lines_of-ended, lines_of-unended, lines_of-whole_lines, whole_lines-append}
use Rattle.judy_model.proofs.lemmas.runs.RunLemmas.{Steps-push, output-push}
use Rattle.judy_pipe.specs.Pipe.{grown}
use Rattle.judy_pipe.proofs.Moves.{grown-grown}
use Rattle.judy_script.specs.declared.line.LineBuffer.{LineBuffer}
use Rattle.judy_script.specs.LineBuffers.{Holds}
use Rattle.judy_script.specs.Cuts.{is_without, IsCutAt}
use Rattle.judy_script.specs.Feeds.{Fed, Served, ServedInPart, Ran, RanInPart, RanInWholeLines}

-- what holds holds at an error
pub on_err_holds : {A E P : Type 0} (result : Result A E) → P → OnErr result P
on_err_holds (Ok value) fact = tt
on_err_holds (Err error) fact = fact

both : (a b : Bool) → a ≡ true → b ≡ true → (a && b) ≡ true
both true b h k = k
both false b h k = h

without_more : (byte : ℕ) (front rest : List ℕ) → is_without byte front ≡ true → is_without byte rest ≡ true → is_without byte (front ++ rest) ≡ true
without_more byte front rest h k = list_all-append _ front rest ∙ both _ _ h k

pub grown-nothing : (known : Option (List ℕ)) → known ≡ grown known []
grown-nothing None = refl
grown-nothing (Some bytes) = ap Some (sym (append-nil bytes))

-- a run that nothing was fed to
pub Fed-nothing : (first : Store) (before : Option (List ℕ)) (buffer : LineBuffer) → Holds buffer [] → Fed first [] before buffer before first
Fed-nothing first before buffer holds =
    record { front = []; rest = []; split = refl; ended = refl; goes_on = refl; holds = holds; replies = []; steps = refl; written = grown-nothing before }

module _ (first : Store) (fed : List ℕ) (before : Option (List ℕ)) (buffer : LineBuffer) (taken : Option (List ℕ)) (now : Store) (so_far : Fed first fed before buffer taken now) where
  -- the line that goes on, once `head` and an LF came
  abbrev pub ended_line : List ℕ → Line
  ended_line head = record { bytes = so_far.rest ++ head; ended = true }

  cut_script : (head more : List ℕ) → fed ++ (head ++ 10 ∷ more) ≡ so_far.front ++ ((so_far.rest ++ head) ++ 10 ∷ more)
  cut_script head more =
      ap (λ bytes. bytes ++ (head ++ 10 ∷ more)) so_far.split
      ∙ append_assoc so_far.front so_far.rest (head ++ 10 ∷ more)
      ∙ ap (λ bytes. so_far.front ++ bytes) (sym (append_assoc so_far.rest head (10 ∷ more)))

  lines_to_here : (head more : List ℕ) → is_without 10 head ≡ true → lines_of (so_far.front ++ ((so_far.rest ++ head) ++ 10 ∷ more)) ≡ lines_of so_far.front ++ ended_line head ∷ lines_of more
  lines_to_here head more without =
      lines_of-whole_lines so_far.front ((so_far.rest ++ head) ++ 10 ∷ more) so_far.ended
      ∙ ap (λ lines. lines_of so_far.front ++ lines) (lines_of-ended (so_far.rest ++ head) more (without_more 10 so_far.rest head so_far.goes_on without))

  -- the line that goes on is ended, executed and answered
  pub Fed-line : (head : List ℕ) (cleared : LineBuffer) (taken_after : Option (List ℕ)) (after : Store) → is_without 10 head ≡ true → Holds cleared [] →
      Served now (ended_line head) taken taken_after after → Fed first (fed ++ (head ++ 10 ∷ [])) before cleared taken_after after
  Fed-line head cleared taken_after after without holds served = record {
    front = so_far.front ++ ((so_far.rest ++ head) ++ 10 ∷ []);
    rest = [];
    split = cut_script head [] ∙ sym (append-nil _);
    ended = ap (list_all (λ line. line.ended)) (lines_to_here head [] without) ∙ list_all-append (λ line. line.ended) (lines_of so_far.front) (ended_line head ∷ []) ∙ both _ _ so_far.ended refl;
    goes_on = refl;
    holds = holds;
    replies = so_far.replies ++ served.reply ∷ [];
    steps = rw (lines_to_here head [] without) (Steps-push first now after (lines_of so_far.front) so_far.replies (ended_line head) served.reply so_far.steps served.step);
    written =
        served.written ∙ ap (λ known. grown known (output_of served.reply)) so_far.written ∙ grown-grown before (flat_map output_of so_far.replies) (output_of served.reply) ∙
        ap (grown before) (sym (output-push so_far.replies served.reply));
  }

  -- more bytes came of the line that goes on
  pub Fed-more : (more : List ℕ) (filled : LineBuffer) → is_without 10 more ≡ true → ((bytes : List ℕ) → Holds buffer bytes → Holds filled (bytes ++ more)) →
      Fed first (fed ++ more) before filled taken now
  Fed-more more filled without pushed = record {
    front = so_far.front;
    rest = so_far.rest ++ more;
    split = ap (λ bytes. bytes ++ more) so_far.split ∙ append_assoc so_far.front so_far.rest more;
    ended = so_far.ended;
    goes_on = without_more 10 so_far.rest more so_far.goes_on without;
    holds = pushed so_far.rest so_far.holds;
    replies = so_far.replies;
    steps = so_far.steps;
    written = so_far.written;
  }

  in_part : (script : List ℕ) (line : Line) (later : List Line) (taken_after : Option (List ℕ)) (after : Store) → lines_of script ≡ lines_of so_far.front ++ line ∷ later →
      ServedInPart now line taken taken_after after → RanInPart first script before taken_after after
  in_part script line later taken_after after lines served = (
    flat_map output_of so_far.replies ++ take served.written.0 (output_of served.reply),
    served.written.2 ∙ ap (λ known. grown known (take served.written.0 (output_of served.reply))) so_far.written ∙
        grown-grown before (flat_map output_of so_far.replies) (take served.written.0 (output_of served.reply)),
    record {
      earlier = lines_of so_far.front;
      line = line;
      later = later;
      lines = lines;
      replies = so_far.replies;
      between = now;
      steps = so_far.steps;
      reply = served.reply;
      step = served.step;
      written = served.written.0;
      front = refl;
    },
  )

  -- the writer failed at the line that goes on, once it was ended
  pub RanInWholeLines-line : (head more : List ℕ) (taken_after : Option (List ℕ)) (after : Store) → is_without 10 head ≡ true → ServedInPart now (ended_line head) taken taken_after after →
      RanInWholeLines first (fed ++ (head ++ 10 ∷ more)) before taken_after after
  RanInWholeLines-line head more taken_after after without served =
      let lines : lines_of (fed ++ (head ++ 10 ∷ [])) ≡ lines_of so_far.front ++ ended_line head ∷ [] = ap lines_of (cut_script head []) ∙ lines_to_here head [] without in (
        fed ++ (head ++ 10 ∷ []),
        more,
        sym (append_assoc fed (head ++ 10 ∷ []) more ∙ ap (λ bytes. fed ++ bytes) (append_assoc head (10 ∷ []) more)),
        ap (list_all (λ line. line.ended)) lines ∙ list_all-append (λ line. line.ended) (lines_of so_far.front) (ended_line head ∷ []) ∙ both _ _ so_far.ended refl,
        in_part (fed ++ (head ++ 10 ∷ [])) (ended_line head) [] taken_after after lines served,
      )

  -- what was fed, up to its last LF, was run
  pub Ran-whole_lines : Ran first (whole_lines fed) before taken now
  Ran-whole_lines =
      let front : whole_lines fed ≡ so_far.front = ap whole_lines so_far.split ∙ whole_lines-append so_far.front so_far.rest so_far.ended
      (lines_of-whole_lines so_far.front so_far.rest so_far.ended) so_far.goes_on in
      (flat_map output_of so_far.replies, so_far.written, (so_far.replies, rw front so_far.steps, refl))

  abbrev pub last_line : Line
  last_line = record { bytes = so_far.rest; ended = false }

  lines_with_last : 0 < length so_far.rest → lines_of fed ≡ lines_of so_far.front ++ last_line ∷ []
  lines_with_last some =
      ap lines_of so_far.split ∙ lines_of-whole_lines so_far.front so_far.rest so_far.ended ∙ ap (λ lines. lines_of so_far.front ++ lines) (lines_of-unended so_far.rest so_far.goes_on some)

  -- the line that goes on is the script's last
  pub Ran-last : (taken_after : Option (List ℕ)) (after : Store) → 0 < length so_far.rest → Served now last_line taken taken_after after → Ran first fed before taken_after after
  Ran-last taken_after after some served = (
    flat_map output_of (so_far.replies ++ served.reply ∷ []),
    served.written ∙ ap (λ known. grown known (output_of served.reply)) so_far.written ∙ grown-grown before (flat_map output_of so_far.replies) (output_of served.reply) ∙
        ap (grown before) (sym (output-push so_far.replies served.reply)),
    (so_far.replies ++ served.reply ∷ [], rw (lines_with_last some) (Steps-push first now after (lines_of so_far.front) so_far.replies last_line served.reply so_far.steps served.step), refl),
  )

  pub RanInPart-last : (taken_after : Option (List ℕ)) (after : Store) → 0 < length so_far.rest → ServedInPart now last_line taken taken_after after → RanInPart first fed before taken_after after
  RanInPart-last taken_after after some served = in_part fed last_line [] taken_after after (lines_with_last some) served

-- A piece of the script was fed as far as `rest`.
pub record Feeding (piece rest : List ℕ) (buffer_before buffer : LineBuffer) (taken_before taken : Option (List ℕ)) (store_before store : Store) : Type 0 where
  pub done : List ℕ
  pub split : piece ≡ done ++ rest
  pub fed : (first : Store) (fed : List ℕ) (before : Option (List ℕ)) → Fed first fed before buffer_before taken_before store_before → Fed first (fed ++ done) before buffer taken store

-- nothing of the piece was fed yet
pub Feeding-nothing : (piece : List ℕ) (buffer : LineBuffer) (taken : Option (List ℕ)) (store : Store) → Feeding piece piece buffer buffer taken taken store store
Feeding-nothing piece buffer taken store =
    record { done = []; split = refl; fed = λ first fed before so_far. rw (append-nil fed) so_far }

module _ (piece rest : List ℕ) (buffer_before buffer : LineBuffer) (taken_before taken : Option (List ℕ)) (store_before store : Store)
    (feeding : Feeding piece rest buffer_before buffer taken_before taken store_before store) where
  piece_is : (head after : List ℕ) → rest ≡ head ++ 10 ∷ after → piece ≡ feeding.done ++ (head ++ 10 ∷ after)
  piece_is head after cut = feeding.split ∙ ap (λ bytes. feeding.done ++ bytes) cut

  -- behind a line that was cut off less than the piece is left
  pub Feeding-shorter : (head after : List ℕ) → rest ≡ head ++ 10 ∷ after → length after < length piece
  Feeding-shorter head after cut =
      omega (arith, ap length (piece_is head after cut), length-append feeding.done (head ++ 10 ∷ after), length-append head (10 ∷ after))

  -- one more line of the piece was fed
  pub Feeding-line : (head after : List ℕ) (cleared : LineBuffer) (taken_after : Option (List ℕ)) (store_after : Store) → IsCutAt 10 rest head (Some after) →
      Holds cleared [] → ((kept : List ℕ) → Holds buffer kept → Served store (record { bytes = kept ++ head; ended = true }) taken taken_after store_after) →
      Feeding piece after buffer_before cleared taken_before taken_after store_before store_after
  Feeding-line head after cleared taken_after store_after cut holds served = record {
    done = feeding.done ++ (head ++ 10 ∷ []);
    split = piece_is head after cut.0 ∙ sym (append_assoc feeding.done (head ++ 10 ∷ []) after ∙ ap (λ bytes. feeding.done ++ bytes) (append_assoc head (10 ∷ []) after));
    fed = λ first fed before so_far.
        let here = feeding.fed first fed before so_far in
        rw (← append_assoc fed feeding.done (head ++ 10 ∷ []))
        (Fed-line first (fed ++ feeding.done) before buffer taken store here head cleared taken_after store_after cut.1 holds (served here.rest here.holds));
  }

  -- what is left of the piece has no LF
  pub Feeding-rest : (head : List ℕ) (filled : LineBuffer) → IsCutAt 10 rest head None → ((bytes : List ℕ) → Holds buffer bytes → Holds filled (bytes ++ head)) →
      (first : Store) (fed : List ℕ) (before : Option (List ℕ)) → Fed first fed before buffer_before taken_before store_before → Fed first (fed ++ piece) before filled taken store
  Feeding-rest head filled cut pushed first fed before so_far =
      rw (feeding.split, cut.0, ← append_assoc fed feeding.done head)
      (Fed-more first (fed ++ feeding.done) before buffer taken store (feeding.fed first fed before so_far) head filled cut.1 pushed)

  -- the writer failed at a line of the piece
  pub Feeding-cut : (head after : List ℕ) (taken_after : Option (List ℕ)) (store_after : Store) → IsCutAt 10 rest head (Some after) →
      ((kept : List ℕ) → Holds buffer kept → ServedInPart store (record { bytes = kept ++ head; ended = true }) taken taken_after store_after) →
      (first : Store) (fed : List ℕ) (before : Option (List ℕ)) → Fed first fed before buffer_before taken_before store_before → RanInWholeLines first (fed ++ piece) before taken_after store_after
  Feeding-cut head after taken_after store_after cut served first fed before so_far =
      let here = feeding.fed first fed before so_far in
      rw (piece_is head after cut.0, ← append_assoc fed feeding.done (head ++ 10 ∷ after))
      (RanInWholeLines-line first (fed ++ feeding.done) before buffer taken store here head after taken_after store_after cut.1 (served here.rest here.holds))

-- a line whose answer was written whole was answered in part, by all of it
pub Served-in_part : (before : Store) (line : Line) (taken_before taken_after : Option (List ℕ)) (after : Store) → Served before line taken_before taken_after after →
    ServedInPart before line taken_before taken_after after
Served-in_part before line taken_before taken_after after served =
    let output = output_of served.reply in
    record { reply = served.reply; step = served.step; written = (length output, omega arith, rw (take-length output) served.written) }

-- a run that was cut off in whole lines was cut off in any script that begins with them
pub RanInPart-longer : (first : Store) (closed later : List ℕ) (before taken : Option (List ℕ)) (now : Store) → are_whole_lines closed ≡ true →
    RanInPart first closed before taken now → RanInPart first (closed ++ later) before taken now
RanInPart-longer first closed later before taken now ended ran =
    let cut = ran.2 in (
      ran.0,
      ran.1,
      record {
        earlier = cut.earlier;
        line = cut.line;
        later = cut.later ++ lines_of later;
        lines = lines_of-whole_lines closed later ended ∙ ap (λ lines. lines ++ lines_of later) cut.lines ∙ append_assoc cut.earlier (cut.line ∷ cut.later) (lines_of later);
        replies = cut.replies;
        between = cut.between;
        steps = cut.steps;
        reply = cut.reply;
        step = cut.step;
        written = cut.written;
        front = cut.front;
      },
    )
