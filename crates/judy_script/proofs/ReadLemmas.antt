-- A run whose script is read piece by piece.
use Rattle.std.proofs.Common.{◌≡◌, ℕ, ◌+◌, ◌-◌, ◌<◌, ◌≤◌, Bool, true, inl, inr, List, [], ◌++◌, length, take, drop, Option, Some, None, refl, sym, ap, ◌∙◌, arith, append_assoc}
use Rattle.std.proofs.Common.{append-nil, length-append, subst}
use Rattle.std.specs.Prelude.{unwrap_or, false}
use Rattle.std.proofs.lemmas.List.{length-take-le, take-append-drop, take-take}
use Rattle.std.proofs.Math.Seq.{take-append-add}
use Rattle.judy_model.specs.LineLists.{whole_lines}
use Rattle.judy_model.specs.Stores.{Store}
use Rattle.judy_model.specs.RunEnds.{RanToEnd, CutAtWrite, CutAtRead, CutAtMost}
use Rattle.judy_pipe.specs.Pipe.{grown, told, GivesInOrder}
use Rattle.judy_pipe.proofs.Moves.{grown-grown}
use Rattle.judy_script.proofs.FeedLemmas.{grown-nothing, Fed-nothing, Ran-whole_lines, RanInPart-longer}
use Rattle.judy_script.specs.declared.line.LineBuffer.{LineBuffer}
use Rattle.judy_script.specs.LineBuffers.{Holds}
use Rattle.judy_script.specs.RunEnds.{Since}
use Rattle.judy_script.specs.Feeds.{Fed, Ran, RanInPart, RanInWholeLines}

-- So many bytes were given and fed, and so many more may come.
pub record Reading (first : Store) (most left : ℕ) (given_before given : Option (List ℕ)) (ended_before ended : Option Bool) (buffer : LineBuffer)
    (taken_before taken : Option (List ℕ)) (now : Store) : Type 0 where
  pub bytes : List ℕ
  pub given_is : given ≡ grown given_before bytes
  pub fits : length bytes + left ≡ most
  pub ended_is : told ended true ≡ told ended_before true
  pub fed : Fed first bytes taken_before buffer taken now

-- what is known of the end after a read that gave it is the same after any reads before it
told-told : (known : Option Bool) (first second : Bool) → told (told known first) second ≡ told known second
told-told None first second = refl
told-told (Some before) first second = refl

-- nothing was read yet
pub Reading-nothing : (first : Store) (most : ℕ) (given : Option (List ℕ)) (ended : Option Bool) (buffer : LineBuffer) (taken : Option (List ℕ)) → Holds buffer [] →
    Reading first most most given given ended ended buffer taken taken first
Reading-nothing first most given ended buffer taken holds =
    record { bytes = []; given_is = grown-nothing given; fits = omega arith; ended_is = refl; fed = Fed-nothing first taken buffer holds }

-- the writer failed in whole lines of what was read
CutAtWrite-within : (first : Store) (most : ℕ) (taken_before taken : Option (List ℕ)) (now : Store) (AtEnd : Type 0) (fed rest : List ℕ) → length fed ≤ most →
    RanInWholeLines first fed taken_before taken now
    → Since taken_before taken (λ output. CutAtWrite first most (fed ++ rest) AtEnd output now)
CutAtWrite-within first most taken_before taken now AtEnd fed rest fits (closed, later, split, whole, ran) = (
  ran.0,
  ran.1,
  record {
    closed = closed;
    later = later ++ rest;
    split = ap (λ bytes. bytes ++ rest) split ∙ append_assoc closed later rest;
    fits = let long : length fed ≡ length closed + length later = ap length split ∙ length-append closed later in omega arith;
    line_end = inl whole;
    ran = ran.2;
  },
)

module _ (first : Store) (most left : ℕ) (given_before given : Option (List ℕ)) (ended_before ended : Option Bool) (buffer : LineBuffer) (taken_before taken : Option (List ℕ))
    (now : Store) (reading : Reading first most left given_before given ended_before ended buffer taken_before taken now) where
  -- what the reader gave, once a read gave more
  pub given_more : (piece : List ℕ) (given_after : Option (List ℕ)) → given_after ≡ grown given piece → given_after ≡ grown given_before (reading.bytes ++ piece)
  given_more piece given_after is =
      is ∙ ap (λ known. grown known piece) reading.given_is ∙ grown-grown given_before reading.bytes piece

  given_nothing : (given_after : Option (List ℕ)) → given_after ≡ grown given [] → given_after ≡ grown given_before reading.bytes
  given_nothing given_after is = given_more [] given_after is ∙ ap (grown given_before) (append-nil reading.bytes)

  -- a read that failed
  pub CutAtRead-here : (AtEnd : Type 0) (given_after : Option (List ℕ)) → given_after ≡ grown given [] →
      Since given_before given_after (λ bytes. Since taken_before taken (λ output. CutAtRead first most bytes AtEnd output now))
  CutAtRead-here AtEnd given_after is =
      let ran = Ran-whole_lines first reading.bytes taken_before buffer taken now reading.fed in
      (reading.bytes, given_nothing given_after is, (ran.0, ran.1, record { fits = omega (arith, reading.fits); ran = ran.2 }))

  -- a read that gave the end, and what is kept of a last line was run
  pub RanToEnd-here : (given_after : Option (List ℕ)) (ended_after : Option Bool) (taken_after : Option (List ℕ)) (after : Store) → given_after ≡ grown given [] → ended_after ≡ told ended true
      → ((before : Store) (fed : List ℕ) (known : Option (List ℕ)) → Fed before fed known buffer taken now → Ran before fed known taken_after after)
      → Since given_before given_after (λ script. Since taken_before taken_after (λ output. RanToEnd first most script (ended_after ≡ told ended_before true) output after))
  RanToEnd-here given_after ended_after taken_after after is end finished =
      let ran = finished first reading.bytes taken_before reading.fed in (
        reading.bytes,
        given_nothing given_after is,
        (ran.0, ran.1, record { fits = omega (arith, reading.fits); at_end = end ∙ reading.ended_is; ran = ran.2 }),
      )

  -- the writer failed at that last line
  pub CutAtWrite-last : (given_after : Option (List ℕ)) (ended_after : Option Bool) (taken_after : Option (List ℕ)) (after : Store) → given_after ≡ grown given [] → ended_after ≡ told ended true
      → ((before : Store) (fed : List ℕ) (known : Option (List ℕ)) → Fed before fed known buffer taken now → RanInPart before fed known taken_after after)
      → Since given_before given_after (λ bytes. Since taken_before taken_after (λ output. CutAtWrite first most bytes (ended_after ≡ told ended_before true) output after))
  CutAtWrite-last given_after ended_after taken_after after is end finished =
      let ran = finished first reading.bytes taken_before reading.fed in (
        reading.bytes,
        given_nothing given_after is,
        (
          ran.0,
          ran.1,
          record {
            closed = reading.bytes;
            later = [];
            split = sym (append-nil reading.bytes);
            fits = omega (arith, reading.fits);
            line_end = inr (refl, end ∙ reading.ended_is);
            ran = ran.2;
          },
        ),
      )

  module _ (room : List ℕ) (count : ℕ) (given_after : Option (List ℕ)) (is : given_after ≡ grown given (take count room)) (fills : count ≤ length room) where
    long : length (take count room) ≡ count
    long = length-take-le count room fills

    -- a piece that fits was fed
    pub Reading-piece : (gives_end : Bool) (ended_after : Option Bool) (filled : LineBuffer) (taken_after : Option (List ℕ)) (after : Store) → ended_after ≡ told ended gives_end → count ≤ left
        → ((before : Store) (fed : List ℕ) (known : Option (List ℕ)) → Fed before fed known buffer taken now → Fed before (fed ++ take count room) known filled taken_after after)
        → Reading first most (left - count) given_before given_after ended_before ended_after filled taken_before taken_after after
    Reading-piece gives_end ended_after filled taken_after after end within fed = record {
      bytes = reading.bytes ++ take count room;
      given_is = given_more (take count room) given_after is;
      fits = omega (arith, length-append reading.bytes (take count room), long, reading.fits);
      ended_is = ap (λ known. told known true) end ∙ told-told ended gives_end true ∙ reading.ended_is;
      fed = fed first reading.bytes taken_before reading.fed;
    }

    -- the writer failed in a piece that fits
    pub CutAtWrite-piece : (AtEnd : Type 0) (taken_after : Option (List ℕ)) (after : Store) → count ≤ left
        → ((before : Store) (fed : List ℕ) (known : Option (List ℕ)) → Fed before fed known buffer taken now → RanInWholeLines before (fed ++ take count room) known taken_after after)
        → Since given_before given_after (λ bytes. Since taken_before taken_after (λ output. CutAtWrite first most bytes AtEnd output after))
    CutAtWrite-piece AtEnd taken_after after within cut = (
      reading.bytes ++ take count room,
      given_more (take count room) given_after is,
      subst (λ bytes. Since taken_before taken_after (λ output. CutAtWrite first most bytes AtEnd output after)) (append-nil (reading.bytes ++ take count room))
          (CutAtWrite-within first most taken_before taken_after after AtEnd (reading.bytes ++ take count room) []
          (omega (arith, length-append reading.bytes (take count room), long, reading.fits)) (cut first reading.bytes taken_before reading.fed)),
    )

    -- the piece has more bytes than may come
    module _ (exceeds : left < count) where
      piece_is : take count room ≡ take left room ++ drop left (take count room)
      piece_is = sym (take-append-drop left (take count room)) ∙ ap (λ front. front ++ drop left (take count room)) (take-take left count room (omega arith))

      within_most : length (reading.bytes ++ take left room) ≤ most
      within_most = omega (arith, length-append reading.bytes (take left room), length-take-le left room (omega arith), reading.fits)

      pub CutAtWrite-most : (AtEnd : Type 0) (taken_after : Option (List ℕ)) (after : Store)
          → ((before : Store) (fed : List ℕ) (known : Option (List ℕ)) → Fed before fed known buffer taken now → RanInWholeLines before (fed ++ take left room) known taken_after after)
          → Since given_before given_after (λ bytes. Since taken_before taken_after (λ output. CutAtWrite first most bytes AtEnd output after))
      CutAtWrite-most AtEnd taken_after after cut = (
        (reading.bytes ++ take left room) ++ drop left (take count room),
        given_more (take count room) given_after is ∙ ap (grown given_before) (ap (λ piece. reading.bytes ++ piece) piece_is ∙
            sym (append_assoc reading.bytes (take left room) (drop left (take count room)))),
        CutAtWrite-within first most taken_before taken_after after AtEnd (reading.bytes ++ take left room) (drop left (take count room)) within_most
            (cut first reading.bytes taken_before reading.fed),
      )

      -- where it has one more, that is all that was given
      pub one_more-here : count ≤ left + 1 → Since given_before given_after (λ bytes. length bytes ≡ most + 1)
      one_more-here by_one = (reading.bytes ++ take count room, given_more (take count room) given_after is, omega (arith, by_one, length-append reading.bytes (take count room), long, reading.fits))

      pub CutAtMost-here : (AtEnd : Type 0) (filled : LineBuffer) (taken_after : Option (List ℕ)) (after : Store)
          → ((before : Store) (fed : List ℕ) (known : Option (List ℕ)) → Fed before fed known buffer taken now → Fed before (fed ++ take left room) known filled taken_after after)
          → Since given_before given_after (λ bytes. Since taken_before taken_after (λ output. CutAtMost first most bytes AtEnd output after))
      CutAtMost-here AtEnd filled taken_after after fed =
          let ran : Ran first (whole_lines (take most (reading.bytes ++ take count room))) taken_before taken_after after =
          rw first_bytes (Ran-whole_lines first (reading.bytes ++ take left room) taken_before filled taken_after after (fed first reading.bytes taken_before reading.fed)) in (
            reading.bytes ++ take count room,
            given_more (take count room) given_after is,
            (ran.0, ran.1, record { exceeds = omega (arith, length-append reading.bytes (take count room), long, reading.fits); ran = ran.2 }),
          )
        where
          first_bytes : take most (reading.bytes ++ take count room) ≡ reading.bytes ++ take left room
          first_bytes =
              ap (λ n. take n (reading.bytes ++ take count room)) (sym reading.fits)
              ∙ take-append-add reading.bytes (take count room) left ∙ ap (λ piece. reading.bytes ++ piece) (take-take left count room (omega arith))

-- a run that the writer cut off, over a source that gives a script in order, was cut off in that script
pub RanInPart-script : (first : Store) (most : ℕ) (taken_before taken : Option (List ℕ)) (now : Store) (script : List ℕ) (ended_before ended : Option Bool) (bytes : List ℕ)
    → GivesInOrder script (Some bytes) ended → ended_before ≡ Some false → Since taken_before taken (λ output. CutAtWrite first most bytes (ended ≡ told ended_before true) output now) →
    RanInPart first script taken_before taken now
RanInPart-script first most taken_before taken now script ended_before ended bytes order fresh since =
    elim since.2.line_end [
      | inl whole ↦ subst (λ whole. RanInPart first whole taken_before taken now) (sym split) (RanInPart-longer first since.2.closed (since.2.later ++ order.front.0) taken_before taken now whole ran)
      | inr (none, end) ↦ subst (λ whole. RanInPart first whole taken_before taken now) (at_end none end) ran
    ]
  where
    ran : RanInPart first since.2.closed taken_before taken now
    ran = (since.0, since.1, since.2.ran)

    split : script ≡ since.2.closed ++ (since.2.later ++ order.front.0)
    split = order.front.1 ∙ ap (λ front. front ++ order.front.0) since.2.split ∙ append_assoc since.2.closed since.2.later order.front.0

    at_end : since.2.later ≡ [] → ended ≡ told ended_before true → since.2.closed ≡ script
    at_end none end =
        let all : Some bytes ≡ Some script = order.end (end ∙ ap (λ known. told known true) fresh) in
        sym (append-nil since.2.closed) ∙ ap (λ later. since.2.closed ++ later) (sym none) ∙ sym since.2.split ∙ ap (λ known. unwrap_or known []) all
