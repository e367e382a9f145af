-- How an end of the program shows.
use Rattle.std.specs.Prelude.{◌≡◌, ℕ, ◌+◌, ◌⊎◌, List, [], ◌∷◌, ◌++◌, codes, string_bytes, Result, Ok, Err}
use Rattle.judy_options.specs.declared.not_taken.NotTaken.{NotTaken}
use Rattle.judy_options.specs.declared.not_taken.NotTaken.TheVariants as refusal
use Rattle.judy_options.specs.declared.version.TheConstants.{VERSION}
use Rattle.judy_options.specs.CommandLines.{IsRefused, refusals}
use Rattle.judy_script.specs.declared.fault.RunFault.{RunFault}
use Rattle.judy_script.specs.declared.fault.RunFault.TheVariants.{Read, Write, TooLong}
use Rattle.judy_script.specs.Faults.{fault_word}
use Rattle.judy_shelf.specs.Faults.{dump_word, load_word}
use Rattle.judy_store.specs.declared.end.End.{End}
use Rattle.judy_store.specs.declared.end.End.TheVariants as end

-- The end where the words of the command line aren't taken.
abbrev pub end_of : NotTaken → End
end_of (refusal.Help text) = end.Help text
end_of refusal.Version = end.Version
end_of (refusal.BadWords text) = end.BadWords text
end_of refusal.NoMemory = end.NoMemory

-- An end for a reason why these words aren't taken.
abbrev pub EndsRefused : List (List ℕ) → End → Type 0
EndsRefused words told = (why : NotTaken) × IsRefused (refusals words) why × (told ≡ end_of why)

-- The exit status: 0 where the program did what it was asked, 2 where the command line was refused, else 1.
abbrev pub status_of : End → ℕ
status_of end.Done = 0
status_of (end.Help text) = 0
status_of end.Version = 0
status_of (end.BadWords text) = 2
status_of end.NoMemory = 1
status_of (end.Open name) = 1
status_of (end.Load fault) = 1
status_of (end.Run fault) = 1
status_of (end.Dump fault) = 1

-- What the program says of its end: the text that an end carries, or one line ended by an LF, and nothing where it
-- is done.
abbrev pub line_of : End → List ℕ
line_of end.Done = []
line_of (end.Help text) = string_bytes text
line_of end.Version = codes "judystore " ++ VERSION.now ++ 10 ∷ []
line_of (end.BadWords text) = string_bytes text
line_of end.NoMemory = codes "judystore: no-memory" ++ 10 ∷ []
line_of (end.Open name) = codes "judystore: open: " ++ string_bytes name ++ 10 ∷ []
line_of (end.Load fault) = codes "judystore: load: " ++ load_word fault ++ 10 ∷ []
line_of (end.Run fault) = codes "judystore: run: " ++ fault_word fault ++ 10 ∷ []
line_of (end.Dump fault) = codes "judystore: dump: " ++ dump_word fault ++ 10 ∷ []

-- What the end of a run and of the flush behind it says: that all was done, what a fault of the run leaves, or, where
-- the writer failed, either: it failed at an answer, or once all were given.
abbrev pub EndsRun : Type 0 → (RunFault → Type 0) → Result (Unit {0}) RunFault → Type 0
EndsRun Ran Left (Ok done) = Ran
EndsRun Ran Left (Err Read) = Left Read
EndsRun Ran Left (Err Write) = Left Write ⊎ Ran
EndsRun Ran Left (Err TooLong) = Left TooLong

-- What the end of a run says of the writer, by its failures before, what it keeps back at last, and its failures then:
-- at the end of the script it has handed all on and not failed; at `Write` it failed once more; at any other fault
-- either.
abbrev pub HandsOn : ℕ → Result (Unit {0}) RunFault → List ℕ → ℕ → Type 0
HandsOn before (Ok done) kept now = (kept ≡ []) × (now ≡ before)
HandsOn before (Err Read) kept now = ((kept ≡ []) × (now ≡ before)) ⊎ (now ≡ before + 1)
HandsOn before (Err Write) kept now = now ≡ before + 1
HandsOn before (Err TooLong) kept now = ((kept ≡ []) × (now ≡ before)) ⊎ (now ≡ before + 1)
