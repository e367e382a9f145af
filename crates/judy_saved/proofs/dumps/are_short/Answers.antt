use Rattle.std.proofs.Common.{◌≡◌, ℕ, List, nat_le, true, length, sym, ap, subst, arith, take}
use Rattle.std.proofs.Math.Numerals.{add-one}
use Rattle.std.proofs.lemmas.Bool.{lt-leb, le-leb}
use Rattle.judy_hs.specs.Listed.{key_bytes, entries_in}
use Rattle.judy_model.specs.declared.keys.TheConstants.{LONGEST_KEY}
use Rattle.judy_saved.specs.Dumps.{is_short}
use Rattle.judy_saved.proofs.EntryLemmas.{pair_at, one_fails, all_more}
use Rattle.judy_saved.proofs.dumps.are_short.Goals as goal

pub returns-then-bytes-gt-LONGEST_KEY : goal.returns-then-bytes-gt-LONGEST_KEY
returns-then-bytes-gt-LONGEST_KEY c =
    let items = c.args.entries.now in
    let entry = c.entry-item.result in
    let at = pair_at items c.entries.entry-index c.entries-test.true entry c.entry-item.is in
    let long = c.if-bytes-gt-LONGEST_KEY.true in
    let same = ap length c.bytes.ensures in
    let fails = lt-leb (length (key_bytes entry.key)) LONGEST_KEY (omega arith) in
    sym (one_fails (λ (entry : List ℕ × ℕ). nat_le (length entry.0) LONGEST_KEY) (entries_in items) c.entries.entry-index (key_bytes entry.key, entry.value) at fails)

pub entries-preserved : goal.entries-preserved
entries-preserved c =
    let items = c.args.entries.now in
    let entry = c.entry-item.result in
    let at = pair_at items c.entries.entry-index c.entries-test.true entry c.entry-item.is in
    let short = c.if-bytes-gt-LONGEST_KEY.false in
    let same = ap length c.bytes.ensures in
    let passes = le-leb (length (key_bytes entry.key)) LONGEST_KEY (omega arith) in
    subst (λ n. is_short (take n (entries_in items)) ≡ true) (sym (add-one c.entries.entry-index))
    (all_more (λ (entry : List ℕ × ℕ). nat_le (length entry.0) LONGEST_KEY) (entries_in items) c.entries.entry-index (key_bytes entry.key, entry.value) at c.entries.invariant passes)
