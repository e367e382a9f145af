use Rattle.std.proofs.Common.{ℕ, List, ◌++◌, nat_le, length, take, sym, ap, subst, ◌∙◌, arith}
use Rattle.std.specs.List.{flat_map}
use Rattle.std.proofs.Math.Numerals.{add-one}
use Rattle.std.proofs.lemmas.Bool.{leb-true}
use Rattle.judy_model.specs.DumpText as text
use Rattle.judy_model.specs.declared.keys.TheConstants.{LONGEST_KEY}
use Rattle.judy_hs.specs.Listed.{key_bytes, entries_in}
use Rattle.judy_shelf.proofs.WalkLemmas.{take_one, take_none}
use Rattle.judy_saved.specs.Rooms.{Adds}
use Rattle.judy_saved.proofs.RoomLemmas.{adds_both}
use Rattle.judy_saved.proofs.EntryLemmas.{pair_at, no_pair_at, all_at}
use Rattle.judy_saved.proofs.dumps.put_byte_strings.Goals as goal

abbrev line : List ℕ × ℕ → List ℕ
line entry = text.string entry.0 ++ text.word entry.1

pub put_string-end-requires-clause-short : goal.put_string-end-requires-clause-short
put_string-end-requires-clause-short c =
    let items = c.args.entries.now in
    let entry = c.entry-item.result in
    let at = pair_at items c.entries.entry-index c.entries-test.true entry c.entry-item.is in
    let same = ap length c.bytes.ensures in
    let short = leb-true (length (key_bytes entry.key)) LONGEST_KEY
    (all_at (λ (entry : List ℕ × ℕ). nat_le (length entry.0) LONGEST_KEY) (entries_in items) c.entries.entry-index (key_bytes entry.key, entry.value) c.requires.short at) in
    omega arith

pub put-end-requires : goal.put-end-requires
put-end-requires c =
    let items = c.args.entries.now in
    let entry = c.entry-item.result in
    let at = pair_at items c.entries.entry-index c.entries-test.true entry c.entry-item.is in
    let same = ap length c.bytes.ensures in
    let short = leb-true (length (key_bytes entry.key)) LONGEST_KEY
    (all_at (λ (entry : List ℕ × ℕ). nat_le (length entry.0) LONGEST_KEY) (entries_in items) c.entries.entry-index (key_bytes entry.key, entry.value) c.requires.short at) in
    let ends = c.entries.invariant.ends in
    let half = c.put_string-end.ensures.most in
    omega arith

pub entries-preserved : goal.entries-preserved
entries-preserved c =
    let items = c.args.entries.now in
    let entry = c.entry-item.result in
    let place = c.entries.entry-index in
    let pair : List ℕ × ℕ = (key_bytes entry.key, entry.value) in
    let at = pair_at items place c.entries-test.true entry c.entry-item.is in
    let same = ap length c.bytes.ensures in
    let short = leb-true (length (key_bytes entry.key)) LONGEST_KEY
    (all_at (λ (entry : List ℕ × ℕ). nat_le (length entry.0) LONGEST_KEY) (entries_in items) place pair c.requires.short at) in
    let ends = c.entries.invariant.ends in
    let half = c.put_string-end.ensures.most in
    let whole = c.put-end.ensures.end in
    let eight = ap length c.word_bytes.ensures in
    let one = subst (λ (key : List ℕ). Adds (text.string key) c.entries.end c.entries.room c.put_string-end.result c.put_string-end.new.room) c.bytes.ensures c.put_string-end.ensures.adds in
    let two = subst (λ (t : List ℕ). Adds t c.put_string-end.result c.put_string-end.new.room c.put-end.result c.put-end.new.room) c.word_bytes.ensures c.put-end.ensures.adds in
    let both = adds_both (text.string (key_bytes entry.key)) (text.word entry.value) _ _ _ _ _ _ one two in record {
      ends = omega arith;
      adds =
          subst (λ (t : List ℕ). Adds t c.args.at c.args.room.now c.put-end.result c.put-end.new.room)
          (sym (take_one line (entries_in items) place pair at) ∙ ap (λ n. flat_map line (take n (entries_in items))) (sym (add-one place)))
          (adds_both (flat_map line (take place (entries_in items))) (line pair) _ _ _ _ _ _ c.entries.invariant.adds both);
    }

pub returns : goal.returns
returns c =
    let items = entries_in c.args.entries.now in
    let none = no_pair_at c.args.entries.now c.entries.entry-index c.entries-test.false in
    subst (λ all. Adds (flat_map line all) c.args.at c.args.room.now c.entries.end c.entries.room) (take_none line items c.entries.entry-index none) c.entries.invariant.adds
