use Rattle.judy_shelf.specs.Arrays.{value_of}
use Rattle.judy_shelf.proofs.ReadLemmas.{reads_err}
use Rattle.judy_shelf.proofs.loads.read_contents.Goals as goal

pub returns-in_err-read_set-in-Judy1 : goal.returns-in_err-read_set-in-Judy1
returns-in_err-read_set-in-Judy1 g c =
    rw c.in-Judy1.is (reads_err value_of _ _ _ c.in_err-read_set-in-Judy1.field-0.0 c.from_residual.result c.from_residual.ensures.1 (rw c.new-set.ensures.limit at
    c.in_err-read_set-in-Judy1.ensures.read))

pub returns-in_err-read_words-in-JudyL : goal.returns-in_err-read_words-in-JudyL
returns-in_err-read_words-in-JudyL g c =
    rw c.in-JudyL.is (reads_err value_of _ _ _ c.in_err-read_words-in-JudyL.field-0.0 c.from_residual-in_err-read_words-in-JudyL.result c.from_residual-in_err-read_words-in-JudyL.ensures.1
    (rw c.new-words.ensures.limit at c.in_err-read_words-in-JudyL.ensures.read))

pub returns-in_err-read_strings-in-JudySl : goal.returns-in_err-read_strings-in-JudySl
returns-in_err-read_strings-in-JudySl g c =
    rw c.in-JudySl.is (reads_err value_of _ _ _ c.in_err-read_strings-in-JudySl.field-0.0 c.from_residual-in_err-read_strings-in-JudySl.result
    c.from_residual-in_err-read_strings-in-JudySl.ensures.1 (rw c.new-strings.ensures at c.in_err-read_strings-in-JudySl.ensures))

pub returns-in_err-read_byte_strings-in-JudyHs : goal.returns-in_err-read_byte_strings-in-JudyHs
returns-in_err-read_byte_strings-in-JudyHs g c =
    rw c.in-JudyHs.is (reads_err value_of _ _ _ c.in_err-read_byte_strings-in-JudyHs.field-0.0 c.from_residual-in_err-read_byte_strings-in-JudyHs.result
    c.from_residual-in_err-read_byte_strings-in-JudyHs.ensures.1 (rw c.new-bytes.ensures at c.in_err-read_byte_strings-in-JudyHs.ensures))
