use Rattle.std.proofs.Common.{ap, ◌∙◌, arith}
use Rattle.judy_model.specs.Arrays.{judy1}
use Rattle.judy_word.specs.WordArrays.{array_of}
use Rattle.judy_shelf.proofs.ReadLemmas.{value_done}
use Rattle.judy_shelf.proofs.EntryReads.{none_filled, put_is_insert, key_stopped, not_filled, all_filled, one_filled, one_not_filled}
use Rattle.judy_shelf.proofs.loads.read_set.Goals as goal

pub keys-init : goal.keys-init
keys-init g c = none_filled c.args.set c.requires.empty _

pub returns-in_err-key-clause-read : goal.returns-in_err-key-clause-read
returns-in_err-key-clause-read g c =
    key_stopped c.keys.invariant judy1 c.args.count (omega arith) (λ made. judy1 (array_of made)) _ c.in_err-key.field-0.0 c.from_residual.result c.from_residual.ensures.1
    c.in_err-key.ensures.read

pub returns-in-Err-clause-read : goal.returns-in-Err-clause-read
returns-in-Err-clause-read g c = one_not_filled c.keys.invariant c.in_ok-key.key c.in_ok-key.ensures.above _ c.in_ok-key.ensures.read 0 _ (value_done 0 _) judy1 c.args.count (omega arith)

pub keys-preserved : goal.keys-preserved
keys-preserved g c =
    let key = c.in_ok-key.key in
    let above = c.in_ok-key.ensures.above in
    one_filled c.keys.invariant key above _ c.in_ok-key.ensures.read 0 _ (value_done 0 _) c.put.new.self (ap (λ a. a.limit) c.in-Ok.ensures.put)
    (ap (λ a. a.map) c.in-Ok.ensures.put ∙ put_is_insert c.keys.invariant key above 0)

pub returns-in-Err-into_set-clause-read : goal.returns-in-Err-into_set-clause-read
returns-in-Err-into_set-clause-read g c = not_filled c.keys.invariant judy1 c.args.count (omega arith)

pub returns-in-Ok-into_set-clause-read : goal.returns-in-Ok-into_set-clause-read
returns-in-Ok-into_set-clause-read g c = all_filled c.keys.invariant judy1 c.args.count (omega arith) (array_of c.in-Ok-into_set.filled) c.in-Ok-into_set.ensures.array
