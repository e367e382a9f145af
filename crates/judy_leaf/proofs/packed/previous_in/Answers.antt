use Rattle.std.proofs.Common.{◌≡◌, ◌+◌, is_le, ◌∙◌, arith}
use Rattle.judy_model.specs.Keys.{word_order}
use Rattle.judy_model.proofs.lemmas.queries.Places.{length-filter-le}
use Rattle.judy_leaf.specs.Packing.{keys_in}
use Rattle.judy_leaf.proofs.KeysIn.{length-keys, there_in}
use Rattle.judy_leaf.proofs.packed.previous_in.Goals as goal

pub key_of-requires-clause-inside : goal.key_of-requires-clause-inside
key_of-requires-clause-inside g c =
    let most = length-filter-le (λ key. is_le (word_order key c.args.number)) (keys_in g.row.W c.args.count c.args.words.now) in
    let long = length-keys g.row.W c.args.count c.args.words.now c.requires.packed in
    let is = c.up_to_in.ensures in
    let enough = c.requires.packed.enough in
    let last = c.in_ok-last.ensures in
    let some = last.0 in
    let before = last.1 in
    omega arith

pub returns : goal.returns
returns g c =
    let most = length-filter-le (λ key. is_le (word_order key c.args.number)) (keys_in g.row.W c.args.count c.args.words.now) in
    let long = length-keys g.row.W c.args.count c.args.words.now c.requires.packed in
    let is = c.up_to_in.ensures in
    let last = c.in_ok-last.ensures in
    let some = last.0 in
    let before = last.1 in
    let back : c.in_ok-last.last + 1 ≡ c.up_to_in.result = omega arith in
    record { place = back ∙ is; key = there_in g.row.W c.args.count c.args.words.now c.requires.packed c.in_ok-last.last c.key_of.result (omega arith) c.key_of.ensures }
