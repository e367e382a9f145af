use Rattle.std.proofs.Common.{◌≡◌, ℕ, zero, suc, ◌+◌, ◌-◌, ◌≤◌, List, length, take, drop, sym, ap, ◌∙◌, arith, rules}
use Rattle.std.proofs.lemmas.List.{take_all}
use Rattle.std.specs.Int.{to_be_bytes, w64}
use Rattle.judy_model.specs.WordBytes.{low_bytes}
use Rattle.judy_model.proofs.lemmas.orders.ByteLemmas.{length-low_bytes}
use Rattle.judy_change.proofs.split.skip_of.Goals as goal

-- The lowest bytes of a word are the last of more of its bytes, and its eight bytes are all of it.
drop-low_bytes : (more width word : ℕ) → drop more (low_bytes (more + width) word) ≡ low_bytes width word
drop-low_bytes zero width word = let none : 0 + width ≡ width = omega arith in ap (λ n. low_bytes n word) none
drop-low_bytes (suc more) width word = let one : suc more + width ≡ suc (more + width) = omega arith in rw one (drop-low_bytes more width word)

be-low_bytes : (word : ℕ) → to_be_bytes w64 word ≡ low_bytes 8 word
be-low_bytes word = search rules

last_bytes : (count width word : ℕ) (bytes : List ℕ) → count ≤ 8 → width ≡ count → bytes ≡ low_bytes 8 word → take (8 - (8 - width)) (drop (8 - width) bytes) ≡ low_bytes count word
last_bytes count width word bytes most same are =
    let all : (8 - count) + count ≡ 8 = omega arith in
    let long = length-low_bytes count word in
    (λ t. take (8 - (8 - same t)) (drop (8 - same t) (are t)))
    ∙ ap (λ n. take (8 - (8 - count)) (drop (8 - count) (low_bytes n word))) (sym all)
    ∙ ap (take (8 - (8 - count))) (drop-low_bytes (8 - count) count word)
    ∙ take_all (8 - (8 - count)) (low_bytes count word) (omega arith)

pub new-requires : goal.new-requires
new-requires c =
    let few = c.requires in
    let all = ap length (last_bytes c.args.count c.from.result c.args.number c.to_be_bytes.result (omega arith) c.from.ensures (c.to_be_bytes.ensures ∙ be-low_bytes c.args.number)) in
    let long = length-low_bytes c.args.count c.args.number in
    omega arith

pub returns : goal.returns
returns c =
    let few = c.requires in
    c.new.ensures ∙ last_bytes c.args.count c.from.result c.args.number c.to_be_bytes.result (omega arith) c.from.ensures (c.to_be_bytes.ensures ∙ be-low_bytes c.args.number)
