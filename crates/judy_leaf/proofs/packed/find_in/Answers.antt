use Rattle.std.proofs.Common.{get_or-take, sym, ◌∙◌, arith}
use Rattle.std.proofs.lemmas.List.{length-take}
use Rattle.judy_leaf.specs.Packing.{places_of, keys_in}
use Rattle.judy_leaf.proofs.Counted.{place-there, place-none}
use Rattle.judy_leaf.proofs.Placed.{length-places_of}
use Rattle.judy_leaf.proofs.packed.find_in.Goals as goal
use Rattle.judy_leaf.proofs.packed.find_in.Goals.{else-at-count-via-then-at-count+else-key_of-key, else-at-count-via-else-at-count}

pub returns-then-key_of-key : goal.returns-then-key_of-key
returns-then-key_of-key g c =
    let enough = c.requires.packed.enough in
    let all = length-places_of g.row.W c.requires.packed.is_width c.args.words.now in
    let long = length-take c.args.count (places_of g.row.W c.args.words.now) in
    place-there (keys_in g.row.W c.args.count c.args.words.now) c.requires.ascending c.args.key c.rank_in-at.result c.rank_in-at.ensures (omega arith)
    (get_or-take c.args.count (places_of g.row.W c.args.words.now) c.rank_in-at.result 0 c.if-at-count.true ∙ sym c.key_of.ensures ∙ c.if-key_of-key.true)

pub returns-else-at-count : goal.returns-else-at-count
returns-else-at-count g c =
    let enough = c.requires.packed.enough in
    let all = length-places_of g.row.W c.requires.packed.is_width c.args.words.now in
    let long = length-take c.args.count (places_of g.row.W c.args.words.now) in
    place-none (keys_in g.row.W c.args.count c.args.words.now) c.requires.ascending c.args.key c.rank_in-at.result c.rank_in-at.ensures (λ inside same.
    elim c.else-at-count.branch [
      | else-at-count-via-then-at-count+else-key_of-key w ↦ w.if-key_of-key.false (w.key_of.ensures ∙
          sym (get_or-take c.args.count (places_of g.row.W c.args.words.now) c.rank_in-at.result 0 w.if-at-count.true) ∙ same)
      | else-at-count-via-else-at-count w ↦ (let past = w.if-at-count.false in omega arith)
    ])
