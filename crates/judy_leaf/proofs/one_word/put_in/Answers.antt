use Rattle.std.proofs.Common.{[], ◌∷◌, ap, sym, ◌∙◌, arith, refl}
use Rattle.std.proofs.lemmas.List.{append-nil}
use Rattle.judy_leaf.specs.Packing.{places, pushed}
use Rattle.judy_leaf.proofs.KeyEdits.{packed_with}
use Rattle.judy_leaf.proofs.one_word.put_in.Goals as goal

pub returns : goal.returns
returns g c =
    let packed = c.requires.packed in
    let word = c.args.word in
    let new = c.with_key.result in
    let room = c.requires.room in
    let result = packed_with g.row.W packed.is_width c.args.count (word ∷ []) packed c.args.at c.args.key (new ∷ []) c.requires.place (omega arith) refl
    (append-nil (places g.row.W new) ∙ c.with_key.ensures.places ∙ ap (pushed c.args.at c.args.key) (sym (append-nil (places g.row.W word)))) (c.with_key.ensures.tight, tt) in
    record { packed = result.0; changed = result.1 }
