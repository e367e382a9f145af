use Rattle.std.proofs.Common.{◌≡◌, ◌+◌, ◌-◌, [], ◌∷◌, ap, sym, subst, ◌∙◌, arith, refl}
use Rattle.std.proofs.lemmas.List.{append-nil}
use Rattle.std.specs.List.{remove}
use Rattle.judy_leaf.specs.Packing.{places, pulled, keys_in, IsPacked}
use Rattle.judy_leaf.proofs.KeyEdits.{packed_without}
use Rattle.judy_leaf.proofs.one_word.take_out.Goals as goal

pub returns : goal.returns
returns g c =
    let packed = c.requires.packed in
    let word = c.args.word in
    let new = c.without_key.result in
    let inside = c.requires.inside in
    let fewer = c.args.count - 1 in
    let e : c.args.count ≡ fewer + 1 = omega arith in
    let result = packed_without g.row.W packed.is_width fewer (word ∷ []) (subst (λ n. IsPacked g.row.W n (word ∷ [])) e packed) c.args.at (new ∷ []) (omega arith) refl
    (append-nil (places g.row.W new) ∙ c.without_key.ensures.places ∙ ap (pulled c.args.at 0) (sym (append-nil (places g.row.W word)))) (c.without_key.ensures.tight, tt) in
    record { packed = result.0; changed = result.1 ∙ ap (λ n. remove (keys_in g.row.W n (word ∷ [])) c.args.at) (sym e) }
