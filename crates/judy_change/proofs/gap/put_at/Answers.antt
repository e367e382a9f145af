use Rattle.std.proofs.Common.{◌≡◌, ℕ, ◌+◌, ◌-◌, List, [], ◌∷◌, ◌++◌, length, take, drop, get_or, sym, ap, ◌∙◌, arith}
use Rattle.std.proofs.lemmas.List.{take_more, take_more_set, drop-set-lt, length-set, take_all, length-take-le, same_from_push, drop-drop, get_or-drop}
use Rattle.std.proofs.lemmas.List.Edits.{insert-append_left}
use Rattle.std.specs.List.{insert}
use Rattle.judy_change.proofs.gap.put_at.Goals as goal

-- Where what is left behind a place is the same, so is what stands there.
left_is : (xs ys : List (ℕ × ℕ)) (at : ℕ) (d : ℕ × ℕ) → drop at xs ≡ drop at ys → get_or xs at d ≡ get_or ys at d
left_is xs ys at d same =
    ap (λ n. get_or xs n d) (let e : at ≡ at + 0 = omega arith in e) ∙ sym (get_or-drop at xs 0 d) ∙ ap (λ rest. get_or rest 0 d) same ∙ get_or-drop at ys 0 d ∙
    ap (λ n. get_or ys n d) (let e : at + 0 ≡ at = omega arith in e)

pub loop-place-preserved : goal.loop-place-preserved
loop-place-preserved c =
    let pairs = c.loop-place.pairs in
    let old = c.args.pairs.now in
    let at = c.loop-place.place in
    let before = c.loop-place.invariant in
    let from = before.1 in
    let long = before.0 in
    let inside = c.loop-place-test.true in
    let taken = length-take-le at old (omega arith) in
    let read = c.replace-next.ensures.value ∙ left_is pairs old at (0, 0) before.3 in (
      length-set pairs at c.replace-next.new.dest ∙ long,
      omega arith,
      (λ t. take_more_set pairs at c.replace-next.new.dest (omega arith) t ++ read t ∷ [])
          ∙ ap (λ x. (take at pairs ++ x ∷ []) ++ get_or old at (0, 0) ∷ []) c.replace-next.ensures.after
          ∙ ap (λ xs. xs ++ get_or old at (0, 0) ∷ []) before.2
          ∙ sym (insert-append_left (take at old) (get_or old at (0, 0) ∷ []) c.args.at c.args.pair (omega arith))
          ∙ ap (λ xs. insert xs c.args.at c.args.pair) (sym (take_more old at (0, 0) inside)),
      drop-set-lt (at + 1) pairs at c.replace-next.new.dest (omega arith)
          ∙ sym (drop-drop 1 at pairs) ∙ ap (λ rest. drop 1 rest) before.3 ∙ drop-drop 1 at old,
    )

pub returns : goal.returns
returns c =
    let pairs = c.loop-place.pairs in
    let old = c.args.pairs.now in
    let at = c.loop-place.place in
    let before = c.loop-place.invariant in
    let long = before.0 in
    let some = c.requires in
    let past = c.loop-place-test.false in
    let last = length old - 1 in
    let cut : old ≡ take last old ++ get_or old last (0, 0) ∷ [] =
    sym (take_all (last + 1) old (omega arith)) ∙ take_more old last (0, 0) (omega arith) in
    let taken = length-take-le last old (omega arith) in
    let whole : pairs ++ c.loop-place.next ∷ [] ≡ insert (take last old) c.args.at c.args.pair ++ get_or old last (0, 0) ∷ [] =
    ap (λ xs. xs ++ c.loop-place.next ∷ []) (sym (take_all at pairs (omega arith))) ∙ before.2
    ∙ ap (λ xs. insert xs c.args.at c.args.pair) (take_all at old past ∙ cut)
    ∙ insert-append_left (take last old) (get_or old last (0, 0) ∷ []) c.args.at c.args.pair (omega arith) in
    (same_from_push pairs (insert (take last old) c.args.at c.args.pair) c.loop-place.next (get_or old last (0, 0)) whole).0
