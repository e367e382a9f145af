-- The pieces that two rests have in common.
use Rattle.std.proofs.Common.{◌≡◌, ◌≢◌, ℕ, ◌≤◌, List, [], ◌∷◌, ◌++◌, length, drop, inl, inr, refl, sym, ap, subst, ◌∙◌, arith}
use Rattle.std.proofs.lemmas.List.{append_assoc, length-drop}
use Rattle.std.proofs.lemmas.Bool.{cases_lt}
use Rattle.std.specs.Map.{keys_of}
use Rattle.judy_model.specs.Keys.{word_order}
use Rattle.judy_model.specs.Arrays.{ArrayOf}
use Rattle.judy_sl.specs.Pieces.{pieces, piece_of, IsText, IsInner, IsFinal, AreInner}
use Rattle.judy_sl.specs.Branches.{AreSingle, single}
use Rattle.judy_sl.proofs.lemmas.pieces.PieceLemmas.{piece-IsFinal, piece-IsInner, text-drop, pieces_same}
use Rattle.judy_sl.proofs.lemmas.pieces.Ways.{pieces_short, pieces_long}
use Rattle.judy_sl.proofs.lemmas.pieces.OnWay.{inner-more}

pub record IsCommon (tail key : List ℕ) (upper : List (ℕ × ArrayOf word_order)) (held rest : List ℕ) : Type 0 where
  pub singles : AreSingle upper
  pub inner : AreInner (keys_of upper)
  pub held_parts : pieces tail ≡ keys_of upper ++ pieces held
  pub rest_parts : pieces key ≡ keys_of upper ++ pieces rest
  pub held_text : IsText held
  pub rest_text : IsText rest
  pub held_short : length held ≤ length tail
  pub rest_short : length rest ≤ length key
  pub differ : held ≢ rest

-- Rests that differ, with the same first piece, are both longer than it.
pub both-long : (held rest : List ℕ) → IsText held → IsText rest → held ≢ rest → piece_of held ≡ piece_of rest → (8 ≤ length held) × (8 ≤ length rest)
both-long held rest held_text rest_text differ same = elim (cases_lt (length held) 8) [
  | inl held_short ↦ elim (cases_lt (length rest) 8) [
    | inl rest_short ↦ absurd (differ (pieces_same held rest held_text rest_text (pieces_short held held_short ∙ ap (λ p. p ∷ []) same ∙ sym (pieces_short rest rest_short))))
    | inr rest_long ↦ absurd (piece-IsInner rest rest_text rest_long (subst IsFinal same (piece-IsFinal held held_text held_short)))
  ]
  | inr held_long ↦ elim (cases_lt (length rest) 8) [
    | inl rest_short ↦ absurd (piece-IsInner held held_text held_long (subst IsFinal (sym same) (piece-IsFinal rest rest_text rest_short)))
    | inr rest_long ↦ (held_long, rest_long)
  ]
]

singles-more : (upper : List (ℕ × ArrayOf word_order)) (piece : ℕ) (level : ArrayOf word_order) → AreSingle upper → level ≡ single piece → AreSingle (upper ++ (piece, level) ∷ [])
singles-more [] piece level are is = (is, tt)
singles-more (entry ∷ rest) piece level are is = (are.0, singles-more rest piece level are.1 is)

pub keys-more : (upper : List (ℕ × ArrayOf word_order)) (piece : ℕ) (level : ArrayOf word_order) → keys_of (upper ++ (piece, level) ∷ []) ≡ keys_of upper ++ piece ∷ []
keys-more [] piece level = refl
keys-more (entry ∷ rest) piece level = ap (λ l. entry.0 ∷ l) (keys-more rest piece level)

module _ (tail key : List ℕ) (upper : List (ℕ × ArrayOf word_order)) (held rest : List ℕ) (is : IsCommon tail key upper held rest) (same : piece_of held ≡ piece_of rest) where
  pub common-long : (8 ≤ length held) × (8 ≤ length rest)
  common-long = both-long held rest is.held_text is.rest_text is.differ same

  pub common-more : (after : List (ℕ × ArrayOf word_order)) (piece : ℕ) (level : ArrayOf word_order) → piece ≡ piece_of rest → level ≡ single piece →
      after ≡ upper ++ (piece, level) ∷ [] → IsCommon tail key after (drop 8 held) (drop 8 rest)
  common-more after piece level piece_is level_is after_is =
      let long = common-long in
      let keys : keys_of (upper ++ (piece, level) ∷ []) ≡ keys_of upper ++ piece ∷ [] = keys-more upper piece level in
      subst (λ u. IsCommon tail key u (drop 8 held) (drop 8 rest)) (sym after_is) (record {
        singles = singles-more upper piece level is.singles level_is;
        inner = subst AreInner (sym keys) (inner-more (keys_of upper) piece is.inner (subst IsInner (sym piece_is) (piece-IsInner rest is.rest_text long.1)));
        held_parts =
            is.held_parts ∙ ap (λ ps. keys_of upper ++ ps) (pieces_long held long.0 ∙ ap (λ p. p ∷ pieces (drop 8 held)) (same ∙ sym piece_is)) ∙
            sym (ap (λ ps. ps ++ pieces (drop 8 held)) keys ∙ append_assoc (keys_of upper) (piece ∷ []) (pieces (drop 8 held)));
        rest_parts =
            is.rest_parts ∙ ap (λ ps. keys_of upper ++ ps) (pieces_long rest long.1 ∙ ap (λ p. p ∷ pieces (drop 8 rest)) (sym piece_is)) ∙
            sym (ap (λ ps. ps ++ pieces (drop 8 rest)) keys ∙ append_assoc (keys_of upper) (piece ∷ []) (pieces (drop 8 rest)));
        held_text = text-drop 8 held is.held_text;
        rest_text = text-drop 8 rest is.rest_text;
        held_short = (let l = length-drop 8 held in let h = is.held_short in omega (arith, l, h));
        rest_short = (let l = length-drop 8 rest in let r = is.rest_short in omega (arith, l, r));
        differ = λ e. is.differ (pieces_same held rest is.held_text is.rest_text (pieces_long held long.0 ∙ (λ i. same i ∷ pieces (e i)) ∙ sym (pieces_long rest long.1)));
      })
