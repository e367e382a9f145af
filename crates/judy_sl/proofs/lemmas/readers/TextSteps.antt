-- How a text is read a piece at a time.
use Rattle.std.proofs.Common.{◌≡◌, ℕ, suc, ◌%◌, ◌<◌, ◌≤◌, Bool, cond, ⊎_elim, List, [], ◌∷◌, length, drop, Option, None, Some, IfSome, refl, sym, ap, ◌∙◌, subst, arith}
use Rattle.std.specs.Option.{option_map}
use Rattle.std.proofs.lemmas.Bool.{cases_lt, lt-ltb, le-ltb}
use Rattle.std.proofs.lemmas.List.{length-drop, nil_from_length}
use Rattle.std.proofs.lemmas.Option.{same_Some, none-some}
use Rattle.judy_records.specs.Texts.{first_word, words_of, text_in}
use Rattle.judy_records.proofs.TextLemmas.{words-cons}
use Rattle.judy_records.proofs.PadLemmas.{text-back}
use Rattle.judy_tails.proofs.TailLemmas.{is-text, text-none}
use Rattle.judy_sl.specs.Pieces.{piece_of, pieces, IsText, IsFinal, IsInner}
use Rattle.judy_sl.specs.TextsLeft.{left_behind, IsTextOf}
use Rattle.judy_sl.specs.Strings.{IsString}
use Rattle.judy_sl.proofs.lemmas.pieces.Ways.{pieces_short, pieces_long}
use Rattle.judy_sl.proofs.lemmas.pieces.PieceLemmas.{text_of_key, key_of_text, text-drop, piece-IsFinal, piece-IsInner, pieces_same}

-- ---- what is left behind a piece

pub final_short : (text : List ℕ) → IsText text → IsFinal (piece_of text) → length text < 8
final_short text is final = ⊎_elim (λ short. short) (λ long. absurd (piece-IsInner text is long final)) (cases_lt (length text) 8)

pub inner_long : (text : List ℕ) → IsText text → IsInner (piece_of text) → 8 ≤ length text
inner_long text is inner = ⊎_elim (λ short. absurd (inner (piece-IsFinal text is short))) (λ long. long) (cases_lt (length text) 8)

-- Behind the piece of fewer than eight bytes nothing is left, and behind another one what stands behind its bytes.
pub behind_short : (text : List ℕ) → length text < 8 → left_behind (Some text) ≡ None
behind_short text short = ap (λ (b : Bool). cond b None (Some (drop 8 text))) (lt-ltb (length text) 8 short)

pub behind_long : (text : List ℕ) → 8 ≤ length text → left_behind (Some text) ≡ Some (drop 8 text)
behind_long text long = ap (λ (b : Bool). cond b None (Some (drop 8 text))) (le-ltb (length text) 8 long)

-- With each piece less is left.
abbrev pub how_long : Option (List ℕ) → ℕ
how_long None = 0
how_long (Some text) = suc (length text)

-- That is a string.
pub string_behind : (text : List ℕ) → IsString text → IfSome (left_behind (Some text)) IsString
string_behind text is = ⊎_elim
    (λ short. subst (λ (left : Option (List ℕ)). IfSome left IsString) (sym (behind_short text short)) tt)
    (λ long. subst (λ (left : Option (List ℕ)). IfSome left IsString) (sym (behind_long text long)) (key_of_text (drop 8 text) (text-drop 8 text (text_of_key text is))
    (let within = is.is_bytes_key.within_limit in let less = length-drop 8 text in omega (arith, within, less))))
    (cases_lt (length text) 8)

pub string_left : (left : Option (List ℕ)) → IfSome left IsString → IfSome (left_behind left) IsString
string_left None is = tt
string_left (Some text) is = string_behind text is

pub texts_left : (left : Option (List ℕ)) → IfSome left IsString → IfSome left IsText
texts_left None is = tt
texts_left (Some text) is = text_of_key text is

-- Where a piece is read, something is left.
pub some_left : (left : Option (List ℕ)) (piece : ℕ) → Some piece ≡ option_map piece_of left → (text : List ℕ) × (left ≡ Some text) × (piece ≡ piece_of text)
some_left None piece read = absurd (none-some piece (sym read))
some_left (Some text) piece read = (text, refl, same_Some piece (piece_of text) read)

pub none_left : (left : Option (List ℕ)) → None ≡ option_map piece_of left → left ≡ None
none_left None read = refl
none_left (Some text) read = absurd (none-some (piece_of text) read)

-- Texts that begin with one piece are one where the same is left behind it.
pub same_behind : (one two : List ℕ) → IsText one → IsText two → piece_of one ≡ piece_of two → left_behind (Some one) ≡ left_behind (Some two) → one ≡ two
same_behind one two p q first same = ⊎_elim
    (λ (short : length one < 8).
    let also = final_short two q (ap (λ piece. piece % 256) (sym first) ∙ piece-IsFinal one p short) in
    pieces_same one two p q (pieces_short one short ∙ ap (λ piece. piece ∷ []) first ∙ sym (pieces_short two also)))
    (λ (long : 8 ≤ length one).
    let also = inner_long two q (λ final. piece-IsInner one p long (ap (λ piece. piece % 256) first ∙ final)) in
    let later : drop 8 one ≡ drop 8 two = same_Some (drop 8 one) (drop 8 two) (sym (behind_long one long) ∙ same ∙ behind_long two also) in
    pieces_same one two p q (pieces_long one long ∙ (λ t. first t ∷ pieces (later t)) ∙ sym (pieces_long two also)))
    (cases_lt (length one) 8)

pub meet_behind : (one two : Option (List ℕ)) (piece : ℕ) → IfSome one IsText → IfSome two IsText → Some piece ≡ option_map piece_of one → Some piece ≡ option_map piece_of two →
    left_behind one ≡ left_behind two → one ≡ two
meet_behind None two piece p q first other same = absurd (none-some piece (sym first))
meet_behind (Some one) None piece p q first other same = absurd (none-some piece (sym other))
meet_behind (Some one) (Some two) piece p q first other same =
    ap (λ (text : List ℕ). Some text) (same_behind one two p q (same_Some (piece_of one) (piece_of two) (sym first ∙ other)) same)

-- ---- by its words

-- No words are left, and the last piece has no byte.
pub ended_at : (words : List ℕ) → length words ≡ 0 → (left : Option (List ℕ)) → Some (text_in words) ≡ left → (Some 0 ≡ option_map piece_of left) × (None ≡ left_behind left)
unfolding piece_of
ended_at words none left here =
    let nothing : text_in words ≡ [] = ap text_in (nil_from_length words none) ∙ text-none in
    let same : Some [] ≡ left = ap (λ (text : List ℕ). Some text) (sym nothing) ∙ here in
    (ap (option_map piece_of) same, ap left_behind same)

module _ (word : ℕ) (rest : List ℕ) (are : IsTextOf (word ∷ rest)) where
  abbrev whole : List ℕ
  whole = text_in (word ∷ rest)

  whole-text : IsText whole
  whole-text = is-text (word ∷ rest)

  parts : (word ≡ first_word whole) × (rest ≡ words_of (drop 8 whole))
  parts = ⊎_elim
      (λ (some : 0 < length whole).
      let both : word ∷ rest ≡ first_word whole ∷ words_of (drop 8 whole) = are ∙ words-cons whole some in
      let first : word ≡ first_word whole = cc in
      let later : rest ≡ words_of (drop 8 whole) = cc in
      (first, later))
      (λ (few : length whole ≤ 0).
      let none : word ∷ rest ≡ [] = are ∙ ap words_of (nil_from_length whole (omega (arith, few))) in
      absurd (cc))
      (cases_lt 0 (length whole))

  first-piece : word ≡ piece_of whole
  unfolding piece_of first_word
  first-piece = parts.0

  rest-text : text_in rest ≡ drop 8 whole
  rest-text = ap text_in parts.1 ∙ text-back (drop 8 whole) (text-drop 8 whole whole-text)

  rest-are : IsTextOf rest
  rest-are = parts.1 ∙ ap words_of (sym rest-text)

-- The first word is the next piece, and the others are left behind it unless it is the last.
pub record IsTextStep (word : ℕ) (rest : List ℕ) (left : Option (List ℕ)) : Type 0 where
  pub piece : Some word ≡ option_map piece_of left
  pub are : IsTextOf rest
  pub last : IsFinal word → None ≡ left_behind left
  pub on : IsInner word → Some (text_in rest) ≡ left_behind left

pub text_step : (words : List ℕ) (word : ℕ) (rest : List ℕ) → words ≡ word ∷ rest → IsTextOf words → (left : Option (List ℕ)) → Some (text_in words) ≡ left → IsTextStep word rest left
text_step words word rest split are left here =
    let own : IsTextOf (word ∷ rest) = subst IsTextOf split are in
    let same : Some (whole word rest own) ≡ left = ap (λ (all : List ℕ). Some (text_in all)) (sym split) ∙ here in
    let first = first-piece word rest own in
    record {
      piece = ap (λ (piece : ℕ). Some piece) first ∙ ap (option_map piece_of) same;
      are = rest-are word rest own;
      last = λ final.
          let short = final_short (whole word rest own) (whole-text word rest own) (ap (λ piece. piece % 256) (sym first) ∙ final) in
          sym (behind_short (whole word rest own) short) ∙ ap left_behind same;
      on = λ inner.
          let long = inner_long (whole word rest own) (whole-text word rest own) (λ final. inner (ap (λ piece. piece % 256) first ∙ final)) in
          ap (λ (text : List ℕ). Some text) (rest-text word rest own) ∙ sym (behind_long (whole word rest own) long) ∙ ap left_behind same;
    }
