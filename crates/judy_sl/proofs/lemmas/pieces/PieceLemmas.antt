-- The pieces of strings without zeros: exactly the last is final, they are of one string alone, and the order of
-- strings is the order of their pieces.
use Rattle.std.proofs.Common.{Fits, w8, ◌≡◌, ◌≢◌, ℕ, zero, suc, ◌+◌, ◌*◌, ◌/◌, ◌%◌, ◌^◌, ◌<◌, ◌≤◌, ⊎_elim, List, [], ◌∷◌, length, drop, get_or, All, sym, refl, ap, ◌∙◌, subst}
use Rattle.std.proofs.Common.{arith, Ordering, Less, Equal, Greater, nat_cmp}
use Rattle.std.specs.Cmp.{tied_itself}
use Rattle.std.specs.Cmp.Lexicographic.{nat_list_cmp_total}
use Rattle.std.specs.Ordering.{ordering_then}
use Rattle.std.specs.FinMap.{nat_cmp-IsAntisymmetric, slice_cmp-IsAntisymmetric}
use Rattle.std.proofs.Math.Nat.{pow-suc}
use Rattle.std.proofs.lemmas.Nat.{mul-add-lt}
use Rattle.std.proofs.lemmas.Bool.{cases_lt}
use Rattle.std.proofs.lemmas.List.{get_or_default, length-drop, get_or_past, drop_all}
use Rattle.std.proofs.lemmas.List.Elements.{All-head, All-tail, All-get_or}
use Rattle.judy_model.specs.Keys.{word_order, byte_order}
use Rattle.judy_model.proofs.lemmas.orders.ByteLemmas.{unit_pos}
use Rattle.judy_records.specs.Texts.{spelled, first_word}
use Rattle.judy_records.proofs.Spelling.{spelled-more}
use Rattle.judy_records.proofs.OrderLemmas.{text-bytes, told-texts, order-first}
use Rattle.judy_sl.proofs.lemmas.pieces.Ways.{pieces_short, pieces_long}
use Rattle.judy_sl.specs.Pieces.{piece_of, pieces_in, pieces, IsFinal, IsInner, ArePieces, IsText}
use Rattle.judy_model.specs.declared.keys.TheConstants.{LONGEST_STRING}
use Rattle.judy_sl.specs.Strings.{IsString}

-- ---- texts

-- The bytes of a key are a text.
pub text_of_key : (key : List ℕ) → IsString key → IsText key
text_of_key key is = λ k d within. (is.is_bytes_key.is_byte_string k d within, is.without_zero k d within)

-- Bytes of which none is zero are one.
pub text_from_bytes : (bytes : List ℕ) → ((k : ℕ) → Fits w8 (get_or bytes k 0)) → All (λ byte. byte ≢ 0) bytes → IsText bytes
text_from_bytes bytes small some = λ k d within. (let here : get_or bytes k d ≡ get_or bytes k 0 = get_or_default bytes k d 0 within in let fits = small k in omega arith, some k d within)

-- And a text of at most 1,024 bytes is a key.
pub key_of_text : (key : List ℕ) → IsText key → length key ≤ LONGEST_STRING → IsString key
key_of_text key text within = record { is_bytes_key = record { is_byte_string = λ k d inside. (text k d inside).0; within_limit = within }; without_zero = λ k d inside. (text k d inside).1 }

-- What is left of a text after its first bytes is one.
pub text-drop : (count : ℕ) (bytes : List ℕ) → IsText bytes → IsText (drop count bytes)
text-drop zero bytes text = text
text-drop (suc count) [] text = text
text-drop (suc count) (byte ∷ bytes) text = text-drop count bytes (All-tail (λ b. (b < 256) × (b ≢ 0)) byte bytes text)

-- ---- the number that bytes spell

-- So many bytes spell a number below so many bytes' bound.
pub spelled-lt : (width : ℕ) (bytes : List ℕ) → IsText bytes → spelled width bytes < 256 ^ width
spelled-lt zero bytes text = omega arith
spelled-lt (suc width) [] text = unit_pos (suc width)
spelled-lt (suc width) (byte ∷ bytes) text =
    let here = All-head (λ b. (b < 256) × (b ≢ 0)) byte bytes text in
    let rest = spelled-lt width bytes (All-tail (λ b. (b < 256) × (b ≢ 0)) byte bytes text) in
    subst (λ bound. byte * 256 ^ width + spelled width bytes < bound) (sym (pow-suc 256 width)) (mul-add-lt byte (256 ^ width) (spelled width bytes) 256 here.0 rest)

-- A piece is a word.
pub piece_of-lt : (bytes : List ℕ) → IsText bytes → piece_of bytes < 2 ^ 64
unfolding piece_of
piece_of-lt bytes text = spelled-lt 8 bytes text

lowest_byte : (bytes : List ℕ) → IsText bytes → piece_of bytes % 256 ≡ get_or bytes 7 0
unfolding piece_of
lowest_byte bytes text = let e = spelled-more 7 bytes in ⊎_elim
    (λ inside. let here = (All-get_or (λ b. (b < 256) × (b ≢ 0)) bytes 7 0 inside text).0 in omega arith)
    (λ past. let none : get_or bytes 7 0 ≡ 0 = get_or_past bytes 7 0 past in omega arith)
    (cases_lt 7 (length bytes))

-- The piece of fewer than eight bytes is final.
pub piece-IsFinal : (bytes : List ℕ) → IsText bytes → length bytes < 8 → IsFinal (piece_of bytes)
piece-IsFinal bytes text short = lowest_byte bytes text ∙ get_or_past bytes 7 0 (omega arith)

-- That of eight or more isn't.
pub piece-IsInner : (bytes : List ℕ) → IsText bytes → 8 ≤ length bytes → IsInner (piece_of bytes)
piece-IsInner bytes text long = λ e. (All-get_or (λ b. (b < 256) × (b ≢ 0)) bytes 7 0 (omega arith) text).1 (sym (lowest_byte bytes text) ∙ e)

-- ---- the pieces of a text are pieces

pieces_in-are : (count : ℕ) (bytes : List ℕ) → IsText bytes → length bytes / 8 ≡ count → ArePieces (pieces_in count bytes)
pieces_in-are zero bytes text e = piece-IsFinal bytes text (omega arith)
pieces_in-are (suc zero) bytes text e =
    let left = length-drop 8 bytes in
    (piece-IsInner bytes text (omega arith), pieces_in-are zero (drop 8 bytes) (text-drop 8 bytes text) (omega arith))
pieces_in-are (suc (suc count)) bytes text e =
    let left = length-drop 8 bytes in
    (piece-IsInner bytes text (omega arith), pieces_in-are (suc count) (drop 8 bytes) (text-drop 8 bytes text) (omega arith))

-- Of the pieces of a text exactly the last is final.
pub pieces_are : (bytes : List ℕ) → IsText bytes → ArePieces (pieces bytes)
unfolding pieces
pieces_are bytes text = pieces_in-are (length bytes / 8) bytes text refl

-- ---- order

-- Two texts compare as their first pieces, and where these are one, as what stands behind them.
pub order-piece : (one two : List ℕ) → IsText one → IsText two → byte_order one two ≡ ordering_then (word_order (piece_of one) (piece_of two)) (byte_order (drop 8 one) (drop 8 two))
unfolding piece_of first_word
order-piece one two p q = order-first one two (text-bytes one p) (text-bytes two q) (told-texts one two p q)

-- Where the first pieces differ, what follows decides nothing.
pub first_decides : (one two : ℕ) (later other : Ordering) → one ≢ two → ordering_then (nat_cmp one two) later ≡ ordering_then (nat_cmp one two) other
first_decides one two later other differ =
    elim (nat_cmp one two) as (λ answer. nat_cmp one two ≡ answer → ordering_then answer later ≡ ordering_then answer other) [
      | Less ↦ λ is. refl
      | Equal ↦ λ is. absurd (differ (nat_cmp-IsAntisymmetric one two is))
      | Greater ↦ λ is. refl
    ] refl

-- A final piece isn't an inner one.
pub final-not_inner : (one two : ℕ) → IsFinal one → IsInner two → one ≢ two
final-not_inner one two final inner same = inner (ap (λ piece. piece % 256) (sym same) ∙ final)

both_short : (one two : List ℕ) → length one < 8 → length two < 8 → IsText one → IsText two → byte_order (pieces one) (pieces two) ≡ byte_order one two
both_short one two short also p q =
    (λ t. byte_order (pieces_short one short t) (pieces_short two also t))
    ∙ (λ t. ordering_then (nat_cmp (piece_of one) (piece_of two)) (byte_order (sym (drop_all 8 one (omega arith)) t) (sym (drop_all 8 two (omega arith)) t)))
    ∙ sym (order-piece one two p q)

short_long : (one two : List ℕ) → length one < 8 → 8 ≤ length two → IsText one → IsText two → byte_order (pieces one) (pieces two) ≡ byte_order one two
short_long one two short long p q =
    (λ t. byte_order (pieces_short one short t) (pieces_long two long t))
    ∙ first_decides (piece_of one) (piece_of two) (byte_order [] (pieces (drop 8 two))) (byte_order (drop 8 one) (drop 8 two))
    (final-not_inner (piece_of one) (piece_of two) (piece-IsFinal one p short) (piece-IsInner two q long))
    ∙ sym (order-piece one two p q)

long_short : (one two : List ℕ) → 8 ≤ length one → length two < 8 → IsText one → IsText two → byte_order (pieces one) (pieces two) ≡ byte_order one two
long_short one two long short p q =
    (λ t. byte_order (pieces_long one long t) (pieces_short two short t))
    ∙ first_decides (piece_of one) (piece_of two) (byte_order (pieces (drop 8 one)) []) (byte_order (drop 8 one) (drop 8 two))
    (λ e. final-not_inner (piece_of two) (piece_of one) (piece-IsFinal two q short) (piece-IsInner one p long) (sym e))
    ∙ sym (order-piece one two p q)

order-pieces_within : (most : ℕ) (one two : List ℕ) → length one ≤ most → IsText one → IsText two → byte_order (pieces one) (pieces two) ≡ byte_order one two
order-pieces_within zero one two within p q = ⊎_elim (λ short. both_short one two (omega arith) short p q) (λ long. short_long one two (omega arith) long p q) (cases_lt (length two) 8)
order-pieces_within (suc most) one two within p q = ⊎_elim
    (λ short. ⊎_elim (λ also. both_short one two short also p q) (λ long. short_long one two short long p q) (cases_lt (length two) 8))
    (λ long. ⊎_elim
    (λ short. long_short one two long short p q)
    (λ also.
    let left = length-drop 8 one in
    (λ t. byte_order (pieces_long one long t) (pieces_long two also t))
    ∙ ap (λ answer. ordering_then (nat_cmp (piece_of one) (piece_of two)) answer) (order-pieces_within most (drop 8 one) (drop 8 two) (omega arith) (text-drop 8 one p) (text-drop 8 two q))
    ∙ sym (order-piece one two p q))
    (cases_lt (length two) 8))
    (cases_lt (length one) 8)

-- Texts compare as their pieces do.
pub order-pieces : (one two : List ℕ) → IsText one → IsText two → byte_order (pieces one) (pieces two) ≡ byte_order one two
order-pieces one two p q = order-pieces_within (length one) one two (omega arith) p q

-- Only one text has its pieces.
pub pieces_same : (one two : List ℕ) → IsText one → IsText two → pieces one ≡ pieces two → one ≡ two
pieces_same one two p q same =
    slice_cmp-IsAntisymmetric nat_cmp-IsAntisymmetric one two (sym (order-pieces one two p q) ∙ ap (λ others. byte_order others (pieces two)) same ∙ tied_itself nat_list_cmp_total (pieces two))

-- ---- how long pieces are

length-pieces_in : (count : ℕ) (bytes : List ℕ) → length (pieces_in count bytes) ≡ suc count
length-pieces_in zero bytes = refl
length-pieces_in (suc count) bytes = ap (λ n. suc n) (length-pieces_in count (drop 8 bytes))

pub length-pieces : (bytes : List ℕ) → length (pieces bytes) ≡ suc (length bytes / 8)
unfolding pieces
length-pieces bytes = length-pieces_in (length bytes / 8) bytes
