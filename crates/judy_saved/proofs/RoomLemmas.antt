-- Texts that are written into a room one behind the other.
use Rattle.std.proofs.Common.{◌≡◌, ℕ, ◌*◌, ◌<◌, ◌≤◌, List, [], ◌∷◌, ◌++◌, length, drop, refl, sym, ap, subst, ◌∙◌, append_assoc, append-nil, arith, length-append}
use Rattle.std.specs.List.{flat_map}
use Rattle.std.proofs.lemmas.Grind.{flat_map-append}
use Rattle.judy_saved.specs.Rooms.{Stands, Adds, IsSaved}

pub adds_nothing : (at : ℕ) (room : List ℕ) → Adds [] at room at room
adds_nothing at room earlier first stands = subst (λ text. Stands text first at room) (sym (append-nil earlier)) stands

pub adds_both : (one other : List ℕ) (at mid end : ℕ) (before half after : List ℕ) → Adds one at before mid half → Adds other mid half end after → Adds (one ++ other) at before end after
adds_both one other at mid end before half after first second earlier all stands =
    subst (λ text. Stands text all end after) (append_assoc earlier one other) (second (earlier ++ one) all (first earlier all stands))

-- One item more of those that are written in turn.
pub adds_more : {A : Type 0} (text : A → List ℕ) (done : List A) (item : A) (at mid end : ℕ) (before half after : List ℕ) → Adds (flat_map text done) at before mid half →
    Adds (text item) mid half end after → Adds (flat_map text (done ++ item ∷ [])) at before end after
adds_more text done item at mid end before half after first second =
    subst (λ all. Adds all at before end after) (sym (flat_map-append text done (item ∷ []) ∙ ap (λ last. flat_map text done ++ last) (append-nil (text item))))
    (adds_both (flat_map text done) (text item) at mid end before half after first second)

-- A text at the front of a room.
stands_first : (room : List ℕ) → Stands [] room 0 room
stands_first room = record { ends = refl; same_length = refl; written = λ fits. refl }

pub from_front : (text before : List ℕ) (end : ℕ) (after : List ℕ) → Adds text 0 before end after → Stands text before end after
from_front text before end after adds = adds [] before (stands_first before)

-- What fits is written.
pub saved : (text before : List ℕ) (size end : ℕ) (after : List ℕ) → size ≡ length text → size ≤ length before → Adds text 0 before end after → IsSaved text before size after
saved text before size end after is fits adds =
    let stands = from_front text before end after adds in
    let same : end ≡ size = stands.ends ∙ sym is in record {
      size_is = is;
      fits = λ _. subst (λ n. after ≡ text ++ drop n before) same (stands.written (subst (λ n. n ≤ length before) (sym same) fits));
      too_long = λ over. absurd (omega (arith, over, fits));
    }

-- The same where the second walk tells the size.
pub saved_again : (text before : List ℕ) (size end : ℕ) (after : List ℕ) → size ≡ length text → size ≤ length before → Adds text 0 before end after → IsSaved text before end after
saved_again text before size end after is fits adds =
    let stands = from_front text before end after adds in
    saved text before end end after stands.ends (subst (λ n. n ≤ length before) (is ∙ sym stands.ends) fits) adds

pub not_saved : (text before : List ℕ) (size : ℕ) → size ≡ length text → length before < size → IsSaved text before size before
not_saved text before size is over = record { size_is = is; fits = λ fits. absurd (omega (arith, over, fits)); too_long = λ _. refl }

-- The size of texts that are all as long.
pub length_alike : {A : Type 0} (text : A → List ℕ) (each : ℕ) → ((item : A) → length (text item) ≡ each) → (items : List A) → length (flat_map text items) ≡ each * length items
length_alike text each alike [] = omega arith
length_alike text each alike (item ∷ items) =
    length-append (text item) (flat_map text items) ∙ (let rest = length_alike text each alike items in let one = alike item in grind (arith, rest, one))

-- No more items came than there are.
pub came_within : {A : Type 0} (all came left : List A) → all ≡ came ++ left → length came ≤ length all
came_within all came left is = let both = ap length is ∙ length-append came left in omega (arith, both)
