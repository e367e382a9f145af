-- Words side by side are cut in two and joined again. Assumes `Logic`.
use Rattle.std.proofs.Common.{◌≡◌, ℕ, suc, ◌+◌, ◌*◌, ◌<◌, ◌∙◌, List, [], ◌∷◌, ◌++◌, length, take, drop, refl, sym, ap, arith, length-take, take-append-drop}
use lib.Seq.{drop-cons, set_split}
use lib.ListN.{set, get_or}
use seplogic.Ra.Ura.{Ura}
use base.Fraction.{full_share}
use base.Logic.{ent, sep, mono_r}
use base.Fml.{Fml, Lft, ftrue, fsep, fat, froom}
use mir.Syntax.{w64, ty_int}
use mir.Val.{vint}
use types.Logic.{Logic, sem}
use types.Kit.{‵, ◌⊛◌, ◌$◌, ◌∵◌, !, qed, by, move, keep, use1, use2, split, fsplit, fjoin, rewrite, done}
use types.Kit.{drop as skip}
use types.SemTy.{cells}
use denote.Builtin.{u64}
use denote.Memory.{mem, part_at, shared_of}
use denote.Plain.{uint_out}
use denote.Slice.{elements_shared}
use Rattle.judy_block.specs.Ownership.{words_type}
use denote.Steps.{nothing}

module _ {M : Type 1} {𝓤 : Ura M} (𝓛 : Logic 𝓤) (b : ℕ) where
  -- the words ws lie from the byte o on
  abbrev Row : ℕ → List ℕ → Fml
  Row o ws = cells (mem u64) ws b o

  pub cut : (xs ys : List ℕ) (o at : ℕ) → at ≡ length xs * 8 + o → ent 𝓤 (sem 𝓛 (Row o (xs ++ ys))) (sep 𝓤 (sem 𝓛 (Row o xs)) (sem 𝓛 (Row at ys)))
  cut [] ys o at e = qed 𝓛 (‵ (Row o ys) ∷ []) ∵ rewrite ! 0 (λ (k : ℕ). ‵ (Row k ys)) {x = at} (omega arith) refl $ nothing ! $ done !
  cut (x ∷ xs) ys o at e = let more : at ≡ suc (length xs) * 8 + o = e in qed 𝓛 (‵ (Row o (x ∷ xs ++ ys)) ∷ []) ∵ fsplit ! $ move ! (1 ∷ []) $
      use1 𝓛 (‵ (Row (o + 8) xs) ⊛ ‵ (Row at ys)) (cut xs ys (o + 8) at (omega arith)) $ split ! $ move ! (2 ∷ 0 ∷ []) $ fjoin ! $ done !

  pub glue : (xs ys : List ℕ) (o at : ℕ) → at ≡ length xs * 8 + o → ent 𝓤 (sep 𝓤 (sem 𝓛 (Row o xs)) (sem 𝓛 (Row at ys))) (sem 𝓛 (Row o (xs ++ ys)))
  glue [] ys o at e = qed 𝓛 (‵ ftrue ∷ ‵ (Row at ys) ∷ []) ∵ skip ! $ rewrite ! 0 (λ (k : ℕ). ‵ (Row k ys)) {x = o} (omega arith) refl $ done !
  glue (x ∷ xs) ys o at e = let more : at ≡ suc (length xs) * 8 + o = e in qed 𝓛 (‵ (Row o (x ∷ xs)) ∷ ‵ (Row at ys) ∷ []) ∵ fsplit ! $ move ! (1 ∷ 2 ∷ []) $
      use2 𝓛 (‵ (Row (o + 8) (xs ++ ys))) (glue xs ys (o + 8) at (omega arith)) $ move ! (1 ∷ 0 ∷ []) $ fjoin ! $ done !

  -- one word more at the end
  pub snoc : (xs : List ℕ) (x o at : ℕ) → at ≡ length xs * 8 + o → ent 𝓤 (sep 𝓤 (sem 𝓛 (Row o xs)) (sem 𝓛 (part_at u64 full_share x b at))) (sem 𝓛 (Row o (xs ++ x ∷ [])))
  snoc xs x o at e = qed 𝓛 (‵ (Row o xs) ∷ ‵ (part_at u64 full_share x b at) ∷ []) ∵ nothing ! $ move ! (2 ∷ 0 ∷ []) $ fjoin ! $ move ! (1 ∷ 0 ∷ []) $ by ! (glue xs (x ∷ []) o at e)

  -- a shared borrow of words is one of the first of them
  pub seen : (κ : Lft) (xs ys : List ℕ) (o : ℕ) → ent 𝓤 (sem 𝓛 (elements_shared u64 (xs ++ ys) b o κ)) (sem 𝓛 (elements_shared u64 xs b o κ))
  seen κ [] ys o = qed 𝓛 (‵ (elements_shared u64 ys b o κ) ∷ []) ∵ keep ! [] $ done !
  seen κ (x ∷ xs) ys o = mono_r 𝓤 (sem 𝓛 (shared_of u64 x b o κ)) (seen κ xs ys (o + 8))

  -- one word is taken out of the others, and put back
  module _ (ws : List ℕ) (i o at : ℕ) (e : at ≡ i * 8 + o) (within : i < length ws) where
    abbrev pub Besides : Fml
    Besides = fsep (Row o (take i ws)) (Row (at + 8) (drop (suc i) ws))

    before : at ≡ length (take i ws) * 8 + o
    before = let long = length-take i ws in omega arith

    pub word_out : ent 𝓤 (sem 𝓛 (Row o ws)) (sep 𝓤 (sem 𝓛 (part_at u64 full_share (get_or ws i 0) b at)) (sem 𝓛 Besides))
    word_out = qed 𝓛 (‵ (Row o ws) ∷ []) ∵ rewrite ! 0 (λ (l : List ℕ). ‵ (Row o l)) (sym (take-append-drop i ws) ∙ ap (λ l. take i ws ++ l) (drop-cons ws i 0 within)) refl $
        use1 𝓛 (‵ (Row o (take i ws)) ⊛ ‵ (Row at (get_or ws i 0 ∷ drop (suc i) ws))) (cut (take i ws) (get_or ws i 0 ∷ drop (suc i) ws) o at before) $
        split ! $ move ! (1 ∷ []) $ fsplit ! $ move ! (2 ∷ 1 ∷ []) $ fjoin ! $ move ! (1 ∷ []) $ done !

    pub word_in : (w : ℕ) → ent 𝓤 (sep 𝓤 (sem 𝓛 (part_at u64 full_share w b at)) (sem 𝓛 Besides)) (sem 𝓛 (Row o (set ws i w)))
    word_in w = qed 𝓛 (‵ (part_at u64 full_share w b at) ∷ ‵ Besides ∷ []) ∵ move ! (1 ∷ []) $ fsplit ! $ move ! (2 ∷ 1 ∷ []) $ fjoin ! $ move ! (1 ∷ 0 ∷ []) $
        use2 𝓛 (‵ (Row o (take i ws ++ w ∷ drop (suc i) ws))) (glue (take i ws) (w ∷ drop (suc i) ws) o at before) $
        rewrite ! 0 (λ (l : List ℕ). ‵ (Row o l)) (sym (set_split ws i w within)) refl $ done !

  -- words are room, whatever they hold
  pub to_room : (ws : List ℕ) (o : ℕ) → ent 𝓤 (sem 𝓛 (Row o ws)) (sem 𝓛 (froom (words_type (length ws)) b o))
  to_room [] o = 𝓛.laws.room_nil (ty_int w64) b o
  to_room (w ∷ ws) o = qed 𝓛 (‵ (Row o (w ∷ ws)) ∷ []) ∵ fsplit ! $ use1 𝓛 (‵ (fat full_share (ty_int w64) b o (vint w64 w))) (uint_out 𝓛 full_share w64 w b o) $
      use1 𝓛 (‵ (froom (ty_int w64) b o)) (𝓛.laws.at_room (ty_int w64) b o (vint w64 w)) $ move ! (1 ∷ []) $
      use1 𝓛 (‵ (froom (words_type (length ws)) b (o + 8))) (to_room ws (o + 8)) $ move ! (1 ∷ 0 ∷ []) $ by ! (𝓛.laws.room_cons (ty_int w64) (length ws) b o)
