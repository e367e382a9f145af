-- Fields that are spelled in one way: what is read is spelled so, and what is spelled so is read.
use Rattle.std.proofs.Common.{◌≡◌, ℕ, zero, suc, ◌+◌, ◌/◌, ◌^◌, ◌<◌, ◌≤◌, Bool, true, false, cond, ltb, List, [], ◌∷◌, ◌++◌, length, take, drop, Result, Ok, Err, refl, sym, ap}
use Rattle.std.proofs.Common.{subst, ◌∙◌, append_assoc, arith, IsTrue}
use Rattle.std.proofs.lemmas.Bool.{ltb-false, le-ltb}
use Rattle.std.proofs.lemmas.List.{take_at, drop_at, take-append-drop, length-append, length-take}
use Rattle.std.proofs.lemmas.List.Elements.{All-nil, All-cons, All-take, All-drop}
use Rattle.std.proofs.Math.Nat.{mod-eq_of_lt}
use Rattle.std.proofs.lemmas.Nat.{mod_below}
use Rattle.judy_model.specs.Keys.{IsByteString}
use Rattle.judy_model.specs.WordBytes.{low_bytes, number_of}
use Rattle.judy_model.specs.Fields.{Flaw, truncated, Parser, followed_by, ◌>>=◌, done, bytes, number, checked, field}
use Rattle.judy_model.proofs.lemmas.orders.ByteLemmas.{number_of-lt, number_of-low_bytes, low_bytes-number_of, length-low_bytes}

-- The values that fit, each with its one text, are those that a part gives, with the bytes after it.
pub record IsSpelled {A : Type 0} (Fits : A → Type 0) (text : A → List ℕ) (part : Parser A) : Type 0 where
  pub again : (value : A) (rest : List ℕ) → Fits value → part (text value ++ rest) ≡ Ok (value, rest)
  pub back : (input : List ℕ) (value : A) (rest : List ℕ) → IsByteString input → part input ≡ Ok (value, rest) → (input ≡ text value ++ rest) × Fits value × IsByteString rest

-- A part that gave a value, and what followed.
pub followed_ok : {A B : Type 0} (read : Result (A × List ℕ) Flaw) (rest : A → Parser B) (given : B × List ℕ) → followed_by read rest ≡ Ok given →
    (first : A × List ℕ) × (read ≡ Ok first) × (rest first.0 first.1 ≡ Ok given)
followed_ok (Ok first) rest given is = (first, refl, is)
followed_ok (Err flaw) rest given is = absurd cc

-- A part for which nothing is read.
pub done_ok : {A : Type 0} (value : A) (input : List ℕ) (given : A) (rest : List ℕ) → done value input ≡ Ok (given, rest) → (value ≡ given) × (input ≡ rest)
done_ok {A} value input given rest is =
    let same : ◌≡◌ {A = A × List ℕ} (value, input) (given, rest) = cc in
    (ap (λ pair. pair.0) same, ap (λ pair. pair.1) same)

module _ {A B : Type 0} (P : A → Type 0) (text : A → List ℕ) (part : Parser A) (Q : A → B → Type 0) (later : A → B → List ℕ) (rest : A → Parser B) (Fits : B → Type 0) (whole : B → List ℕ) where
  -- Two parts in a row are spelled in a row.
  pub sequence-IsSpelled : IsSpelled P text part → ((first : A) → P first → IsSpelled (Q first) (later first) (rest first))
      → ((value : B) → Fits value → (first : A) × P first × Q first value × (whole value ≡ text first ++ later first value))
      → ((first : A) (value : B) → P first → Q first value → Fits value × (whole value ≡ text first ++ later first value))
      → IsSpelled Fits whole (part >>= rest)
  sequence-IsSpelled one others split join = record {
    again = λ value after fits.
        let s = split value fits in
        let read : part (whole value ++ after) ≡ Ok (s.0, later s.0 value ++ after) =
        ap part (ap (λ t. t ++ after) s.3 ∙ append_assoc (text s.0) (later s.0 value) after) ∙ one.again s.0 (later s.0 value ++ after) s.1 in
        ap (λ r. followed_by r rest) read ∙ (others s.0 s.1).again value after s.2;
    back = λ input value after are is.
        let f = followed_ok (part input) rest (value, after) is in
        let x = f.0.0 in
        let b = one.back input x f.0.1 are f.1 in
        let c = (others x b.1).back f.0.1 value after b.2 f.2 in
        let j = join x value b.1 c.1 in
        (b.0 ∙ ap (λ t. text x ++ t) c.0 ∙ sym (append_assoc (text x) (later x value) after) ∙ ap (λ t. t ++ after) (sym j.1), j.0, c.2);
  }

module _ {A : Type 0} (P Q : A → Type 0) (text : A → List ℕ) (part : Parser A) where
  -- The values that fit, told in another way.
  pub retold-IsSpelled : ((value : A) → P value → Q value) → ((value : A) → Q value → P value) → IsSpelled P text part → IsSpelled Q text part
  retold-IsSpelled to from is = record {
    again = λ value rest fits. is.again value rest (from value fits);
    back = λ input value rest are e. let b = is.back input value rest are e in (b.0, to value b.1, b.2);
  }

-- A value for which nothing is read.
pub done-IsSpelled : {A : Type 0} (value : A) → IsSpelled (λ given. given ≡ value) (λ given. []) (done value)
done-IsSpelled value = record {
  again = λ given rest same. ap (λ v. Ok (v, rest)) (sym same);
  back = λ input given rest are is. let d = done_ok value input given rest is in (d.1, sym d.0, subst IsByteString d.1 are);
}

-- ---- checks

-- A value passes each check.
abbrev pub Passes : {A : Type 0} → List ((A → Bool) × Flaw) → A → Type 0
Passes [] value = Unit {0}
Passes (check ∷ checks) value = IsTrue (check.0 value) × Passes checks value

chosen : {X : Type 0} (b : Bool) (x y z : X) → cond b x y ≡ z → (y ≡ z → ⊥) → (b ≡ true) × (x ≡ z)
chosen true x y z e never = (refl, e)
chosen false x y z e never = absurd (never e)

module _ {A : Type 0} where
  checked-Passes : (checks : List ((A → Bool) × Flaw)) (value : A) (input : List ℕ) → Passes checks value → checked checks value input ≡ Ok (value, input)
  checked-Passes [] value input passes = refl
  checked-Passes (check ∷ checks) value input passes =
      ap (λ b. cond b (checked checks value input) (Err check.1)) passes.0 ∙ checked-Passes checks value input passes.1

  Passes-checked : (checks : List ((A → Bool) × Flaw)) (value : A) (input : List ℕ) (given : A × List ℕ) → checked checks value input ≡ Ok given → Passes checks value × ((value, input) ≡ given)
  Passes-checked [] value input given e = (tt, cc)
  Passes-checked (check ∷ checks) value input given e =
      let c = chosen (check.0 value) (checked checks value input) (Err check.1) (Ok given) e (λ (same : ◌≡◌ {A = Result (A × List ℕ) Flaw} (Err check.1) (Ok given)). absurd cc) in
      let rest = Passes-checked checks value input given c.1 in
      ((c.0, rest.0), rest.1)

module _ {A : Type 0} (P : A → Type 0) (text : A → List ℕ) (part : Parser A) where
  -- A field gives those that pass its checks.
  pub field-IsSpelled : (checks : List ((A → Bool) × Flaw)) → IsSpelled P text part → IsSpelled (λ value. P value × Passes checks value) text (field part checks)
  field-IsSpelled checks is = record {
    again = λ value rest fits. ap (λ r. followed_by r (checked checks)) (is.again value rest fits.0) ∙ checked-Passes checks value rest fits.1;
    back = λ input value rest are e.
        let f = followed_ok (part input) (checked checks) (value, rest) e in
        let c = Passes-checked checks f.0.0 f.0.1 (value, rest) f.2 in
        let same : f.0 ≡ (value, rest) = c.1 in
        let b = is.back input value rest are (f.1 ∙ ap (λ read. Ok read) same) in
        (b.0, (b.1, subst (Passes checks) (ap (λ read. read.0) same) c.0), b.2);
  }

-- ---- bytes and numbers

not_cut : {A : Type 0} (b : Bool) (given got : A × List ℕ) → cond b (Err truncated) (Ok given) ≡ Ok got → (b ≡ false) × (given ≡ got)
not_cut true given got e = absurd cc
not_cut false given got e = (refl, cc)

-- So many bytes are those that stand there.
pub bytes-IsSpelled : (count : ℕ) → IsSpelled (λ read. (length read ≡ count) × IsByteString read) (λ read. read) (bytes count)
bytes-IsSpelled count = record {
  again = λ read rest fits.
      let whole : length (read ++ rest) ≡ length read + length rest = length-append read rest in
      let enough : count ≤ length (read ++ rest) = let l = fits.0 in omega arith in
      let parts : (take count (read ++ rest), drop count (read ++ rest)) ≡ (read, rest) = λ t. (take_at read rest count fits.0 t, drop_at read rest count fits.0 t) in
      ap (λ b. cond b (Err truncated) (Ok (take count (read ++ rest), drop count (read ++ rest)))) (le-ltb (length (read ++ rest)) count enough) ∙ ap (λ pair. Ok pair) parts;
  back = λ input read rest are is.
      let w = not_cut (ltb (length input) count) (take count input, drop count input) (read, rest) is in
      let one : take count input ≡ read = ap (λ pair. pair.0) w.1 in
      let two : drop count input ≡ rest = ap (λ pair. pair.1) w.1 in
      let enough = ltb-false (length input) count w.0 in
      let l : length (take count input) ≡ count = let m = length-take count input in omega arith in (
        sym (take-append-drop count input) ∙ (λ t. one t ++ two t),
        (ap length (sym one) ∙ l, subst IsByteString one (All-take (λ byte. byte < 256) count input are)),
        subst IsByteString two (All-drop (λ byte. byte < 256) count input are),
      );
}

low_bytes-IsByteString : (width value : ℕ) → IsByteString (low_bytes width value)
low_bytes-IsByteString zero value = All-nil (λ byte. byte < 256)
low_bytes-IsByteString (suc width) value = All-cons (λ byte. byte < 256) _ _ (mod_below (value / 256 ^ width) 256 (omega arith)) (low_bytes-IsByteString width value)

-- A number is its bytes.
pub number-IsSpelled : (width : ℕ) → IsSpelled (λ value. value < 256 ^ width) (low_bytes width) (number width)
number-IsSpelled width = record {
  again = λ value rest fits.
      let are = low_bytes-IsByteString width value in
      let read = (bytes-IsSpelled width).again (low_bytes width value) rest (length-low_bytes width value, are) in
      ap (λ r. followed_by r (λ spelled. done (number_of spelled))) read ∙ ap (λ n. Ok (n, rest)) (number_of-low_bytes width value ∙ mod-eq_of_lt fits);
  back = λ input value rest are is.
      let f = followed_ok (bytes width input) (λ spelled. done (number_of spelled)) (value, rest) is in
      let b = (bytes-IsSpelled width).back input f.0.0 f.0.1 are f.1 in
      let same = done_ok (number_of f.0.0) f.0.1 value rest f.2 in
      let n = same.0 in
      let after = same.1 in
      let spelled : f.0.0 ≡ low_bytes width value = sym (low_bytes-number_of f.0.0 b.1.1) ∙ (λ t. low_bytes (b.1.0 t) (n t)) in
      (b.0 ∙ (λ t. spelled t ++ after t), subst (λ k. k < 256 ^ width) n (subst (λ w. number_of f.0.0 < 256 ^ w) b.1.0 (number_of-lt f.0.0 b.1.1)), subst IsByteString after b.2);
}
