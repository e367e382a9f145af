-- Pairs written into a slice, part by part.
use Rattle.std.proofs.Common.{◌≡◌, ℕ, zero, suc, ◌+◌, ◌-◌, ◌*◌, ◌<◌, ◌≤◌, List, [], ◌∷◌, ◌++◌, length, take, drop, min, slice_set, refl, sym, ap, ◌∙◌, subst, arith, length-append, length-drop}
use Rattle.std.proofs.lemmas.List.{append_assoc, append-nil, take_all, drop_all, drop-drop, take-append-le, drop-append-le, length-take-le}
use Rattle.std.proofs.Math.Seq.{take-append_seam, drop-append_seam, take-add}
use borrow.Rule.Slice.PartMut.{mid_of, put_mid}
use Rattle.judy_leaf.specs.Fills.{made_of}
use Rattle.judy_leaf.specs.KeyLists.{KeyList, shift}
use Rattle.judy_node.specs.Trees.{Pairs}
use Rattle.judy_node.specs.Views.{view_pairs}
use Rattle.judy_node.specs.declared.view.ViewOf.{ViewOf}
use Rattle.judy_node.specs.declared.view.ViewOf.TheVariants.{BitLeaf}
use Rattle.judy_node.proofs.Maps.{length-shift, shift-shift}
use Rattle.judy_query.specs.Givings.{AreGiven}
use Rattle.judy_query.proofs.WalkFacts.{drop-shift}

-- All pairs of a bitmap leaf are written.
pub bits_given : {V : _} {E : Type 0} (made : ℕ → ℕ → E) (view : ViewOf V) (skipped : ℕ) (list : KeyList) → view ≡ BitLeaf skipped list → (base count : ℕ) (out new : List E)
    → count ≡ length list.pairs → count ≤ length out → new ≡ made_of made (shift (base + skipped * 256) (take (length (take count out)) (drop 0 list.pairs)))
    → AreGiven made (shift base (view_pairs view)) [] out (new ++ drop count out) count
bits_given made view skipped list is base count out new long fits written =
    let top = base + skipped * 256 in
    let pairs = list.pairs in
    let moved = length-shift top pairs in
    subst (λ (all : Pairs). AreGiven made all [] out (new ++ drop count out) count) (sym (ap (λ v. shift base (view_pairs v)) is ∙ shift-shift base (skipped * 256) top pairs refl)) (record {
      within = fits;
      there = omega arith;
      out = ap (λ (part : List _). part ++ drop count out)
          (written ∙ ap (λ n. made_of made (shift top (take n pairs))) (length-take-le count out fits) ∙ ap (λ ps. made_of made (shift top ps)) (take_all count pairs (omega arith)) ∙
          ap (made_of made) (sym (take_all count (shift top pairs) (omega arith))));
      others = sym (drop_all count (shift top pairs) (omega arith));
    })

-- One pair is.
pub one_given : {E : Type 0} (out : List E) (new wanted : E) → new ≡ wanted → length out ≤ 1 → 0 < length out → slice_set out 0 new ≡ take (length out) (wanted ∷ [])
one_given [] new wanted same few some = let never : ⊥ = omega arith in absurd never
one_given (first ∷ []) new wanted same few some = ap (λ only. only ∷ []) same
one_given (first ∷ second ∷ out) new wanted same few some = let never : ⊥ = omega arith in absurd never

take-shift : (by n : ℕ) (pairs : Pairs) → take n (shift by pairs) ≡ shift by (take n pairs)
take-shift by zero pairs = refl
take-shift by (suc n) [] = refl
take-shift by (suc n) (pair ∷ pairs) = ap (λ rest. (by + pair.0, pair.1) ∷ rest) (take-shift by n pairs)

-- The pairs of a bitmap leaf from a place on, so many.
pub bits_part : {V : _} (view : ViewOf V) (skipped : ℕ) (list : KeyList) → view ≡ BitLeaf skipped list → (base at n : ℕ)
    → shift (base + skipped * 256) (take n (drop at list.pairs)) ≡ shift base (take n (drop at (view_pairs view)))
bits_part view skipped list is base at n =
    sym (shift-shift base (skipped * 256) (base + skipped * 256) (take n (drop at list.pairs)) refl)
    ∙ ap (shift base) (sym (take-shift (skipped * 256) n (drop at list.pairs)) ∙ ap (take n) (sym (drop-shift (skipped * 256) at list.pairs)) ∙ ap (λ v. take n (drop at (view_pairs v))) (sym is))

pub bits_room : {V : _} (view : ViewOf V) (skipped : ℕ) (list : KeyList) → view ≡ BitLeaf skipped list → length (view_pairs view) ≡ length list.pairs
bits_room view skipped list is = ap (λ v. length (view_pairs v)) is ∙ length-shift (skipped * 256) list.pairs

-- The next pairs of a node are written, so many.
pub next_given : {E : Type 0} (made : ℕ → ℕ → E) (base at n later : ℕ) (pairs all : Pairs) (out new : List E) → later ≡ at + n → shift base (drop at pairs) ≡ all →
    n ≤ length out → later ≤ length pairs
    → new ≡ made_of made (shift base (take (length (take n out)) (drop at pairs))) → AreGiven made all (shift base (drop later pairs)) out (new ++ drop n out) n
next_given made base at n later pairs all out new sum is fits inside written =
    let long = length-shift base (drop at pairs) in
    let rest = length-drop at pairs in
    subst (λ (all : Pairs). AreGiven made all (shift base (drop later pairs)) out (new ++ drop n out) n) is (record {
      within = fits;
      there = omega arith;
      out =
          ap (λ (part : List _). part ++ drop n out) (written ∙ ap (λ n. made_of made (shift base (take n (drop at pairs)))) (length-take-le n out fits) ∙
          ap (made_of made) (sym (take-shift base n (drop at pairs))));
      others = ap (λ n. shift base (drop n pairs)) sum ∙ ap (shift base) (sym (drop-drop n at pairs)) ∙ sym (drop-shift base n (drop at pairs));
    })

-- All that fit are.
pub most_given : (base at n len : ℕ) (pairs all : Pairs) (room : ℕ) → shift base (drop at pairs) ≡ all → len ≡ length pairs → at ≤ len → n ≡ min room (len - at) → n ≡ min room (length all)
most_given base at n len pairs all room is counted within least =
    let long = sym (ap length is) ∙ length-shift base (drop at pairs) in
    let rest = length-drop at pairs in
    let e : len - at ≡ length all = omega arith in
    least ∙ ap (min room) e

-- ---- one part after another

module _ {E : Type 0} (made : ℕ → ℕ → E) where
  length-made : (pairs : Pairs) → length (made_of made pairs) ≡ length pairs
  length-made [] = refl
  length-made (pair ∷ pairs) = ap suc (length-made pairs)

  made-append : (one two : Pairs) → made_of made (one ++ two) ≡ made_of made one ++ made_of made two
  made-append [] two = refl
  made-append (pair ∷ one) two = ap (λ rest. made pair.0 pair.1 ∷ rest) (made-append one two)

  -- What comes behind the pairs is left.
  pub given_with : (all left : Pairs) (before after : List E) (count : ℕ) → AreGiven made all left before after count → (rest : Pairs) → AreGiven made (all ++ rest) (left ++ rest) before after count
  given_with all left before after count given rest =
      let there = given.there in
      let long = length-append all rest in
      record {
        within = given.within;
        there = omega arith;
        out = given.out ∙ ap (λ ps. made_of made ps ++ drop count before) (sym (take-append-le count all rest there));
        others = ap (λ ps. ps ++ rest) given.others ∙ sym (drop-append-le count all rest there);
      }

  module _ (all mid : Pairs) (before now : List E) (n : ℕ) (given : AreGiven made all mid before now n) where
    front : length (made_of made (take n all)) ≡ n
    front = length-made (take n all) ∙ length-take-le n all given.there

    -- The slice stays as long.
    pub given_long : length now ≡ length before
    given_long =
        let here = front in
        let within = given.within in
        let whole = ap length given.out ∙ length-append (made_of made (take n all)) (drop n before) in
        let rest = length-drop n before in
        omega arith

    front_now : take n now ≡ made_of made (take n all)
    front_now = ap (take n) given.out ∙ ap (λ m. take m (made_of made (take n all) ++ drop n before)) (sym front) ∙ take-append_seam (made_of made (take n all)) (drop n before)

    behind_now : drop n now ≡ drop n before
    behind_now = ap (drop n) given.out ∙ ap (λ m. drop m (made_of made (take n all) ++ drop n before)) (sym front) ∙ drop-append_seam (made_of made (take n all)) (drop n before)

    -- More are written behind those that were.
    pub given_more : (left : Pairs) (new : List E) (m : ℕ) → AreGiven made mid left (drop n now) new m → AreGiven made all left before (take n now ++ new) (n + m)
    given_more left new m more =
        let long = given_long in
        let within = more.within in
        let there = more.there in
        let room = length-drop n now in
        let some = given.there in
        let rest = ap length given.others ∙ length-drop n all in
        record {
          within = omega arith;
          there = omega arith;
          out = (λ t. front_now t ++ (more.out ∙ (λ t. made_of made (take m (given.others t)) ++ (ap (drop m) behind_now ∙ drop-drop m n before) t)) t)
              ∙ sym (append_assoc (made_of made (take n all)) (made_of made (take m (drop n all))) (drop (n + m) before))
              ∙ ap (λ (part : List E). part ++ drop (n + m) before) (sym (made-append (take n all) (take m (drop n all))) ∙ ap (made_of made) (sym (take-add n m all)));
          others = more.others ∙ ap (drop m) given.others ∙ drop-drop m n all;
        }

    -- The same where the slice was passed on from there.
    pub put_more : n ≤ length now → (left : Pairs) (new : List E) (m : ℕ) → AreGiven made mid left (mid_of n (length now - n) now) new m →
        AreGiven made all left before (put_mid n (length now - n) now new) (n + m)
    put_more inside left new m more =
        let rest = length-drop n now in
        let none = drop_all (length now - n) (drop n now) (omega arith) in
        subst (λ (later : List E). AreGiven made all left before later (n + m)) (ap (λ (part : List E). take n now ++ part) (sym (append-nil new) ∙ ap (λ (part : List E). new ++ part) (sym none)))
        (given_more left new m (subst (λ (part : List E). AreGiven made mid left part new m) (take_all (length now - n) (drop n now) (omega arith)) more))

  pub length-mid : (n : ℕ) (now : List E) → n ≤ length now → length (mid_of n (length now - n) now) ≡ length now - n
  length-mid n now inside =
      let rest = length-drop n now in
      ap length (take_all (length now - n) (drop n now) (omega arith)) ∙ rest

  -- Where some pairs are left and there is a place, one is written.
  pub more_some : (now : List E) (n m some : ℕ) → m ≡ min (length (mid_of n (length now - n) now)) some → n < length now → 0 < some → 0 < m
  more_some now n m some least inside there =
      let long = length-mid n now (omega arith) in
      omega arith

  -- All of some pairs are more than none.
  pub whole_some : (all : Pairs) (before after : List E) (count : ℕ) → AreGiven made all [] before after count → 0 < length all → 0 < count
  whole_some all before after count given some = let rest = ap length given.others ∙ length-drop count all in omega arith

  -- Where there are more places than pairs are written, none is left.
  pub emptied : (all left : Pairs) (before after : List E) (count : ℕ) → AreGiven made all left before after count → count ≡ min (length before) (length all) → count < length before → length left ≡ 0
  emptied all left before after count given most less = let rest = ap length given.others ∙ length-drop count all in omega arith

  -- Where none is left, all that there are were written.
  pub all_given : (all left : Pairs) (before after : List E) (count : ℕ) → AreGiven made all left before after count → left ≡ [] → count ≡ min (length before) (length all)
  all_given all left before after count given none =
      let rest = sym (ap length none) ∙ ap length given.others ∙ length-drop count all in
      let within = given.within in
      let there = given.there in
      omega arith

pub empty : (pairs : Pairs) → length pairs ≡ 0 → pairs ≡ []
empty [] none = refl
empty (pair ∷ pairs) none = let never : ⊥ = omega arith in absurd never
