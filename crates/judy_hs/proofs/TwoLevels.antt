-- Two levels: an array leads from words to places, and at each place stands something with keys. Chains under their
-- hashes and groups under their lengths are such.
use Rattle.std.proofs.Common.{◌≡◌, ◌≢◌, ℕ, zero, suc, ◌<◌, ◌≤◌, true, false, List, [], ◌∷◌, ◌++◌, length, get_or, set, Option, Some, None, nat_lt, refl, sym, ap, ◌∙◌, subst, ◌⊎◌}
use Rattle.std.proofs.Common.{inl, inr, ⊎_elim, arith}
use Rattle.std.specs.FinMap.{FinMap, get, insert, remove, nat_cmp-IsAntisymmetric}
use Rattle.std.specs.Cmp.{nat_cmp_total}
use Rattle.std.proofs.lemmas.Bool.{lt-ltb, le-ltb, cases_order}
use Rattle.judy_model.specs.Keys.{word_order}
use Rattle.judy_model.proofs.lemmas.maps.ChangesLemmas.{get-write_same, get-write_other, get-del_same, get-del_other}
use Rattle.judy_hs.specs.LongGroups.{put_at}

-- Numbers are the same or differ.
pub same_or_not : (left right : ℕ) → (left ≡ right) ⊎ (left ≢ right)
same_or_not left right = ⊎_elim (λ same. inl same) (λ apart. inr (λ e. ⊎_elim (λ less. omega arith) (λ more. omega arith) apart)) (cases_order left right)

some_same : (left right : ℕ) → ◌≡◌ {A = Option ℕ} (Some left) (Some right) → left ≡ right
some_same left right e = cc

-- ---- an element put at a place

module _ {X : Type 0} where
  get_or-push : (xs : List X) (x d : X) → get_or (xs ++ x ∷ []) (length xs) d ≡ x
  get_or-push [] x d = refl
  get_or-push (first ∷ rest) x d = get_or-push rest x d

  get_or-push_other : (xs : List X) (x d : X) (at : ℕ) → at ≢ length xs → get_or (xs ++ x ∷ []) at d ≡ get_or xs at d
  get_or-push_other [] x d zero differ = absurd (differ refl)
  get_or-push_other [] x d (suc at) differ = refl
  get_or-push_other (first ∷ rest) x d zero differ = refl
  get_or-push_other (first ∷ rest) x d (suc at) differ = get_or-push_other rest x d at (λ e. differ (ap suc e))

  pub get_or-set_here : (xs : List X) (at : ℕ) (x d : X) → at < length xs → get_or (set xs at x) at d ≡ x
  get_or-set_here [] at x d within = absurd (omega arith)
  get_or-set_here (first ∷ rest) zero x d within = refl
  get_or-set_here (first ∷ rest) (suc at) x d within = get_or-set_here rest at x d (omega arith)

  pub get_or-set_there : (xs : List X) (at other : ℕ) (x d : X) → other ≢ at → get_or (set xs at x) other d ≡ get_or xs other d
  get_or-set_there [] at other x d differ = refl
  get_or-set_there (first ∷ rest) zero zero x d differ = absurd (differ refl)
  get_or-set_there (first ∷ rest) zero (suc other) x d differ = refl
  get_or-set_there (first ∷ rest) (suc at) zero x d differ = refl
  get_or-set_there (first ∷ rest) (suc at) (suc other) x d differ = get_or-set_there rest at other x d (λ e. differ (ap suc e))

  pub get_or-put : (xs : List X) (at : ℕ) (x d : X) → at ≤ length xs → get_or (put_at xs at x) at d ≡ x
  get_or-put xs at x d within = ⊎_elim
      (λ (end : at ≡ length xs). let e : nat_lt at (length xs) ≡ false = le-ltb at (length xs) (omega arith) in rw e (rw end (get_or-push xs x d)))
      (λ (below : at < length xs). let e : nat_lt at (length xs) ≡ true = lt-ltb at (length xs) below in rw e (get_or-set_here xs at x d below))
      (⊎_elim (λ e. inl e) (λ apart. ⊎_elim (λ less. inr less) (λ more. absurd (omega arith)) apart) (cases_order at (length xs)))

  pub get_or-put_other : (xs : List X) (at other : ℕ) (x d : X) → at ≤ length xs → other ≢ at → get_or (put_at xs at x) other d ≡ get_or xs other d
  get_or-put_other xs at other x d within differ = ⊎_elim
      (λ (end : at ≡ length xs). let e : nat_lt at (length xs) ≡ false = le-ltb at (length xs) (omega arith) in rw e (get_or-push_other xs x d other (λ same. differ (same ∙ sym end))))
      (λ (below : at < length xs). let e : nat_lt at (length xs) ≡ true = lt-ltb at (length xs) below in rw e (get_or-set_there xs at other x d differ))
      (⊎_elim (λ e. inl e) (λ apart. ⊎_elim (λ less. inr less) (λ more. absurd (omega arith)) apart) (cases_order at (length xs)))

-- ---- what stands at the places

module _ {X : Type 0} (none : X) (look : X → List ℕ → Option ℕ) where
  -- What a key has by what leads on.
  abbrev pub through : List X → Option ℕ → List ℕ → Option ℕ
  through xs None key = None
  through xs (Some place) key = look (get_or xs place none) key

  -- No two words lead to one place, and what a word leads to is good for it.
  pub record IsTwo (Good : ℕ → X → Type 0) (outer : FinMap word_order ℕ) (xs : List X) : Type 0 where
    pub apart : (left right place : ℕ) → get outer left ≡ Some place → get outer right ≡ Some place → left ≡ right
    pub good : (word place : ℕ) → get outer word ≡ Some place → Good word (get_or xs place none)

  module _ (Good : ℕ → X → Type 0) (never : (word : ℕ) → Good word none → ⊥) (outer : FinMap word_order ℕ) (xs : List X) (two : IsTwo Good outer xs) (word place : ℕ) where
    -- Nothing leads to a free place.
    not_free : get_or xs place none ≡ none → (other at : ℕ) → get outer other ≡ Some at → at ≢ place
    not_free free other at leads same = never other (subst (Good other) (ap (λ p. get_or xs p none) same ∙ free) (two.good other at leads))

    -- ---- what stands at a place is changed

    module _ (leads : get outer word ≡ Some place) (within : place < length xs) (new : X) where
      pub two-set : Good word new → IsTwo Good outer (set xs place new)
      two-set good = record {
        apart = two.apart;
        good = λ other at e. ⊎_elim
            (λ (same : at ≡ place). subst (Good other) (sym (ap (λ p. get_or (set xs place new) p none) same ∙ get_or-set_here xs place new none within))
            (subst (λ w. Good w new) (two.apart word other place leads (e ∙ ap (λ (p : ℕ). Some p) same)) good))
            (λ differ. subst (Good other) (sym (get_or-set_there xs place at new none differ)) (two.good other at e))
            (same_or_not at place);
      }

      pub through-set : (key : List ℕ) → through (set xs place new) (get outer word) key ≡ look new key
      through-set key = rw leads (ap (λ x. look x key) (get_or-set_here xs place new none within))

      pub through-set_other : (found : Option ℕ) (key : List ℕ) → look new key ≡ look (get_or xs place none) key → through (set xs place new) found key ≡ through xs found key
      through-set_other None key alike = refl
      through-set_other (Some at) key alike = ⊎_elim
          (λ (same : at ≡ place). rw same (ap (λ x. look x key) (get_or-set_here xs place new none within) ∙ alike))
          (λ differ. ap (λ x. look x key) (get_or-set_there xs place at new none differ))
          (same_or_not at place)

      unmoved : (other at : ℕ) → other ≢ word → get outer other ≡ Some at → at ≢ place
      unmoved other at differ e same = differ (two.apart other word place (e ∙ ap (λ (p : ℕ). Some p) same) leads)

      untouched : (other : ℕ) (key : List ℕ) → other ≢ word → (found : Option ℕ) → get outer other ≡ found → through (set xs place new) found key ≡ through xs found key
      untouched other key differ None e = refl
      untouched other key differ (Some at) e = ap (λ x. look x key) (get_or-set_there xs place at new none (unmoved other at differ e))

      pub through-set_at : (other : ℕ) (key : List ℕ) → (other ≡ word → look new key ≡ look (get_or xs place none) key) →
          through (set xs place new) (get outer other) key ≡ through xs (get outer other) key
      through-set_at other key alike = ⊎_elim
          (λ (same : other ≡ word). through-set_other (get outer other) key (alike same))
          (λ differ. untouched other key differ (get outer other) refl)
          (same_or_not other word)

    -- ---- something is put at a free place

    module _ (absent : get outer word ≡ None) (within : place ≤ length xs) (free : get_or xs place none ≡ none) (new : X) where
      leads_here : get (insert outer word place) word ≡ Some place
      leads_here = get-write_same nat_cmp_total outer word place

      leads_there : (other : ℕ) → other ≢ word → get (insert outer word place) other ≡ get outer other
      leads_there other differ = get-write_other nat_cmp_total outer word nat_cmp-IsAntisymmetric place other (λ e. differ (sym e))

      pub two-put : Good word new → IsTwo Good (insert outer word place) (put_at xs place new)
      two-put good = record {
        apart = λ left right at l r. ⊎_elim
            (λ (one : left ≡ word). ⊎_elim
            (λ (other : right ≡ word). one ∙ sym other)
            (λ other. absurd (not_free free right at (sym (leads_there right other) ∙ r) (some_same at place (sym l ∙ ap (get (insert outer word place)) one ∙ leads_here))))
            (same_or_not right word))
            (λ one. ⊎_elim
            (λ (other : right ≡ word). absurd (not_free free left at (sym (leads_there left one) ∙ l) (some_same at place (sym r ∙ ap (get (insert outer word place)) other ∙ leads_here))))
            (λ other. two.apart left right at (sym (leads_there left one) ∙ l) (sym (leads_there right other) ∙ r))
            (same_or_not right word))
            (same_or_not left word);
        good = λ other at e. ⊎_elim
            (λ (one : other ≡ word).
            let here : at ≡ place = some_same at place (sym e ∙ ap (get (insert outer word place)) one ∙ leads_here) in
            subst (λ w. Good w (get_or (put_at xs place new) at none)) (sym one) (subst (Good word) (sym
            (ap (λ p. get_or (put_at xs place new) p none) here ∙ get_or-put xs place new none within)) good))
            (λ differ.
            let before = sym (leads_there other differ) ∙ e in
            subst (Good other) (sym (get_or-put_other xs place at new none within (not_free free other at before))) (two.good other at before))
            (same_or_not other word);
      }

      pub through-put : (key : List ℕ) → through (put_at xs place new) (get (insert outer word place) word) key ≡ look new key
      through-put key = rw leads_here (ap (λ x. look x key) (get_or-put xs place new none within))

      there : (other : ℕ) (key : List ℕ) (found : Option ℕ) → get outer other ≡ found → through (put_at xs place new) found key ≡ through xs found key
      there other key None e = refl
      there other key (Some at) e = ap (λ x. look x key) (get_or-put_other xs place at new none within (not_free free other at e))

      pub through-put_other : (other : ℕ) (key : List ℕ) → (other ≡ word → look new key ≡ None) → through (put_at xs place new) (get (insert outer word place) other) key ≡
          through xs (get outer other) key
      through-put_other other key missing = ⊎_elim
          (λ (same : other ≡ word). rw same (through-put key ∙ missing same ∙ ap (λ (found : Option ℕ). through xs found key) (sym absent)))
          (λ differ. ap (λ (found : Option ℕ). through (put_at xs place new) found key) (leads_there other differ) ∙ there other key (get outer other) refl)
          (same_or_not other word)

    -- ---- what stands at a place is taken away

    module _ (leads : get outer word ≡ Some place) where
      gone_here : get (remove outer word) word ≡ None
      gone_here = get-del_same nat_cmp_total outer word

      gone_there : (other : ℕ) → other ≢ word → get (remove outer word) other ≡ get outer other
      gone_there other differ = get-del_other nat_cmp_total outer word nat_cmp-IsAntisymmetric other (λ e. differ (sym e))

      elsewhere : (other at : ℕ) → other ≢ word → get outer other ≡ Some at → at ≢ place
      elsewhere other at differ e same = differ (two.apart other word place (e ∙ ap (λ (p : ℕ). Some p) same) leads)

      kept : (other at : ℕ) → get (remove outer word) other ≡ Some at → other ≢ word
      kept other at e same = let none : ◌≡◌ {A = Option ℕ} None (Some at) = sym gone_here ∙ ap (get (remove outer word)) (sym same) ∙ e in cc

      pub two-gone : IsTwo Good (remove outer word) (set xs place none)
      two-gone = record {
        apart = λ left right at l r. two.apart left right at (sym (gone_there left (kept left at l)) ∙ l) (sym (gone_there right (kept right at r)) ∙ r);
        good = λ other at e.
            let before = sym (gone_there other (kept other at e)) ∙ e in
            subst (Good other) (sym (get_or-set_there xs place at none none (elsewhere other at (kept other at e) before))) (two.good other at before);
      }

      pub through-gone : (key : List ℕ) → through (set xs place none) (get (remove outer word) word) key ≡ None
      through-gone key = rw gone_here refl

      still : (other : ℕ) (key : List ℕ) → other ≢ word → (found : Option ℕ) → get outer other ≡ found → through (set xs place none) found key ≡ through xs found key
      still other key differ None e = refl
      still other key differ (Some at) e = ap (λ x. look x key) (get_or-set_there xs place at none none (elsewhere other at differ e))

      pub through-gone_other : (other : ℕ) (key : List ℕ) → (other ≡ word → look (get_or xs place none) key ≡ None) →
          through (set xs place none) (get (remove outer word) other) key ≡ through xs (get outer other) key
      through-gone_other other key missing = ⊎_elim
          (λ (same : other ≡ word). rw (same, leads) (through-gone key ∙ sym (missing same)))
          (λ differ. ap (λ (found : Option ℕ). through (set xs place none) found key) (gone_there other differ) ∙ still other key differ (get outer other) refl)
          (same_or_not other word)
