-- One step through two lists of pairs that ascend.
use Rattle.std.proofs.Common.{◌≡◌, ◌≢◌, ℕ, Bool, true, false, cond, ⊎_elim, [], ◌∷◌, ◌++◌, Option, Some, None, refl, sym, ap, ◌∙◌}
use Rattle.std.specs.Option.{option_or}
use Rattle.std.specs.FinMap.{find}
use Rattle.judy_model.specs.Keys.{word_order}
use Rattle.judy_combine.specs.declared.keep.Keep.{Keep}
use Rattle.judy_combine.specs.Merges.{Pairs, taken, pick}
use Rattle.judy_combine.proofs.Finds.{same_or, find-same, find-apart, find-join}

-- ---- what is taken

-- What one pair adds, if it is taken.
abbrev pub one_if : Bool → ℕ × ℕ → Pairs
one_if b pair = cond b (pair ∷ []) []

-- At its key.
out_same : (key : ℕ) (out : Pairs) (b : Bool) (pair : ℕ × ℕ) → key ≡ pair.0 → find word_order key (out ++ one_if b pair) ≡ option_or (find word_order key out) (cond b (Some pair.1) None)
out_same key out true pair same = find-join key out (pair ∷ []) ∙ ap (option_or (find word_order key out)) (find-same key pair [] same)
out_same key out false pair same = find-join key out []

-- At another.
or_none : (o : Option ℕ) → option_or o None ≡ o
or_none None = refl
or_none (Some v) = refl

out_apart : (key : ℕ) (out : Pairs) (b : Bool) (pair : ℕ × ℕ) → key ≢ pair.0 → find word_order key (out ++ one_if b pair) ≡ find word_order key out
out_apart key out true pair apart = find-join key out (pair ∷ []) ∙ ap (option_or (find word_order key out)) (find-apart key pair [] apart) ∙ or_none (find word_order key out)
out_apart key out false pair apart = find-join key out [] ∙ or_none (find word_order key out)

-- A key that the left one alone has.
at_left : (left both right : Bool) (out rest : Option ℕ) (value : ℕ) → option_or (option_or out (cond left (Some value) None)) (taken left both right rest None) ≡
    option_or out (taken left both right (Some value) None)
at_left true both right None rest value = refl
at_left true both right (Some v) rest value = refl
at_left false both right None None value = refl
at_left false both right None (Some r) value = refl
at_left false both right (Some v) rest value = refl

-- One that the right one alone has.
at_right : (left both right : Bool) (out rest : Option ℕ) (value : ℕ) → option_or (option_or out (cond right (Some value) None)) (taken left both right None rest) ≡
    option_or out (taken left both right None (Some value))
at_right left both true None rest value = refl
at_right left both true (Some v) rest value = refl
at_right left both false None None value = refl
at_right left both false None (Some r) value = refl
at_right left both false (Some v) rest value = refl

-- One that both have.
at_both : (left both right : Bool) (out : Option ℕ) (value other : ℕ) → option_or (option_or out (cond both (Some value) None)) (taken left both right None None) ≡
    option_or out (taken left both right (Some value) (Some other))
at_both left true right None value other = refl
at_both left true right (Some v) value other = refl
at_both left false right None value other = refl
at_both left false right (Some v) value other = refl

module _ (keep : Keep) (key : ℕ) (out : Pairs) where
  -- A pair of the left one, whose key the right one lacks.
  pub pass-left : (pair : ℕ × ℕ) (one other : Pairs) → find word_order pair.0 other ≡ None
      → option_or (find word_order key (out ++ one_if keep.left pair)) (pick keep (find word_order key one) (find word_order key other))
      ≡ option_or (find word_order key out) (pick keep (find word_order key (pair ∷ one)) (find word_order key other))
  pass-left pair one other none = ⊎_elim
      (λ (same : key ≡ pair.0).
      let lacks : find word_order key other ≡ None = ap (λ k. find word_order k other) same ∙ none in
      (λ t. option_or (out_same key out keep.left pair same t) (pick keep (find word_order key one) (lacks t)))
      ∙ at_left keep.left keep.both keep.right (find word_order key out) (find word_order key one) pair.1
      ∙ (λ t. option_or (find word_order key out) (pick keep (sym (find-same key pair one same) t) (sym lacks t))))
      (λ (apart : key ≢ pair.0).
      λ t. option_or (out_apart key out keep.left pair apart t) (pick keep (sym (find-apart key pair one apart) t) (find word_order key other)))
      (same_or key pair.0)

  -- A pair of the right one, whose key the left one lacks.
  pub pass-right : (pair : ℕ × ℕ) (one other : Pairs) → find word_order pair.0 one ≡ None
      → option_or (find word_order key (out ++ one_if keep.right pair)) (pick keep (find word_order key one) (find word_order key other))
      ≡ option_or (find word_order key out) (pick keep (find word_order key one) (find word_order key (pair ∷ other)))
  pass-right pair one other none = ⊎_elim
      (λ (same : key ≡ pair.0).
      let lacks : find word_order key one ≡ None = ap (λ k. find word_order k one) same ∙ none in
      (λ t. option_or (out_same key out keep.right pair same t) (pick keep (lacks t) (find word_order key other)))
      ∙ at_right keep.left keep.both keep.right (find word_order key out) (find word_order key other) pair.1
      ∙ (λ t. option_or (find word_order key out) (pick keep (sym lacks t) (sym (find-same key pair other same) t))))
      (λ (apart : key ≢ pair.0).
      λ t. option_or (out_apart key out keep.right pair apart t) (pick keep (find word_order key one) (sym (find-apart key pair other apart) t)))
      (same_or key pair.0)

  -- A pair of each, of one key that neither has once more.
  pub pass-both : (ours theirs : ℕ × ℕ) (one other : Pairs) → ours.0 ≡ theirs.0 → find word_order ours.0 one ≡ None → find word_order ours.0 other ≡ None
      → option_or (find word_order key (out ++ one_if keep.both ours)) (pick keep (find word_order key one) (find word_order key other))
      ≡ option_or (find word_order key out) (pick keep (find word_order key (ours ∷ one)) (find word_order key (theirs ∷ other)))
  pass-both ours theirs one other is none lacking = ⊎_elim
      (λ (same : key ≡ ours.0).
      let left : find word_order key one ≡ None = ap (λ k. find word_order k one) same ∙ none in
      let right : find word_order key other ≡ None = ap (λ k. find word_order k other) same ∙ lacking in
      (λ t. option_or (out_same key out keep.both ours same t) (pick keep (left t) (right t)))
      ∙ at_both keep.left keep.both keep.right (find word_order key out) ours.1 theirs.1
      ∙ (λ t. option_or (find word_order key out) (pick keep (sym (find-same key ours one same) t) (sym (find-same key theirs other (same ∙ is)) t))))
      (λ (apart : key ≢ ours.0).
      λ t. option_or (out_apart key out keep.both ours apart t) (pick keep (sym (find-apart key ours one apart) t) (sym (find-apart key theirs other (λ e. apart (e ∙ sym is))) t)))
      (same_or key ours.0)
