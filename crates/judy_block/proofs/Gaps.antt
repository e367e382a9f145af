-- Words that were moved up, and then cleared where they stood, have a gap.
use Rattle.std.proofs.Common.{◌≡◌, ℕ, ◌+◌, ◌-◌, ◌≤◌, ◌∙◌, List, ◌++◌, length, take, drop, replicate, sym, ap, arith}
use Rattle.std.proofs.lemmas.List.{take-take, take-append-le, length-take-le, drop-take, drop_all, append-nil}
use Rattle.std.specs.List.{copy_within}
use lib.Seq.{drop_at}
use Rattle.judy_block.specs.Contents.{with_gap}

module _ (ws : List ℕ) (i n : ℕ) (fits : i + n ≤ length ws) where
  -- so many words are in use, and so many of them move
  abbrev used : ℕ
  used = length ws - n

  abbrev moved : List ℕ
  moved = copy_within ws i used (i + n)

  -- the words before the gap's end, those that moved, and nothing
  moved_is : moved ≡ take (i + n) ws ++ take (used - i) (drop i ws)
  moved_is = ap (λ l. take (i + n) ws ++ take (used - i) (drop i ws) ++ l) (drop_all (i + n + (used - i)) ws (omega arith)) ∙ append-nil _

  below : take i moved ≡ take i (take used ws)
  below =
      let front = take (i + n) ws in let long = length-take-le (i + n) ws fits in
      ap (take i) moved_is ∙ take-append-le i front (take (used - i) (drop i ws)) (omega arith) ∙ take-take i (i + n) ws (omega arith) ∙ sym (take-take i used ws (omega arith))

  above : drop (i + n) moved ≡ drop i (take used ws)
  above =
      let all : used ≡ i + (used - i) = omega arith in
      ap (drop (i + n)) moved_is ∙ drop_at (take (i + n) ws) (take (used - i) (drop i ws)) (i + n) (length-take-le (i + n) ws fits) ∙ sym (drop-take i (used - i) ws) ∙
      ap (λ k. drop i (take k ws)) (sym all)

  pub gap_opened : take i moved ++ (replicate n 0 ++ drop (i + n) moved) ≡ with_gap i n (take used ws)
  gap_opened = ap (λ l. l ++ (replicate n 0 ++ drop (i + n) moved)) below ∙ ap (λ l. take i (take used ws) ++ (replicate n 0 ++ l)) above
