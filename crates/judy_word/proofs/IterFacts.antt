-- The pairs of a tree as what the map that they are holds.
use Rattle.std.proofs.Common.{◌≡◌, ℕ, zero, suc, [], ◌∷◌, map, drop, sym, ap, ◌∙◌, arith}
use Rattle.std.specs.FinMap as finmap
use Rattle.std.proofs.lemmas.List.{drop_all}
use Rattle.judy_model.specs.Counts as counts
use Rattle.judy_model.specs.Keys.{word_order}
use Rattle.judy_bits.specs.ByteSets.{rank}
use Rattle.judy_leaf.specs.KeyLists.{keys_of}
use Rattle.judy_node.specs.Trees.{Pairs, IsMap}
use Rattle.judy_query.specs.Maps.{map_of}
use Rattle.judy_query.proofs.Links.{sorted_of, keys_are, rank_is}
use Rattle.judy_query.proofs.RankFacts.{rank-above}

module _ (words top : ℕ) (pairs : Pairs) (is : IsMap words 0 top pairs) where
  pub entries_are : finmap.entries (map_of pairs) ≡ pairs
  entries_are = finmap.entries-from_sorted word_order pairs (sorted_of words 0 top pairs is)

  pub keys_in_order : keys_of pairs ≡ finmap.keys (map_of pairs)
  keys_in_order = sym (keys_are pairs) ∙ ap (map (λ (pair : ℕ × ℕ). pair.0)) (sym entries_are)

  -- From the first word on they are all.
  pub all_pairs : drop (rank (keys_of pairs) 0) pairs ≡ finmap.entries (map_of pairs)
  all_pairs = ap (λ n. drop n pairs) (rank-above words 0 top pairs 0 (omega arith) is) ∙ sym entries_are

  pub pairs_from : (from : ℕ) → drop (rank (keys_of pairs) from) pairs ≡ drop (counts.rank (map_of pairs) from) (finmap.entries (map_of pairs))
  pairs_from from = (λ t. drop (sym (rank_is words top pairs is from) t) (sym entries_are t))

-- The keys of pairs from a place on.
pub keys_of-drop : (n : ℕ) (pairs : Pairs) → keys_of (drop n pairs) ≡ drop n (map (λ (pair : ℕ × ℕ). pair.0) pairs)
keys_of-drop n [] = ap keys_of (drop_all n [] (omega arith)) ∙ sym (drop_all n [] (omega arith))
keys_of-drop zero (pair ∷ pairs) = sym (keys_are (pair ∷ pairs))
keys_of-drop (suc n) (pair ∷ pairs) = keys_of-drop n pairs
