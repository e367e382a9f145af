-- A tree of what is kept of two trees, as a map.
use Rattle.std.proofs.Common.{◌≡◌, ℕ, ◌^◌, ◌<◌, ◌≤◌, length, sym, ap, ◌∙◌, subst, arith}
use Rattle.std.specs.FinMap.{get, len}
use Rattle.judy_model.specs.Keys.{word_order}
use Rattle.judy_node.specs.Trees.{Pairs, IsMap}
use Rattle.judy_query.specs.Maps.{map_of}
use Rattle.judy_query.proofs.Links.{get_is, len_is}
use Rattle.judy_combine.specs.declared.keep.Keep.{Keep}
use Rattle.judy_combine.specs.Merges.{pick}
use Rattle.judy_combine.specs.Kept.{AreKept, IsCountable}
use Rattle.judy_sets.specs.Results.{kept}
use Rattle.judy_sets.proofs.MapLaws.{Words, same_words, get-kept}

module _ (words : ℕ) (keep : Keep) (one other : Words) (ours theirs : Pairs) (our_map : IsMap words 0 (256 ^ 8) ours) (their_map : IsMap words 0 (256 ^ 8) theirs)
    (one_is : map_of ours ≡ one) (other_is : map_of theirs ≡ other) where
  pub kept_map : (pairs : Pairs) → IsMap words 0 (256 ^ 8) pairs → AreKept keep ours theirs pairs → map_of pairs ≡ kept keep one other
  kept_map pairs map is = same_words (map_of pairs) (kept keep one other) (λ key.
      get_is words (256 ^ 8) pairs map key
      ∙ is key
      ∙ (λ t. pick keep (sym (get_is words (256 ^ 8) ours our_map key) t) (sym (get_is words (256 ^ 8) theirs their_map key) t))
      ∙ (λ t. pick keep (get (one_is t) key) (get (other_is t) key))
      ∙ sym (get-kept keep one other key))

  pub kept_long : (pairs : Pairs) → IsMap words 0 (256 ^ 8) pairs → AreKept keep ours theirs pairs → length pairs ≡ len (kept keep one other)
  kept_long pairs map is = sym (len_is words (256 ^ 8) pairs map) ∙ ap len (kept_map pairs map is)

  -- Where they are no more than a word tells, a word tells how many they are.
  pub kept_few : (limit : ℕ) → limit < 2 ^ 64 → len (kept keep one other) ≤ limit → IsCountable words 8 keep ours theirs
  kept_few limit word within = λ pairs map is. let long = kept_long pairs map is in omega arith
