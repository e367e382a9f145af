-- The nodes below branches: what is found in a bitmap leaf, whose pairs are its last bytes' behind the skipped ones.
use Rattle.std.proofs.Common.{◌≡◌, ℕ, ◌+◌, ◌-◌, ◌*◌, ◌^◌, ◌<◌, ◌≤◌, [], length, get_or, Option, Some, None, IfSome, slice_get, sym, refl, ap, ◌∙◌, subst, arith}
use Rattle.std.proofs.Math.Nat.{pow-le-pow_right}
use Rattle.std.proofs.lemmas.List.{append-nil}
use Rattle.judy_leaf.specs.KeyLists.{KeyList, keys_of, values_of, shift}
use Rattle.std.specs.Ordering.{is_ge}
use Rattle.judy_model.specs.Keys.{word_order}
use Rattle.judy_leaf.specs.Nearby.{pair_from, pair_up_to}
use Rattle.judy_query.proofs.NearFacts.{from_looked, from-shift, found_below, up_to-shift, up_to-none, up_to_below}
use Rattle.judy_bits.specs.ByteSets.{rank}
use Rattle.judy_node.specs.Trees.{IsMap}
use Rattle.judy_node.specs.Views.{view_pairs}
use Rattle.judy_node.specs.declared.view.ViewOf.{ViewOf}
use Rattle.judy_node.specs.declared.view.ViewOf.TheVariants.{BitLeaf}
use Rattle.judy_node.proofs.Maps.{map-shift, length-shift}
use Rattle.judy_query.proofs.RankFacts.{rank-above, rank-shift, pair_at, at-shift}
use Rattle.judy_query.specs.Parts.{value_of, raised, width_of, IsShown}
use Rattle.judy_query.proofs.Finds.{value-above, value-shift}

module _ {V : _} (words : ℕ) (view : ViewOf V) (skipped : ℕ) (list : KeyList) (is : view ≡ BitLeaf skipped list) (shown : IsShown words view) where
  inner : IsShown {V = V} words (BitLeaf skipped list)
  inner = subst (IsShown words) is shown

  -- The skipped bytes, moved up by one byte, are a word.
  pub start_fits : skipped * 256 < 2 ^ 64
  start_fits =
      let narrow = inner.narrow in
      let below = inner.place.1 in
      let most : 256 ^ (list.width - 1) ≤ 256 ^ 7 = pow-le-pow_right {n = 256} (omega arith) (let e : list.width - 1 ≤ 7 = omega arith in e) in
      omega arith

  bits_map : IsMap words (skipped * 256 + 0) (skipped * 256 + 256) (shift (skipped * 256) list.pairs)
  bits_map = map-shift words 0 256 (skipped * 256) list.pairs inner.place.2

  same_pairs : shift (skipped * 256) list.pairs ≡ view_pairs view
  same_pairs = ap view_pairs (sym is)

  pub bits_below : (key : ℕ) → key < skipped * 256 → None ≡ value_of (view_pairs view) key
  bits_below key below = sym (value-above words (skipped * 256 + 0) (skipped * 256 + 256) (shift (skipped * 256) list.pairs) key (omega arith) bits_map) ∙ ap (λ ps. value_of ps key) same_pairs

  pub bits_value : (key : ℕ) → skipped * 256 ≤ key → value_of list.pairs (key - skipped * 256) ≡ value_of (view_pairs view) key
  bits_value key above =
      sym (value-shift (skipped * 256) (key - skipped * 256) key list.pairs [] (omega arith) refl)
      ∙ ap (λ ps. value_of ps key) (append-nil (shift (skipped * 256) list.pairs) ∙ same_pairs)

  -- A key of the leaf is its own nearest one.
  pub bits_looked : (key : ℕ) (found : Option ℕ) → skipped * 256 ≤ key → found ≡ value_of list.pairs (key - skipped * 256) → IfSome found (λ value. pair_from (view_pairs view) key ≡ Some (key, value))
  bits_looked key found above is = from_looked words 0 (256 ^ width_of view) (view_pairs view) key found shown.map (is ∙ bits_value key above)

  pub rank_below : (key : ℕ) → key < skipped * 256 → 0 ≡ rank (keys_of (view_pairs view)) key
  rank_below key below = sym (rank-above words (skipped * 256 + 0) (skipped * 256 + 256) (shift (skipped * 256) list.pairs) key (omega arith) bits_map) ∙ ap (λ ps. rank (keys_of ps) key) same_pairs

  pub bits_rank : (key : ℕ) → skipped * 256 ≤ key → rank (keys_of list.pairs) (key - skipped * 256) ≡ rank (keys_of (view_pairs view)) key
  bits_rank key above =
      sym (rank-shift (skipped * 256) (key - skipped * 256) key list.pairs [] (omega arith) refl)
      ∙ ap (λ ps. rank (keys_of ps) key) (append-nil (shift (skipped * 256) list.pairs) ∙ same_pairs)

  -- A last byte fits behind them.
  pub key_fits : (byte : ℕ) → byte < 256 → skipped * 256 + byte < 2 ^ 64
  key_fits byte small =
      let narrow = inner.narrow in
      let below = inner.place.1 in
      let most : 256 ^ (list.width - 1) ≤ 256 ^ 7 = pow-le-pow_right {n = 256} (omega arith) (let e : list.width - 1 ≤ 7 = omega arith in e) in
      omega arith

  pub bits_inside : (at : ℕ) → at < length (view_pairs view) → at < length list.pairs
  bits_inside at inside = let moved = length-shift (skipped * 256) list.pairs in let same = ap length same_pairs in omega arith

  pub bits_at : (at key value : ℕ) → at < length list.pairs → key ≡ get_or (keys_of list.pairs) at 0 → value ≡ get_or (values_of list.pairs) at 0 →
      slice_get (view_pairs view) at ≡ Some (skipped * 256 + key, value)
  bits_at at key value inside is_key is_value =
      ap (λ ps. slice_get ps at) (sym same_pairs) ∙ at-shift (skipped * 256) at list.pairs ∙ ap (raised (skipped * 256)) (pair_at list.pairs at key value inside is_key is_value)

  pub bits_from : (key : ℕ) → pair_from (view_pairs view) key ≡ raised (skipped * 256) (pair_from list.pairs (key - skipped * 256))
  bits_from key = ap (λ ps. pair_from ps key) (sym (append-nil (shift (skipped * 256) list.pairs) ∙ same_pairs)) ∙ from-shift (skipped * 256) key list.pairs

  pub from_fits : (number byte value : ℕ) → pair_from list.pairs number ≡ Some (byte, value) → skipped * 256 + byte < 2 ^ 64
  from_fits number byte value found = key_fits byte (found_below words 0 256 (λ pair. is_ge (word_order pair.0 number)) list.pairs byte value inner.place.2 found)

  pub bits_up_to : (key : ℕ) → skipped * 256 ≤ key → pair_up_to (view_pairs view) key ≡ raised (skipped * 256) (pair_up_to list.pairs (key - skipped * 256))
  bits_up_to key above = ap (λ ps. pair_up_to ps key) (sym same_pairs) ∙ up_to-shift (skipped * 256) key list.pairs above

  pub up_to_fits : (number byte value : ℕ) → pair_up_to list.pairs number ≡ Some (byte, value) → skipped * 256 + byte < 2 ^ 64
  up_to_fits number byte value found = key_fits byte (up_to_below words 0 256 number list.pairs byte value inner.place.2 found)

  pub bits_all_above : (key : ℕ) → key < skipped * 256 → None ≡ pair_up_to (view_pairs view) key
  bits_all_above key below = sym (up_to-none words (skipped * 256 + 0) (skipped * 256 + 256) (shift (skipped * 256) list.pairs) key (omega arith) bits_map) ∙ ap (λ ps. pair_up_to ps key) same_pairs
