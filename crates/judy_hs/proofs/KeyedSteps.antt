-- All groups: what a change at one key makes of the map that they are, and of what they keep.
use Rattle.std.proofs.Common.{◌≡◌, ◌≢◌, ℕ, zero, suc, ◌^◌, ◌<◌, ◌≤◌, cond, List, [], ◌∷◌, length, get_or, set, Option, Some, None, refl, sym, ap, ◌∙◌, subst, inl, inr, ⊎_elim, arith}
use Rattle.std.specs.FinMap.{FinMap, get, insert, remove, empty, get-empty, nat_cmp-IsAntisymmetric}
use Rattle.std.specs.Cmp.{nat_cmp_total}
use Rattle.std.proofs.lemmas.Bool.{le-leb, lt-leb, cases_order}
use Rattle.judy_model.specs.Keys.{word_order, byte_order}
use Rattle.judy_model.specs.KeyLengths.{IsBytesKeyTo}
use Rattle.judy_model.proofs.lemmas.maps.TableLemmas.{bytes_keys-all, table_insert, table_remove}
use Rattle.judy_model.proofs.lemmas.orders.ByteLemmas.{number_of-lt}
use Rattle.judy_model.proofs.lemmas.maps.ChangesLemmas.{get-write_same, get-write_other}
use Rattle.judy_hs.specs.declared.group.Inside.{Inside}
use Rattle.judy_hs.specs.declared.group.Inside.TheVariants.{Word, Chained}
use Rattle.judy_hs.specs.Chains.{value_in}
use Rattle.judy_hs.specs.LongGroups.{in_chain, one_long, one_word}
use Rattle.judy_hs.specs.Groups.{Group, none, short, long, in_group, IsInside, IsEmptyGroup, one_group, one_inside}
use Rattle.judy_hs.specs.Keyed.{Keyed, group_at, in_place, IsSpot, IsFreeGroup, with_group, without_group}
use Rattle.judy_hs.specs.Parts.{part_of}
use Rattle.judy_hs.specs.Kept.{IsChain, IsGroup, IsKeyed, value_of, map_of}
use Rattle.judy_hs.proofs.ChainLemmas.{some_is, value_in-head, value_in-later}
use Rattle.judy_hs.proofs.PartLemmas.{part_short, part_long, number_same}
use Rattle.judy_hs.proofs.TwoLevels.{same_or_not, through, IsTwo, two-set, through-set, through-set_at, two-put, through-put, through-put_other, two-gone, through-gone, through-gone_other, get_or-put}
use Rattle.judy_hs.proofs.GroupSteps.{some_none, IsOther, IsStep, chain_of_one}
use Rattle.judy_hs.proofs.GroupChanges.{IsChanged, IsShrunk, put_within}

module _ (hash_of : List ℕ → ℕ) (longest : ℕ) where
  -- The value of a key in a group.
  abbrev pub held : Group → List ℕ → Option ℕ
  held group key = in_group group (part_of hash_of key) key

  -- What a place finds, as the two levels see it.
  place_is : (keyed : Keyed) (found : Option ℕ) (key : List ℕ) → in_place keyed found (part_of hash_of key) key ≡ through none held keyed.groups found key
  place_is keyed None key = refl
  place_is keyed (Some place) key = refl

  -- A group of keys of a length that a key may have.
  abbrev Good : ℕ → Group → Type 0
  Good key_length group = IsGroup hash_of key_length group × (key_length ≤ longest)

  never : (key_length : ℕ) → Good key_length none → ⊥
  never key_length is = is.0

  two_of : (keyed : Keyed) → IsKeyed hash_of longest keyed → IsTwo none held Good keyed.lengths.map keyed.groups
  two_of keyed is = record { apart = is.apart; good = λ key_length place e. (is.groups key_length place e, is.within key_length place e) }

  -- What a change makes of the groups: they keep what they must, and the map is the given one.
  pub record IsMade (keyed : Keyed) (map : FinMap byte_order ℕ) : Type 0 where
    pub is : IsKeyed hash_of longest keyed
    pub map_is : map_of hash_of longest keyed ≡ map

  module _ (keyed : Keyed) (is : IsKeyed hash_of longest keyed) (key : List ℕ) (is_key : IsBytesKeyTo longest key) where
    other_of : (other : List ℕ) → IsBytesKeyTo longest other → (other ≡ key → ⊥) → length other ≡ length key → IsOther hash_of key is_key.is_byte_string other
    other_of other also differ same = record { other_bytes = also.is_byte_string; same_length = same; differs = λ e. differ (sym e) }

    -- The map of groups that differ at the key alone.
    written : (after : Keyed) (value : ℕ) → value_of hash_of after key ≡ Some value → ((other : List ℕ) → IsBytesKeyTo longest other → (other ≡ key → ⊥) →
        value_of hash_of after other ≡ value_of hash_of keyed other) → map_of hash_of longest after ≡ insert (map_of hash_of longest keyed) key value
    written after value here others = table_insert (bytes_keys-all longest) (value_of hash_of keyed) (value_of hash_of after) key value is_key here others

    removed : (after : Keyed) → value_of hash_of after key ≡ None → ((other : List ℕ) → IsBytesKeyTo longest other → (other ≡ key → ⊥) →
        value_of hash_of after other ≡ value_of hash_of keyed other) → map_of hash_of longest after ≡ remove (map_of hash_of longest keyed) key
    removed after here others = table_remove (bytes_keys-all longest) (value_of hash_of keyed) (value_of hash_of after) key (λ _. here) others

    -- ---- another group at the place of the key's group

    module _ (place : ℕ) (leads : get keyed.lengths.map (length key) ≡ Some place) (within : place < length keyed.groups) (new : Group) where
      IsKeyed-set : IsGroup hash_of (length key) new → IsKeyed hash_of longest (record keyed { groups = set keyed.groups place new })
      IsKeyed-set good =
          let both = two-set none held Good never keyed.lengths.map keyed.groups (two_of keyed is) (length key) place leads within new (good, is_key.within_limit) in
          record { within = λ key_length at e. (both.good key_length at e).1; apart = both.apart; groups = λ key_length at e. (both.good key_length at e).0 }

      value-set : value_of hash_of (record keyed { groups = set keyed.groups place new }) key ≡ held new key
      value-set =
          place_is (record keyed { groups = set keyed.groups place new }) (get keyed.lengths.map (length key)) key
          ∙ through-set none held Good never keyed.lengths.map keyed.groups (two_of keyed is) (length key) place leads within new key

      value-set_other : IsStep hash_of key is_key.is_byte_string (group_at keyed place) new → (other : List ℕ) → IsBytesKeyTo longest other → (other ≡ key → ⊥) →
          value_of hash_of (record keyed { groups = set keyed.groups place new }) other ≡ value_of hash_of keyed other
      value-set_other step other also differ =
          place_is (record keyed { groups = set keyed.groups place new }) (get keyed.lengths.map (length other)) other
          ∙ through-set_at none held Good never keyed.lengths.map keyed.groups (two_of keyed is) (length key) place leads within new (length other) other
          (λ same. step.others other (other_of other also differ same))
          ∙ sym (place_is keyed (get keyed.lengths.map (length other)) other)

      pub made-set : (value : ℕ) → IsChanged hash_of key is_key.is_byte_string (group_at keyed place) new (Some value) →
          IsMade (record keyed { groups = set keyed.groups place new }) (insert (map_of hash_of longest keyed) key value)
      made-set value changed = record {
        is = IsKeyed-set changed.is;
        map_is = written (record keyed { groups = set keyed.groups place new }) value (value-set ∙ changed.here) (value-set_other changed.step);
      }

      pub made-without : IsShrunk hash_of key is_key.is_byte_string (group_at keyed place) new → (IsEmptyGroup new → ⊥) →
          IsMade (record keyed { groups = set keyed.groups place new }) (remove (map_of hash_of longest keyed) key)
      made-without shrunk used = record {
        is = IsKeyed-set (shrunk.kept used);
        map_is = removed (record keyed { groups = set keyed.groups place new }) (value-set ∙ shrunk.here) (value-set_other shrunk.step);
      }

    -- ---- a group of the key alone, put at a free place

    -- What the group of the key alone is.
    record IsOne (group : Group) (inside : Inside) : Type 0 where
      here : held group key ≡ Some 0
      others : (other : List ℕ) → IsOther hash_of key is_key.is_byte_string other → held group other ≡ None
      good : IsGroup hash_of (length key) group
      there : IsInside group (part_of hash_of key) key inside

    -- The array of its part alone.
    abbrev alone : FinMap word_order ℕ
    alone = insert empty (part_of hash_of key) 0

    word_one : get alone (part_of hash_of key) ≡ Some 0
    word_one = get-write_same nat_cmp_total empty (part_of hash_of key) 0

    no_word : (word : ℕ) → word ≢ part_of hash_of key → get alone word ≡ None
    no_word word differ = get-write_other nat_cmp_total (empty {R = word_order}) (part_of hash_of key) nat_cmp-IsAntisymmetric 0 word (λ e. differ (sym e)) ∙ get-empty word_order word

    short_one : length key ≤ 8 → IsOne (short (one_word (part_of hash_of key) 0)) (Word (part_of hash_of key))
    short_one few = record {
      here = word_one;
      others = λ other o. no_word (part_of hash_of other) (λ e. o.differs (number_same key other is_key.is_byte_string o.other_bytes (sym o.same_length)
          (sym (part_short hash_of key few) ∙ sym e ∙ part_short hash_of other (omega (arith, o.same_length)))));
      good = record {
        few = few;
        used = (part_of hash_of key, 0, word_one);
        fits = λ word value e. ⊎_elim
            (λ (same : word ≡ part_of hash_of key). subst (λ w. w < 256 ^ length key) (sym (same ∙ part_short hash_of key few)) (number_of-lt key is_key.is_byte_string))
            (λ differ. some_none value (sym e ∙ no_word word differ))
            (same_or_not word (part_of hash_of key));
      };
      there = (refl, (0, word_one));
    }

    one_place : (place at : ℕ) → get alone at ≡ Some place → (at ≡ part_of hash_of key) × (place ≡ 0)
    one_place place at e = ⊎_elim
        (λ (same : at ≡ part_of hash_of key). (same, let zero_is : Some place ≡ Some 0 = sym e ∙ ap (get alone) same ∙ word_one in cc))
        (λ differ. some_none place (sym e ∙ no_word at differ))
        (same_or_not at (part_of hash_of key))

    found_one : (found : Option ℕ) (other : List ℕ) → IsOther hash_of key is_key.is_byte_string other → in_chain (one_long (part_of hash_of key) key) found other ≡ None
    found_one None other o = refl
    found_one (Some zero) other o = value_in-later (key, 0) [] other o.differs
    found_one (Some (suc place)) other o = refl

    long_one : 8 < length key → IsOne (long (one_long (part_of hash_of key) key)) (Chained 0)
    long_one many = record {
      here = ap (λ found. in_chain (one_long (part_of hash_of key) key) found key) word_one ∙ value_in-head key 0 [];
      others = λ other o. found_one (get alone (part_of hash_of other)) other o;
      good = record {
        many = many;
        length_is = refl;
        used = (part_of hash_of key, 0, word_one);
        apart = λ one other place p q. (one_place place one p).0 ∙ sym (one_place place other q).0;
        chains = λ hash place e.
            let at = one_place place hash e in
            subst (λ h. IsChain hash_of (length key) h (get_or (((key, 0) ∷ []) ∷ []) place [])) (sym at.0)
            (subst (λ p. IsChain hash_of (length key) (part_of hash_of key) (get_or (((key, 0) ∷ []) ∷ []) p [])) (sym at.1)
            (chain_of_one hash_of key is_key.is_byte_string (part_of hash_of key) (sym (part_long hash_of key many))));
      };
      there = record { leads = word_one; within = omega arith; is_there = some_is (value_in ((key, 0) ∷ []) key) 0 (value_in-head key 0 []) };
    }

    one : IsOne (one_group (part_of hash_of key) key) (one_inside (part_of hash_of key) key)
    one = ⊎_elim
        (λ (few : length key ≤ 8). subst (λ b. IsOne (cond b (short (one_word (part_of hash_of key) 0)) (long (one_long (part_of hash_of key) key)))
        (cond b (Word (part_of hash_of key)) (Chained 0))) (sym (le-leb (length key) 8 few)) (short_one few))
        (λ (many : 8 < length key). subst (λ b. IsOne (cond b (short (one_word (part_of hash_of key) 0)) (long (one_long (part_of hash_of key) key)))
        (cond b (Word (part_of hash_of key)) (Chained 0))) (sym (lt-leb (length key) 8 many)) (long_one many))
        (⊎_elim (λ e. inl (omega arith)) (λ apart. ⊎_elim (λ less. inl (omega arith)) (λ more. inr more) apart) (cases_order (length key) 8))

    pub record IsPut (after : Keyed) (place : ℕ) (inside : Inside) : Type 0 where
      pub made : IsMade after (insert (map_of hash_of longest keyed) key 0)
      pub spot : IsSpot after (part_of hash_of key) key place inside

    pub put-group : (place : ℕ) → get keyed.lengths.map (length key) ≡ None → IsFreeGroup keyed.groups place →
        IsPut (with_group keyed (part_of hash_of key) key place) place (one_inside (part_of hash_of key) key)
    put-group place absent free =
        let new = one_group (part_of hash_of key) key in
        let after = with_group keyed (part_of hash_of key) key place in
        let both = two-put none held Good never keyed.lengths.map keyed.groups (two_of keyed is) (length key) place absent free.within free.no_group new (one.good, is_key.within_limit) in
        record {
          made = record {
            is = record { within = λ key_length at e. (both.good key_length at e).1; apart = both.apart; groups = λ key_length at e. (both.good key_length at e).0 };
            map_is = written after 0
                (place_is after (get (insert keyed.lengths.map (length key) place) (length key)) key
                ∙ through-put none held Good never keyed.lengths.map keyed.groups (two_of keyed is) (length key) place absent free.within free.no_group new key
                ∙ one.here)
                (λ other also differ. place_is after (get (insert keyed.lengths.map (length key) place) (length other)) other
                ∙ through-put_other none held Good never keyed.lengths.map keyed.groups (two_of keyed is) (length key) place absent free.within free.no_group new
                (length other) other (λ same. one.others other (other_of other also differ same))
                ∙ sym (place_is keyed (get keyed.lengths.map (length other)) other));
          };
          spot = record {
            leads = get-write_same nat_cmp_total keyed.lengths.map (length key) place;
            within = put_within keyed.groups place new free.within;
            is_inside = subst (λ group. IsInside group (part_of hash_of key) key (one_inside (part_of hash_of key) key)) (sym (get_or-put keyed.groups place new none free.within)) one.there;
          };
        }

    -- ---- a group taken away

    pub made-gone : (place : ℕ) → get keyed.lengths.map (length key) ≡ Some place → ((other : List ℕ) → IsOther hash_of key is_key.is_byte_string other →
        held (group_at keyed place) other ≡ None) → IsMade (without_group keyed (length key) place) (remove (map_of hash_of longest keyed) key)
    made-gone place leads alone =
        let after = without_group keyed (length key) place in
        let both = two-gone none held Good never keyed.lengths.map keyed.groups (two_of keyed is) (length key) place leads in
        record {
          is = record { within = λ key_length at e. (both.good key_length at e).1; apart = both.apart; groups = λ key_length at e. (both.good key_length at e).0 };
          map_is = removed after
              (place_is after (get (remove keyed.lengths.map (length key)) (length key)) key
              ∙ through-gone none held Good never keyed.lengths.map keyed.groups (two_of keyed is) (length key) place leads key)
              (λ other also differ. place_is after (get (remove keyed.lengths.map (length key)) (length other)) other
              ∙ through-gone_other none held Good never keyed.lengths.map keyed.groups (two_of keyed is) (length key) place leads (length other) other
              (λ same. alone other (other_of other also differ same))
              ∙ sym (place_is keyed (get keyed.lengths.map (length other)) other));
        }
