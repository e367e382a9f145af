-- One group under the changes of its calls: what each leaves at the key, at the other keys, and of what groups keep.
use Rattle.std.proofs.Common.{◌≡◌, ◌≢◌, ℕ, zero, suc, ◌<◌, ◌≤◌, true, false, cond, List, [], ◌∷◌, length, get_or, set, Option, Some, None, IsSome, nat_lt, inl, inr, refl, sym, ap}
use Rattle.std.proofs.Common.{◌∙◌, subst, ⊎_elim, arith}
use Rattle.std.specs.FinMap.{FinMap, get, insert, remove, empty, entries, len-entries, empty_of_len, get-entries, get-empty, find}
use Rattle.std.specs.Cmp.{nat_cmp_total, tied_itself}
use Rattle.std.specs.Ordering.{is_eq}
use Rattle.std.proofs.lemmas.Bool.{lt-ltb, le-ltb, cases_order}
use Rattle.std.proofs.lemmas.List.{length_push, length-set}
use Rattle.judy_model.specs.Keys.{word_order, IsByteString}
use Rattle.judy_model.specs.Arrays.{with_map}
use Rattle.judy_model.proofs.lemmas.maps.ChangesLemmas.{get-write_same, get-del_same}
use Rattle.judy_hs.specs.declared.group.Inside.{Inside}
use Rattle.judy_hs.specs.declared.group.Inside.TheVariants.{Word, Chained}
use Rattle.judy_hs.specs.Chains.{Pairs, value_in, with_value, joined, without, AreApart}
use Rattle.judy_hs.specs.LongGroups.{Long, chain_at, in_chain, IsLongPlace, IsFound, added_long, hashes_without, put_at}
use Rattle.judy_hs.specs.Groups.{Group, none, short, long, in_group, IsInside, IsNewInside, IsEmptyGroup, value_inside, group_with, group_with_key, group_without}
use Rattle.judy_hs.specs.Parts.{part_of}
use Rattle.judy_hs.specs.Kept.{IsUsed, IsLong, IsGroup}
use Rattle.judy_hs.proofs.ChainLemmas.{has_some, some_is, value_in-head, value_in-written, value_in-written_other, value_in-joined, value_in-joined_other, value_in-without}
use Rattle.judy_hs.proofs.ChainLemmas.{value_in-without_other, AreApart-written, AreApart-joined, AreApart-without}
use Rattle.judy_hs.proofs.TwoLevels.{get_or-set_here, get_or-put}
use Rattle.judy_hs.proofs.GroupSteps.{IsStep, short-write, IsShort-write, short-remove, IsShort-remove, has_value, long-changed, IsLong-changed, in_long-changed, long-chain}
use Rattle.judy_hs.proofs.GroupSteps.{IsLong-chain, in_long-chain, long-gone, IsLong-gone}

-- ---- maps

first_entry : (map : FinMap word_order ℕ) (pairs : List (ℕ × ℕ)) → entries map ≡ pairs → (map ≡ empty → ⊥) → IsUsed map
first_entry map [] e used = absurd (used (empty_of_len map (len-entries map ∙ ap length e)))
first_entry map (pair ∷ rest) e used = (
  pair.0,
  pair.1,
  get-entries map pair.0 ∙ ap (find word_order pair.0) e ∙ ap (λ r. cond (is_eq r) (Some pair.1) (find word_order pair.0 rest)) (tied_itself nat_cmp_total pair.0),
)

-- A map that isn't empty has a key.
pub used_map : (map : FinMap word_order ℕ) → (map ≡ empty → ⊥) → IsUsed map
used_map map = first_entry map (entries map) refl

-- ---- places of lists

pub put_within : {X : Type 0} (xs : List X) (at : ℕ) (x : X) → at ≤ length xs → at < length (put_at xs at x)
put_within xs at x within = ⊎_elim
    (λ (end : at ≡ length xs). let e : nat_lt at (length xs) ≡ false = le-ltb at (length xs) (omega arith) in rw e (omega (arith, length_push xs x)))
    (λ (below : at < length xs). let e : nat_lt at (length xs) ≡ true = lt-ltb at (length xs) below in rw e (omega (arith, length-set xs at x)))
    (⊎_elim (λ e. inl e) (λ apart. ⊎_elim (λ less. inr less) (λ more. absurd (omega arith)) apart) (cases_order at (length xs)))

pub set_within : {X : Type 0} (xs : List X) (held at : ℕ) (x : X) → at ≡ held → held < length xs → at < length (set xs held x)
set_within xs held at x same within = omega (arith, length-set xs held x)

used_within : (chains : List Pairs) (place : ℕ) → get_or chains place [] ≢ [] → place < length chains
used_within [] place used = absurd (used refl)
used_within (first ∷ rest) zero used = omega arith
used_within (first ∷ rest) (suc place) used = omega (arith, used_within rest place used)

module _ (hash_of : List ℕ → ℕ) (key : List ℕ) (bytes : IsByteString key) where
  -- What a change makes of a group: the key has a value or none, the other keys theirs, and it is a group of their length.
  pub record IsChanged (before after : Group) (value : Option ℕ) : Type 0 where
    pub step : IsStep hash_of key bytes before after
    pub here : in_group after (part_of hash_of key) key ≡ value
    pub is : IsGroup hash_of (length key) after

  -- ---- a value written

  pub group-write : (group : Group) (inside : Inside) (value : ℕ) → IsGroup hash_of (length key) group → IsInside group (part_of hash_of key) key inside →
      IsChanged group (group_with group inside key value) (Some value)
  group-write none inside value is there = absurd is
  group-write (short words) (Word word) value is there =
      subst (λ w. IsChanged (short words) (short (with_map words (insert words.map w value))) (Some value)) (sym there.0) (record {
        step = short-write hash_of key bytes words is.few value;
        here = get-write_same nat_cmp_total words.map (part_of hash_of key) value;
        is = IsShort-write hash_of key bytes words is.few value is;
      })
  group-write (short words) (Chained place) value is there = absurd there
  group-write (long group) (Word word) value is there = absurd there
  group-write (long group) (Chained place) value is there =
      let old = chain_at group place in
      let new = with_value old key value in
      let written = value_in-written old key value there.is_there in
      let others : (other : List ℕ) → (key ≡ other → ⊥) → value_in new other ≡ value_in old other = λ other differ. value_in-written_other old key value other differ in
      record {
        step = long-changed hash_of key bytes group is place new there.leads there.within others;
        here = in_long-changed hash_of key bytes group is place new there.leads there.within ∙ written;
        is =
            IsLong-changed hash_of key bytes group is place new there.leads there.within (has_value hash_of key bytes new key value written)
            (AreApart-written key old value (is.chains (part_of hash_of key) place there.leads).apart) others;
      }

  -- What stands there is in the group, and has the value of the key.
  pub value-inside : (group : Group) (inside : Inside) → IsInside group (part_of hash_of key) key inside → in_group group (part_of hash_of key) key ≡ value_inside group inside key
  value-inside none inside there = absurd there
  value-inside (short words) (Word word) there = ap (get words.map) (sym there.0)
  value-inside (short words) (Chained place) there = absurd there
  value-inside (long group) (Word word) there = absurd there
  value-inside (long group) (Chained place) there = ap (λ found. in_chain group found key) there.leads

  pub inside-some : (group : Group) (inside : Inside) → IsInside group (part_of hash_of key) key inside → (value : ℕ) × (in_group group (part_of hash_of key) key ≡ Some value)
  inside-some none inside there = absurd there
  inside-some (short words) (Word word) there = there.1
  inside-some (short words) (Chained place) there = absurd there
  inside-some (long group) (Word word) there = absurd there
  inside-some (long group) (Chained place) there = let found = has_some (value_in (chain_at group place) key) there.is_there in (found.0, ap (λ found. in_chain group found key) there.leads ∙ found.1)

  -- ---- a key put in

  pub record IsGrown (before after : Group) (inside : Inside) : Type 0 where
    pub changed : IsChanged before after (Some 0)
    pub there : IsInside after (part_of hash_of key) key inside

  long-add : (group : Long) (place : ℕ) (found : Option ℕ) → get group.hashes.map (part_of hash_of key) ≡ found → IsLong hash_of (length key) group →
      in_chain group found key ≡ None → IsFound group found place
      → IsGrown (long group) (long (added_long group (part_of hash_of key) key found place)) (Chained place)
  long-add group place None e is absent new =
      record {
        changed = record {
          step = long-chain hash_of key bytes group is place e new;
          here = in_long-chain hash_of key bytes group is place e new;
          is = IsLong-chain hash_of key bytes group is place e new;
        };
        there = record {
          leads = get-write_same nat_cmp_total group.hashes.map (part_of hash_of key) place;
          within = put_within group.chains place ((key, 0) ∷ []) new.within;
          is_there =
              subst (λ (chain : Pairs). IsSome (value_in chain key)) (sym (get_or-put group.chains place ((key, 0) ∷ []) [] new.within))
              (some_is (value_in ((key, 0) ∷ []) key) 0 (value_in-head key 0 []));
        };
      }
  long-add group place (Some held) e is absent new =
      let old = chain_at group held in
      let grown = joined old key 0 in
      let chain = is.chains (part_of hash_of key) held e in
      let within = used_within group.chains held chain.used in
      let value = value_in-joined old key 0 absent in
      let others : (other : List ℕ) → (key ≡ other → ⊥) → value_in grown other ≡ value_in old other = λ other differ. value_in-joined_other old key 0 other differ in
      record {
        changed = record {
          step = long-changed hash_of key bytes group is held grown e within others;
          here = in_long-changed hash_of key bytes group is held grown e within ∙ value;
          is = IsLong-changed hash_of key bytes group is held grown e within (has_value hash_of key bytes grown key 0 value) (AreApart-joined key old 0 absent chain.apart) others;
        };
        there = record {
          leads = e ∙ ap (λ (p : ℕ). Some p) (sym new);
          within = set_within group.chains held place grown new within;
          is_there = subst (λ p. IsSome (value_in (get_or (set group.chains held grown) p []) key)) (sym new)
              (subst (λ (chain : Pairs). IsSome (value_in chain key)) (sym (get_or-set_here group.chains held grown [] within)) (some_is (value_in grown key) 0 value));
        };
      }

  pub group-add : (group : Group) (inside : Inside) → IsGroup hash_of (length key) group → in_group group (part_of hash_of key) key ≡ None →
      IsNewInside group (part_of hash_of key) inside → IsGrown group (group_with_key group (part_of hash_of key) key inside) inside
  group-add none inside is absent new = absurd is
  group-add (short words) (Word word) is absent new = record {
    changed = record {
      step = short-write hash_of key bytes words is.few 0;
      here = get-write_same nat_cmp_total words.map (part_of hash_of key) 0;
      is = IsShort-write hash_of key bytes words is.few 0 is;
    };
    there = (new, (0, get-write_same nat_cmp_total words.map (part_of hash_of key) 0));
  }
  group-add (short words) (Chained place) is absent new = absurd new
  group-add (long group) (Word word) is absent new = absurd new
  group-add (long group) (Chained place) is absent new = long-add group place (get group.hashes.map (part_of hash_of key)) refl is absent new

  -- ---- a key taken out

  pub record IsShrunk (before after : Group) : Type 0 where
    pub step : IsStep hash_of key bytes before after
    pub here : in_group after (part_of hash_of key) key ≡ None
    pub kept : (IsEmptyGroup after → ⊥) → IsGroup hash_of (length key) after

  long-without : (group : Long) (place : ℕ) (left : Pairs) → without (chain_at group place) key ≡ left → IsLong hash_of (length key) group → IsLongPlace group (part_of hash_of key) key place
      → IsShrunk (long group) (long (record group { hashes = hashes_without group (part_of hash_of key) left; chains = set group.chains place left }))
  long-without group place [] e is there =
      let alone : (other : List ℕ) → (key ≡ other → ⊥) → value_in (chain_at group place) other ≡ None = λ other differ. sym (value_in-without_other (chain_at group place) key other differ) ∙
      ap (λ (pairs : Pairs). value_in pairs other) e in
      record {
        step = long-gone hash_of key bytes group is place there.leads alone;
        here =
            ap (λ found. in_chain (record group { hashes = with_map group.hashes (remove group.hashes.map (part_of hash_of key)); chains = set group.chains place [] }) found key)
            (get-del_same nat_cmp_total group.hashes.map (part_of hash_of key));
        kept = λ used. IsLong-gone hash_of key bytes group is place there.leads alone (used_map (remove group.hashes.map (part_of hash_of key)) used);
      }
  long-without group place (pair ∷ rest) e is there =
      let old = chain_at group place in
      let chain = is.chains (part_of hash_of key) place there.leads in
      let others : (other : List ℕ) → (key ≡ other → ⊥) → value_in (pair ∷ rest) other ≡ value_in old other = λ other differ. ap (λ (pairs : Pairs). value_in pairs other) (sym e) ∙
      value_in-without_other old key other differ in
      record {
        step = long-changed hash_of key bytes group is place (pair ∷ rest) there.leads there.within others;
        here = in_long-changed hash_of key bytes group is place (pair ∷ rest) there.leads there.within ∙ ap (λ (pairs : Pairs). value_in pairs key) (sym e) ∙ value_in-without old key chain.apart;
        kept = λ _. IsLong-changed hash_of key bytes group is place (pair ∷ rest) there.leads there.within (λ gone. cc) (subst AreApart e (AreApart-without key old chain.apart)) others;
      }

  pub group-remove : (group : Group) (inside : Inside) → IsGroup hash_of (length key) group → IsInside group (part_of hash_of key) key inside →
      IsShrunk group (group_without group (part_of hash_of key) inside key)
  group-remove none inside is there = absurd is
  group-remove (short words) (Word word) is there = record {
    step = short-remove hash_of key bytes words is.few;
    here = get-del_same nat_cmp_total words.map (part_of hash_of key);
    kept = λ used. IsShort-remove hash_of key bytes words is.few is (used_map (remove words.map (part_of hash_of key)) used);
  }
  group-remove (short words) (Chained place) is there = absurd there
  group-remove (long group) (Word word) is there = absurd there
  group-remove (long group) (Chained place) is there = long-without group place (without (chain_at group place) key) refl is there

-- A group without a key holds none.
pub empty-none : (group : Group) → IsEmptyGroup group → (part : ℕ) (key : List ℕ) → in_group group part key ≡ None
empty-none none is part key = refl
empty-none (short words) is part key = ap (λ (map : FinMap word_order ℕ). get map part) is ∙ get-empty word_order part
empty-none (long group) is part key = ap (λ found. in_chain group found key) (ap (λ (map : FinMap word_order ℕ). get map part) is ∙ get-empty word_order part)
