-- One group, its keys of one length: what a change at one key leaves of the others, and of what the group keeps.
use Rattle.std.proofs.Common.{◌≡◌, ◌≢◌, ℕ, ◌<◌, ◌≤◌, ◌^◌, List, [], ◌∷◌, length, set, Option, Some, None, refl, sym, ap, ◌∙◌, subst, ⊎_elim, arith}
use Rattle.std.specs.FinMap.{get, insert, remove, nat_cmp-IsAntisymmetric}
use Rattle.std.specs.Cmp.{nat_cmp_total}
use Rattle.judy_model.specs.Keys.{word_order, IsByteString}
use Rattle.judy_model.specs.Arrays.{ArrayOf, with_map}
use Rattle.judy_model.specs.WordBytes.{number_of}
use Rattle.judy_model.proofs.lemmas.orders.ByteLemmas.{number_of-lt}
use Rattle.judy_model.proofs.lemmas.maps.ChangesLemmas.{get-write_same, get-write_other, get-del_same, get-del_other}
use Rattle.judy_hs.specs.Chains.{Pairs, value_in, AreApart}
use Rattle.judy_hs.specs.LongGroups.{Long, chain_at, in_chain, in_long, IsFreePlace, with_chain}
use Rattle.judy_hs.specs.Groups.{Group, short, long, in_group}
use Rattle.judy_hs.specs.Parts.{part_of}
use Rattle.judy_hs.specs.Kept.{IsUsed, IsShort, IsChain, IsLong}
use Rattle.judy_hs.proofs.ChainLemmas.{bytes_cases, value_in-head, value_in-later}
use Rattle.judy_hs.proofs.PartLemmas.{number_same, part_short, part_long}
use Rattle.judy_hs.proofs.TwoLevels.{same_or_not, through, IsTwo, two-set, through-set, through-set_other, two-put, through-put, through-put_other, two-gone, through-gone_other}

pub some_none : {A B : Type 0} (x : A) → ◌≡◌ {A = Option A} (Some x) None → B
some_none x e = absurd (let f : ⊥ = cc in f)

module _ (hash_of : List ℕ → ℕ) (key : List ℕ) (bytes : IsByteString key) where
  -- Another key of the same length.
  pub record IsOther (other : List ℕ) : Type 0 where
    pub other_bytes : IsByteString other
    pub same_length : length other ≡ length key
    pub differs : key ≢ other

  -- A change of the group leaves the values of the other keys.
  pub record IsStep (before after : Group) : Type 0 where
    pub others : (other : List ℕ) → IsOther other → in_group after (part_of hash_of other) other ≡ in_group before (part_of hash_of other) other

  -- ---- short keys

  module _ (words : ArrayOf word_order) (few : length key ≤ 8) where
    part_is : part_of hash_of key ≡ number_of key
    part_is = part_short hash_of key few

    parts_differ : (other : List ℕ) → IsOther other → part_of hash_of key ≢ part_of hash_of other
    parts_differ other is e =
        let also : length other ≤ 8 = omega (arith, is.same_length) in
        is.differs (number_same key other bytes is.other_bytes (sym is.same_length) (sym part_is ∙ e ∙ part_short hash_of other also))

    part_fits : part_of hash_of key < 256 ^ length key
    part_fits = rw part_is (number_of-lt key bytes)

    pub short-write : (value : ℕ) → IsStep (short words) (short (with_map words (insert words.map (part_of hash_of key) value)))
    short-write value = record {
      others = λ other is. get-write_other nat_cmp_total words.map (part_of hash_of key) nat_cmp-IsAntisymmetric value (part_of hash_of other) (parts_differ other is);
    }

    pub IsShort-write : (value : ℕ) → IsShort (length key) words → IsShort (length key) (with_map words (insert words.map (part_of hash_of key) value))
    IsShort-write value is = record {
      few = few;
      used = (part_of hash_of key, value, get-write_same nat_cmp_total words.map (part_of hash_of key) value);
      fits = λ word held e. ⊎_elim
          (λ (same : part_of hash_of key ≡ word). subst (λ w. w < 256 ^ length key) same part_fits)
          (λ differ. is.fits word held (sym (get-write_other nat_cmp_total words.map (part_of hash_of key) nat_cmp-IsAntisymmetric value word differ) ∙ e))
          (same_or_not (part_of hash_of key) word);
    }

    pub short-remove : IsStep (short words) (short (with_map words (remove words.map (part_of hash_of key))))
    short-remove = record {
      others = λ other is. get-del_other nat_cmp_total words.map (part_of hash_of key) nat_cmp-IsAntisymmetric (part_of hash_of other) (parts_differ other is);
    }

    pub IsShort-remove : IsShort (length key) words → IsUsed (remove words.map (part_of hash_of key)) → IsShort (length key) (with_map words (remove words.map (part_of hash_of key)))
    IsShort-remove is used = record {
      few = few;
      used = used;
      fits = λ word held e. ⊎_elim
          (λ (same : part_of hash_of key ≡ word). some_none held (sym e ∙ ap (get (remove words.map (part_of hash_of key))) (sym same) ∙ get-del_same nat_cmp_total words.map (part_of hash_of key)))
          (λ differ. is.fits word held (sym (get-del_other nat_cmp_total words.map (part_of hash_of key) nat_cmp-IsAntisymmetric word differ) ∙ e))
          (same_or_not (part_of hash_of key) word);
    }

  -- ---- long keys

  -- What a chain finds, as the two levels see it.
  chain_is : (group : Long) (found : Option ℕ) (other : List ℕ) → in_chain group found other ≡ through [] value_in group.chains found other
  chain_is group None other = refl
  chain_is group (Some place) other = refl

  never : (key_length : ℕ) → (hash : ℕ) → IsChain hash_of key_length hash [] → ⊥
  never key_length hash is = is.used refl

  two_of : (group : Long) → IsLong hash_of (length key) group → IsTwo [] value_in (IsChain hash_of (length key)) group.hashes.map group.chains
  two_of group is = record { apart = is.apart; good = is.chains }

  -- A chain that is changed at the key.
  chain_changed : (old new : Pairs) (hash : ℕ) → hash_of key ≡ hash → new ≢ [] → AreApart new → ((other : List ℕ) → key ≢ other → value_in new other ≡ value_in old other) →
      IsChain hash_of (length key) hash old → IsChain hash_of (length key) hash new
  chain_changed old new hash has used apart others is = record {
    used = used;
    apart = apart;
    keys = λ other value e. ⊎_elim
        (λ (same : key ≡ other). subst (λ k. IsByteString k × (length k ≡ length key) × (hash_of k ≡ hash)) same (bytes, refl, has))
        (λ differ. is.keys other value (sym (others other differ) ∙ e))
        (bytes_cases key other);
  }

  -- The chain of the key alone.
  pub chain_of_one : (hash : ℕ) → hash_of key ≡ hash → IsChain hash_of (length key) hash ((key, 0) ∷ [])
  chain_of_one hash has = record {
    used = λ e. cc;
    apart = (refl, tt);
    keys = λ other value e. ⊎_elim
        (λ (same : key ≡ other). subst (λ k. IsByteString k × (length k ≡ length key) × (hash_of k ≡ hash)) same (bytes, refl, has))
        (λ differ. some_none value (sym e ∙ value_in-later (key, 0) [] other differ))
        (bytes_cases key other);
  }

  -- A chain with a value for a key isn't empty.
  pub has_value : (chain : Pairs) (other : List ℕ) (value : ℕ) → value_in chain other ≡ Some value → chain ≢ []
  has_value chain other value e gone = some_none value (sym e ∙ ap (λ (pairs : Pairs). value_in pairs other) gone)

  module _ (group : Long) (is : IsLong hash_of (length key) group) where
    has : hash_of key ≡ part_of hash_of key
    has = sym (part_long hash_of key is.many)

    -- A chain that is changed at the key, where its hash leads.
    pub long-changed : (place : ℕ) (new : Pairs) → get group.hashes.map (part_of hash_of key) ≡ Some place → place < length group.chains →
        ((other : List ℕ) → key ≢ other → value_in new other ≡ value_in (chain_at group place) other)
        → IsStep (long group) (long (record group { chains = set group.chains place new }))
    long-changed place new leads within others = record {
      others = λ other o.
          let after : Long = record group { chains = set group.chains place new } in
          let found = get group.hashes.map (part_of hash_of other) in
          chain_is after found other
          ∙ through-set_other [] value_in (IsChain hash_of (length key)) (never (length key)) group.hashes.map group.chains (two_of group is)
          (part_of hash_of key) place leads within new found other (others other o.differs)
          ∙ sym (chain_is group found other);
    }

    pub IsLong-changed : (place : ℕ) (new : Pairs) → get group.hashes.map (part_of hash_of key) ≡ Some place → place < length group.chains → new ≢ [] → AreApart new →
        ((other : List ℕ) → key ≢ other → value_in new other ≡ value_in (chain_at group place) other)
        → IsLong hash_of (length key) (record group { chains = set group.chains place new })
    IsLong-changed place new leads within used apart others =
        let two = two-set [] value_in (IsChain hash_of (length key)) (never (length key)) group.hashes.map group.chains (two_of group is) (part_of hash_of key) place leads within new
        (chain_changed (chain_at group place) new (part_of hash_of key) has used apart others (is.chains (part_of hash_of key) place leads)) in
        record { many = is.many; length_is = is.length_is; used = is.used; apart = two.apart; chains = two.good }

    pub in_long-changed : (place : ℕ) (new : Pairs) → get group.hashes.map (part_of hash_of key) ≡ Some place → place < length group.chains →
        in_long (record group { chains = set group.chains place new }) (part_of hash_of key) key ≡ value_in new key
    in_long-changed place new leads within =
        chain_is (record group { chains = set group.chains place new }) (get group.hashes.map (part_of hash_of key)) key
        ∙ through-set [] value_in (IsChain hash_of (length key)) (never (length key)) group.hashes.map group.chains (two_of group is) (part_of hash_of key) place leads within new key

    -- A chain of the key, put at a free place.
    pub long-chain : (place : ℕ) → get group.hashes.map (part_of hash_of key) ≡ None → IsFreePlace group.chains place → IsStep (long group) (long (with_chain group (part_of hash_of key) key place))
    long-chain place absent free = record {
      others = λ other o.
          chain_is (with_chain group (part_of hash_of key) key place) (get (insert group.hashes.map (part_of hash_of key) place) (part_of hash_of other)) other
          ∙ through-put_other [] value_in (IsChain hash_of (length key)) (never (length key)) group.hashes.map group.chains (two_of group is)
          (part_of hash_of key) place absent free.within free.no_key ((key, 0) ∷ []) (part_of hash_of other) other (λ _. value_in-later (key, 0) [] other o.differs)
          ∙ sym (chain_is group (get group.hashes.map (part_of hash_of other)) other);
    }

    pub IsLong-chain : (place : ℕ) → get group.hashes.map (part_of hash_of key) ≡ None → IsFreePlace group.chains place → IsLong hash_of (length key) (with_chain group (part_of hash_of key) key place)
    IsLong-chain place absent free =
        let two = two-put [] value_in (IsChain hash_of (length key)) (never (length key)) group.hashes.map group.chains (two_of group is)
        (part_of hash_of key) place absent free.within free.no_key ((key, 0) ∷ []) (chain_of_one (part_of hash_of key) has) in
        record {
          many = is.many;
          length_is = is.length_is;
          used = (part_of hash_of key, place, get-write_same nat_cmp_total group.hashes.map (part_of hash_of key) place);
          apart = two.apart;
          chains = two.good;
        }

    pub in_long-chain : (place : ℕ) → get group.hashes.map (part_of hash_of key) ≡ None → IsFreePlace group.chains place →
        in_long (with_chain group (part_of hash_of key) key place) (part_of hash_of key) key ≡ Some 0
    in_long-chain place absent free =
        chain_is (with_chain group (part_of hash_of key) key place) (get (insert group.hashes.map (part_of hash_of key) place) (part_of hash_of key)) key
        ∙ through-put [] value_in (IsChain hash_of (length key)) (never (length key)) group.hashes.map group.chains (two_of group is)
        (part_of hash_of key) place absent free.within free.no_key ((key, 0) ∷ []) key
        ∙ value_in-head key 0 []

    -- The chain of the key alone taken away.
    module _ (place : ℕ) (leads : get group.hashes.map (part_of hash_of key) ≡ Some place) (alone : (other : List ℕ) → key ≢ other → value_in (chain_at group place) other ≡ None) where
      pub long-gone : IsStep (long group) (long (record group { hashes = with_map group.hashes (remove group.hashes.map (part_of hash_of key)); chains = set group.chains place [] }))
      long-gone = record {
        others = λ other o.
            let after : Long = record group { hashes = with_map group.hashes (remove group.hashes.map (part_of hash_of key)); chains = set group.chains place [] } in
            chain_is after (get (remove group.hashes.map (part_of hash_of key)) (part_of hash_of other)) other
            ∙ through-gone_other [] value_in (IsChain hash_of (length key)) (never (length key)) group.hashes.map group.chains (two_of group is)
            (part_of hash_of key) place leads (part_of hash_of other) other (λ _. alone other o.differs)
            ∙ sym (chain_is group (get group.hashes.map (part_of hash_of other)) other);
      }

      pub IsLong-gone : IsUsed (remove group.hashes.map (part_of hash_of key)) → IsLong hash_of (length key)
          (record group { hashes = with_map group.hashes (remove group.hashes.map (part_of hash_of key)); chains = set group.chains place [] })
      IsLong-gone used =
          let two = two-gone [] value_in (IsChain hash_of (length key)) (never (length key)) group.hashes.map group.chains (two_of group is) (part_of hash_of key) place leads in
          record { many = is.many; length_is = is.length_is; used = used; apart = two.apart; chains = two.good }
