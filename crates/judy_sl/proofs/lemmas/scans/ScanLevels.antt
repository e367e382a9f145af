-- What is met first at one level, by what is met first behind its entries.
use Rattle.std.proofs.Common.{◌≡◌, ℕ, suc, Bool, true, false, cond, ◌&&◌, IsTrue, IsFalse, inl, inr, ⊎_elim, ◌⊎◌, List, [], ◌∷◌, Some, None, is_some, sym, refl, ap, ◌∙◌, subst}
use Rattle.std.proofs.Common.{Ordering, Less, Equal, Greater, is_lt, is_le}
use Rattle.std.specs.Ordering.{ordering_then, is_eq, eq_by_cmp}
use Rattle.std.specs.Cmp.{IsTotalOrder, nat_cmp_total, tied_itself, back_total}
use Rattle.std.specs.Cmp.Lexicographic.{slice_cmp}
use Rattle.std.specs.FinMap.{FinMap, IsAntisymmetric, nat_cmp-IsAntisymmetric, get, contains_key}
use Rattle.std.proofs.lemmas.Bool.{and_parts, and_from, false_from_ne_true}
use Rattle.std.proofs.lemmas.Option.{none-some}
use Rattle.judy_model.specs.Keys.{word_order, byte_order}
use Rattle.judy_model.proofs.lemmas.orders.Orders.{not_both, less_is, same_from_tie, turned-IsAntisymmetric}
use Rattle.judy_model.proofs.lemmas.maps.TableLemmas.{byte_order_total, byte_order_same}
use Rattle.judy_sl.specs.declared.scans.Side.{Side}
use Rattle.judy_sl.specs.declared.scans.Side.TheVariants.{Above, Below}
use Rattle.judy_sl.specs.declared.scans.Look.{Look}
use Rattle.judy_sl.specs.Pieces.{IsFinal, IsInner, ArePieces}
use Rattle.judy_sl.specs.World.{World, tail, level, at_node, at_entry, lookup}
use Rattle.judy_sl.specs.Scans.{along, is_beyond, IsNearestEntry, IsFirstEntry, meets, IsNone, IsNear, IsEnd}

-- ---- the order from a side

pub along_total : (side : Side) → IsTotalOrder (along side)
along_total Above = nat_cmp_total
along_total Below = back_total nat_cmp_total

pub along_same : (side : Side) → IsAntisymmetric (along side)
along_same Above = nat_cmp-IsAntisymmetric
along_same Below = turned-IsAntisymmetric nat_cmp-IsAntisymmetric

pub beyond_less : (itself : Bool) → is_beyond itself Less ≡ true
beyond_less true = refl
beyond_less false = refl

pub beyond_greater : (itself : Bool) → is_beyond itself Greater ≡ false
beyond_greater true = refl
beyond_greater false = refl

module _ {order : ℕ → ℕ → Ordering} (total : IsTotalOrder order) (same : IsAntisymmetric order) where
  itself_tied : (ps : List ℕ) → slice_cmp order ps ps ≡ Equal
  itself_tied [] = refl
  itself_tied (p ∷ ps) = ap (λ answer. ordering_then answer (slice_cmp order ps ps)) (tied_itself total p) ∙ itself_tied ps

  -- Behind one piece the rests compare.
  behind_one : (p : ℕ) (ps qs : List ℕ) → slice_cmp order (p ∷ ps) (p ∷ qs) ≡ slice_cmp order ps qs
  behind_one p ps qs = ap (λ answer. ordering_then answer (slice_cmp order ps qs)) (tied_itself total p)

  -- What is met has a later piece, or one piece and what is met behind it.
  met_parts : (itself : Bool) (p q : ℕ) (ps qs : List ℕ) → IsTrue (is_beyond itself (slice_cmp order (p ∷ ps) (q ∷ qs))) →
      (order p q ≡ Less) ⊎ ((p ≡ q) × IsTrue (is_beyond itself (slice_cmp order ps qs)))
  met_parts itself p q ps qs met =
      elim (order p q) as (λ answer. order p q ≡ answer → IsTrue (is_beyond itself (ordering_then answer (slice_cmp order ps qs))) →
      (order p q ≡ Less) ⊎ ((p ≡ q) × IsTrue (is_beyond itself (slice_cmp order ps qs)))) [
        | Less ↦ λ is so. inl is
        | Equal ↦ λ is so. inr (same p q is, so)
        | Greater ↦ λ is so. not_both (is_beyond itself Greater) so (beyond_greater itself)
      ] refl met

  met_later : (itself : Bool) (p q : ℕ) (ps qs : List ℕ) → order p q ≡ Less → IsTrue (is_beyond itself (slice_cmp order (p ∷ ps) (q ∷ qs)))
  met_later itself p q ps qs less = ap (λ answer. is_beyond itself (ordering_then answer (slice_cmp order ps qs))) less ∙ beyond_less itself

  le_later : (p q : ℕ) (ps qs : List ℕ) → order p q ≡ Less → IsTrue (is_le (slice_cmp order (p ∷ ps) (q ∷ qs)))
  le_later p q ps qs less = ap (λ answer. is_le (ordering_then answer (slice_cmp order ps qs))) less

  le_one : (p q : ℕ) (ps qs : List ℕ) → p ≡ q → IsTrue (is_le (slice_cmp order ps qs)) → IsTrue (is_le (slice_cmp order (p ∷ ps) (q ∷ qs)))
  le_one p q ps qs one behind = ap (λ r. is_le (slice_cmp order (p ∷ ps) (r ∷ qs))) (sym one) ∙ ap is_le (behind_one p ps qs) ∙ behind

  -- What has a piece at or before another's is at or before it, where that is so behind one piece.
  le_parts : (p q : ℕ) (ps qs : List ℕ) → IsTrue (is_le (order p q)) → (p ≡ q → IsTrue (is_le (slice_cmp order ps qs))) → IsTrue (is_le (slice_cmp order (p ∷ ps) (q ∷ qs)))
  le_parts p q ps qs le behind =
      elim (order p q) as (λ answer. order p q ≡ answer → IsTrue (is_le answer) → IsTrue (is_le (ordering_then answer (slice_cmp order ps qs)))) [
        | Less ↦ λ is so. refl
        | Equal ↦ λ is so. behind (same p q is)
        | Greater ↦ λ is so. so
      ] refl le

-- ---- pieces

pub pieces_cons : (p : ℕ) (ps : List ℕ) → IsInner p → ArePieces ps → ArePieces (p ∷ ps)
pieces_cons p [] inner are = absurd are
pieces_cons p (q ∷ qs) inner are = (inner, are)

pub pieces_rest : (p : ℕ) (ps : List ℕ) → IsInner p → ArePieces (p ∷ ps) → ArePieces ps
pieces_rest p [] inner are = absurd (inner are)
pieces_rest p (q ∷ qs) inner are = are.1

pub pieces_last : (p : ℕ) (ps : List ℕ) → IsFinal p → ArePieces (p ∷ ps) → ps ≡ []
pieces_last p [] final are = refl
pieces_last p (q ∷ qs) final are = absurd (are.0 final)

-- ---- what is found at a level

module _ (world : World) (seat : ℕ) (map : FinMap word_order ℕ) (is_level : world seat ≡ level map) where
  lookup_level : (p : ℕ) (ps : List ℕ) → lookup world seat (p ∷ ps) ≡ at_entry (get map p) ps (λ found. lookup world (suc found) ps)
  lookup_level p ps = ap (λ node. at_node node p ps (λ found. lookup world (suc found) ps)) is_level

  -- Under a final piece the value of its entry.
  pub lookup_final : (p value : ℕ) → get map p ≡ Some value → lookup world seat (p ∷ []) ≡ Some value
  lookup_final p value is = lookup_level p [] ∙ ap (λ found. at_entry found [] (λ at. lookup world (suc at) [])) is

  -- Behind an inner piece what is found at the seat that it leads to.
  pub lookup_inner : (p found : ℕ) (ps : List ℕ) → get map p ≡ Some found → ArePieces ps → lookup world seat (p ∷ ps) ≡ lookup world (suc found) ps
  lookup_inner p found [] is are = absurd are
  lookup_inner p found (q ∷ qs) is are = lookup_level p (q ∷ qs) ∙ ap (λ entry. at_entry entry (q ∷ qs) (λ at. lookup world (suc at) (q ∷ qs))) is

  pub lookup_absent : (p : ℕ) (ps : List ℕ) → get map p ≡ None → lookup world seat (p ∷ ps) ≡ None
  lookup_absent p ps none = lookup_level p ps ∙ ap (λ entry. at_entry entry ps (λ at. lookup world (suc at) ps)) none

  -- What is found begins with an entry.
  pub held_from_lookup : (p value : ℕ) (ps : List ℕ) → lookup world seat (p ∷ ps) ≡ Some value → IsTrue (contains_key map p)
  held_from_lookup p value ps is =
      elim (get map p) as (λ entry. at_entry entry ps (λ at. lookup world (suc at) ps) ≡ Some value → IsTrue (is_some entry)) [
        | None ↦ λ e. absurd (none-some value e)
        | Some found ↦ λ e. refl
      ] (sym (lookup_level p ps) ∙ is)

-- At a tail its own pieces are found alone.
pub tail_only : (world : World) (seat : ℕ) (held : List ℕ) (value : ℕ) → world seat ≡ tail held value → (ps : List ℕ) (other : ℕ) → lookup world seat ps ≡ Some other → held ≡ ps
tail_only world seat held value is [] other found = absurd (none-some other found)
tail_only world seat held value is (p ∷ ps) other found =
    elim (eq_by_cmp byte_order held (p ∷ ps)) as (λ b. eq_by_cmp byte_order held (p ∷ ps) ≡ b → cond b (Some value) None ≡ Some other → held ≡ p ∷ ps) [
      | true ↦ λ tied e. same_from_tie byte_order_same held (p ∷ ps) tied
      | false ↦ λ apart e. absurd (none-some other e)
    ] refl (sym (ap (λ node. at_node node p ps (λ at. lookup world (suc at) ps)) is) ∙ found)

-- And they are found there.
pub at_tail : (world : World) (seat : ℕ) (held : List ℕ) (value : ℕ) → world seat ≡ tail held value → ArePieces held → lookup world seat held ≡ Some value
at_tail world seat [] value is are = absurd are
at_tail world seat (p ∷ ps) value is are =
    ap (λ node. at_node node p ps (λ at. lookup world (suc at) ps)) is ∙ ap (λ b. cond b (Some value) None) (ap is_eq (tied_itself byte_order_total (p ∷ ps)))

module _ (look : Look) (world : World) where
  -- ---- a tail

  -- Where a tail isn't met, nothing is.
  pub none_tail : (seat : ℕ) (from held : List ℕ) (value : ℕ) → world seat ≡ tail held value → IsFalse (meets look world from held) → IsNone look world seat from
  none_tail seat from held value is unmet = λ ps other are found. ap (meets look world from) (sym (tail_only world seat held value is ps other found)) ∙ unmet

  -- ---- what is met behind an entry

  -- No key that begins with a piece is met from what stands behind it.
  abbrev pub NoneBehind : ℕ → ℕ → List ℕ → Type 0
  NoneBehind seat p from = (ps : List ℕ) (value : ℕ) → ArePieces (p ∷ ps) → lookup world seat (p ∷ ps) ≡ Some value → IsFalse (meets look world from ps)

  module _ (seat : ℕ) (map : FinMap word_order ℕ) (is_level : world seat ≡ level map) where
    -- Where the piece has no entry, none does.
    pub none_absent : (p : ℕ) (from : List ℕ) → get map p ≡ None → NoneBehind seat p from
    none_absent p from none = λ ps value are found. absurd (none-some value (sym (lookup_absent world seat map is_level p ps none) ∙ found))

    -- Behind an inner piece none is where none is at the seat that it leads to.
    pub none_child : (p found : ℕ) (from : List ℕ) → get map p ≡ Some found → IsInner p → IsNone look world (suc found) from → NoneBehind seat p from
    none_child p found from is inner none = λ ps value are here. let rest = pieces_rest p ps inner are in
        none ps value rest (sym (lookup_inner world seat map is_level p found ps is rest) ∙ here)

    -- The first key behind an inner piece is behind the seat that it leads to.
    pub tail_end : (p found value : ℕ) (held from rest : List ℕ) → get map p ≡ Some found → IsInner p → world (suc found) ≡ tail held value →
        IsTrue (meets look world from held) → IsEnd look world seat p rest → IsNear look world (suc found) from rest
    tail_end p found value held from rest is inner tailed met end =
        let are = pieces_rest p rest inner end.are in
        let here = sym (lookup_inner world seat map is_level p found rest is are) ∙ end.found in
        let one = tail_only world (suc found) held value tailed rest end.value here in
        record {
          are = are;
          met = ap (meets look world from) (sym one) ∙ met;
          value = end.value;
          found = here;
          first =
              λ ps other others also _. ap is_le (ap (slice_cmp (along look.side) rest) (sym (tail_only world (suc found) held value tailed ps other also) ∙ one) ∙
              itself_tied (along_total look.side) (along_same look.side) rest);
        }

    -- What is met first behind the seat that an inner piece leads to is met first here.
    pub moved_near : (p found : ℕ) (from near : List ℕ) → get map p ≡ Some found → IsInner p → IsNear look world (suc found) from near → IsNear look world seat (p ∷ from) (p ∷ near)
    moved_near p found from near is inner h = record {
      are = pieces_cons p near inner h.are;
      met = ap (is_beyond look.itself) (behind_one (along_total look.side) (along_same look.side) p from near) ∙ h.met;
      value = h.value;
      found = lookup_inner world seat map is_level p found near is h.are ∙ h.found;
      first = least;
    }
      where
        least : (ps : List ℕ) (value : ℕ) → ArePieces ps → lookup world seat ps ≡ Some value → IsTrue (meets look world (p ∷ from) ps) → IsTrue (is_le (slice_cmp (along look.side) (p ∷ near) ps))
        least [] value are here met = absurd are
        least (q ∷ qs) value are here met = ⊎_elim
            (λ less. le_later (along_total look.side) (along_same look.side) p q near qs less)
            (λ one.
            let also : get map q ≡ Some found = ap (get map) (sym one.0) ∙ is in
            let rest = pieces_rest q qs (subst IsInner one.0 inner) are in
            le_one (along_total look.side) (along_same look.side) p q near qs one.0 (h.first qs value rest (sym (lookup_inner world seat map is_level q found qs also rest) ∙ here) one.1))
            (met_parts (along_total look.side) (along_same look.side) look.itself p q from qs met)

    -- Where nothing behind the piece is met, what is met first is behind the entry that is met first beyond it.
    pub turned_near : (p entry : ℕ) (from rest : List ℕ) → NoneBehind seat p from → IsNearestEntry look.side false map p (Some entry) → IsEnd look world seat entry rest →
        IsNear look world seat (p ∷ from) (entry ∷ rest)
    turned_near p entry from rest none nearest end = record {
      are = end.are;
      met =
          met_later (along_total look.side) (along_same look.side) look.itself p entry from rest (less_is (along look.side p entry)
          (and_parts (contains_key map entry) (is_lt (along look.side p entry)) nearest.0).1);
      value = end.value;
      found = end.found;
      first = least;
    }
      where
        least : (ps : List ℕ) (value : ℕ) → ArePieces ps → lookup world seat ps ≡ Some value → IsTrue (meets look world (p ∷ from) ps) → IsTrue (is_le (slice_cmp (along look.side) (entry ∷ rest) ps))
        least [] value are here met = absurd are
        least (q ∷ qs) value are here met = ⊎_elim
            (λ less. le_parts (along_total look.side) (along_same look.side) entry q rest qs
            (nearest.1 q (and_from (contains_key map q) (is_lt (along look.side p q)) (held_from_lookup world seat map is_level q value qs here) (ap is_lt less)))
            (λ one. end.first qs value (subst (λ r. ArePieces (r ∷ qs)) (sym one) are) (subst (λ r. lookup world seat (r ∷ qs) ≡ Some value) (sym one) here)))
            (λ one. not_both (meets look world from qs) one.1 (none qs value (subst (λ r. ArePieces (r ∷ qs)) (sym one.0) are) (subst (λ r. lookup world seat (r ∷ qs) ≡ Some value) (sym one.0) here)))
            (met_parts (along_total look.side) (along_same look.side) look.itself p q from qs met)

    -- Where there is no entry beyond it either, nothing is met.
    pub turned_none : (p : ℕ) (from : List ℕ) → NoneBehind seat p from → IsNearestEntry look.side false map p None → IsNone look world seat (p ∷ from)
    turned_none p from none nearest = λ ps value are found. false_from_ne_true (meets look world (p ∷ from) ps) (λ met. never ps value are found met)
      where
        never : (ps : List ℕ) (value : ℕ) → ArePieces ps → lookup world seat ps ≡ Some value → IsTrue (meets look world (p ∷ from) ps) → ⊥
        never [] value are here met = are
        never (q ∷ qs) value are here met = ⊎_elim
            (λ less. not_both (contains_key map q && is_lt (along look.side p q)) (and_from (contains_key map q) (is_lt (along look.side p q))
            (held_from_lookup world seat map is_level q value qs here) (ap is_lt less)) (nearest q))
            (λ one. not_both (meets look world from qs) one.1 (none qs value (subst (λ r. ArePieces (r ∷ qs)) (sym one.0) are) (subst (λ r. lookup world seat (r ∷ qs) ≡ Some value) (sym one.0) here)))
            (met_parts (along_total look.side) (along_same look.side) look.itself p q from qs met)

    -- ---- the last piece

    -- From a last piece what is met is told by the first piece alone.
    last_met : (p q : ℕ) (qs : List ℕ) → IsFinal p → ArePieces (q ∷ qs) → meets look world (p ∷ []) (q ∷ qs) ≡ is_beyond look.itself (along look.side p q)
    last_met p q qs final are =
        elim (along look.side p q) as (λ answer. along look.side p q ≡ answer → is_beyond look.itself (ordering_then answer (slice_cmp (along look.side) [] qs)) ≡ is_beyond look.itself answer) [
          | Less ↦ λ is. refl
          | Equal ↦ λ is. ap (λ others. is_beyond look.itself (slice_cmp (along look.side) [] others)) (pieces_last q qs (subst IsFinal (along_same look.side p q is) final) are)
          | Greater ↦ λ is. refl
        ] refl

    -- From a key's last piece what is met first is behind the entry that is met first.
    pub last_near : (p entry : ℕ) (rest : List ℕ) → IsFinal p → IsNearestEntry look.side look.itself map p (Some entry) → IsEnd look world seat entry rest →
        IsNear look world seat (p ∷ []) (entry ∷ rest)
    last_near p entry rest final nearest end = record {
      are = end.are;
      met = last_met p entry rest final end.are ∙ (and_parts (contains_key map entry) (is_beyond look.itself (along look.side p entry)) nearest.0).1;
      value = end.value;
      found = end.found;
      first = least;
    }
      where
        least : (ps : List ℕ) (value : ℕ) → ArePieces ps → lookup world seat ps ≡ Some value → IsTrue (meets look world (p ∷ []) ps) → IsTrue (is_le (slice_cmp (along look.side) (entry ∷ rest) ps))
        least [] value are here met = absurd are
        least (q ∷ qs) value are here met = le_parts (along_total look.side) (along_same look.side) entry q rest qs
            (nearest.1 q (and_from (contains_key map q) (is_beyond look.itself (along look.side p q)) (held_from_lookup world seat map is_level q value qs here)
            (sym (last_met p q qs final are) ∙ met)))
            (λ one. end.first qs value (subst (λ r. ArePieces (r ∷ qs)) (sym one) are) (subst (λ r. lookup world seat (r ∷ qs) ≡ Some value) (sym one) here))

    -- Where there is no such entry, nothing is met.
    pub last_none : (p : ℕ) → IsFinal p → IsNearestEntry look.side look.itself map p None → IsNone look world seat (p ∷ [])
    last_none p final nearest = λ ps value are here. false_from_ne_true (meets look world (p ∷ []) ps) (λ met. never ps value are here met)
      where
        never : (ps : List ℕ) (value : ℕ) → ArePieces ps → lookup world seat ps ≡ Some value → IsTrue (meets look world (p ∷ []) ps) → ⊥
        never [] value are here met = are
        never (q ∷ qs) value are here met = not_both
            (contains_key map q && is_beyond look.itself (along look.side p q))
            (and_from (contains_key map q) (is_beyond look.itself (along look.side p q)) (held_from_lookup world seat map is_level q value qs here) (sym (last_met p q qs final are) ∙ met))
            (nearest q)

    -- ---- the first key behind an entry

    -- Under a final piece the key that ends there is alone.
    pub end_final : (p value : ℕ) → IsFinal p → get map p ≡ Some value → IsEnd look world seat p []
    end_final p value final is = record {
      are = final;
      value = value;
      found = lookup_final world seat map is_level p value is;
      first = λ ps other are here. ap (λ others. is_le (slice_cmp (along look.side) [] others)) (pieces_last p ps final are);
    }

    -- Behind an inner piece that leads to a tail the tail is alone.
    pub end_tail : (p found value : ℕ) (held : List ℕ) → get map p ≡ Some found → IsInner p → world (suc found) ≡ tail held value → ArePieces held → IsEnd look world seat p held
    end_tail p found value held is inner tailed are = record {
      are = pieces_cons p held inner are;
      value = value;
      found = lookup_inner world seat map is_level p found held is are ∙ at_tail world (suc found) held value tailed are;
      first =
          λ ps other good here. ap is_le (ap (slice_cmp (along look.side) held) (sym (tail_only world (suc found) held value tailed ps other
          (sym (lookup_inner world seat map is_level p found ps is (pieces_rest p ps inner good)) ∙ here))) ∙ itself_tied (along_total look.side) (along_same look.side) held);
    }

    -- Behind one that leads to a level the first is behind that level's first entry.
    pub end_level : (p found entry : ℕ) (rest : List ℕ) (below : FinMap word_order ℕ) → get map p ≡ Some found → IsInner p → world (suc found) ≡ level below →
        IsFirstEntry look.side below (Some entry) → IsEnd look world (suc found) entry rest → IsEnd look world seat p (entry ∷ rest)
    end_level p found entry rest below is inner leads first end = record {
      are = pieces_cons p (entry ∷ rest) inner end.are;
      value = end.value;
      found = lookup_inner world seat map is_level p found (entry ∷ rest) is end.are ∙ end.found;
      first = least;
    }
      where
        least : (ps : List ℕ) (value : ℕ) → ArePieces (p ∷ ps) → lookup world seat (p ∷ ps) ≡ Some value → IsTrue (is_le (slice_cmp (along look.side) (entry ∷ rest) ps))
        least [] value are here = absurd (inner are)
        least (q ∷ qs) value are here =
            let behind = sym (lookup_inner world seat map is_level p found (q ∷ qs) is are.1) ∙ here in
            le_parts (along_total look.side) (along_same look.side) entry q rest qs
            (first.1 q (held_from_lookup world (suc found) below leads q value qs behind))
            (λ one. end.first qs value (subst (λ r. ArePieces (r ∷ qs)) (sym one) are.1) (subst (λ r. lookup world (suc found) (r ∷ qs) ≡ Some value) (sym one) behind))
