-- One list of a level after the other is set right.
use Rattle.std.proofs.Common.{◌≡◌, ◌≢◌, ℕ, suc, ◌+◌, ◌-◌, ◌<◌, ◌≤◌, ◌/◌, Bool, true, false, List, [], ◌∷◌, length, drop, Option, None, Some, unwrap_or, inl, inr, refl, sym, ap, subst, ◌∙◌, arith}
use Rattle.std.proofs.Common.{⊎_elim, is_some, IsSome, Result, Ok, Err, OnOk, OnErr}
use Rattle.std.proofs.lemmas.Bool.{cases_eq, cases_lt}
use Rattle.std.proofs.lemmas.Option.{none-some, same_Some}
use Rattle.std.specs.FinMap.{FinMap, get, insert, len}
use Rattle.judy_model.specs.Keys.{word_order, byte_order}
use Rattle.judy_sums.specs.Pairs.{number_at, raised}
use Rattle.judy_sums.specs.Listed.{list_at, less_in, less_at, more_of, less_of, AreOthers}
use Rattle.judy_sl.specs.declared.arena.Arena.{Arena}
use Rattle.judy_sl.specs.Pieces.{piece_of}
use Rattle.judy_sl.specs.Arenas.{world_of, child_at}
use Rattle.judy_sl.specs.Behind.{map_behind}
use Rattle.judy_sl.specs.Children.{IsLevelChild}
use Rattle.judy_sl.specs.Counted.{keys_behind, IsAmong, AreOnce}
use Rattle.judy_sl.specs.Firsts.{beginning, AreFirsts}
use Rattle.judy_sl.specs.Listed.{place_of, Lists, IsListed, AreListed, LacksKey, KeepsKey, IsThere, IsOff, AreOff, AreListedBut}
use Rattle.judy_sl.proofs.lemmas.counts.Beginnings.{beginning_itself, firsts_first, firsts_more, firsts_last, firsts_less}

-- ---- what a row answers

-- What is left of a list is what it was, raised or lowered.
pub was_raised : {E : Type 0} (result : Result (Unit {0}) E) (old new : Option (FinMap word_order ℕ)) (word : ℕ) → OnOk result (new ≡ more_of old word) → OnErr result (new ≡ None) →
    (list : FinMap word_order ℕ) → new ≡ Some list → (was : FinMap word_order ℕ) × (old ≡ Some was) × (list ≡ raised was word)
was_raised (Ok value) None new word more none list some = absurd (none-some list (sym more ∙ some))
was_raised (Ok value) (Some was) new word more none list some = (was, refl, same_Some list (raised was word) (sym some ∙ more))
was_raised (Err error) old new word more none list some = absurd (none-some list (sym none ∙ some))

pub was_lowered : (old : Option (FinMap word_order ℕ)) (word : ℕ) (list : FinMap word_order ℕ) → less_of old word ≡ Some list →
    (was : FinMap word_order ℕ) × (old ≡ Some was) × (list ≡ less_at was word)
was_lowered None word list some = absurd (none-some list some)
was_lowered (Some was) word list some = (was, refl, sym (same_Some (less_at was word) list some))

-- A list that is there is the one that was put.
pub was_put : {E : Type 0} (result : Result (Unit {0}) E) (new : Option (FinMap word_order ℕ)) (list : FinMap word_order ℕ) → OnOk result (new ≡ Some list) → OnErr result (new ≡ None) →
    (found : FinMap word_order ℕ) → new ≡ Some found → list ≡ found
was_put (Ok value) new list put none found some = same_Some list found (sym put ∙ some)
was_put (Err error) new list put none found some = absurd (none-some found (sym none ∙ some))

pub put_some : {new : Option (FinMap word_order ℕ)} {list : FinMap word_order ℕ} → new ≡ Some list → IsSome new
put_some put = ap (λ (found : Option (FinMap word_order ℕ)). is_some found) put

-- What follows from what holds at `Ok` holds there too.
pub on_ok : {E P Q : Type 0} (result : Result (Unit {0}) E) → (P → Q) → OnOk result P → OnOk result Q
on_ok (Ok value) goes holds = goes holds
on_ok (Err error) goes holds = tt

-- ---- one list

module _ {at : ℕ} {rest : List ℕ} {list : FinMap word_order ℕ} (arena : Arena) (off : LacksKey (world_of arena) at rest list) where
  abbrev now : FinMap byte_order ℕ
  now = map_behind (world_of arena) (suc at)

  its_beginning : beginning now (piece_of rest) ≡ beginning off.all (piece_of rest) + 1
  its_beginning = ap (λ (all : FinMap byte_order ℕ). beginning all (piece_of rest)) off.becomes ∙ beginning_itself off.all rest 0 off.absent

  -- The key is counted where others begin as it does,
  pub more_listed : 2 ≤ beginning now (piece_of rest) → IsListed (world_of arena) at (raised list (piece_of rest))
  more_listed many = record {
    firsts = subst (λ (all : FinMap byte_order ℕ). AreFirsts all (raised list (piece_of rest))) (sym off.becomes)
        (firsts_more off.all rest 0 off.absent list (let one = its_beginning in omega (arith, one, many)) off.firsts);
    many = off.many;
  }

  -- and else isn't told.
  pub none_listed : beginning now (piece_of rest) ≤ 1 → IsListed (world_of arena) at list
  none_listed few = record {
    firsts = subst (λ (all : FinMap byte_order ℕ). AreFirsts all list) (sym off.becomes)
        (firsts_first off.all rest 0 off.absent list (let one = its_beginning in omega (arith, one, few)) off.firsts);
    many = off.many;
  }

-- It counts a key no more.
module _ (arena : Arena) (at : ℕ) (rest : List ℕ) (list : FinMap word_order ℕ) (off : KeepsKey (world_of arena) at rest list) where
  abbrev left : FinMap byte_order ℕ
  left = map_behind (world_of arena) (suc at)

  less_one : beginning (insert left rest off.value) (piece_of rest) ≡ beginning left (piece_of rest) + 1
  less_one = beginning_itself left rest off.value off.absent

  less_firsts : (found : Option ℕ) → get list (piece_of rest) ≡ found → AreFirsts left (less_at list (piece_of rest))
  less_firsts None e =
      let number = sym (ap (λ (found : Option ℕ). unwrap_or found 0) e) ∙ off.firsts.numbers (piece_of rest) in
      let one = less_one in
      subst (AreFirsts left) (sym (ap (λ found. less_in found list (piece_of rest)) e))
      (firsts_last left rest off.value off.absent list (omega (arith, number, one)) off.firsts)
  less_firsts (Some number) e =
      let some = off.firsts.some (piece_of rest) number e in
      let told = sym (ap (λ (found : Option ℕ). unwrap_or found 0) e) ∙ off.firsts.numbers (piece_of rest) in
      let one = less_one in
      subst (AreFirsts left) (sym (ap (λ found. less_in found list (piece_of rest)) e))
      (firsts_less left rest off.value off.absent list (omega (arith, told, one, some)) off.firsts)

  pub less_listed : 32 < keys_behind (world_of arena) (suc at) → IsListed (world_of arena) at (less_at list (piece_of rest))
  less_listed many = record { firsts = less_firsts (get list (piece_of rest)) refl; many = many }

-- ---- one after the other

place_once : (index other : ℕ) → place_of index ≡ place_of other → index ≡ other
place_once index other same = omega (arith, same)

off_kept : (comes : Bool) (arena : Arena) (before after : Lists) (index : ℕ) → AreOthers index before after → (places rest : List ℕ) → ((k : ℕ) → IsAmong places k → k ≢ place_of index) →
    AreOff comes arena before places rest → AreOff comes arena after places rest
off_kept comes arena before after index others [] rest apart off = tt
off_kept comes arena before after index others (at ∷ places) rest apart off =
    let here = off.1 in
    let same : list_at after (at / 256) ≡ list_at before (at / 256) = others (at / 256) (λ e. apart at (inl refl) (sym here.index ∙ ap place_of e)) in (
      off.0,
      record {
        index = here.index;
        there = there_kept comes same here.there;
        list = λ list some. here.list list (sym same ∙ some);
      },
      off_kept comes arena before after index others places (drop 8 rest) (λ k among. apart k (inr among)) off.2,
    )
  where
    there_kept : (c : Bool) → list_at after (at / 256) ≡ list_at before (at / 256) → IsThere c arena before at → IsThere c arena after at
    there_kept true same there = there
    there_kept false same there = λ list some. there list (sym same ∙ some)

module _ (comes : Bool) (arena : Arena) (before : Lists) (at : ℕ) (places rest : List ℕ) (but : AreListedBut comes arena before (at ∷ places) rest) where
  pub listed_long : 8 ≤ length rest
  listed_long = but.off.0

  pub listed_off : IsOff comes arena before at (drop 8 rest)
  listed_off = but.off.1

  pub listed_on : (after : Lists) → ((list : FinMap word_order ℕ) → list_at after (at / 256) ≡ Some list → IsListed (world_of arena) at list) → AreOthers (at / 256) before after →
      AreListedBut comes arena after places (drop 8 rest)
  listed_on after here others = record {
    once = but.once.1;
    off = off_kept comes arena before after (at / 256) others places (drop 8 rest)
        (λ k among same. but.once.0 (subst (IsAmong places) (same ∙ but.off.1.index) among)) but.off.2;
    others = λ index list some apart. elim (cases_eq index (at / 256)) [
      | inl same ↦ subst (λ k. IsListed (world_of arena) k list) (sym (ap place_of same ∙ but.off.1.index)) (here list (ap (list_at after) (sym same) ∙ some))
      | inr off ↦ but.others index list (sym (others index off) ∙ some)
          (⊎_elim (λ same. off (place_once index (at / 256) (same ∙ sym but.off.1.index))) apart)
    ];
  }

pub listed_end : (comes : Bool) (arena : Arena) (lists : Lists) (rest : List ℕ) → AreListedBut comes arena lists [] rest → AreListed (world_of arena) lists
listed_end comes arena lists rest but index list some = but.others index list some (λ among. among)
