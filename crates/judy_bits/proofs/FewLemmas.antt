-- What the calls on a few bytes answer of the set that they are.
use Rattle.std.proofs.Common.{◌≡◌, ◌≢◌, ℕ, zero, suc, ◌+◌, ◌-◌, ◌<◌, ◌≤◌, ◌==◌, true, false, cond, nat_lt, List, [], ◌∷◌, ◌++◌, length, count_by, take, drop, get_or, slice_get}
use Rattle.std.proofs.Common.{Some, None, is_some, sym, refl, ap, ◌∙◌, subst, arith, is_le, le-leb}
use Rattle.std.specs.List.{AllByRecursion, All, insert, remove}
use Rattle.std.proofs.lemmas.Bool.{false_from_ne_true}
use Rattle.std.proofs.lemmas.List.{take_all}
use Rattle.std.proofs.lemmas.List.Elements.{All-head, All-tail}
use Rattle.std.proofs.lemmas.Option.{slice_get_within, same_Some}
use Rattle.judy_model.specs.Keys.{word_order}
use Rattle.judy_model.proofs.lemmas.orders.WordOrder.{is_le_word}
use Rattle.judy_model.proofs.lemmas.queries.Places.{length-filter-le, find_before_count, before_place-suc, le-IsDownward}
use Rattle.std.specs.Cmp.{nat_cmp_total}
use Rattle.judy_bits.specs.ByteSets.{IsByteSet, has, rank, count_up_to, place, prev_from, with_byte, without_byte}
use Rattle.judy_bits.specs.Paddings.{IsPadded, length-meant}
use Rattle.judy_bits.proofs.SetLaws.{place-nth}
use Rattle.judy_bits.proofs.SetLemmas.{filter_all, slice_get-rank, with_other, without_at, with_byte-IsByteSet, without_byte-IsByteSet}
use Rattle.judy_bits.proofs.PaddingLemmas.{meant_at, count_by-padded, opened, length-opened, closed, length-closed, IsPadded-from, take-from}

all_by_recursion : (P : ℕ → Type 0) (xs : List ℕ) → All P xs → AllByRecursion P xs
all_by_recursion P [] all = tt
all_by_recursion P (x ∷ xs) all = (All-head P x xs all, all_by_recursion P xs (All-tail P x xs all))

-- No rank is above the number of members.
pub rank-le : (xs : List ℕ) (byte : ℕ) → rank xs byte ≤ length xs
rank-le xs byte = length-filter-le _ xs

-- All members are at or below 255.
pub count_up_to-all : (xs : List ℕ) → IsByteSet xs → count_up_to xs 255 ≡ length xs
count_up_to-all xs is =
    ap length (filter_all (λ member. is_le (word_order member 255)) xs (all_by_recursion _ xs (λ k d inside. let small : get_or xs k d < 256 = is.bytes k d inside in
    is_le_word (get_or xs k d) 255 ∙ le-leb (get_or xs k d) 255 (omega arith))))

module _ (array : List ℕ) (count : ℕ) (padded : IsPadded 255 array count) (is : IsByteSet (take count array)) where
  long : length (take count array) ≡ count
  long = length-meant 255 array count padded

  -- The rank is counted over the whole array.
  pub rank-counted : (byte index below : ℕ) → byte < 256 → 7 ≤ index → below ≡ count_by (λ member. nat_lt member byte) (take index array) → below ≡ rank (take count array) byte
  rank-counted byte index below small all counted =
      counted ∙ ap (count_by (λ member. nat_lt member byte)) (take_all index array (let seven = padded.seven in omega arith)) ∙ count_by-padded array count byte padded small

  -- The place of a byte that isn't at its rank.
  pub no-place : (byte : ℕ) → ((rank (take count array) byte < count) → get_or array (rank (take count array) byte) 0 ≢ byte) → has (take count array) byte ≡ false
  no-place byte apart = false_from_ne_true (has (take count array) byte) (λ held.
      let at = rank (take count array) byte in
      let there = slice_get-rank (take count array) is.ascending byte held in
      let inside : at < count = let within = slice_get_within (take count array) at byte there in let h = long in omega arith in
      apart inside (same_Some (get_or array at 0) byte (sym (meant_at 255 array count at padded inside) ∙ there)))

  pub place-none : (byte at : ℕ) → at ≡ rank (take count array) byte → ((at < count) → get_or array at 0 ≢ byte) → None ≡ place (take count array) byte
  place-none byte at ranked apart =
      let other = no-place byte (subst (λ n. (n < count) → get_or array n 0 ≢ byte) ranked apart) in
      sym (ap (λ b. cond b (Some (rank (take count array) byte)) None) other)

  -- A byte that stands at a place.
  pub place-there : (byte at : ℕ) → at < count → get_or array at 0 ≡ byte → Some at ≡ place (take count array) byte
  place-there byte at inside same = sym ((place-nth (take count array) byte at is).1 (meant_at 255 array count at padded inside ∙ ap Some same))

  pub upto-le : (byte : ℕ) → count_up_to (take count array) byte ≤ count
  upto-le byte = let kept = length-filter-le (λ member. is_le (word_order member byte)) (take count array) in let h = long in omega arith

  pub prev-there : (byte upto : ℕ) → upto ≡ count_up_to (take count array) byte → upto ≢ 0 → Some (get_or array (upto - 1) 0) ≡ prev_from (take count array) byte
  prev-there byte zero counted some = absurd (some refl)
  prev-there byte (suc at) counted some =
      let before : suc at - 1 ≡ at = omega arith in
      let inside : at < count = let most = upto-le byte in omega arith in
      ap (λ n. Some (get_or array n 0)) before ∙ sym (meant_at 255 array count at padded inside)
      ∙ sym (before_place-suc (take count array) at)
      ∙ ap (λ n. cond (n == 0) None (slice_get (take count array) (n - 1))) counted
      ∙ sym (find_before_count word_order (λ key. is_le (word_order key byte)) (le-IsDownward nat_cmp_total byte) (take count array) is.ascending)

  -- A byte more.
  pub added : (byte at : ℕ) → byte < 256 → count < 7 → has (take count array) byte ≡ false → at ≡ rank (take count array) byte → (new : List ℕ) →
      new ≡ take at array ++ byte ∷ take (6 - at) (drop at array)
      → (take (count + 1) new ≡ with_byte (take count array) byte) × (IsPadded 255 new (count + 1) × IsByteSet (take (count + 1) new))
  added byte at small room absent ranked new is_new =
      let within : at ≤ count = let most = rank-le (take count array) byte in let h = long in omega arith in
      let parts = is_new ∙ opened 255 array count at padded byte room within in
      let size = length-opened 255 array count at padded byte within in
      let value : take (count + 1) new ≡ with_byte (take count array) byte =
      ap (take (count + 1)) parts ∙ take-from 255 (insert (take count array) at byte) (count + 1) size
      ∙ ap (λ n. insert (take count array) n byte) ranked ∙ sym (with_other (take count array) byte is.ascending absent) in (
        value,
        (
          subst (λ l. IsPadded 255 l (count + 1)) (sym parts) (IsPadded-from 255 (insert (take count array) at byte) (count + 1) size (omega arith)),
          subst IsByteSet (sym value) (with_byte-IsByteSet (take count array) byte is small),
        ),
      )

  -- A byte less.
  pub taken : (byte at : ℕ) → slice_get (take count array) at ≡ Some byte → (new : List ℕ) → new ≡ remove array at ++ 255 ∷ []
      → (take (count - 1) new ≡ without_byte (take count array) byte) × (IsPadded 255 new (count - 1) × IsByteSet (take (count - 1) new))
  taken byte at there new is_new =
      let inside : at < count = let within = slice_get_within (take count array) at byte there in let h = long in omega arith in
      let parts = is_new ∙ closed 255 array count at padded inside in
      let size = length-closed 255 array count at padded inside in
      let value : take (count - 1) new ≡ without_byte (take count array) byte =
      ap (take (count - 1)) parts ∙ take-from 255 (remove (take count array) at) (count - 1) size ∙ sym (without_at (take count array) at byte is.ascending there) in (
        value,
        (
          subst (λ l. IsPadded 255 l (count - 1)) (sym parts) (IsPadded-from 255 (remove (take count array) at) (count - 1) size (let h = padded.within in omega arith)),
          subst IsByteSet (sym value) (without_byte-IsByteSet (take count array) byte is),
        ),
      )

-- The places of an array of seven, one by one, before another number.
pub listed : (array : List ℕ) (more at : ℕ) → at < 7 → get_or (get_or array 0 0 ∷ get_or array 1 0 ∷ get_or array 2 0 ∷ get_or array 3 0 ∷ get_or array 4 0 ∷ get_or
    array 5 0 ∷ get_or array 6 0 ∷ more ∷ []) at 0 ≡ get_or array at 0
listed array more zero inside = refl
listed array more (suc zero) inside = refl
listed array more (suc (suc zero)) inside = refl
listed array more (suc (suc (suc zero))) inside = refl
listed array more (suc (suc (suc (suc zero)))) inside = refl
listed array more (suc (suc (suc (suc (suc zero))))) inside = refl
listed array more (suc (suc (suc (suc (suc (suc zero)))))) inside = refl
listed array more (suc (suc (suc (suc (suc (suc (suc at))))))) inside = let never : ⊥ = omega arith in absurd never

-- What a place says.
pub has-is_some : (members : List ℕ) (byte : ℕ) → is_some (place members byte) ≡ has members byte
has-is_some members byte = elim (has members byte) as (λ b. is_some {T = ℕ} (cond b (Some (rank members byte)) None) ≡ b) [ true ↦ refl | false ↦ refl ]

pub absent-place : (members : List ℕ) (byte : ℕ) → None ≡ place members byte → has members byte ≡ false
absent-place members byte none = sym (has-is_some members byte) ∙ ap is_some (sym none)

pub there-place : (members : List ℕ) (byte at : ℕ) → IsByteSet members → Some at ≡ place members byte → slice_get members at ≡ Some byte
there-place members byte at is found =
    let held : has members byte ≡ true = sym (has-is_some members byte) ∙ ap is_some (sym found) in
    let ranked : at ≡ rank members byte = same_Some at (rank members byte) (found ∙ ap (λ b. cond b (Some (rank members byte)) None) held) in
    ap (slice_get members) ranked ∙ slice_get-rank members is.ascending byte held
