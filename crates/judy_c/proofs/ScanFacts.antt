-- What a scan of C tells is what its contract says.
use Rattle.std.proofs.Common.{◌≡◌, ℕ, ◌≤◌, ◌<◌, ◌++◌, length, take, drop, List, Option, Some, None, IsTrue, IfSome, MatchOption, is_some, unwrap_or, refl, sym, ap, subst, ◌∙◌, true≢false, arith}
use Rattle.std.proofs.lemmas.Bool.{and_parts}
use Rattle.std.proofs.lemmas.List.{length-take-le, take-append-drop}
use Rattle.std.specs.FinMap.{FinMap, get, contains_key, empty, get-empty}
use Rattle.std.specs.Option.{option_map}
use Rattle.judy_model.specs.Keys.{byte_order}
use Rattle.judy_model.specs.Nearest.{IsFirst, IsNext, IsLast, IsPrev}
use Rattle.judy_model.proofs.lemmas.queries.NearestLemmas.{first-IsFirst, next-IsNext, last-IsLast, prev-IsPrev}
use Rattle.judy_model.proofs.lemmas.maps.TableLemmas.{byte_order_total, byte_order_same}
use Rattle.judy_model.specs.Counts.{by_count}
use Rattle.judy_model.proofs.lemmas.queries.CountsLemmas.{by_count_found}
use Rattle.judy_sl.specs.Arenas.{AreWithin}
use Rattle.judy_sl.specs.declared.scans.Look.{Look}
use Rattle.judy_sl.specs.Scans.{neighbour_along, nearest_key, value_found, IsFront}
use Rattle.judy_c.specs.declared.scans.Scan.{Scan}
use Rattle.judy_c.specs.declared.scans.Scan.TheVariants.{First, Next, Last, Prev}
use Rattle.judy_c.specs.KeyScans.{CallerBuffer, neighbour, told_says, IsTooLong}

-- a neighbour is a key of the map
neighbour_held : (scan : Scan) (map : FinMap byte_order ℕ) (from key : List ℕ) → neighbour scan map from ≡ Some key → IsTrue (contains_key map key)
neighbour_held First map from key is = (and_parts _ _ (subst (IsFirst byte_order (contains_key map) from) is (first-IsFirst byte_order_total byte_order_same map from)).0).0
neighbour_held Next map from key is = (and_parts _ _ (subst (IsNext byte_order (contains_key map) from) is (next-IsNext byte_order_total byte_order_same map from)).0).0
neighbour_held Last map from key is = (and_parts _ _ (subst (IsLast byte_order (contains_key map) from) is (last-IsLast byte_order_total byte_order_same map from)).0).0
neighbour_held Prev map from key is = (and_parts _ _ (subst (IsPrev byte_order (contains_key map) from) is (prev-IsPrev byte_order_total byte_order_same map from)).0).0

-- and so is the n-th key
nth_held : (map : FinMap byte_order ℕ) (n : ℕ) (key : List ℕ) → by_count map n ≡ Some key → IsTrue (contains_key map key)
nth_held map n key is = (by_count_found byte_order_total byte_order_same map n key is).0

-- Of a key of the map that is looked for.
module _ (map : FinMap byte_order ℕ) (looked : Option (List ℕ)) (held : (key : List ℕ) → looked ≡ Some key → IsTrue (contains_key map key)) where
  -- a map without keys has none
  none_there : map ≡ empty → looked ≡ None
  none_there is = by looked refl
    where
      by : (found : Option (List ℕ)) → looked ≡ found → looked ≡ None
      by None none = none
      by (Some key) some = absurd (true≢false (sym (held key some) ∙ ap (λ m. contains_key m key) is ∙ ap is_some (get-empty byte_order key)))

  -- where no value was found there is none
  none_valued : None ≡ value_found map looked → looked ≡ None
  none_valued none = by looked refl
    where
      by : (found : Option (List ℕ)) → looked ≡ found → looked ≡ None
      by None is = is
      by (Some key) is = absurd (true≢false (sym (held key is) ∙ ap is_some (sym (none ∙ ap (value_found map) is))))

  -- it fits where no key is longer than the room
  fits_within : (longest : ℕ) → AreWithin longest map → (room : ℕ) → longest ≤ room → IfSome looked (λ key. length key ≤ room)
  fits_within longest within room fits = by looked refl
    where
      short : (key : List ℕ) (value : Option ℕ) → get map key ≡ value → IsTrue (is_some value) → length key ≤ room
      short key None is none = absurd (true≢false (sym none))
      short key (Some value) is some = let long = within key value is in omega (arith, long, fits)

      by : (found : Option (List ℕ)) → looked ≡ found → IfSome found (λ key. length key ≤ room)
      by None is = tt
      by (Some key) is = short key (get map key) refl (held key is)

pub no_neighbour : (scan : Scan) (map : FinMap byte_order ℕ) (from : List ℕ) → map ≡ empty → neighbour scan map from ≡ None
no_neighbour scan map from = none_there map (neighbour scan map from) (neighbour_held scan map from)

pub no_nth : (map : FinMap byte_order ℕ) (n : ℕ) → map ≡ empty → by_count map n ≡ None
no_nth map n = none_there map (by_count map n) (nth_held map n)

pub neighbour_fits : (scan : Scan) (map : FinMap byte_order ℕ) (from : List ℕ) (longest : ℕ) → AreWithin longest map → (room : ℕ) → longest ≤ room →
    IfSome (neighbour scan map from) (λ key. length key ≤ room)
neighbour_fits scan map from = fits_within map (neighbour scan map from) (neighbour_held scan map from)

pub nth_fits : (map : FinMap byte_order ℕ) (n longest : ℕ) → AreWithin longest map → (room : ℕ) → longest ≤ room → IfSome (by_count map n) (λ key. length key ≤ room)
nth_fits map n = fits_within map (by_count map n) (nth_held map n)

-- Of a key whose length was asked for: it fits, or is too long, or there is none.
pub fits_measured : (looked : Option (List ℕ)) (len room : ℕ) → Some len ≡ option_map length looked → len ≤ room → IfSome looked (λ key. length key ≤ room)
fits_measured None len room is short = tt
fits_measured (Some key) len room is short = subst (λ n. n ≤ room) (ap (λ o. unwrap_or o len) is) short

pub long_measured : (looked : Option (List ℕ)) (len room : ℕ) → Some len ≡ option_map length looked → room < len → (key : List ℕ) × (looked ≡ Some key) × (length key ≡ len) × (room < length key)
long_measured None len room is long = absurd (true≢false (ap is_some is))
long_measured (Some key) len room is long = let same = ap (λ o. unwrap_or o len) is in (key, refl, sym same, subst (λ n. room < n) same long)

pub none_measured : (looked : Option (List ℕ)) → None ≡ option_map length looked → looked ≡ None
none_measured None is = refl
none_measured (Some key) is = absurd (true≢false (sym (ap is_some is)))

-- One that is too long is told by its length.
pub told_long : (map : FinMap byte_order ℕ) (looked : Option (List ℕ)) (before : CallerBuffer) (len : ℕ) → Some len ≡ option_map length looked → length before.buffer < len →
    (key : List ℕ) × (looked ≡ Some key) × IsTooLong key before (record { buffer = before.buffer; count = before.count; value = len })
told_long map looked before len is long = let found = long_measured looked len (length before.buffer) is long in (found.0, found.1, (found.3, refl, refl, sym found.2))

-- One that stands at the front of a buffer that it fits is told with its value.
pub told_found : (map : FinMap byte_order ℕ) (looked : Option (List ℕ)) (from : List ℕ) (before : CallerBuffer) (after : List ℕ) (len value : ℕ) →
    IfSome looked (λ key. length key ≤ length before.buffer) → IsFront (unwrap_or looked from) before.buffer len after → Some value ≡ value_found map looked
    → (told_says map looked before (record { buffer = after; count = len; value = value })).found
told_found map None from before after len value fits is found = absurd (true≢false (ap is_some found))
told_found map (Some key) from before after len value fits is found = (key, refl, fits, (is.1, is.0, sym found))

-- So is the n-th key, where one was found with a value; else there is none, and the buffer stays.
abbrev IsNthFront : Option (List ℕ) → List ℕ → ℕ → List ℕ → ℕ → Type 0
IsNthFront looked buffer count after len = MatchOption looked ((after ≡ buffer) × (len ≡ count)) (λ found. IsFront found buffer len after)

pub nth_told : (map : FinMap byte_order ℕ) (looked : Option (List ℕ)) (buffer : List ℕ) (count before : ℕ) (after : List ℕ) (len value : ℕ) →
    IfSome looked (λ key. length key ≤ length buffer) → IsNthFront looked buffer count after len → Some value ≡ value_found map looked
    → (told_says map looked (record { buffer = buffer; count = count; value = before }) (record { buffer = after; count = len; value = value })).found
nth_told map None buffer count before after len value fits is found = absurd (true≢false (ap is_some found))
nth_told map (Some key) buffer count before after len value fits is found = (key, refl, fits, (is.1, is.0, sym found))

pub no_nth_told : (map : FinMap byte_order ℕ) (n : ℕ) (buffer : List ℕ) (count value : ℕ) (after : List ℕ) (len : ℕ) → IsNthFront (by_count map n) buffer count after len →
    None ≡ value_found map (by_count map n)
    → (told_says map (by_count map n) (record { buffer = buffer; count = count; value = value }) (record { buffer = after; count = len; value = value })).none
no_nth_told map n buffer count value after len is none =
    let absent = none_valued map (by_count map n) (nth_held map n) none in
    let stays = subst (λ (looked : Option (List ℕ)). IsNthFront looked buffer count after len) absent is in
    (absent, λ t. record { buffer = stays.0 t; count = stays.1 t; value = value })

-- What the array is asked for is what the scan looks for.
module _ (scan : Scan) (look : Look) (map : FinMap byte_order ℕ) (asks : neighbour_along look.side look.itself map ≡ neighbour scan map) (buffer : List ℕ)
    (count : ℕ) (inside : count ≤ length buffer) where
  abbrev from : List ℕ
  from = take count buffer

  pub looked_is : neighbour_along look.side look.itself map from ≡ neighbour scan map from
  looked_is = ap (λ (looked : List ℕ → Option (List ℕ)). looked from) asks

  pub fits_asked : (room : ℕ) → IfSome (neighbour scan map from) (λ key. length key ≤ room) → IfSome (neighbour_along look.side look.itself map from) (λ key. length key ≤ room)
  fits_asked room = subst (λ (looked : Option (List ℕ)). IfSome looked (λ key. length key ≤ room)) (sym looked_is)

  module _ (after : List ℕ) (len : ℕ) (is : IsFront (nearest_key look map from) buffer len after) where
    abbrev front : IsFront (unwrap_or (neighbour scan map from) from) buffer len after
    front = subst (λ looked. IsFront (unwrap_or looked from) buffer len after) looked_is is

    -- A neighbour that was found with a value is told with it.
    pub neighbour_told : (before value : ℕ) → IfSome (neighbour scan map from) (λ key. length key ≤ length buffer)
        → Some value ≡ value_found map (neighbour_along look.side look.itself map from)
        → (told_says map (neighbour scan map from) (record { buffer = buffer; count = count; value = before }) (record { buffer = after; count = len; value = value })).found
    neighbour_told before value fits found =
        told_found map (neighbour scan map from) from (record { buffer = buffer; count = count; value = before }) after len value fits front (found ∙ ap (value_found map) looked_is)

    -- Where no value was found there is no neighbour, and the buffer stays.
    pub no_neighbour_told : (value : ℕ) → None ≡ value_found map (neighbour_along look.side look.itself map from)
        → (told_says map (neighbour scan map from) (record { buffer = buffer; count = count; value = value }) (record { buffer = after; count = len; value = value })).none
    no_neighbour_told value none =
        let absent = none_valued map (neighbour scan map from) (neighbour_held scan map from) (none ∙ ap (value_found map) looked_is) in
        let same = ap (λ looked. unwrap_or looked from) absent in let long = length-take-le count buffer inside in (
          absent,
          λ t. record {
            buffer = (front.1 ∙ ap (λ key. key ++ drop (length key) buffer) same ∙ ap (λ n. from ++ drop n buffer) long ∙ take-append-drop count buffer) t;
            count = (front.0 ∙ ap length same ∙ long) t;
            value = value;
          },
        )
