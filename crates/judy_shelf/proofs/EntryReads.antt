-- Entries that are read one after another into a map.
use Rattle.std.proofs.Common.{◌≡◌, ℕ, ◌+◌, ◌-◌, ◌<◌, ◌≤◌, suc, arith, true, false, cond, IsTrue, List, [], ◌∷◌, ◌++◌, Option, Some, None, is_some, Result, Ok, Err, refl, sym, ap}
use Rattle.std.proofs.Common.{subst, ◌∙◌, append_assoc, append-nil, Less, Equal, Greater}
use Rattle.std.specs.declared.cmp.Ordering.{Ordering}
use Rattle.std.specs.Ordering.{is_lt, is_eq, eq_by_cmp}
use Rattle.std.specs.Cmp.{IsTotalOrder, nat_cmp_total, tied_itself}
use Rattle.std.specs.Cmp.Lexicographic.{nat_list_cmp_total}
use Rattle.std.specs.FinMap.{IsAntisymmetric, nat_cmp-IsAntisymmetric, slice_cmp-IsAntisymmetric, find, from_entries, empty, from_entries_push, get, contains_key, insert, get-from_entries}
use Rattle.std.specs.FinMap.Entries.{find-append}
use Rattle.std.proofs.lemmas.List.Elements.{All-nil, All-append}
use Rattle.judy_model.specs.Arrays.{ArrayOf, ArrayValue}
use Rattle.judy_model.specs.Keys.{IsByteString, word_order, byte_order}
use Rattle.judy_model.specs.DumpText.{length_order}
use Rattle.judy_model.proofs.lemmas.dumps.KindLemmas.{length_order-total}
use Rattle.judy_model.specs.Fields.{Flaw, truncated, bad_order, Parser, field, followed_by, ◌>>=◌, done, Behind}
use Rattle.judy_model.specs.DumpGrammar.{is_above, entry, entries, filled}
use Rattle.judy_pipe.specs.Pipe.{grown}
use Rattle.judy_pipe.proofs.Moves.{grown-grown}
use Rattle.std.specs.Result.{IsErrAnd}
use Rattle.judy_shelf.specs.declared.fault.LoadFault.{LoadFault}
use Rattle.judy_shelf.specs.Reads.{Drawn, Cause, memory, cause_of, OfFronts, ReadsValue, ReadsFault, Nowhere, AtSome, Fills}
use Rattle.judy_shelf.proofs.FrontLemmas.{no_fronts, fronts_of_both}
use Rattle.judy_shelf.proofs.WriteLemmas.{grown_nothing}
use Rattle.judy_shelf.proofs.ReadLemmas.{reads_err, fault_first, fault_then, value_then, value_done, Reading, reading_fault}

nothing_more : {A : Type 0} (read : Result (A × List ℕ) Flaw) → read ≡ followed_by read (λ value. done value)
nothing_more (Ok given) = refl
nothing_more (Err fault) = refl

in_a_row : {A B C : Type 0} (read : Result (A × List ℕ) Flaw) (one : A → Parser B) (two : B → Parser C) → followed_by (followed_by read one) two ≡ followed_by read (λ value. one value >>= two)
in_a_row (Ok given) one two = refl
in_a_row (Err fault) one two = refl

one_more : {A : Type 0} (read : Result (List A × List ℕ) Flaw) (held : List A) (item : A) → followed_by (followed_by read (λ others. done (item ∷ others)))
    (λ others. done (held ++ others)) ≡ followed_by read (λ others. done ((held ++ item ∷ []) ++ others))
one_more (Ok given) held item = ap (λ all. Ok (all, given.1)) (sym (append_assoc held (item ∷ []) given.0))
one_more (Err fault) held item = refl

is_Less : (r : Ordering) → is_lt r ≡ true → r ≡ Less
is_Less Less e = refl
is_Less Equal e = absurd cc
is_Less Greater e = absurd cc

module _ {K : Type 0} (order : K → K → Ordering) (key : Option K → Parser K) (value : Parser ℕ) (count : ℕ) where
  abbrev pub whole : Parser (List (K × ℕ))
  whole = entries order key value None count

  -- What is to come where so many entries are left, and these are held.
  abbrev pub to_come : Option K → ℕ → List (K × ℕ) → Parser (List (K × ℕ))
  to_come last left held = entries order key value last left >>= λ others. done (held ++ others)

  -- One entry more.
  pub one_entry : (last : Option K) (left : ℕ) (held : List (K × ℕ)) (pair : K × ℕ) (input more : List ℕ) → entry order key value last (input ++ more) ≡ Ok (pair, more) →
      to_come last (suc left) held (input ++ more) ≡ to_come (Some pair.0) left (held ++ pair ∷ []) more
  one_entry last left held pair input more is =
      let rest : K × ℕ → Parser (List (K × ℕ)) = λ first. entries order key value (Some first.0) left >>= λ others. done (first ∷ others) in
      let keep : List (K × ℕ) → Parser (List (K × ℕ)) = λ others. done (held ++ others) in
      in_a_row (entry order key value last (input ++ more)) rest keep ∙ ap (λ r. followed_by r (λ first. rest first >>= keep)) is ∙ one_more (entries order key value (Some pair.0) left more) held pair

  module _ (last : Option K) (left n : ℕ) (is : left ≡ suc n) (held : List (K × ℕ)) (before mid after : Drawn) (far : Reading whole (to_come last left held) before mid) where
    far_is : Reading whole (to_come last (suc n) held) before mid
    far_is = subst (λ m. Reading whole (to_come last m held) before mid) is far

    pub entries_fault : (cause : Cause) → ReadsFault Nowhere (entry order key value last) cause mid after → ReadsFault Nowhere whole cause before after
    entries_fault cause next =
        reading_fault whole (to_come last (suc n) held) before mid after far_is Nowhere Nowhere (λ input never. never) cause
        (fault_first (entries order key value last (suc n)) (λ others. done (held ++ others)) cause mid after
        (fault_first (entry order key value last) (λ first. entries order key value (Some first.0) n >>= λ others. done (first ∷ others)) cause mid after next))

  module _ (last : Option K) (first : K) (before mid : Drawn) (read : ReadsValue (field (key last) ((is_above order last, bad_order) ∷ [])) first before mid) where
    -- A key and its value.
    entry_read : (held : ℕ) (after : Drawn) → ReadsValue value held mid after → ReadsValue (entry order key value last) (first, held) before after
    entry_read held after next =
        value_then (field (key last) ((is_above order last, bad_order) ∷ [])) (λ first. value >>= λ held. done (first, held)) first before mid read (first, held) after
        (value_then value (λ held. done (first, held)) held mid after next (first, held) after (value_done (first, held) after))

    -- A key whose value couldn't be read.
    entry_value_stopped : (cause : Cause) (after : Drawn) → ReadsFault Nowhere value cause mid after → ReadsFault Nowhere (entry order key value last) cause before after
    entry_value_stopped cause after next =
        fault_then (field (key last) ((is_above order last, bad_order) ∷ [])) (λ first. value >>= λ held. done (first, held)) first before mid read cause after
        (fault_first value (λ held. done (first, held)) cause mid after next)

  -- A key that couldn't be read.
  entry_key_stopped : (last : Option K) (cause : Cause) (before after : Drawn) → ReadsFault Nowhere (field (key last) ((is_above order last, bad_order) ∷ [])) cause before after →
      ReadsFault Nowhere (entry order key value last) cause before after
  entry_key_stopped last cause before after next = fault_first (field (key last) ((is_above order last, bad_order) ∷ [])) (λ first. value >>= λ held. done (first, held)) cause before after next

  module _ {map_order : K → K → Ordering} (kind : ArrayOf map_order → ArrayValue) (limit : ℕ) (before after : Drawn) where
    pub filled_value : (held : List (K × ℕ)) → ReadsValue whole held before after → ReadsValue (filled kind limit whole) (kind (record { limit = limit; map = from_entries held })) before after
    filled_value held read = value_then whole (λ held. done (kind (record { limit = limit; map = from_entries held }))) held before after read _ after (value_done _ after)

    filled_fault : {Also : List ℕ → Type 0} → (cause : Cause) → ReadsFault Nowhere whole cause before after → ReadsFault Also (filled kind limit whole) cause before after
    filled_fault cause read = fault_first whole (λ held. done (kind (record { limit = limit; map = from_entries held }))) cause before after read

module _ {K : Type 0} (order : K → K → Ordering) (key : Option K → Parser K) (value : Parser ℕ) where
  -- So many entries were read, which are these, however many are said.
  pub record Listing (listed : ℕ) (last : Option K) (held : List (K × ℕ)) (before now : Drawn) : Type 0 where
    pub input : List ℕ
    pub given : now.given ≡ grown before.given input
    pub bytes : IsByteString input
    pub failures : now.failures ≡ before.failures
    pub goes : (left total : ℕ) → listed + left ≡ total → (more : List ℕ) → whole order key value total (input ++ more) ≡ to_come order key value total last left held more
    pub cut_before : (total : ℕ) → listed ≤ total → OfFronts (λ front. whole order key value total front ≡ Err truncated) input

  listing_none : (now : Drawn) → Listing 0 None [] now now
  listing_none now = record {
    input = [];
    given = sym (grown_nothing now.given);
    bytes = All-nil (λ byte. byte < 256);
    failures = refl;
    goes = λ left total is more.
        let same : total ≡ left = omega (arith, is) in
        nothing_more (whole order key value total more) ∙ ap (λ n. to_come order key value total None n [] more) same;
    cut_before = λ total few. no_fronts (λ front. whole order key value total front ≡ Err truncated);
  }

  module _ (listed : ℕ) (last : Option K) (held : List (K × ℕ)) (before mid : Drawn) (far : Listing listed last held before mid) where
    abbrev listing_reading : (left total : ℕ) → listed + left ≡ total → Reading (whole order key value total) (to_come order key value total last left held) before mid
    listing_reading left total is = record {
      input = far.input;
      given = far.given;
      bytes = far.bytes;
      failures = far.failures;
      goes = far.goes left total is;
      cut_before = far.cut_before total (omega (arith, is));
    }

    listing_next : (pair : K × ℕ) (after : Drawn) → ReadsValue (entry order key value last) pair mid after → Listing (listed + 1) (Some pair.0) (held ++ pair ∷ []) before after
    listing_next pair after next = record {
      input = far.input ++ next.input;
      given = next.given ∙ ap (λ known. grown known next.input) far.given ∙ grown-grown before.given far.input next.input;
      bytes = All-append (λ byte. byte < 256) far.input next.input far.bytes next.bytes;
      failures = next.failures ∙ far.failures;
      goes = λ left total is more.
          let one : listed + suc left ≡ total = omega (arith, is) in
          ap (whole order key value total) (append_assoc far.input next.input more) ∙ far.goes (suc left) total one (next.input ++ more)
          ∙ one_entry order key value total last left held pair next.input more (next.gives more);
      cut_before = λ total few.
          let left = total - (listed + 1) in
          let one : listed + suc left ≡ total = omega (arith, few) in
          fronts_of_both (λ front. whole order key value total front ≡ Err truncated) far.input next.input (far.cut_before total (omega (arith, few))) (λ front later byte is.
          far.goes (suc left) total one front ∙ ap (λ r. followed_by (followed_by r (λ first. entries order key value (Some first.0) left >>= λ others. done (first ∷ others)))
          (λ others. done (held ++ others))) (next.cut_before front later byte is));
    }

    listing_fault : (total : ℕ) → listed < total → (cause : Cause) (after : Drawn) → ReadsFault Nowhere (entry order key value last) cause mid after →
        ReadsFault Nowhere (whole order key value total) cause before after
    listing_fault total some cause after next =
        let n = total - (listed + 1) in
        let all : listed + suc n ≡ total = omega (arith, some) in
        entries_fault order key value total last (suc n) n refl held before mid after (listing_reading (suc n) total all) cause next

    -- One entry more, whose key and value were read.
    listing_entry : (first : K) (keyed : Drawn) → ReadsValue (field (key last) ((is_above order last, bad_order) ∷ [])) first mid keyed → (word : ℕ) (after : Drawn) →
        ReadsValue value word keyed after → Listing (listed + 1) (Some first) (held ++ (first, word) ∷ []) before after
    listing_entry first keyed read word after next = listing_next (first, word) after (entry_read order key value 0 last first mid keyed read word after next)

    listed_behind : (more : List ℕ) → whole order key value listed (far.input ++ more) ≡ Ok (held, more)
    listed_behind more =
        let all : listed + 0 ≡ listed = omega arith in
        far.goes 0 listed all more ∙ ap (λ all. Ok (all, more)) (append-nil held)

    -- These are all of so many.
    listing_whole : ReadsValue (whole order key value listed) held before mid
    listing_whole = record { input = far.input; given = far.given; bytes = far.bytes; failures = far.failures; gives = listed_behind; cut_before = far.cut_before listed (omega arith) }

    listed_end : whole order key value listed far.input ≡ Ok (held, [])
    listed_end = ap (whole order key value listed) (sym (append-nil far.input)) ∙ listed_behind []

    -- The array that holds them and nothing else.
    listing_filled : {map_order : K → K → Ordering} (kind : ArrayOf map_order → ArrayValue) (limit count : ℕ) (array : ArrayOf map_order) → listed ≡ count →
        array.limit ≡ limit → array.map ≡ from_entries held → ReadsValue (filled kind limit (whole order key value count)) (kind array) before mid
    listing_filled kind limit count array all limits maps =
        let same : kind (record { limit = limit; map = from_entries held }) ≡ kind array = sym (λ t. kind (record { limit = limits t; map = maps t })) in
        subst (λ n. ReadsValue (filled kind limit (whole order key value n)) (kind array) before mid) all
        (subst (λ made. ReadsValue (filled kind limit (whole order key value listed)) made before mid) same (filled_value order key value listed kind limit before mid held listing_whole))

    -- Want of memory behind the last of them.
    listing_memory : {map_order : K → K → Ordering} (kind : ArrayOf map_order → ArrayValue) (limit count : ℕ) → listed ≤ count →
        ReadsFault (AtSome (λ n. filled kind limit (entries order key value None n)) count) (filled kind limit (whole order key value count)) memory before mid
    listing_memory kind limit count within = record {
      input = far.input;
      given = far.given;
      bytes = far.bytes;
      stops = (
        far.failures,
        (listed, within, subst (λ r. Behind (followed_by r (λ held. done (kind (record { limit = limit; map = from_entries held })))) (λ _ rest. rest ≡ [])) (sym listed_end) refl),
      );
    }

-- An order in which keys are read, and that of the map into which they are put.
pub record KeyOrders {K : Type 0} (order map_order : K → K → Ordering) : Type 0 where
  pub total : IsTotalOrder order
  pub map_total : IsTotalOrder map_order
  pub same : IsAntisymmetric map_order

pub word_keys : KeyOrders word_order word_order
word_keys = record { total = nat_cmp_total; map_total = nat_cmp_total; same = nat_cmp-IsAntisymmetric }

pub string_keys : KeyOrders byte_order byte_order
string_keys = record { total = nat_list_cmp_total; map_total = nat_list_cmp_total; same = slice_cmp-IsAntisymmetric nat_cmp-IsAntisymmetric }

pub bytes_keys : KeyOrders length_order byte_order
bytes_keys = record { total = length_order-total; map_total = nat_list_cmp_total; same = slice_cmp-IsAntisymmetric nat_cmp-IsAntisymmetric }

is_Equal : (r : Ordering) → is_eq r ≡ true → r ≡ Equal
is_Equal Less e = absurd cc
is_Equal Equal e = refl
is_Equal Greater e = absurd cc

module _ {K : Type 0} {order map_order : K → K → Ordering} (orders : KeyOrders order map_order) where
  -- The keys above the last one are none of those held.
  abbrev pub AreNew : Option K → List (K × ℕ) → Type 0
  AreNew last held = (key : K) → IsTrue (is_above order last key) → find map_order key held ≡ None

  new_none : AreNew None []
  new_none key above = refl

  above_both : (last : Option K) (key other : K) → IsTrue (is_above order last key) → order key other ≡ Less → IsTrue (is_above order last other)
  above_both None key other above less = refl
  above_both (Some before) key other above less = ap is_lt (orders.total.trans before key other (is_Less _ above) less)

  -- A key that is above another is not that one in the map.
  apart : (key other : K) → order key other ≡ Less → eq_by_cmp map_order other key ≡ false
  apart key other less = elim (eq_by_cmp map_order other key) as (λ b. eq_by_cmp map_order other key ≡ b → b ≡ false) [
    | true ↦ λ e.
        let one : other ≡ key = orders.same other key (is_Equal (map_order other key) e) in
        let tied : Less ≡ Equal = sym less ∙ ap (order key) one ∙ tied_itself orders.total key in
        absurd cc
    | false ↦ λ e. refl
  ] refl

  module _ (last : Option K) (held : List (K × ℕ)) (new : AreNew last held) (key : K) (value : ℕ) (above : IsTrue (is_above order last key)) where
    new_more : AreNew (Some key) (held ++ (key, value) ∷ [])
    new_more other later =
        let less = is_Less (order key other) later in
        find-append map_order orders.map_total held key value other (new key above) ∙ ap (λ b. cond b (Some value) (find map_order other held)) (apart key other less) ∙
        new other (above_both last key other above less)

    made_more : from_entries {R = map_order} (held ++ (key, value) ∷ []) ≡ insert (from_entries held) key value
    made_more = from_entries_push orders.map_total orders.same held key value (new key above)

    absent_key : get (from_entries {R = map_order} held) key ≡ None
    absent_key = get-from_entries orders.map_total held key ∙ new key above

-- So many entries were read, the last one with this key, and the array holds them.
pub record Filling {K : Type 0} {order map_order : K → K → Ordering} (orders : KeyOrders order map_order) (key : Option K → Parser K) (value : Parser ℕ)
    (limit listed : ℕ) (last : Option K) (array : ArrayOf map_order) (before now : Drawn) : Type 0 where
  pub held : List (K × ℕ)
  pub limit_is : array.limit ≡ limit
  pub map_is : array.map ≡ from_entries held
  pub new : AreNew orders last held
  pub listing : Listing order key value listed last held before now

module _ {K : Type 0} {order map_order : K → K → Ordering} {orders : KeyOrders order map_order} {key : Option K → Parser K} {value : Parser ℕ} where
  pub none_filled : (array : ArrayOf map_order) → array.map ≡ empty → (now : Drawn) → Filling orders key value array.limit 0 None array now now
  none_filled array none now = record { held = []; limit_is = refl; map_is = none; new = new_none orders; listing = listing_none order key value now }

  module _ {limit listed : ℕ} {last : Option K} {array : ArrayOf map_order} {before mid : Drawn} (far : Filling orders key value limit listed last array before mid) where
    -- A key above the last one is absent, so that an insert of it that would leave one puts it in.
    pub put_is_insert : (first : K) → IsTrue (is_above order last first) → (word : ℕ) → cond (contains_key array.map first) array.map (insert array.map first word) ≡ insert array.map first word
    put_is_insert first above word =
        let absent = ap (λ map. get map first) far.map_is ∙ absent_key orders last far.held far.new first word above in
        ap (λ (found : Option ℕ). cond (is_some found) array.map (insert array.map first word)) absent

    module _ (kind : ArrayOf map_order → ArrayValue) (count : ℕ) where
      abbrev Filled : {X : Type 0} → (X → ArrayValue) → Result X LoadFault → Drawn → Type 0
      Filled view result after = Fills kind limit (entries order key value None) count view before result after

      -- An entry couldn't be read.
      module _ (some : listed < count) {X : Type 0} (view : X → ArrayValue) (after : Drawn) (fault : LoadFault) (result : Result X LoadFault) (is : IsErrAnd result (λ told. told ≡ fault)) where
        entry_stopped : ReadsFault Nowhere (entry order key value last) (cause_of fault) mid after → Filled view result after
        entry_stopped next =
            reads_err view (filled kind limit (entries order key value None count)) before after fault result is
            (filled_fault order key value count kind limit before after (cause_of fault) (listing_fault order key value listed last far.held before mid far.listing count some
            (cause_of fault) after next))

        pub key_stopped : ReadsFault Nowhere (field (key last) ((is_above order last, bad_order) ∷ [])) (cause_of fault) mid after → Filled view result after
        key_stopped next = entry_stopped (entry_key_stopped order key value count last (cause_of fault) mid after next)

        pub value_stopped : (first : K) (keyed : Drawn) → ReadsValue (field (key last) ((is_above order last, bad_order) ∷ [])) first mid keyed →
            ReadsFault Nowhere value (cause_of fault) keyed after → Filled view result after
        value_stopped first keyed read next = entry_stopped (entry_value_stopped order key value count last first mid keyed read (cause_of fault) after next)

      -- There is no memory to put in what was read.
      pub not_filled : listed ≤ count → ReadsFault (AtSome (λ n. filled kind limit (entries order key value None n)) count) (filled kind limit (entries order key value None count)) memory before mid
      not_filled within = listing_memory order key value listed last far.held before mid far.listing kind limit count within

      -- All of them were read.
      pub all_filled : listed ≡ count → (made : ArrayOf map_order) → made ≡ array → ReadsValue (filled kind limit (entries order key value None count)) (kind made) before mid
      all_filled all made is =
          listing_filled order key value listed last far.held before mid far.listing kind limit count made all (ap (λ a. a.limit) is ∙ far.limit_is) (ap (λ a. a.map) is ∙ far.map_is)

    -- One more was read.
    module _ (first : K) (above : IsTrue (is_above order last first)) (keyed : Drawn) (read : ReadsValue (field (key last) ((is_above order last, bad_order) ∷ [])) first mid keyed)
        (word : ℕ) (after : Drawn) (next : ReadsValue value word keyed after) where
      pub one_filled : (made : ArrayOf map_order) → made.limit ≡ array.limit → made.map ≡ insert array.map first word → Filling orders key value limit (listed + 1) (Some first) made before after
      one_filled made same put = record {
        held = far.held ++ (first, word) ∷ [];
        limit_is = same ∙ far.limit_is;
        map_is = put ∙ ap (λ map. insert map first word) far.map_is ∙ sym (made_more orders last far.held far.new first word above);
        new = new_more orders last far.held far.new first word above;
        listing = listing_entry order key value listed last far.held before mid far.listing first keyed read word after next;
      }

      -- And there is no memory to put it in.
      pub one_not_filled : (kind : ArrayOf map_order → ArrayValue) (count : ℕ) → listed < count → ReadsFault (AtSome (λ n. filled kind limit (entries order key value None n)) count)
          (filled kind limit (entries order key value None count)) memory before after
      one_not_filled kind count some =
          listing_memory order key value (listed + 1) (Some first) _ before after (listing_entry order key value listed last far.held before mid far.listing first keyed read word after next)
          kind limit count (omega (arith, some))
