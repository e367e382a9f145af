use Rattle.std.proofs.Common.{◌≡◌, ◌∙◌, ℕ, List, MutBor, Result, Ok, Err, IsTrue, sym, refl, ap, inl, inr, is_some, arith}
use Rattle.std.specs.Result.{IsErrAnd}
use Rattle.judy_model.specs.Arrays.{ArrayOf, is_full}
use Rattle.judy_model.specs.Keys.{byte_order}
use Rattle.judy_sl.specs.Lends.{with_value}
use Rattle.judy_sl.specs.declared.error.SlError.{SlError}
use Rattle.judy_sl.specs.declared.error.SlError.TheVariants.{BadKey, Full, NoMemory}
use Rattle.judy_sl.specs.Refusals.{IsRefusal, IsUnfit}
use Rattle.judy_sl.specs.Arenas.{world_of, array_of}
use Rattle.judy_sl.specs.Ways.{levels_passed}
use Rattle.judy_sl.proofs.lemmas.counts.FirstWays.{firsts_slot, added_first}
use Rattle.judy_sl.proofs.lemmas.counts.CountedWrites.{counted_written}
use Rattle.judy_sl.proofs.lemmas.pieces.PieceLemmas.{text_of_key}
use Rattle.judy_sl.proofs.lemmas.seats.Maps.{get-map}
use Rattle.judy_sl.proofs.lemmas.counts.PassedLevels.{passed-few}
use Rattle.judy_sl.proofs.lemmas.seats.Keeping.{get-there, strings-written, array-written}
use Rattle.judy_sl.proofs.lemmas.inserts.Inserted.{is-new, way-none, there-not_full, there-value, absent-full, absent-room, tried-room, strings-added, array-added, added-value}
use Rattle.judy_sl.proofs.lemmas.inserts.Written.{value-there}
use Rattle.judy_sl.proofs.lemmas.moves.Settled.{settled-strings, settled-firsts, settled-listed}
use Rattle.judy_sl.proofs.lemmas.moves.Tries.{settled_array}
use Rattle.judy_sl.proofs.lemmas.pieces.Strings.{string_of_key, key-within, key_of_string}
use Rattle.judy_sl.proofs.lemmas.counts.ListWrites.{listed_tried, listed_slot}
use Rattle.judy_sl.proofs.judysl.StringsOf.ins_noted.Goals as goal

-- ---- put in by one way down

pub invariant_of-self-lent : goal.invariant_of-self-lent
invariant_of-self-lent g c w =
    let is_key = rw c.in-Some.is at c.in_ok-place.ensures.key in
    let key = string_of_key g.L.KeyLength c.args.key.now is_key in
    let none = rw c.in-Some.is at c.in_ok-place.ensures.absent in
    let tried = rw c.in-Some.is at c.in_ok-place.ensures.tried in
    let added = rw c.in-Some.is at c.in_ok-place.ensures.added in
    let room = tried-room c.self.inside.expects_new c.self.inside.count c.self.inside.limit tried in
    let after = strings-added _ _ _ c.self.invariant.0 c.args.key.now key none c.try_first.new.self c.in-Some.place added room _
    (c.lengthen.ensures) (key-within g.L.KeyLength c.args.key.now is_key) in
    let nothing = rw c.in-Some.is at c.in_ok-place.ensures.first in
    let stays = (rw c.in-Some.is at c.in_ok-place.ensures.stays) refl in
    let firsts = added_first c.self.inside.arena c.try_first.new.self c.args.key.now key none c.self.inside.firsts c.self.invariant.2 nothing c.in-Some.place added in (
      strings-written _ _ _ after c.args.key.now key c.in-Some.place added.found w,
      counted_written c.try_first.new.self added.is_arena c.args.key.now c.in-Some.place added.found w c.in_ok-place.ensures.counted,
      firsts_slot _ _ _ after c.args.key.now key c.in-Some.place added.found c.self.inside.firsts firsts w,
      listed_slot _ _ _ after c.args.key.now key c.in-Some.place added.found w c.self.inside.lists
          (listed_tried c.self.inside.arena c.try_first.new.self c.self.invariant.0.is_arena c.self.invariant.0.led c.args.key.now key none nothing c.in-Some.place added
          stays c.self.inside.lists c.self.invariant.3),
    )

pub returns-in-Some : goal.returns-in-Some
returns-in-Some g c =
    let is_key = rw c.in-Some.is at c.in_ok-place.ensures.key in
    let key = string_of_key g.L.KeyLength c.args.key.now is_key in
    let none = rw c.in-Some.is at c.in_ok-place.ensures.absent in
    let tried = rw c.in-Some.is at c.in_ok-place.ensures.tried in
    let added = rw c.in-Some.is at c.in_ok-place.ensures.added in
    let room = tried-room c.self.inside.expects_new c.self.inside.count c.self.inside.limit tried in (
      λ t. inl (
        c.lend.result.ghost_name,
        λ w. (array-added _ _ _ c.self.invariant.0 c.args.key.now key none c.try_first.new.self c.in-Some.place added w ∙
            ap (λ (s : ArrayOf byte_order). with_value s c.args.key.now w) c.self.view_is) t,
      ),
      rw (← c.self.view_is) (record {
        writes_back = tt;
        value = sym c.lend.ensures.value ∙ added-value _ _ _ c.self.invariant.0 c.args.key.now key none c.try_first.new.self c.in-Some.place added;
        accepted = (is_key, absent-room _ _ _ c.self.invariant.0 c.args.key.now key none room);
        refused = tt;
      }),
    )

pub invariant_of-self : goal.invariant_of-self
invariant_of-self g c =
    let settled = c.in_err-place.ensures.refused in (
      settled-strings c.self.inside.arena c.try_first.new.self settled c.self.inside.limit c.self.inside.count c.self.invariant.0,
      settled.kept.counted,
      settled-firsts c.self.inside.arena c.try_first.new.self settled c.self.inside.firsts c.self.invariant.2,
      settled-listed c.self.inside.arena c.try_first.new.self settled c.self.inside.lists c.self.invariant.3,
    )

-- ---- there

pub invariant_of-self-lent-in-At : goal.invariant_of-self-lent-in-At
invariant_of-self-lent-in-At g c w =
    let settled = c.in_ok-place.ensures.open c.in_default.is in
    let is = settled-strings c.self.inside.arena c.try_first.new.self settled c.self.inside.limit c.self.inside.count c.self.invariant.0 in
    let key = c.in-At.ensures.there c.in-At.place refl in
    let found = c.in-At.ensures.way (text_of_key _ key) in
    let firsts = settled-firsts c.self.inside.arena c.try_first.new.self settled c.self.inside.firsts c.self.invariant.2 in
    let told = settled.kept.counted in (
      strings-written _ _ _ is c.args.key.now key c.in-At.place found w,
      counted_written c.try_first.new.self is.is_arena c.args.key.now c.in-At.place found w told,
      firsts_slot _ _ _ is c.args.key.now key c.in-At.place found c.self.inside.firsts firsts w,
      listed_slot _ _ _ is c.args.key.now key c.in-At.place found w c.self.inside.lists
          (settled-listed c.self.inside.arena c.try_first.new.self settled c.self.inside.lists c.self.invariant.3),
    )

pub returns-in-At : goal.returns-in-At
returns-in-At g c =
    let settled = c.in_ok-place.ensures.open c.in_default.is in
    let is = settled-strings c.self.inside.arena c.try_first.new.self settled c.self.inside.limit c.self.inside.count c.self.invariant.0 in
    let view = settled_array c.self.inside.arena c.try_first.new.self c.self.invariant.0.is_arena settled c.self.inside.limit ∙ c.self.view_is in
    let key = c.in-At.ensures.there c.in-At.place refl in
    let found = c.in-At.ensures.way (text_of_key _ key) in (
      λ t. inl (c.lend-in-At.result.ghost_name, λ w. (array-written _ _ _ is c.args.key.now key c.in-At.place found w ∙ ap (λ (s : ArrayOf byte_order). with_value s c.args.key.now w) view) t),
      rw (← view) (record {
        writes_back = tt;
        value = sym c.lend-in-At.ensures.value ∙ there-value _ _ _ is c.args.key.now key c.in-At.place found;
        accepted = (
          (let short = is.short c.args.key.now found.value (get-there _ _ _ is c.args.key.now key c.in-At.place found) in let most = is.longest_fits in
              key_of_string g.L.KeyLength c.args.key.now key (omega (arith, short, most))),
          there-not_full _ _ _ is c.args.key.now key c.in-At.place found,
        );
        refused = tt;
      }),
    )

-- ---- absent

pub invariant_of-self-in-Break-branch-3 : goal.invariant_of-self-in-Break-branch-3
invariant_of-self-in-Break-branch-3 g c =
    let settled = c.in_ok-place.ensures.open c.in_default.is in (
      settled-strings c.self.inside.arena c.try_first.new.self settled c.self.inside.limit c.self.inside.count c.self.invariant.0,
      settled.kept.counted,
      settled-firsts c.self.inside.arena c.try_first.new.self settled c.self.inside.firsts c.self.invariant.2,
      settled-listed c.self.inside.arena c.try_first.new.self settled c.self.inside.lists c.self.invariant.3,
    )

pub invariant_of-self-in-Break-branch-4 : goal.invariant_of-self-in-Break-branch-4
invariant_of-self-in-Break-branch-4 g c =
    let settled = c.in_ok-place.ensures.open c.in_default.is in
    let is = settled-strings c.self.inside.arena c.try_first.new.self settled c.self.inside.limit c.self.inside.count c.self.invariant.0 in
    let refused = c.in_err-made-in_default-walk.ensures.refused in (
      settled-strings c.try_first.new.self c.insert.new.arena refused c.self.inside.limit c.self.inside.count is,
      c.insert.ensures.counted,
      c.insert.ensures.firsts,
      c.insert.ensures.listed,
    )

-- An error, as `?` hands it on.
handed : (result : Result (MutBor ℕ) SlError) (told : SlError) → IsErrAnd result (λ error. error ≡ told) → result ≡ Err told
handed (Ok slot) told is = absurd is
handed (Err error) told is = ap (λ (e : SlError). Err e) is

-- Why bytes that aren't there can't come in, as the array tells it.
refusal : (IsKey : List ℕ → Type 0) (array : ArrayOf byte_order) (key : List ℕ) (count limit : ℕ) → (IsKey key → count ≡ limit → IsTrue (is_full array key)) → (error : SlError) →
    IsUnfit IsKey count limit key error → IsRefusal IsKey array key error
refusal IsKey array key count limit full BadKey unfit = unfit
refusal IsKey array key count limit full Full unfit = (unfit.0, full unfit.0 unfit.1)
refusal IsKey array key count limit full NoMemory unfit = absurd unfit

pub returns-in_err-place : goal.returns-in_err-place
returns-in_err-place g c =
    let is_key = c.in_err-place.ensures.key in
    let key = string_of_key g.L.KeyLength c.args.key.now is_key in
    let none = c.in_err-place.ensures.absent in
    let room = tried-room c.self.inside.expects_new c.self.inside.count c.self.inside.limit c.in_err-place.ensures.tried in
    rw (handed c.from_residual.result NoMemory c.from_residual.ensures.1) (
      ap (λ a. inr a) (settled_array c.self.inside.arena c.try_first.new.self c.self.invariant.0.is_arena c.in_err-place.ensures.refused c.self.inside.limit ∙ c.self.view_is),
      record { writes_back = tt; value = tt; accepted = tt; refused = rw (← c.self.view_is) (is_key, none, absent-room _ _ _ c.self.invariant.0 c.args.key.now key none room) },
    )

pub returns-in_err-accept-in_default-walk : goal.returns-in_err-accept-in_default-walk
returns-in_err-accept-in_default-walk g c =
    let settled = c.in_ok-place.ensures.open c.in_default.is in
    let is = settled-strings c.self.inside.arena c.try_first.new.self settled c.self.inside.limit c.self.inside.count c.self.invariant.0 in
    let view = settled_array c.self.inside.arena c.try_first.new.self c.self.invariant.0.is_arena settled c.self.inside.limit ∙ c.self.view_is in
    let full : g.L.KeyLength.IsKey c.args.key.now → c.self.inside.count ≡ c.self.inside.limit → IsTrue (is_full (array_of c.self.inside.limit c.try_first.new.self) c.args.key.now) =
    (λ is_key same.
    let key = string_of_key g.L.KeyLength c.args.key.now is_key in
    let none = get-map c.try_first.new.self c.args.key.now key ∙ way-none c.try_first.new.self c.args.key.now c.walk.result (c.walk.ensures.way (text_of_key _ key))
    (is-new c.walk.result c.in_default-walk.not-At) in
    absent-full _ _ _ is c.args.key.now key none same) in
    let error = c.in_err-accept-in_default-walk.field-0.0 in
    rw (handed c.from_residual-in_err-accept-in_default-walk.result error c.from_residual-in_err-accept-in_default-walk.ensures.1) (
      ap (λ a. inr a) view,
      record {
        writes_back = tt;
        value = tt;
        accepted = tt;
        refused =
            rw (← view) (refusal g.L.KeyLength.IsKey (array_of c.self.inside.limit c.try_first.new.self) c.args.key.now c.self.inside.count c.self.inside.limit full error
            c.in_err-accept-in_default-walk.ensures.refused);
      },
    )

pub returns-in_err-made-in_default-walk : goal.returns-in_err-made-in_default-walk
returns-in_err-made-in_default-walk g c =
    let settled = c.in_ok-place.ensures.open c.in_default.is in
    let is = settled-strings c.self.inside.arena c.try_first.new.self settled c.self.inside.limit c.self.inside.count c.self.invariant.0 in
    let view = settled_array c.self.inside.arena c.try_first.new.self c.self.invariant.0.is_arena settled c.self.inside.limit ∙ c.self.view_is in
    let is_key = c.in_ok-accept-in_default-walk.ensures.accepted.0 in
    let key = string_of_key g.L.KeyLength c.args.key.now is_key in
    let none = get-map c.try_first.new.self c.args.key.now key ∙ way-none c.try_first.new.self c.args.key.now c.walk.result (c.walk.ensures.way (text_of_key _ key))
    (is-new c.walk.result c.in_default-walk.not-At) in
    rw (handed c.from_residual-in_err-made-in_default-walk.result NoMemory c.from_residual-in_err-made-in_default-walk.ensures.1) (
      ap (λ a. inr a) (settled_array c.try_first.new.self c.insert.new.arena settled.kept.is_arena c.in_err-made-in_default-walk.ensures.refused c.self.inside.limit ∙ view),
      record { writes_back = tt; value = tt; accepted = tt; refused = rw (← view) (is_key, none, absent-room _ _ _ is c.args.key.now key none c.in_ok-accept-in_default-walk.ensures.accepted.1) },
    )

pub invariant_of-self-lent-2 : goal.invariant_of-self-lent-2
invariant_of-self-lent-2 g c w =
    let settled = c.in_ok-place.ensures.open c.in_default.is in
    let is = settled-strings c.self.inside.arena c.try_first.new.self settled c.self.inside.limit c.self.inside.count c.self.invariant.0 in
    let is_key = c.in_ok-accept-in_default-walk.ensures.accepted.0 in
    let key = string_of_key g.L.KeyLength c.args.key.now is_key in
    let none = get-map c.try_first.new.self c.args.key.now key ∙ way-none c.try_first.new.self c.args.key.now c.walk.result (c.walk.ensures.way (text_of_key _ key))
    (is-new c.walk.result c.in_default-walk.not-At) in
    let after = strings-added _ _ _ is c.args.key.now key none c.insert.new.arena c.in_ok-made-in_default-walk.made c.in_ok-made-in_default-walk.ensures.added
    c.in_ok-accept-in_default-walk.ensures.accepted.1 _ (c.lengthen-in_default-walk.ensures) (key-within g.L.KeyLength c.args.key.now is_key) in (
      strings-written _ _ _ after c.args.key.now key c.in_ok-made-in_default-walk.made c.in_ok-made-in_default-walk.ensures.added.found w,
      counted_written c.insert.new.arena c.in_ok-made-in_default-walk.ensures.added.is_arena c.args.key.now c.in_ok-made-in_default-walk.made
          c.in_ok-made-in_default-walk.ensures.added.found w c.insert.ensures.counted,
      firsts_slot _ _ _ after c.args.key.now key c.in_ok-made-in_default-walk.made c.in_ok-made-in_default-walk.ensures.added.found c.insert.new.firsts c.insert.ensures.firsts w,
      listed_slot _ _ _ after c.args.key.now key c.in_ok-made-in_default-walk.made c.in_ok-made-in_default-walk.ensures.added.found w c.insert.new.lists c.insert.ensures.listed,
    )

pub returns : goal.returns
returns g c =
    let settled = c.in_ok-place.ensures.open c.in_default.is in
    let is = settled-strings c.self.inside.arena c.try_first.new.self settled c.self.inside.limit c.self.inside.count c.self.invariant.0 in
    let view = settled_array c.self.inside.arena c.try_first.new.self c.self.invariant.0.is_arena settled c.self.inside.limit ∙ c.self.view_is in
    let is_key = c.in_ok-accept-in_default-walk.ensures.accepted.0 in
    let key = string_of_key g.L.KeyLength c.args.key.now is_key in
    let none = get-map c.try_first.new.self c.args.key.now key ∙ way-none c.try_first.new.self c.args.key.now c.walk.result (c.walk.ensures.way (text_of_key _ key))
    (is-new c.walk.result c.in_default-walk.not-At) in (
      λ t. inl (
        c.lend-in_default-walk.result.ghost_name,
        λ w. (array-added _ _ _ is c.args.key.now key none c.insert.new.arena c.in_ok-made-in_default-walk.made c.in_ok-made-in_default-walk.ensures.added w ∙
            ap (λ (s : ArrayOf byte_order). with_value s c.args.key.now w) view) t,
      ),
      rw (← view) (record {
        writes_back = tt;
        value =
            sym c.lend-in_default-walk.ensures.value ∙ added-value _ _ _ is c.args.key.now key none c.insert.new.arena c.in_ok-made-in_default-walk.made
            c.in_ok-made-in_default-walk.ensures.added;
        accepted = (is_key, absent-room _ _ _ is c.args.key.now key none c.in_ok-accept-in_default-walk.ensures.accepted.1);
        refused = tt;
      }),
    )

pub insert-requires-clause-firsts : goal.insert-requires-clause-firsts
insert-requires-clause-firsts g c =
    let settled = c.in_ok-place.ensures.open c.in_default.is in
    settled-firsts c.self.inside.arena c.try_first.new.self settled c.self.inside.firsts c.self.invariant.2

pub insert-requires-clause-kept : goal.insert-requires-clause-kept
insert-requires-clause-kept g c =
    let settled = c.in_ok-place.ensures.open c.in_default.is in
    settled.kept

-- The levels that the way passed are noted.
pub insert-requires-clause-passed : goal.insert-requires-clause-passed
insert-requires-clause-passed g c =
    let is_key = c.in_ok-accept-in_default-walk.ensures.accepted.0 in
    let key = string_of_key g.L.KeyLength c.args.key.now is_key in
    c.noted-passed.ensures (levels_passed (world_of c.try_first.new.self) c.args.key.now)
    (passed-few (world_of c.try_first.new.self) c.args.key.now g.N.LevelNotes.most (c.requires.few is_key)) (c.walk.ensures.passed (text_of_key _ key))

pub insert-requires-clause-is_key : goal.insert-requires-clause-is_key
insert-requires-clause-is_key g c = string_of_key g.L.KeyLength c.args.key.now (c.in_ok-accept-in_default-walk.ensures.accepted.0)

pub insert-requires-clause-listed : goal.insert-requires-clause-listed
insert-requires-clause-listed g c =
    let settled = c.in_ok-place.ensures.open c.in_default.is in
    settled-listed c.self.inside.arena c.try_first.new.self settled c.self.inside.lists c.self.invariant.3

pub walk-requires-clause-is_arena : goal.walk-requires-clause-is_arena
walk-requires-clause-is_arena g c =
    let settled = c.in_ok-place.ensures.open c.in_default.is in
    settled.kept.is_arena

pub insert-requires-clause-few : goal.insert-requires-clause-few
insert-requires-clause-few g c =
    let settled = c.in_ok-place.ensures.open c.in_default.is in
    let is = settled-strings c.self.inside.arena c.try_first.new.self settled c.self.inside.limit c.self.inside.count c.self.invariant.0 in
    omega (arith, is.counted, is.within_limit, is.limit_fits, c.in_ok-accept-in_default-walk.ensures.accepted.1)

pub lend-requires-in_default-walk : goal.lend-requires-in_default-walk
lend-requires-in_default-walk g c =
    let added = c.in_ok-made-in_default-walk.ensures.added in
    ap is_some (value-there c.insert.new.arena added.is_arena c.args.key.now c.in_ok-made-in_default-walk.made added.found)

pub insert-requires-clause-way : goal.insert-requires-clause-way
insert-requires-clause-way g c =
    let is_key = c.in_ok-accept-in_default-walk.ensures.accepted.0 in
    c.walk.ensures.way (text_of_key _ (string_of_key g.L.KeyLength c.args.key.now is_key))
