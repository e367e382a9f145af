-- The checks of a new array, by the shelf and by the definitions.
use Rattle.std.proofs.Common.{◌≡◌, ℕ, Bool, true, false, not, ◌&&◌, nat_lt, nat_le, cond, List, length, Option, Some, None, Result, Ok, Err, refl, sym, ap, ◌∙◌}
use Rattle.std.specs.Prelude.{option_map, is_none, is_some, MatchOption}
use Rattle.std.specs.Result.{IsErrAnd}
use Rattle.judy_model.specs.Arrays.{ArrayValue}
use Rattle.judy_model.specs.Stores.{Store, array_named, with_new_array}
use Rattle.judy_model.specs.Replies as model
use Rattle.judy_model.specs.Kinds.{kind_named}
use Rattle.judy_model.specs.Commands.{Outcome, ◌>>=◌, name_at, provided, limit_at, made}
use Rattle.judy_shelf.specs.declared.array.Array.{Array}
use Rattle.judy_shelf.specs.declared.kind.Kind.{Kind}
use Rattle.judy_shelf.specs.declared.kind.Kind.TheVariants.{Judy1, JudyL, JudySl, JudyHs}
use Rattle.judy_shelf.specs.declared.error.MakeError.{MakeError}
use Rattle.judy_shelf.specs.declared.error.MakeError.TheVariants as make
use Rattle.judy_shelf.specs.Kinds.{empty_of_kind}
use Rattle.judy_shelf.specs.Arrays.{value_of, new_array}
use Rattle.judy_shelf.specs.Shelves.{Entries, store_of}
use Rattle.judy_shelf.specs.Makes.{make_refusal, IsMakeRefusal}
use Rattle.judy_shelf.proofs.ShelfLemmas.{array_named-store_of, with_new_array-store_of, length-store_of}
use Rattle.judy_command.specs.Replies.{refusal_of}
use Rattle.judy_command.specs.Refusals.{refusal_of_make}
use Rattle.judy_command.specs.Follows.{Follows}

-- an error of which it is said what it is
pub error_is : {A E : Type 0} (result : Result A E) (error : E) → IsErrAnd result (λ other. other ≡ error) → result ≡ Err error
error_is (Ok value) error h = absurd h
error_is (Err other) error h = ap Err h

-- what a new array does to the store, where nothing refuses it
abbrev pub new_outcome : Store → List ℕ → ArrayValue → Outcome Store
new_outcome store name array = record { answer = model.done; after = with_new_array store name array; grows = true }

abbrev checks : Bool → Option ArrayValue → Bool → Outcome Store → Result (Outcome Store) model.Refusal
checks in_range there room outcome = do
  _ ← provided in_range model.bad_limit
  _ ← provided (is_none there) model.exists
  _ ← provided room model.too_many_arrays
  Ok outcome

abbrev first_refusal : Bool → Option Array → Bool → Option MakeError
first_refusal in_range there room =
    cond (not in_range) (Some make.BadLimit) (cond (is_some there) (Some make.Exists) (cond (not room) (Some make.TooMany) None))

-- the checks refuse as the shelf does, and pass where it refuses nothing
alike : (in_range : Bool) (there : Option Array) (room : Bool) (outcome : Outcome Store) → MatchOption (first_refusal in_range there room)
    (checks in_range (option_map value_of there) room outcome ≡ Ok outcome) (λ error. checks in_range (option_map value_of there) room outcome ≡ Err (refusal_of (refusal_of_make error)))
alike false there room outcome = refl
alike true (Some array) room outcome = refl
alike true None false outcome = refl
alike true None true outcome = refl

module _ (entries : Entries) (token kind_token : List ℕ) (given : Option (List ℕ)) (name : List ℕ) (kind : Kind) (limit : ℕ) (named : name_at token ≡ Ok name)
    (kinded : kind_named kind_token ≡ Some (empty_of_kind kind)) (limited : limit_at given ≡ Ok limit) where
  abbrev in_range : Bool
  in_range = nat_lt 0 limit && nat_le limit 4294967295

  abbrev outcome : Outcome Store
  outcome = new_outcome (store_of entries) name (empty_of_kind kind limit)

  made-checks : made (store_of entries) token kind_token given ≡ checks in_range (option_map value_of (array_named entries name)) (nat_lt (length entries) 64) outcome
  made-checks = rw (named, kinded, limited, array_named-store_of entries name, length-store_of entries) refl

  matched : MatchOption (make_refusal entries name limit) (made (store_of entries) token kind_token given ≡ Ok outcome)
      (λ error. made (store_of entries) token kind_token given ≡ Err (refusal_of (refusal_of_make error)))
  matched = rw made-checks (alike in_range (array_named entries name) (nat_lt (length entries) 64) outcome)

  value_of-new_array : (k : Kind) → empty_of_kind k limit ≡ value_of (new_array k limit)
  value_of-new_array Judy1 = refl
  value_of-new_array JudyL = refl
  value_of-new_array JudySl = refl
  value_of-new_array JudyHs = refl

  -- an array that the shelf made is the one that the definitions make
  pub Follows-made : (after : Entries) → make_refusal entries name limit ≡ None → after ≡ with_new_array entries name (new_array kind limit) →
      Follows (store_of entries) (made (store_of entries) token kind_token given) (Ok model.done) (store_of after)
  Follows-made after none same =
      let is : made (store_of entries) token kind_token given ≡ Ok outcome = rw none at matched in
      rw (is, same) (refl, sym (with_new_array-store_of entries name (new_array kind limit)) ∙ ap (with_new_array (store_of entries) name) (sym (value_of-new_array kind)))

  -- an array that the shelf refused is refused, or wants memory
  pub Follows-not_made : (after : Entries) (error : MakeError) → IsMakeRefusal (make_refusal entries name limit) error → after ≡ entries →
      Follows (store_of entries) (made (store_of entries) token kind_token given) (Err (refusal_of (refusal_of_make error))) (store_of after)
  Follows-not_made after make.BadLimit first same = let is : made (store_of entries) token kind_token given ≡ Err model.bad_limit = rw first at matched in rw (is, same) (refl, refl)
  Follows-not_made after make.Exists first same = let is : made (store_of entries) token kind_token given ≡ Err model.exists = rw first at matched in rw (is, same) (refl, refl)
  Follows-not_made after make.TooMany first same = let is : made (store_of entries) token kind_token given ≡ Err model.too_many_arrays = rw first at matched in rw (is, same) (refl, refl)
  Follows-not_made after make.NoMemory none same = let is : made (store_of entries) token kind_token given ≡ Ok outcome = rw none at matched in rw (is, same) (refl, refl, refl)
