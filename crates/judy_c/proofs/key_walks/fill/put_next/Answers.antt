-- `put_next`: the key before is the end of what is written, and the next one above it is the key at the place.
use Rattle.std.proofs.Common.{◌≡◌, ◌-◌, List, ℕ, false, Some, None, Option, length, take, drop, refl, sym, ap, subst, ◌∙◌}
use Rattle.std.specs.Option.{option_map}
use Rattle.std.specs.FinMap.{entries, get}
use Rattle.judy_model.specs.Neighbours.{next}
use Rattle.judy_c.specs.KeyWalks.{IsPut, pairs_from}
use Rattle.judy_c.specs.declared.key_walks.KeyEntry.{KeyEntry}
use Rattle.judy_c.proofs.PlacePairs.{key_before, next_measured, none_next, none_valued, not_put, put_next}
use Rattle.judy_c.proofs.key_walks.fill.put_next.Goals as goal

pub neighbour_len-requires : goal.neighbour_len-requires
neighbour_len-requires c =
    let is = key_before c.args.used c.args.before c.args.bytes.now c.requires.before.inside c.requires.inside in
    (c.strings_law.ensures _ c.requires.before.value (ap (get c.args.array.now.map) is ∙ c.requires.before.held)).without_zero

pub put_above-requires-clause-without_zero : goal.put_above-requires-clause-without_zero
put_above-requires-clause-without_zero c =
    let is = key_before c.args.used c.args.before c.args.bytes.now c.requires.before.inside c.requires.inside in
    (c.strings_law.ensures _ c.requires.before.value (ap (get c.args.array.now.map) is ∙ c.requires.before.held)).without_zero

pub returns-in_err-length : goal.returns-in_err-length
returns-in_err-length c =
    let m = c.args.array.now.map in
    let bytes = c.args.bytes.now in
    let key = take (c.args.used - (c.args.used - c.args.before)) (drop (c.args.used - c.args.before) bytes) in
    let goes = ap (λ (from : List ℕ). pairs_from m from false) (key_before c.args.used c.args.before bytes c.requires.before.inside c.requires.inside) ∙ c.requires.before.behind in
    let told : None ≡ option_map length (next m key) = rw c.exclusive.ensures at c.in_err-length.ensures in
    subst (λ (entry : Option KeyEntry). IsPut (drop c.args.place (entries m)) c.args.used bytes entry bytes) (sym c.from_residual.ensures)
    (none_next m c.args.place key goes (length bytes - c.args.used) (next m key) refl told, refl)

pub put_measured-requires-clause-measured : goal.put_measured-requires-clause-measured
put_measured-requires-clause-measured c =
    let m = c.args.array.now.map in
    let bytes = c.args.bytes.now in
    let key = take (c.args.used - (c.args.used - c.args.before)) (drop (c.args.used - c.args.before) bytes) in
    let goes = ap (λ (from : List ℕ). pairs_from m from false) (key_before c.args.used c.args.before bytes c.requires.before.inside c.requires.inside) ∙ c.requires.before.behind in
    let told : Some c.in_ok-length.length ≡ option_map length (next m key) = rw c.exclusive.ensures at c.in_ok-length.ensures in
    next_measured m c.args.place key goes c.in_ok-length.length (next m key) refl told

pub returns-in_err-value : goal.returns-in_err-value
returns-in_err-value c =
    let m = c.args.array.now.map in
    let bytes = c.args.bytes.now in
    let key = take (c.args.used - (c.args.used - c.args.before)) (drop (c.args.used - c.args.before) bytes) in
    let goes = ap (λ (from : List ℕ). pairs_from m from false) (key_before c.args.used c.args.before bytes c.requires.before.inside c.requires.inside) ∙ c.requires.before.behind in
    subst (λ (entry : Option KeyEntry). IsPut (drop c.args.place (entries m)) c.args.used bytes entry bytes) (sym c.from_residual-in_err-value.ensures)
    (none_valued m c.args.place key goes (length bytes - c.args.used) c.in_err-value.ensures.value, refl)

pub returns-then-not-copy_key : goal.returns-then-not-copy_key
returns-then-not-copy_key c =
    let m = c.args.array.now.map in
    let bytes = c.args.bytes.now in
    let key = take (c.args.used - (c.args.used - c.args.before)) (drop (c.args.used - c.args.before) bytes) in
    let goes = ap (λ (from : List ℕ). pairs_from m from false) (key_before c.args.used c.args.before bytes c.requires.before.inside c.requires.inside) ∙ c.requires.before.behind in
    let told : Some c.in_ok-length.length ≡ option_map length (next m key) = rw c.exclusive.ensures at c.in_ok-length.ensures in (
      not_put m c.args.place key goes c.in_ok-length.length c.put_above.new.room (next m key) refl told c.put_above.ensures.key (length bytes - c.args.used)
          (sym c.copy_key.ensures.fits ∙ c.if-not-copy_key.true),
      c.copy_key.ensures.stays c.if-not-copy_key.true,
    )

pub returns : goal.returns
returns c =
    let m = c.args.array.now.map in
    let bytes = c.args.bytes.now in
    let key = take (c.args.used - (c.args.used - c.args.before)) (drop (c.args.used - c.args.before) bytes) in
    let goes = ap (λ (from : List ℕ). pairs_from m from false) (key_before c.args.used c.args.before bytes c.requires.before.inside c.requires.inside) ∙ c.requires.before.behind in
    let told : Some c.in_ok-length.length ≡ option_map length (next m key) = rw c.exclusive.ensures at c.in_ok-length.ensures in
    put_next m c.args.place key goes c.in_ok-length.length c.put_above.new.room (next m key) refl told c.put_above.ensures.key c.args.used c.in_ok-value.value bytes
    c.copy_key.new.bytes c.in_ok-value.ensures.value (sym c.copy_key.ensures.fits ∙ c.if-not-copy_key.false) (c.copy_key.ensures.copied c.if-not-copy_key.false)
    (c.copy_key.ensures.behind c.if-not-copy_key.false) c.copy_key.ensures.len
