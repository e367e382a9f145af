-- `fill_by_cursor`: each turn writes the pair of the next key; where there is none, or no room for it, those that fit are written.
use Rattle.std.proofs.Common.{◌≡◌, ◌+◌, ◌-◌, ◌&&◌, ◌==◌, Bool, true, false, nat_le, ℕ, ◌∷◌, length, refl, sym, ap, subst, ◌∙◌, arith}
use Rattle.std.proofs.lemmas.Bool.{ne_eqb}
use Rattle.std.specs.Prelude.{List, Option, unwrap_or}
use Rattle.std.specs.FinMap.{FinMap}
use Rattle.judy_model.specs.Keys.{byte_order}
use Rattle.judy_sl.specs.Scans.{value_found}
use Rattle.judy_c.specs.KeyWalks.{Pairs, page_of, pairs_from, beside, fitting}
use Rattle.judy_c.proofs.PageLemmas.{IsSoFar, so_far_all, so_far_more, fitting_none, fitting_long}
use Rattle.judy_c.proofs.PairLemmas.{steps, ends}
use Rattle.judy_c.proofs.key_walks.fill.fill_by_cursor.Goals as goal

-- what a step tells of the cursor's map is told of the array's
key_told : (map : FinMap byte_order ℕ) (at : List ℕ) (itself : Bool) (held : FinMap byte_order ℕ) (new : List ℕ) → held ≡ map → new ≡ unwrap_or (beside held at itself) at →
    new ≡ unwrap_or (beside map at itself) at
key_told map at itself held new same told = told ∙ ap (λ (it : FinMap byte_order ℕ). unwrap_or (beside it at itself) at) same

value_told : (map : FinMap byte_order ℕ) (at : List ℕ) (itself : Bool) (held : FinMap byte_order ℕ) (value : Option ℕ) → held ≡ map → value ≡ value_found held (beside held at itself) →
    value ≡ value_found map (beside map at itself)
value_told map at itself held value same told = told ∙ ap (λ (it : FinMap byte_order ℕ). value_found it (beside it at itself)) same

later : (itself : Bool) (count : ℕ) → (itself && ((count + 1) == 0)) ≡ false
later false count = refl
later true count = ne_eqb (count + 1) 0 (λ is. absurd (omega (arith, is)))

pub loop-count-preserved : goal.loop-count-preserved
loop-count-preserved c =
    let m = c.args.array.now.map in
    let flag = c.args.itself && (c.loop-count.count == 0) in
    let found = steps m c.loop-count.cursor.key c.step.new.cursor.key flag c.in-Some.value (beside m c.loop-count.cursor.key flag) refl
    (key_told m c.loop-count.cursor.key flag _ _ c.loop-count.invariant.1 c.step.ensures.key) (sym c.in-Some.is ∙
    value_told m c.loop-count.cursor.key flag _ _ c.loop-count.invariant.1 c.step.ensures.value) in
    let all = pairs_from m c.args.from.now c.args.itself in
    let before = page_of c.args.bytes.now c.args.entries.now in
    let now = page_of c.loop-count.bytes c.loop-count.entries in
    let text = c.key-key.ensures.key in
    let size = ap length text in
    let so : IsSoFar all before c.loop-count.used c.loop-count.count ((c.step.new.cursor.key, c.in-Some.value) ∷ pairs_from m c.step.new.cursor.key false) now = subst
    (λ (rest : Pairs). IsSoFar all before c.loop-count.used c.loop-count.count rest now) found.1 c.loop-count.invariant.0 in
    let fits : nat_le (length c.step.new.cursor.key) (length c.loop-count.bytes - c.loop-count.used) ≡
    true = ap (λ t. nat_le (length t) (length c.loop-count.bytes - c.loop-count.used)) (sym text) ∙ sym c.copy_key.ensures.fits ∙ c.if-not-copy_key.false in
    let taken = c.copy_key.ensures.copied c.if-not-copy_key.false in
    let dropped = c.copy_key.ensures.behind c.if-not-copy_key.false in
    rw (later c.args.itself c.loop-count.count, size) (
      so_far_more all before c.loop-count.used c.loop-count.count (c.step.new.cursor.key, c.in-Some.value)
          (pairs_from m c.step.new.cursor.key false) now so fits c.loop-count-test.true c.copy_key.new.bytes
          (rw (sym text) taken) (rw (sym text) dropped) c.copy_key.ensures.len,
      c.step.ensures.map ∙ c.loop-count.invariant.1,
    )

pub returns-in_default : goal.returns-in_default
returns-in_default c =
    let m = c.args.array.now.map in
    let flag = c.args.itself && (c.loop-count.count == 0) in
    let none = ends m c.loop-count.cursor.key flag (beside m c.loop-count.cursor.key flag) refl (sym c.in_default.is ∙
    value_told m c.loop-count.cursor.key flag _ _ c.loop-count.invariant.1 c.step.ensures.value) in
    so_far_all (pairs_from m c.args.from.now c.args.itself) (page_of c.args.bytes.now c.args.entries.now) c.loop-count.used c.loop-count.count
    (pairs_from m c.loop-count.cursor.key flag) (page_of c.loop-count.bytes c.loop-count.entries) c.loop-count.invariant.0
    (ap (fitting (length c.args.bytes.now - c.loop-count.used) (length c.args.entries.now - c.loop-count.count)) none ∙
    fitting_none (length c.args.bytes.now - c.loop-count.used) (length c.args.entries.now - c.loop-count.count))

pub returns-then-not-copy_key : goal.returns-then-not-copy_key
returns-then-not-copy_key c =
    let m = c.args.array.now.map in
    let flag = c.args.itself && (c.loop-count.count == 0) in
    let found = steps m c.loop-count.cursor.key c.step.new.cursor.key flag c.in-Some.value (beside m c.loop-count.cursor.key flag) refl
    (key_told m c.loop-count.cursor.key flag _ _ c.loop-count.invariant.1 c.step.ensures.key) (sym c.in-Some.is ∙
    value_told m c.loop-count.cursor.key flag _ _ c.loop-count.invariant.1 c.step.ensures.value) in
    let stays = c.copy_key.ensures.stays c.if-not-copy_key.true in
    let room = length c.args.bytes.now - c.loop-count.used in
    let few = length c.args.entries.now - c.loop-count.count in
    let long : nat_le (length c.step.new.cursor.key) room ≡ false = (λ t. nat_le (length (sym c.key-key.ensures.key t)) (sym c.loop-count.auto.bytes t - c.loop-count.used)) ∙
    sym c.copy_key.ensures.fits ∙ c.if-not-copy_key.true in
    rw stays
    (so_far_all (pairs_from m c.args.from.now c.args.itself) (page_of c.args.bytes.now c.args.entries.now) c.loop-count.used c.loop-count.count
    (pairs_from m c.loop-count.cursor.key flag) (page_of c.loop-count.bytes c.loop-count.entries) c.loop-count.invariant.0
    (ap (fitting room few) found.1 ∙ fitting_long room few (c.step.new.cursor.key, c.in-Some.value) (pairs_from m c.step.new.cursor.key false) long))
