use Rattle.std.proofs.Common.{◌≡◌, ℕ, ◌+◌, ◌-◌, ◌<◌, ◌≤◌, min, ⊎_elim, List, Some, ap, sym, ◌∙◌, arith}
use Rattle.std.proofs.lemmas.Bool.{cases_lt}
use Rattle.judy_model.proofs.lemmas.queries.Places.{before_place}
use Rattle.judy_bits.specs.ByteSets as set
use Rattle.judy_bits.specs.ByteSets.{IsByteSet}
use Rattle.judy_leaf.specs.KeyLists.{keys_of}
use Rattle.judy_leaf.specs.Nearby.{pair_up_to}
use Rattle.judy_leaf.proofs.BitLists.{rank_above}
use Rattle.judy_leaf.proofs.Nearest.{up_to-rank, up_to-count, previous_some, previous_member, no_previous_member}
use Rattle.judy_leaf.proofs.bit_ref.BitRef.at_or_before.Goals as goal

-- Up to 255 are as many keys as up to a greater number.
up_to_capped : (pairs : List (ℕ × ℕ)) (number last : ℕ) → IsByteSet (keys_of pairs) → last ≡ min number 255 → pair_up_to pairs last ≡ pair_up_to pairs number
up_to_capped pairs number last is capped = ⊎_elim
    (λ (less : number < 255). ap (pair_up_to pairs) (let same : last ≡ number = omega arith in same))
    (λ (more : 255 ≤ number).
    let keys = keys_of pairs in
    let all : set.count_up_to keys last ≡ set.count_up_to keys number = up_to-rank keys last ∙ rank_above keys (last + 1) is (omega arith) ∙
    sym (rank_above keys (number + 1) is (omega arith)) ∙ sym (up_to-rank keys number) in
    up_to-count pairs is.ascending last ∙ ap (before_place pairs) all ∙ sym (up_to-count pairs is.ascending number))
    (cases_lt number 255)

pub overflow_sub-count_up_to : goal.overflow_sub-count_up_to
overflow_sub-count_up_to g c =
    let keys = keys_of c.args.self.now.pairs in
    previous_some c.args.self.now.pairs c.law.ensures.ascending c.min-last.result c.in-Some.key c.count_up_to.result
    (c.count_up_to.ensures.value ∙ ap (set.count_up_to keys) c.from-in-Some.ensures) (sym c.in-Some.is ∙ c.prev_from.ensures ∙ ap (λ ks. set.prev_from ks c.min-last.result) c.bits.ensures.value)

pub value_at-requires : goal.value_at-requires
value_at-requires g c =
    let keys = keys_of c.args.self.now.pairs in
    let some = previous_some c.args.self.now.pairs c.law.ensures.ascending c.min-last.result c.in-Some.key c.count_up_to.result
    (c.count_up_to.ensures.value ∙ ap (set.count_up_to keys) c.from-in-Some.ensures) (sym c.in-Some.is ∙ c.prev_from.ensures ∙ ap (λ ks. set.prev_from ks c.min-last.result) c.bits.ensures.value) in
    let within = c.count_up_to.ensures.within in
    omega arith

pub returns-in-Some : goal.returns-in-Some
returns-in-Some g c =
    let pairs = c.args.self.now.pairs in
    let keys = keys_of pairs in
    let last = c.min-last.result in
    let counted : c.count_up_to.result ≡ set.count_up_to keys last = c.count_up_to.ensures.value ∙ ap (set.count_up_to keys) c.from-in-Some.ensures in
    let some = previous_some pairs c.law.ensures.ascending last c.in-Some.key c.count_up_to.result counted
    (sym c.in-Some.is ∙ c.prev_from.ensures ∙ ap (λ ks. set.prev_from ks c.min-last.result) c.bits.ensures.value) in
    let back : c.count_up_to.result - 1 + 1 ≡ c.count_up_to.result = omega arith in
    previous_member pairs c.law.ensures.ascending last (c.count_up_to.result - 1) c.from.result c.value_at.result (back ∙ counted)
    (ap Some c.from.ensures ∙ sym c.in-Some.is ∙ c.prev_from.ensures ∙ ap (λ ks. set.prev_from ks c.min-last.result) c.bits.ensures.value) c.value_at.ensures
    ∙ up_to_capped pairs c.args.number last c.law.ensures c.min-last.ensures

pub returns-in-None : goal.returns-in-None
returns-in-None g c =
    let pairs = c.args.self.now.pairs in
    no_previous_member pairs c.law.ensures.ascending c.min-last.result (sym c.in-None.is ∙ c.prev_from.ensures ∙ ap (λ ks. set.prev_from ks c.min-last.result) c.bits.ensures.value)
    ∙ up_to_capped pairs c.args.number c.min-last.result c.law.ensures c.min-last.ensures
