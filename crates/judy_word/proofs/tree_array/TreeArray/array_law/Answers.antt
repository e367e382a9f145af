use Rattle.std.proofs.Common.{◌≡◌, ◌<◌, ◌≤◌, Some, IfSome, sym, subst, ◌∙◌}
use Rattle.std.specs.FinMap.{get}
use Rattle.std.specs.Option.{option_map}
use Rattle.std.proofs.lemmas.Option.{same_Some}
use Rattle.judy_model.specs.Keys.{IsWord}
use Rattle.judy_model.specs.Neighbours.{next}
use Rattle.judy_word.specs.Held.{map_in, array_in}
use Rattle.judy_word.proofs.SeenWords.{Seen, left_from, Seen-start, Seen-step, falls, IsArrayOf-seen}
use Rattle.judy_word.proofs.tree_array.TreeArray.array_law.Goals as goal

pub keys-init : goal.keys-init
keys-init g c = (subst (Seen (map_in c.args.self.now)) (sym c.first_entry-found.ensures.key) (Seen-start (map_in c.args.self.now)), c.first_entry-found.ensures.value)

pub keys-smaller : goal.keys-smaller
keys-smaller g c =
    let map = map_in c.args.self.now in
    subst (λ o. left_from o < left_from (option_map (λ entry. entry.0) c.keys.found)) (sym c.next_entry-found.ensures.key)
    (subst (λ o. left_from (next map c.in-Some.key) < left_from (option_map (λ entry. entry.0) o)) (sym c.in-Some.is) (falls map c.in-Some.key c.words_law-in-Some.ensures.0))

pub keys-preserved : goal.keys-preserved
keys-preserved g c =
    let map = map_in c.args.self.now in
    let words = c.words_law-in-Some.ensures in
    let here = subst (λ o. IfSome o (λ entry. get map entry.0 ≡ Some entry.1)) c.in-Some.is c.keys.invariant.1 in (
      subst (Seen map) (sym c.next_entry-found.ensures.key)
          (Seen-step map c.in-Some.key c.in-Some.value (subst (λ o. Seen map (option_map (λ entry. entry.0) o)) c.in-Some.is c.keys.invariant.0) words.0
          (λ held is. same_Some held c.in-Some.value (sym is ∙ here)) words.1),
      c.next_entry-found.ensures.value,
    )

pub returns : goal.returns
returns g c =
    IsArrayOf-seen (array_in c.args.self.now) (subst (λ o. Seen (map_in c.args.self.now) (option_map (λ entry. entry.0) o)) c.in_default.is c.keys.invariant.0)
    (subst (λ n. 1 ≤ n) c.limit.ensures.value c.limit.ensures.some)
    (subst IsWord c.limit.ensures.value c.words_law.ensures.1)
    (subst (λ n. n ≤ c.args.self.now.limit) c.len.ensures.count c.len.ensures.within)
