use Rattle.std.proofs.Common.{◌≡◌, ◌+◌, None, Some, set, sym, ap, ◌∙◌, arith, subst}
use Rattle.std.proofs.lemmas.List.{length-set}
use Rattle.slab.specs.Slab.{Slab, Updates, slab_len, get}
use Rattle.judy_sl.specs.LevelLists.{LevelParts, parts_of, side_by_side}
use Rattle.judy_sl.proofs.lemmas.seats.Numbered.{all-numbered, room-words, free-here, put-both, numbered-put, count-numbered, capacity-all}
use Rattle.judy_sl.proofs.level_list.LevelList.put.Goals as goal

pub insert_reserved-index-requires : goal.insert_reserved-index-requires
insert_reserved-index-requires c = room-words c.self.inside.words c.self.inside.numbers.items c.args.self.now c.self.view_is c.requires

pub index_mut-requires : goal.index_mut-requires
index_mut-requires c =
    let all = all-numbered c.self.inside.words c.self.inside.numbers.items c.args.self.now c.self.view_is c.requires in
    omega (arith, all, c.insert_reserved-index.ensures.key_in_range, c.insert_reserved-index.ensures.capacity, c.self.inside.numbers.ok)

pub invariant_of-self : goal.invariant_of-self
invariant_of-self c =
    let all = all-numbered c.self.inside.words c.self.inside.numbers.items c.args.self.now c.self.view_is c.requires in
    numbered-put c.self.inside.words c.insert_reserved-index.new.self c.self.inside.numbers.items c.insert_reserved-index.result c.args.keys (Some c.args.words)
    (omega (arith, all, c.insert_reserved-index.ensures.key_in_range, c.insert_reserved-index.ensures.capacity)) c.insert_reserved-index.ensures.updates c.self.invariant

pub returns-clause-free : goal.returns-clause-free
returns-clause-free c =
    subst (λ (levels : Slab LevelParts). get levels c.insert_reserved-index.result ≡ None) c.self.view_is
    (free-here c.self.inside.words c.self.inside.numbers.items c.insert_reserved-index.result c.insert_reserved-index.ensures.was_vacant)

pub returns-clause-put : goal.returns-clause-put
returns-clause-put c =
    let numbers = c.self.inside.numbers.items in
    let index = c.insert_reserved-index.result in
    let after = c.insert_reserved-index.new.self in
    let all = all-numbered c.self.inside.words numbers c.args.self.now c.self.view_is c.requires in
    subst (λ (levels : Slab LevelParts). Updates levels (side_by_side after (set numbers index c.args.keys)) index (parts_of c.args.keys (Some c.args.words))) c.self.view_is
    (put-both c.self.inside.words after numbers index c.args.keys (Some c.args.words) (omega (
      arith,
      all,
      c.insert_reserved-index.ensures.key_in_range,
      c.insert_reserved-index.ensures.capacity,
    )) c.insert_reserved-index.ensures.updates)

pub returns-clause-len : goal.returns-clause-len
returns-clause-len c =
    let numbers = c.self.inside.numbers.items in
    let after = c.insert_reserved-index.new.self in
    let before = count-numbered c.self.inside.words.slots numbers in
    let now = count-numbered after.slots (set numbers c.insert_reserved-index.result c.args.keys) in
    subst (λ (levels : Slab LevelParts). slab_len (side_by_side after (set numbers c.insert_reserved-index.result c.args.keys)) ≡ slab_len levels + 1) c.self.view_is
    (omega (arith, before, now, c.insert_reserved-index.ensures.len))

pub returns-clause-capacity : goal.returns-clause-capacity
returns-clause-capacity c =
    let numbers = c.self.inside.numbers.items in
    let all = all-numbered c.self.inside.words numbers c.args.self.now c.self.view_is c.requires in
    let long = length-set numbers c.insert_reserved-index.result c.args.keys in
    capacity-all c.insert_reserved-index.new.self (set numbers c.insert_reserved-index.result c.args.keys) (omega (arith, all, long, c.insert_reserved-index.ensures.capacity))
    ∙ c.insert_reserved-index.ensures.capacity
    ∙ sym (capacity-all c.self.inside.words numbers all)
    ∙ ap (λ (levels : Slab LevelParts). levels.capacity) c.self.view_is

pub returns-clause-within : goal.returns-clause-within
returns-clause-within c =
    let numbers = c.self.inside.numbers.items in
    let all = all-numbered c.self.inside.words numbers c.args.self.now c.self.view_is c.requires in
    let long = length-set numbers c.insert_reserved-index.result c.args.keys in
    let capacity = capacity-all c.insert_reserved-index.new.self (set numbers c.insert_reserved-index.result c.args.keys) (omega (arith, all, long, c.insert_reserved-index.ensures.capacity)) in
    omega (arith, capacity, c.insert_reserved-index.ensures.key_in_range)
