use Rattle.std.proofs.Common.{◌++◌, ℕ, sym, ap, ◌∙◌, append-nil}
use Rattle.std.specs.List.{flat_map}
use Rattle.std.specs.FinMap.{entries}
use Rattle.judy_hs.specs.Chains.{Pairs}
use Rattle.judy_hs.specs.Keyed.{Keyed, group_at}
use Rattle.judy_hs.specs.Listed.{entries_in, group_list}
use Rattle.judy_hs.proofs.WalkLemmas.{came_on, came_all, listed_on, entry_held}
use Rattle.judy_hs.proofs.groups.Groups.list.Goals as goal

pub lengths-init : goal.lengths-init
lengths-init c =
    (sym (c.into_iter-key_length-iterator.ensures.into_iter_gives ∙ ap (λ (all : Keyed). entries all.lengths.map) c.self.view_is), sym (append-nil (entries_in c.args.list.now.items)))

pub lengths-preserved : goal.lengths-preserved
lengths-preserved c =
    let part : ℕ × ℕ → Pairs = λ entry. group_list entry.0 (group_at c.args.self.now entry.1) in
    let entry : ℕ × ℕ = (c.in-Some.key_length, c.in-Some.place) in (
      came_on (entries c.args.self.now.lengths.map) c.lengths.yielded c.lengths.key_length-iterator c.next.new.self entry c.lengths.invariant.0 c.in-Some.ensures.steps,
      listed_on part (entries_in c.args.list.now.items) (entries_in c.lengths.list.items) (entries_in c.list_group.new.list.items) c.lengths.yielded entry
          c.lengths.invariant.1 c.in_ok-list_group.ensures,
    )

pub returns : goal.returns
returns c =
    let part : ℕ × ℕ → Pairs = λ entry. group_list entry.0 (group_at c.args.self.now entry.1) in
    let all = came_all (entries c.args.self.now.lengths.map) c.lengths.yielded c.lengths.key_length-iterator c.lengths.invariant.0 c.in-None.ensures.steps.0 in
    c.lengths.invariant.1 ∙ ap (λ came. entries_in c.args.list.now.items ++ flat_map part came) all

pub list_group-requires : goal.list_group-requires
list_group-requires c =
    let map = c.args.self.now.lengths.map in
    let is = c.lengths.invariant.0 ∙ ap (λ left. c.lengths.yielded ++ left) c.in-Some.ensures.steps in
    c.requires c.in-Some.key_length c.in-Some.place (entry_held map c.lengths.yielded c.next.new.self c.in-Some.key_length c.in-Some.place is)
