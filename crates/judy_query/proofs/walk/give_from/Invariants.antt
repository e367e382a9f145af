use Rattle.std.proofs.Common.{◌≡◌, ℕ, ◌+◌, ◌-◌, ◌*◌, ◌^◌, ◌≤◌, ◌++◌, length}
use Rattle.judy_model.specs.WordBytes.{number_of}
use Rattle.judy_bits.specs.ByteSets.{rank}
use Rattle.judy_leaf.specs.KeyLists.{shift}
use Rattle.judy_node.specs.Trees.{Pairs}
use Rattle.judy_query.specs.Givings.{AreGiven}
use Rattle.judy_query.specs.Walks.{waiting}
use Rattle.judy_query.proofs.Splits.{rest_of}
use Rattle.judy_query.proofs.walk.give_from.Given as goal

abbrev pub invariant-loop-count : goal.invariant-loop-count
invariant-loop-count g l =
    let b = l.fn.turn.branch.now in
    let left : ℕ → Pairs = λ n. shift l.fn.turn.base (rest_of (256 ^ b.width) (number_of b.skip * 256) b.bytes b.children.items n) ++ waiting l.fn.turns.items in
    record {
      inside : l.place ≤ length b.children.items;
      first : l.place ≡ rank b.bytes l.edge;
      given : AreGiven g.E.FromPair.made (left l.fn.turn.place) (left l.place) l.fn.out l.out l.count;
      visits : l.meter ≤ l.fn.meter + l.count;
      no_fewer : l.fn.meter ≤ l.meter;
      moved : l.count ≡ 0 → l.place ≡ l.fn.turn.place;
      turns : l.turns.items ≡ l.fn.turns.items;
    }

abbrev pub decreases-loop-count : goal.decreases-loop-count
decreases-loop-count g l = length l.fn.turn.branch.now.children.items - l.place
