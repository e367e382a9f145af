use Rattle.std.proofs.Common.{◌≡◌, ◌≢◌, ◌++◌, [], ℕ, map, All}
use Rattle.std.specs.FinMap.{entries}
use Rattle.judy_hs.specs.LongGroups.{chain_at}
use Rattle.judy_hs.proofs.long_group.LongGroup.places.Given as goal

-- the places of the hashes that came are listed, and a key stands at each
abbrev pub invariant-hashes : goal.invariant-hashes
invariant-hashes l = record {
  came : entries l.self.hashes.map ≡ l.yielded ++ l.place-iterator;
  listed : l.places.items ≡ map (λ (entry : ℕ × ℕ). entry.1) l.yielded;
  used : All (λ place. chain_at l.self place ≢ []) l.places.items;
}
