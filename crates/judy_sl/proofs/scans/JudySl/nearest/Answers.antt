use Rattle.std.proofs.Common.{◌≢◌, ◌≤◌, ◌∙◌, ℕ, List, length, sym, ap, subst, arith}
use Rattle.std.specs.List.{All}
use Rattle.judy_model.specs.declared.keys.TheConstants.{LONGEST_KEY}
use Rattle.judy_sl.specs.Pieces.{IsText}
use Rattle.judy_sl.specs.Arenas.{world_of, map_of}
use Rattle.judy_sl.proofs.lemmas.pieces.Strings.{within-more}
use Rattle.judy_sl.specs.Scans.{value_in, IsScanned}
use Rattle.judy_sl.proofs.lemmas.scans.Fronts.{neighbour-fits}
use Rattle.judy_sl.proofs.lemmas.scans.ScanMaps.{scanned}
use Rattle.judy_sl.proofs.scans.JudySl.nearest.Goals as goal

pub neighbour-requires-clause-whole : goal.neighbour-requires-clause-whole
neighbour-requires-clause-whole c = c.new-end.ensures.len ∙ ap (λ (b : _). length b.items) (sym c.new-end.ensures.bytes)

pub neighbour-requires-clause-without_zero : goal.neighbour-requires-clause-without_zero
neighbour-requires-clause-without_zero c = subst (λ (bytes : List ℕ). All (λ byte. byte ≢ 0) bytes) (ap (λ (b : _). b.items) (sym c.new-end.ensures.bytes)) c.requires

pub returns-in-Some : goal.returns-in-Some
returns-in-Some c =
    let look = c.args.look in
    let arena = c.self.inside.arena in
    let key = c.args.key.now.items in
    let seen = ap (λ (b : _). b.items) c.new-end.ensures.bytes in
    let got = c.neighbour.ensures.found in
    let are = subst (λ (bytes : List ℕ). IsScanned look (world_of arena) bytes c.neighbour.result got.bytes) seen got.are in
    let text = subst IsText seen c.neighbour.ensures.is_text in
    let most = subst (λ (bytes : List ℕ). length bytes ≤ LONGEST_KEY) seen c.neighbour.ensures.within in
    let short = within-more (map_of arena) c.self.invariant.0.short c.self.invariant.0.longest_fits in
    let fits = neighbour-fits look arena LONGEST_KEY short key got.bytes (value_in c.neighbour.result) most are.0 in
    let owner = ap (λ (all : List ℕ × ℕ × ℕ). all.2) (c.neighbour.ensures.beyond c.neighbour.new.key.len (omega arith)) ∙ c.new-end.ensures.same in
    let found = scanned look arena key text got.bytes (value_in c.neighbour.result) are.0 in
    record {
      key = rw (← c.self.view_is) (ap (λ (b : _). b.items) (c.key-1.given.1 (sym owner)) ∙ got.given.1 fits ∙ found.0);
      value = rw (← c.self.view_is) (ap value_in (sym c.in-Some.is) ∙ found.1);
    }

pub returns-in-None : goal.returns-in-None
returns-in-None c =
    let look = c.args.look in
    let arena = c.self.inside.arena in
    let key = c.args.key.now.items in
    let seen = ap (λ (b : _). b.items) c.new-end.ensures.bytes in
    let got = c.neighbour.ensures.found in
    let are = subst (λ (bytes : List ℕ). IsScanned look (world_of arena) bytes c.neighbour.result got.bytes) seen got.are in
    let text = subst IsText seen c.neighbour.ensures.is_text in
    let most = subst (λ (bytes : List ℕ). length bytes ≤ LONGEST_KEY) seen c.neighbour.ensures.within in
    let short = within-more (map_of arena) c.self.invariant.0.short c.self.invariant.0.longest_fits in
    let fits = neighbour-fits look arena LONGEST_KEY short key got.bytes (value_in c.neighbour.result) most are.0 in
    let owner = ap (λ (all : List ℕ × ℕ × ℕ). all.2) (c.neighbour.ensures.beyond c.neighbour.new.key.len (omega arith)) ∙ c.new-end.ensures.same in
    let found = scanned look arena key text got.bytes (value_in c.neighbour.result) are.0 in
    record {
      key = rw (← c.self.view_is) (ap (λ (b : _). b.items) (c.key-1.given.1 (sym owner)) ∙ got.given.1 fits ∙ found.0);
      value = rw (← c.self.view_is) (ap value_in (sym c.in-None.is) ∙ found.1);
    }
