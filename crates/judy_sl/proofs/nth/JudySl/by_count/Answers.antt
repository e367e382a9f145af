use Rattle.std.proofs.Common.{◌∙◌, ℕ, List, length, inl, inr, unwrap_or, sym, ap, arith}
use Rattle.judy_sl.specs.Arenas.{map_of}
use Rattle.judy_sl.specs.Scans.{value_found}
use Rattle.judy_sl.proofs.lemmas.places.Nths.{nth_counted, nth_none}
use Rattle.judy_sl.proofs.nth.JudySl.by_count.Goals as goal
use Rattle.judy_sl.proofs.nth.JudySl.by_count.Goals.{then-n-eq0-via-then-n-eq0, then-n-eq0-via-else-n-eq0+then-n-len}

pub returns-then-n-eq0-clause-key : goal.returns-then-n-eq0-clause-key
returns-then-n-eq0-clause-key c = elim c.then-n-eq0.branch [
  | then-n-eq0-via-then-n-eq0 w ↦ (nth_none c.args.self.now.map c.args.n c.args.key.now.items (inl w.if-n-eq0.true)).0
  | then-n-eq0-via-else-n-eq0+then-n-len w ↦ let all = w.len.ensures.count in let more = w.if-n-len.true in
      (nth_none c.args.self.now.map c.args.n c.args.key.now.items (inr (omega (arith, all, more)))).0
]

pub returns-then-n-eq0-clause-value : goal.returns-then-n-eq0-clause-value
returns-then-n-eq0-clause-value c = elim c.then-n-eq0.branch [
  | then-n-eq0-via-then-n-eq0 w ↦ (nth_none c.args.self.now.map c.args.n c.args.key.now.items (inl w.if-n-eq0.true)).1
  | then-n-eq0-via-else-n-eq0+then-n-len w ↦ let all = w.len.ensures.count in let more = w.if-n-len.true in
      (nth_none c.args.self.now.map c.args.n c.args.key.now.items (inr (omega (arith, all, more)))).1
]

pub nth-requires-clause-none : goal.nth-requires-clause-none
nth-requires-clause-none c = (c.new-end.ensures.len ∙ ap length c.clear.ensures, λ fits. ap (λ (b : _). b.items) c.new-end.ensures.bytes ∙ c.clear.ensures)

pub returns : goal.returns
returns c =
    let map = map_of c.self.inside.arena in
    let got = c.nth.ensures.found in
    let owner = ap (λ (all : List ℕ × ℕ × ℕ). all.2) (c.nth.ensures.beyond c.nth.new.key.len (omega arith)) ∙ c.new-end.ensures.same in
    let short = c.self.invariant.0.short got.bytes got.are.value got.are.held in
    let most = c.self.invariant.0.longest_fits in
    let bytes = ap (λ (b : _). b.items) (c.key-1.given.1 (sym owner)) ∙ got.given.1 (omega (arith, short, most)) in
    let found = nth_counted map c.args.n c.if-n-eq0.false got.bytes got.are.at in
    record {
      key = rw (← c.self.view_is) (bytes ∙ sym (ap (λ one. unwrap_or one c.args.key.now.items) found));
      value = rw (← c.self.view_is) (got.are.answer ∙ sym got.are.held ∙ sym (ap (value_found map) found));
    }
