use Rattle.std.proofs.Common.{◌≡◌, ℕ, List, length, sym, ap, subst, ◌∙◌, arith}
use Rattle.judy_sl.specs.declared.arena.Arena.{Arena}
use Rattle.judy_sl.specs.Children.{Child, Tail, IsTaken}
use Rattle.judy_sl.specs.Arenas.{child_at}
use Rattle.judy_sl.specs.Grown.{IsPut}
use Rattle.judy_sl.specs.Shrunk.{IsVacated}
use Rattle.judy_sl.proofs.lemmas.moves.Settled.{placed-entry, led-taken, tail-settled}
use Rattle.judy_sl.proofs.arena.Arena.move_tail.Goals as goal

same_tail : (child : Child) (one other : List ℕ × ℕ) → child ≡ Tail one → child ≡ Tail other → one ≡ other
same_tail child one other is are = let both : Tail one ≡ Tail other = sym is ∙ are in cc

put_same : {before placed : Arena} {to value : ℕ} {bytes : List ℕ} (held : List ℕ) → bytes ≡ held → IsPut before placed (Tail ((bytes, value))) to →
    IsPut before placed (Tail ((held, value))) to
put_same {before} {placed} {to} {value} held same is = subst (λ bytes. IsPut before placed (Tail ((bytes, value))) to) same is

pub lead-requires : goal.lead-requires
lead-requires c =
    let read = c.read_tail-value.ensures.tail in
    let rest : List ℕ × ℕ = (read.0, c.read_tail-value.result.0) in
    let same = ap (λ (pair : List ℕ × ℕ). length pair.0) (same_tail (child_at c.args.self.now c.args.at) c.requires.free.rest rest c.requires.free.stands read.1) in
    let few = c.requires.free.free.few in
    let bytes = read.3 (omega (arith, same, few)) in
    placed-entry c.args.self.now c.requires.kept c.args.from c.args.at c.in-Ok.to c.requires.entry rest read.1 c.put_tail.new.self (put_same read.0 bytes c.in-Ok.ensures.put)

pub vacate-requires : goal.vacate-requires
vacate-requires c =
    let read = c.read_tail-value.ensures.tail in
    let rest : List ℕ × ℕ = (read.0, c.read_tail-value.result.0) in
    let same = ap (λ (pair : List ℕ × ℕ). length pair.0) (same_tail (child_at c.args.self.now c.args.at) c.requires.free.rest rest c.requires.free.stands read.1) in
    let few = c.requires.free.free.few in
    let bytes = read.3 (omega (arith, same, few)) in
    record {
      taken = subst (λ (arena : Arena). IsTaken (child_at arena c.args.at)) (sym c.lead.ensures)
          (led-taken c.args.self.now c.requires.kept c.args.from c.args.at c.in-Ok.to c.requires.entry rest read.1 c.put_tail.new.self (put_same read.0 bytes c.in-Ok.ensures.put));
    }

pub returns : goal.returns
returns c =
    let read = c.read_tail-value.ensures.tail in
    let rest : List ℕ × ℕ = (read.0, c.read_tail-value.result.0) in
    let same = ap (λ (pair : List ℕ × ℕ). length pair.0) (same_tail (child_at c.args.self.now c.args.at) c.requires.free.rest rest c.requires.free.stands read.1) in
    let few = c.requires.free.free.few in
    let bytes = read.3 (omega (arith, same, few)) in
    tail-settled c.args.self.now c.requires.kept c.args.from c.args.at c.in-Ok.to c.requires.entry rest read.1 c.put_tail.new.self (put_same read.0 bytes c.in-Ok.ensures.put)
    c.vacate.new.self (subst (λ (arena : Arena). IsVacated arena c.vacate.new.self c.args.at) c.lead.ensures c.vacate.ensures.vacated)
