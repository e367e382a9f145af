use Rattle.std.proofs.Common.{◌≡◌, ℕ, ◌+◌, ◌*◌, ◌-◌, List, length, take, drop, ap, arith}
use Rattle.std.specs.List.{sum}
use Rattle.std.proofs.lemmas.List.{length-drop, take_all, take_rest}
use Rattle.std.proofs.lemmas.List.Sums.{sum_by-take-le}
use Rattle.judy_sums.proofs.GroupLemmas.{first_parts}
use Rattle.judy_sums.proofs.groups.sum_of_group.Goals as goal

pub sum-requires : goal.sum-requires
sum-requires c =
    let parts = first_parts c.args.numbers.now (64 * c.args.group) (length c.args.numbers.now) (omega arith) in
    let all = sum_by-take-le (λ (number : ℕ). number) c.args.numbers.now (length c.args.numbers.now) in
    let fits = c.requires.fits in
    omega arith

pub returns-then-rest-lt-GROUP : goal.returns-then-rest-lt-GROUP
returns-then-rest-lt-GROUP c =
    let numbers = c.args.numbers.now in
    let parts = first_parts numbers (64 * c.args.group) (length numbers) c.requires.within in
    let rest = ap length (take_rest numbers (64 * c.args.group)) in
    let long = length-drop (64 * c.args.group) numbers in
    let short = c.if-rest-lt-GROUP.true in
    let all = ap sum (take_all (length numbers) numbers (omega arith)) in
    let whole = ap sum (take_all (64 * (c.args.group + 1)) numbers (omega arith)) in
    let is = c.sum.ensures in
    omega arith

pub sum-requires-2 : goal.sum-requires-2
sum-requires-2 c =
    let rest = take (length c.args.numbers.now - 64 * c.args.group) (drop (64 * c.args.group) c.args.numbers.now) in
    let parts = first_parts c.args.numbers.now (64 * c.args.group) (length c.args.numbers.now) c.requires.within in
    let all = sum_by-take-le (λ (number : ℕ). number) c.args.numbers.now (length c.args.numbers.now) in
    let some = sum_by-take-le (λ (number : ℕ). number) rest 64 in
    let fits = c.requires.fits in
    omega arith

pub returns : goal.returns
returns c =
    let numbers = c.args.numbers.now in
    let parts = first_parts numbers (64 * c.args.group) (64 * (c.args.group + 1)) (omega arith) in
    let many : 64 * (c.args.group + 1) - 64 * c.args.group ≡ 64 = omega arith in
    let group = ap (λ (n : ℕ). sum (take n (drop (64 * c.args.group) numbers))) many in
    let rest = ap (λ (all : List ℕ). sum (take 64 all)) (take_rest numbers (64 * c.args.group)) in
    let is = c.sum-2.ensures in
    omega arith
