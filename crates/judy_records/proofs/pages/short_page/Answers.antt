use Rattle.std.proofs.Common.{◌≡◌, ◌^◌, ◌≤◌, ◌<◌, arith, subst, sym}
use Rattle.std.proofs.Math.Nat.{mod-eq_of_lt}
use Rattle.std.proofs.Math.Pow.{pow_mono}
use Rattle.std.proofs.lemmas.Nat.{pow_pos}
use Rattle.judy_records.proofs.pages.short_page.Goals as goal

pub returns-clause-value : goal.returns-clause-value
returns-clause-value c = (let most = pow_mono c.requires in let is = mod-eq_of_lt {n = 2 ^ c.args.shift} {m = 18446744073709551616} (omega (arith, most)) in omega (arith, is))

pub returns-clause-some : goal.returns-clause-some
returns-clause-some c = (let most = pow_mono c.requires in let some = pow_pos c.args.shift in let is = mod-eq_of_lt {n = 2 ^ c.args.shift} {m = 18446744073709551616} (omega
    (arith, most)) in omega (arith, is, some))

pub returns-clause-most : goal.returns-clause-most
returns-clause-most c = (let most = pow_mono c.requires in let is = mod-eq_of_lt {n = 2 ^ c.args.shift} {m = 18446744073709551616} (omega (arith, most)) in omega (arith, is, most))
