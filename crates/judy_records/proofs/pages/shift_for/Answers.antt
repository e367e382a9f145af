use Rattle.std.proofs.Common.{arith}
use Rattle.judy_records.proofs.PageOf.{shift-0, shift-1, shift-2, shift-3, shift-4, shift-5, shift-6, shift-7, shift-8, shift-9}
use Rattle.judy_records.proofs.pages.shift_for.Goals as goal

pub returns-in-0 : goal.returns-in-0
returns-in-0 c = shift-9 c.args.size (omega (arith, c.in-0.is)) (omega (arith, c.in-0.is))

pub returns-in-1 : goal.returns-in-1
returns-in-1 c = shift-8 c.args.size (omega (arith, c.in-1.is)) (omega (arith, c.in-1.is))

pub returns-in-2-to-3 : goal.returns-in-2-to-3
returns-in-2-to-3 c = shift-7 c.args.size (omega arith) (omega arith)

pub returns-in-4-to-7 : goal.returns-in-4-to-7
returns-in-4-to-7 c = shift-6 c.args.size (omega arith) (omega arith)

pub returns-in-8-to-15 : goal.returns-in-8-to-15
returns-in-8-to-15 c = shift-5 c.args.size (omega arith) (omega arith)

pub returns-in-16-to-31 : goal.returns-in-16-to-31
returns-in-16-to-31 c = shift-4 c.args.size (omega arith) (omega arith)

pub returns-in-32-to-63 : goal.returns-in-32-to-63
returns-in-32-to-63 c = shift-3 c.args.size (omega arith) (omega arith)

pub returns-in-64-to-127 : goal.returns-in-64-to-127
returns-in-64-to-127 c = shift-2 c.args.size (omega arith) (omega arith)

pub returns-in-128-to-255 : goal.returns-in-128-to-255
returns-in-128-to-255 c = shift-1 c.args.size (omega arith) (omega arith)

pub returns-in_default : goal.returns-in_default
returns-in_default c = shift-0 c.args.size (omega arith)
