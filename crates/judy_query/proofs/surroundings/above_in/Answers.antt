use Rattle.std.proofs.Common.{◌+◌, ◌^◌, sym, arith}
use Rattle.std.proofs.Math.Nat.{pow-le-pow_right}
use Rattle.judy_node.specs.Views.{view_pairs}
use Rattle.judy_query.specs.Parts.{width_of}
use Rattle.judy_query.proofs.NearFacts.{from_end}
use Rattle.judy_query.proofs.surroundings.above_in.Goals as goal

pub returns-then-key-eq18446744073709551615 : goal.returns-then-key-eq18446744073709551615
returns-then-key-eq18446744073709551615 g c =
    let shown = c.requires.shown in
    let view = c.args.view.now in
    let last = c.if-key-eq18446744073709551615.true in
    let most = pow-le-pow_right {n = 256} (omega arith) shown.narrow in
    sym (from_end g.V.Words.WORDS 0 (256 ^ width_of view) (view_pairs view) (c.args.key + 1) shown.map (omega (arith, last, most)))
