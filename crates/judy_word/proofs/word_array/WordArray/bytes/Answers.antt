use Rattle.std.proofs.Common.{◌^◌, ap, arith, length}
use Rattle.std.specs.FinMap.{len}
use Rattle.judy_query.proofs.Links.{len_is}
use Rattle.judy_word.proofs.word_array.WordArray.bytes.Goals as goal

pub returns : goal.returns
returns g c few =
    let tree = c.tree-tree.result.now.tree in
    let map = ap (λ a. len a.map) c.tree-tree.ensures in
    let long = len_is g.V.Words.WORDS (256 ^ 8) tree.pairs c.law.ensures.node.map in
    let same = ap (λ t. length t.pairs) c.root.ensures in
    let none = c.bytes.ensures (omega arith) in
    omega arith
