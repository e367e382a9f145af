use Rattle.std.proofs.Common.{ap, arith}
use Rattle.judy_model.specs.Keys.{byte_order}
use Rattle.judy_model.specs.Arrays.{ArrayOf}
use Rattle.judy_model.specs.Counts.{count}
use Rattle.judy_model.proofs.lemmas.queries.RankLemmas.{count-sub}
use Rattle.judy_model.proofs.lemmas.maps.TableLemmas.{byte_order_total}
use Rattle.judy_sl.specs.Arenas.{map_of}
use Rattle.judy_sl.proofs.lemmas.pieces.Strings.{string_of_key}
use Rattle.judy_sl.proofs.judysl.StringsOf.count.Goals as goal

pub count-requires-clause-from : goal.count-requires-clause-from
count-requires-clause-from g c = string_of_key g.L.KeyLength c.args.from.now c.requires.from

pub count-requires-clause-to : goal.count-requires-clause-to
count-requires-clause-to g c = string_of_key g.L.KeyLength c.args.to.now c.requires.to

pub returns : goal.returns
returns g c =
    let same = ap (λ (array : ArrayOf byte_order). count array.map c.args.from.now c.args.to.now) c.self.view_is in
    let all = count-sub byte_order_total (map_of c.self.inside.arena) c.args.from.now c.args.to.now in
    let between = c.count.ensures in
    omega arith
