use Rattle.std.proofs.Common.{◌≡◌, ◌^◌, ◌++◌, length, take, drop, ap, ◌∙◌, arith}
use Rattle.std.proofs.lemmas.List.{drop_all, append-nil}
use Rattle.judy_leaf.specs.Fills.{made_of}
use Rattle.judy_query.specs.Maps.{map_of}
use Rattle.judy_sets.specs.Downward.{on_from}
use Rattle.judy_word.proofs.IterFacts.{pairs_from}
use Rattle.judy_sets.proofs.downward.fill_up.Goals as goal

pub returns : goal.returns
returns g c = λ enough.
    let made = g.E.FromPair.made in
    let before = c.args.out.now in
    let same = c.from_key.ensures.pairs ∙ pairs_from g.V.Words.WORDS (256 ^ 8) c.args.root.now.pairs c.law.ensures.map c.args.from in
    let long = ap length same in
    let whole : c.fill.result ≡ length before = omega (arith, c.fill.ensures.most, long, enough) in
    c.fill.ensures.given.out
    ∙ (λ t. made_of made (take (whole t) (same t)) ++ drop (whole t) before)
    ∙ ap (λ rest. made_of made (take (length before) (on_from (map_of c.args.root.now.pairs) c.args.from)) ++ rest) (drop_all (length before) before (omega arith))
    ∙ append-nil (made_of made (take (length before) (on_from (map_of c.args.root.now.pairs) c.args.from)))
