use Rattle.std.proofs.Common.{ℕ, ◌++◌, sym, ap, ◌∙◌, None}
use Rattle.std.specs.FinMap.{FinMap, empty, entries}
use Rattle.judy_model.specs.Keys.{byte_order}
use Rattle.judy_model.specs.Arrays.{ArrayOf, with_map}
use Rattle.judy_model.proofs.lemmas.dumps.EntryLemmas.{sorted-Ascends}
use Rattle.judy_model.proofs.lemmas.maps.TableLemmas.{byte_order_total}
use Rattle.judy_sl.specs.Planted.{openers, followers}
use Rattle.judy_sl.specs.Sorted.{pairs_in, with_pairs}
use Rattle.judy_sl.proofs.lemmas.made.SortedRuns.{pairs-ascend, each-key}
use Rattle.judy_sl.proofs.lemmas.made.PairMaps.{entries-written}
use Rattle.judy_sl.proofs.lemmas.made.Openers.{opens_or_follows, opener_or_follower, written-append}
use Rattle.judy_sl.proofs.judysl.StringsOf.from_sorted.Goals as goal

pub of_openers-requires-clause-keys : goal.of_openers-requires-clause-keys
of_openers-requires-clause-keys g c = each-key g.L.KeyLength.IsKey None c.args.pairs.now c.in_ok-check_sorted.ensures.sorted.ascending

-- Those that open a first piece were put in, and then the others: these are all.
pub returns-in-Ok-put_followers-clause-pairs : goal.returns-in-Ok-put_followers-clause-pairs
returns-in-Ok-put_followers-clause-pairs g c =
    let pairs = pairs_in c.args.pairs.now in
    let sorted = sorted-Ascends byte_order byte_order_total None pairs (pairs-ascend g.L.KeyLength.IsKey None c.args.pairs.now c.in_ok-check_sorted.ensures.sorted.ascending) in
    ap (λ (array : ArrayOf byte_order). entries array.map) (c.in-Ok-put_followers.ensures ∙ ap (λ (array : ArrayOf byte_order). with_map array (with_pairs array.map (followers 0 pairs)))
    c.in-Ok.ensures)
    ∙ ap (λ (map : FinMap byte_order ℕ). entries map) (sym (written-append (openers 0 pairs) (followers 0 pairs) empty))
    ∙ entries-written pairs sorted (openers 0 pairs ++ followers 0 pairs) (opens_or_follows pairs 0) (opener_or_follower pairs 0)
