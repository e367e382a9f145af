use Rattle.std.proofs.Common.{◌+◌, ◌<◌, length, get_or, refl, sym, ap, ◌∙◌, arith}
use Rattle.std.proofs.lemmas.Bool.Decides.{nat_tests}
use Rattle.std.proofs.lemmas.Option.{slice_get-get_or}
use Rattle.judy_bits.specs.ByteSets.{rank, next_from}
use Rattle.judy_bits.proofs.SetLemmas.{rank_at}
use Rattle.judy_leaf.specs.KeyLists.{keys_of}
use Rattle.judy_leaf.proofs.LeafLists.{length-keys_of}
use Rattle.judy_leaf.proofs.Fills.{written_more, all_made}
use Rattle.judy_leaf.proofs.NextKeys.{rank_behind, next_there, next_key, key_there}
use Rattle.judy_leaf.proofs.bit_ref.BitRef.fill_from.Goals as goal

pub loop-place-init : goal.loop-place-init
loop-place-init g c =
    let keys = keys_of c.args.self.now.pairs in
    let inside = c.requires.inside in
    let some : 0 < length c.args.out.now = grind (arith, nat_tests) in
    let long = length-keys_of c.args.self.now.pairs in
    let ranked = ap (rank keys) c.key_at.ensures.key ∙ rank_at keys c.len-count.ensures.is_set.ascending c.args.at (get_or keys c.args.at 0) (slice_get-get_or keys c.args.at 0 (omega arith)) in
    record { written = refl; left = (c.key_at.result, c.left_from-word.ensures, ranked ∙ omega arith) }

pub take_next-key-requires-clause-some : goal.take_next-key-requires-clause-some
take_next-key-requires-clause-some g c =
    let pairs = c.args.self.now.pairs in
    let left = c.loop-place.invariant.left in
    let ranked = left.2 in
    let inside = c.loop-place-test.true in
    let room = c.requires.inside in
    let most = c.loop-place.auto.place-end in (
      left.0,
      left.1,
      get_or (keys_of pairs) (rank (keys_of pairs) left.0) 0,
      ap (λ keys. next_from keys left.0) c.bit_words-words.ensures.keys ∙ next_there pairs c.len-count.ensures.is_set.ascending left.0 (omega arith),
    )

pub loop-place-preserved : goal.loop-place-preserved
loop-place-preserved g c =
    let inside = c.loop-place-test.true in
    let room = c.requires.inside in
    let long = c.loop-place.auto.out in
    let n = c.args.at + c.loop-place.place in
    let pairs = c.args.self.now.pairs in
    let left = c.loop-place.invariant.left in
    let ranked = left.2 in
    let ascending = c.len-count.ensures.is_set.ascending in
    let told = c.take_next-key.ensures.next left.0 left.1 in
    let there = next_key pairs ascending left.0 (omega arith) c.take_next-key.result (ap (λ keys. next_from keys left.0) (sym c.bit_words-words.ensures.keys) ∙ told.0) in
    let key = key_there pairs n (rank (keys_of pairs) left.0) c.take_next-key.result ranked (omega arith) there in
    record {
      written = written_more g.E.FromPair.made c.args.base pairs c.args.at c.loop-place.place c.loop-place.out c.from_pair.result (omega arith) (omega arith)
          (c.from_pair.ensures ∙ (λ t. g.E.FromPair.made (c.args.base + key t) (c.value_at.ensures t))) c.loop-place.invariant.written;
      left = (c.take_next-key.result + 1, told.1, rank_behind (keys_of pairs) (rank (keys_of pairs) left.0) c.take_next-key.result ascending there ∙ ap (λ n. n + 1) ranked ∙ omega arith);
    }

pub returns : goal.returns
returns g c =
    let past = c.loop-place-test.false in
    let most = c.loop-place.auto.place-end in
    all_made g.E.FromPair.made c.args.base c.args.at c.loop-place.place (length c.args.out.now) c.args.self.now.pairs c.loop-place.out (omega arith)
    (c.loop-place.auto.out ∙ omega arith) c.loop-place.invariant.written
