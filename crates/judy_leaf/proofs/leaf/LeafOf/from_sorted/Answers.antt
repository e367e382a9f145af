use Rattle.std.proofs.Common.{◌*◌, ◌^◌, length, ap, sym, subst, ◌∙◌}
use Rattle.std.specs.List.Sorted.{IsStrictlySortedBy}
use Rattle.judy_model.specs.Keys.{word_order}
use Rattle.judy_leaf.specs.KeyLists.{keys_of, low_pairs}
use Rattle.judy_leaf.specs.Leaves.{AreKeysFrom, keys_from}
use Rattle.judy_leaf.proofs.LeafLists.{keys_of-pairs_of}
use Rattle.judy_leaf.proofs.leaf.LeafOf.from_sorted.Goals as goal

pub invariant_of-result : goal.invariant_of-result
invariant_of-result g c =
    let n = length c.args.pairs.now in
    let block = c.put_all.new.block in
    let put = c.put_all.ensures in
    record {
      one = c.requires.words;
      keys = subst (λ w. AreKeysFrom w n (g.V.Words.WORDS * n) block) (sym put.tag) put.keys;
      ascending =
          subst (IsStrictlySortedBy word_order) (sym (sym (keys_of-pairs_of (keys_from block.tag n (g.V.Words.WORDS * n) block) _) ∙ ap keys_of put.pairs ∙
          ap (λ w. keys_of (low_pairs (256 ^ w) c.args.pairs.now)) c.from-2.ensures)) c.requires.list.ascending;
    }
