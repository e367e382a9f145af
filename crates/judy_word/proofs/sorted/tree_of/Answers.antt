use Rattle.std.proofs.Common.{◌≡◌, ◌∙◌, sym, ap, subst, arith}
use Rattle.std.specs.List.{AllByRecursion}
use Rattle.judy_leaf.specs.KeyLists.{keys_of, values_of}
use Rattle.judy_word.specs.Sorted.{IsSorted}
use Rattle.judy_word.proofs.SortedFacts.{keys_kept, values_kept}
use Rattle.judy_word.proofs.sorted.tree_of.Goals as goal

pub from_sorted-requires : goal.from_sorted-requires
from_sorted-requires g c =
    let paired = c.deref.ensures.value ∙ c.in-Ok.ensures in (
      omega arith,
      (
        c.requires.one,
        (
          c.requires.some,
          (
            subst (IsSorted c.args.limit) (sym (keys_kept g.K.Keyed.key_of g.K.Keyed.value_of c.args.items.now) ∙ sym (ap keys_of paired)) c.in_ok-check_sorted.ensures.sorted,
            λ none. subst (AllByRecursion (λ value. value ≡ 0)) (sym (values_kept g.K.Keyed.key_of g.K.Keyed.value_of c.args.items.now) ∙ sym (ap values_of paired)) (c.requires.no_values none),
          ),
        ),
      ),
    )
