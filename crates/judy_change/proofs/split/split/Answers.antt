use Rattle.std.proofs.Common.{◌≡◌, ℕ, ◌+◌, ◌-◌, ◌*◌, ◌/◌, ◌%◌, ◌^◌, ◌<◌, length, sym, ap, ◌∙◌, subst, arith}
use Rattle.std.proofs.lemmas.Nat.{mod_below}
use Rattle.judy_model.specs.WordBytes.{number_of}
use Rattle.judy_model.proofs.lemmas.orders.ByteLemmas.{unit_pos, length-low_bytes}
use Rattle.judy_bits.specs.ByteSets.{has}
use Rattle.judy_node.specs.Trees.{IsChild, branch_tree}
use Rattle.judy_node.specs.Populations.{AreSums}
use Rattle.judy_node.specs.Kinds.{tree_of}
use Rattle.judy_node.proofs.Shaped.{branch-child}
use Rattle.judy_change.specs.Splits.{IsAbove}
use Rattle.judy_change.proofs.Shorter.{number_small}
use Rattle.judy_change.proofs.SplitFacts.{other_small, split_key, split_absent, split_added}
use Rattle.judy_change.proofs.split.split.Given.{Over}
use Rattle.judy_change.proofs.split.split.Goals.{After-low_part}
use Rattle.judy_change.proofs.split.split.Goals as goal

pub left_of_apart-left-requires-clause-own : goal.left_of_apart-left-requires-clause-own
left_of_apart-left-requires-clause-own g c = number_small g.V.Words.WORDS c.args.skipped.number c.args.skipped.count c.args.skipped.tail c.args.kind c.requires.level c.requires.skips

pub left_of_apart-left-requires-clause-other : goal.left_of_apart-left-requires-clause-other
left_of_apart-left-requires-clause-other g c =
    other_small c.args.pair.key c.args.skipped.count c.args.skipped.tail c.without_low-other.result c.requires.fits (c.without_low-other.ensures ∙ ap (λ n. c.args.pair.key / 256 ^ n) c.from.ensures)

-- The branch above both, and what stands in the key behind the bytes that it skips.
module _ (g : Over) (c : After-low_part g) where
  abbrev number : ℕ
  number = c.args.skipped.number

  abbrev count : ℕ
  count = c.args.skipped.count

  abbrev tail : ℕ
  tail = c.args.skipped.tail

  abbrev left : ℕ
  left = c.left_of_apart-left.result

  other_is : c.without_low-other.result ≡ c.args.pair.key / 256 ^ tail
  other_is = c.without_low-other.ensures ∙ ap (λ n. c.args.pair.key / 256 ^ n) c.from.ensures

  width_is : c.from-2.result + c.from-3.result ≡ left + tail
  width_is = λ t. c.from-2.ensures t + c.from-3.ensures t

  byte_is : c.low_part-byte.result ≡ c.args.pair.key / 256 ^ (left + tail) % 256
  byte_is = c.low_part-byte.ensures ∙ ap (λ n. n % 256) (c.without_low.ensures ∙ ap (λ n. c.args.pair.key / 256 ^ n) width_is)

  rest_is : c.low_part.result ≡ c.args.pair.key % 256 ^ (left + tail)
  rest_is = c.low_part.ensures ∙ ap (λ n. c.args.pair.key % 256 ^ n) width_is

  above_is : IsAbove g.V.Words.WORDS number count tail left (tree_of g.V.Words.WORDS c.args.kind) c.deref_mut.result.now.width c.deref_mut.result.now.skip
      c.deref_mut.result.now.bytes c.deref_mut.result.now.children.items c.deref_mut.result.now.population
  above_is =
      subst (λ b. IsAbove g.V.Words.WORDS number count tail left (tree_of g.V.Words.WORDS c.args.kind) b.width b.skip b.bytes b.children.items b.population)
      (sym c.deref_mut.ensures.value) c.in-Ok.ensures.above

pub put_key-requires-clause-absent : goal.put_key-requires-clause-absent
put_key-requires-clause-absent g c =
    let found = c.left_of_apart-left.ensures in
    (λ t. has ((above_is g c).bytes_are t) (byte_is g c t))
    ∙ split_absent (number g c) (count g c) (tail g c) (left g c) c.args.pair.key c.without_low-other.result c.requires.fits (other_is g c) found.within found.apart found.same

pub put_key-requires-clause-fits : goal.put_key-requires-clause-fits
put_key-requires-clause-fits g c =
    let width = left g c + tail g c in
    subst (λ w. c.low_part.result < 256 ^ w) (sym (above_is g c).width_is) (subst (λ n. n < 256 ^ width) (sym (rest_is g c)) (mod_below c.args.pair.key (256 ^ width) (unit_pos width)))

pub returns-in-Ok : goal.returns-in-Ok
returns-in-Ok g c =
    let words = g.V.Words.WORDS in
    let at = (goal.at.returns-in-Ok g c).After-low_part in
    let number = c.args.skipped.number in
    let count = c.args.skipped.count in
    let tail = c.args.skipped.tail in
    let left = c.left_of_apart-left.result in
    let found = c.left_of_apart-left.ensures in
    let now = c.deref_mut.result.now in
    let above = above_is g at in
    let n = c.put_key.new.branch in
    let within = found.within in
    let long = length-low_bytes (count - left - 1) (number / 256 ^ (left + 1)) in
    let skip = ap length (c.put_key.ensures.skip ∙ above.skip_is) in
    let wide = c.put_key.ensures.width ∙ above.width_is in
    let e : length n.skip + 1 + n.width ≡ count + tail = omega arith in
    let key_is : (number_of now.skip * 256 + c.low_part-byte.result) * 256 ^ now.width + c.low_part.result ≡ c.args.pair.key =
    (λ t. (number_of (above.skip_is t) * 256 + byte_is g at t) * 256 ^ above.width_is t + rest_is g at t)
    ∙ split_key number count tail left c.args.pair.key c.without_low-other.result c.requires.fits (other_is g at) found.within found.apart found.same in
    record {
      level = (c.put_key.ensures.level, subst (λ s. AreSums s n.children.items) (sym (c.put_key.ensures.sums ∙ ap (λ b. b.sums) c.deref_mut.ensures.value)) (c.in-Ok.ensures.sums n.children.items));
      child =
          subst (λ w. IsChild words w (branch_tree n.width n.skip n.bytes n.children.items n.population)) e
          (branch-child words n.width n.skip n.bytes n.children.items n.population c.put_key.ensures.level);
      inserted = split_added words number count tail left (tree_of words c.args.kind) now.width now.skip now.bytes now.children.items now.population above
          ((number_of now.skip * 256 + c.low_part-byte.result) * 256 ^ now.width + c.low_part.result) c.args.pair.key c.args.pair.value key_is
          n.width n.skip n.bytes n.children.items n.population c.put_key.ensures.added c.put_key.ensures.population c.put_key.ensures.wider c.put_key.ensures.loose;
    }
