-- Parts of trees, and parts of these: what they make of a search.
use Rattle.std.proofs.Common.{◌≡◌, ℕ, ◌+◌, [], ◌++◌, sym, ap, ◌∙◌, arith}
use Rattle.std.proofs.lemmas.List.{append_assoc, append-nil}
use Rattle.judy_leaf.specs.KeyLists.{shift}
use Rattle.judy_node.specs.Trees.{Pairs, IsMap}
use Rattle.judy_node.proofs.Maps.{map-wider, map-shift, map-append, shift-append, shift-shift, shift-zero}
use Rattle.judy_query.specs.Parts.{IsPart}

-- A tree is a part of itself.
pub whole_part : (words top base : ℕ) (tree : Pairs) → base ≡ 0 → IsMap words 0 top tree → IsPart words top tree base top tree [] []
whole_part words top base tree zero map = record {
  fits = omega arith;
  same = sym (append-nil (shift base tree) ∙ shift-zero base tree zero);
  before = tt;
  after = tt;
}

regroup : (a b c d e : Pairs) → a ++ ((b ++ (c ++ d)) ++ e) ≡ (a ++ b) ++ (c ++ (d ++ e))
regroup a b c d e =
    ap (λ rest. a ++ rest) (append_assoc b (c ++ d) e ∙ ap (λ rest. b ++ rest) (append_assoc c d e))
    ∙ sym (append_assoc a b (c ++ (d ++ e)))

spread : (base at both : ℕ) (front inner back : Pairs) → both ≡ base + at → shift base (front ++ (shift at inner ++ back)) ≡ shift base front ++ (shift both inner ++ shift base back)
spread base at both front inner back sum =
    shift-append base front (shift at inner ++ back)
    ∙ ap (λ rest. shift base front ++ rest) (shift-append base (shift at inner) back ∙ ap (λ first. first ++ shift base back) (shift-shift base at both inner sum))

-- A part of a part is a part of the tree.
pub part_of_part : (words top : ℕ) (tree : Pairs) (base unit at small both : ℕ) (pairs front back inner before behind : Pairs) → both ≡ base + at
    → IsPart words top tree base unit pairs front back → IsPart words unit pairs at small inner before behind
    → IsPart words top tree both small inner (front ++ shift base before) (shift base behind ++ back)
part_of_part words top tree base unit at small both pairs front back inner before behind sum outer deep =
    let fits = outer.fits in
    let within = deep.fits in
    record {
      fits = omega arith;
      same = outer.same ∙ ap (λ ps. front ++ (ps ++ back)) (ap (shift base) deep.same ∙ spread base at both before inner behind sum)
          ∙ regroup front (shift base before) (shift both inner) (shift base behind) back;
      before = map-append words 0 base both front (shift base before) (omega arith) (omega arith) outer.before
          (map-wider words (base + 0) (base + at) base both (shift base before) (omega arith) (omega arith) (map-shift words 0 at base before deep.before));
      after = map-append words (both + small) (base + unit) top (shift base behind) back (omega arith) (omega arith)
          (map-wider words (base + (at + small)) (base + unit) (both + small) (base + unit) (shift base behind) (omega arith) (omega arith) (map-shift words (at + small) unit base behind deep.after))
          outer.after;
    }
