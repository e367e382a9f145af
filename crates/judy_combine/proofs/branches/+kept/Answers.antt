use Rattle.std.proofs.Common.{◌≡◌, ◌+◌, ◌*◌, ◌%◌, ◌^◌, ◌<◌, cond, [], ◌∷◌, ◌++◌, Some, None, refl, sym, ap, ◌∙◌, subst, arith, eqb-true}
use Rattle.std.proofs.lemmas.Bool.{eqb-false}
use Rattle.std.proofs.lemmas.Option.{slice_get-get_or}
use Rattle.std.proofs.lemmas.Result.{IfOk-weaker}
use Rattle.judy_model.specs.WordBytes.{number_of}
use Rattle.judy_node.specs.Trees.{IsBranch, IsChild, branch_pairs}
use Rattle.judy_node.specs.Populations.{population}
use Rattle.judy_node.proofs.Counts.{population-append}
use Rattle.judy_node.proofs.Groups.{with_byte-push}
use Rattle.judy_query.proofs.BranchRooms.{bytes_ascend}
use Rattle.judy_query.proofs.Downs.{kid_is}
use Rattle.judy_combine.specs.Kept.{AreKept, IsKept, pairs_of, width_of, IsKeptAt, AreKeptTo}
use Rattle.judy_combine.proofs.KeptFacts.{stands, missing, kid_value, gap_value, at_both, at_left, at_right, value_as, place_inside, kid_tight, shown_below, shown_width}
use Rattle.judy_combine.proofs.KeptFacts.{kept_start, kept_gap, kept_nowhere, kept_end, kept_skip, kept_more, kept_as, made_none, made_branch, countable_low}
use Rattle.judy_combine.proofs.branches.+kept.Goals as goal
use Rattle.judy_combine.proofs.branches.+kept.Goals.{add_all-in-Some-2+in_ok-push, add_all-in_default-2}

-- ---- a branch

pub branch_kept-returns-then-is_empty : goal.branch_kept-returns-then-is_empty
branch_kept-returns-then-is_empty g t c =
    let words = g.V.Words.WORDS in
    let b = c.args.one.now in
    let o = c.args.other.now in
    let kids = c.add_all.new.children in
    let none = eqb-true kids.len 0 (sym c.is_empty.ensures ∙ c.if-is_empty.true) in
    let held = kids.ok.0 in
    let to = c.in_ok-count.ensures.kept in
    made_none words b.width b.skip b.bytes b.children.items b.population c.requires.below.level c.args.keep (pairs_of b) (pairs_of o) c.add_all.new.bytes kids.items to (omega arith)
    (kept_end words c.args.keep b o c.requires.below c.requires.other_below c.requires.level c.add_all.new.bytes kids.items to)

pub branch_kept-sums_of_children-requires : goal.branch_kept-sums_of_children-requires
branch_kept-sums_of_children-requires g t c =
    let words = g.V.Words.WORDS in
    let b = c.args.one.now in
    let o = c.args.other.now in
    let kids = c.add_all.new.children in
    let some = eqb-false kids.len 0 (sym c.is_empty.ensures ∙ c.if-is_empty.false) in
    let held = kids.ok.0 in
    let to = c.in_ok-count.ensures.kept in
    subst (λ bs. IsBranch words b.width b.skip bs kids.items c.in_ok-count.count) (sym c.of_bits.ensures)
    (made_branch words b.width b.skip b.bytes b.children.items b.population c.requires.below.level c.args.keep (pairs_of b) (pairs_of o) c.add_all.new.bytes kids.items to c.in_ok-count.count
    c.in_ok-count.ensures.count (omega arith) (kept_end words c.args.keep b o c.requires.below c.requires.other_below c.requires.level c.add_all.new.bytes kids.items to) c.requires.few)

pub branch_kept-returns : goal.branch_kept-returns
branch_kept-returns g t c =
    let words = g.V.Words.WORDS in
    let b = c.args.one.now in
    let o = c.args.other.now in
    let kids = c.add_all.new.children in
    let some = eqb-false kids.len 0 (sym c.is_empty.ensures ∙ c.if-is_empty.false) in
    let held = kids.ok.0 in
    let to = c.in_ok-count.ensures.kept in
    let kept = kept_end words c.args.keep b o c.requires.below c.requires.other_below c.requires.level c.add_all.new.bytes kids.items to in
    record {
      level = subst (λ bs. IsBranch words b.width b.skip bs kids.items c.in_ok-count.count) (sym c.of_bits.ensures)
          (made_branch words b.width b.skip b.bytes b.children.items b.population c.requires.below.level c.args.keep (pairs_of b) (pairs_of o) c.add_all.new.bytes kids.items to
          c.in_ok-count.count c.in_ok-count.ensures.count (omega arith) kept c.requires.few);
      sums = c.sums_of_children.ensures;
      wide = refl;
      tight = to.tight;
      kept = subst (λ bs. AreKept c.args.keep (pairs_of b) (pairs_of o) (branch_pairs b.width b.skip bs kids.items)) (sym c.of_bits.ensures) kept;
    }

-- ---- its children

pub add_all-bytes-init : goal.add_all-bytes-init
add_all-bytes-init g t c =
    let words = g.V.Words.WORDS in
    let b = c.args.one.now in
    let o = c.args.other.now in
    let block = number_of b.skip * 256 in
    record {
      inside = omega arith;
      to = subst (λ bs. AreKeptTo words b.width block c.args.keep (pairs_of b) (pairs_of o) bs c.args.children.now.items 0) (sym c.requires.none)
          (subst (λ ks. AreKeptTo words b.width block c.args.keep (pairs_of b) (pairs_of o) [] ks 0) (sym c.requires.no_children)
          (kept_start words c.args.keep b o c.requires.below c.requires.other_below c.requires.level));
      counted = (let none = ap population c.requires.no_children in omega arith);
    }

pub add_all-bytes-smaller : goal.add_all-bytes-smaller
add_all-bytes-smaller g t c = let from = c.in-Some.ensures.0 in let inside = c.bytes.invariant.inside in let next = c.from-from.ensures in omega arith

pub add_all-bytes-preserved : goal.add_all-bytes-preserved
add_all-bytes-preserved g t c = elim c.match-branch-2.branch [
  | add_all-in-Some-2+in_ok-push w ↦
      let words = g.V.Words.WORDS in
      let b = c.args.one.now in
      let o = c.args.other.now in
      let block = number_of b.skip * 256 in
      let bytes = c.bytes.bytes in
      let kids = c.bytes.children.items in
      let byte = c.in-Some.byte in
      let kid = w.in-Some-2.child in
      let small : byte < 256 = omega arith in
      let passed = kept_gap words c.args.keep b o c.requires.below c.requires.other_below c.requires.level bytes kids c.bytes.from byte c.in-Some.ensures.0 (omega arith) c.in-Some.ensures.2
      c.bytes.invariant.to in
      let made = subst (IsKeptAt words b.width block c.args.keep (pairs_of b) (pairs_of o) byte) w.in-Some-2.is c.in_ok-child.ensures in
      let to = kept_more words b.width block c.args.keep (pairs_of b) (pairs_of o) bytes kids byte small passed kid made in
      let bytes_is : c.match-branch-2.bytes ≡ bytes ++ byte ∷ [] = w.bytes-is ∙ w.add.ensures ∙ with_byte-push byte bytes passed.before in
      let items : c.match-branch-2.children.items ≡ w.push.new.self.items = (λ t. (w.children-is t).items) in
      let items_is : c.match-branch-2.children.items ≡ kids ++ kid ∷ [] = items ∙ w.in_ok-push.ensures.items in
      let all = ap population items_is ∙ population-append kids (kid ∷ []) in
      let count = w.count-is in
      let pop = w.pop-count.ensures in
      let before = c.bytes.invariant.counted in
      let next : byte + 1 ≡ c.from-from.result + 1 = ap (λ n. n + 1) (sym c.from-from.ensures) in
      record {
        inside = omega arith;
        to = kept_as words b.width block c.args.keep (pairs_of b) (pairs_of o) bytes_is items_is next to;
        counted = omega (arith, count, pop, before, all);
      }
  | add_all-in_default-2 w ↦
      let words = g.V.Words.WORDS in
      let b = c.args.one.now in
      let o = c.args.other.now in
      let block = number_of b.skip * 256 in
      let bytes = c.bytes.bytes in
      let kids = c.bytes.children.items in
      let byte = c.in-Some.byte in
      let small : byte < 256 = omega arith in
      let passed = kept_gap words c.args.keep b o c.requires.below c.requires.other_below c.requires.level bytes kids c.bytes.from byte c.in-Some.ensures.0 (omega arith) c.in-Some.ensures.2
      c.bytes.invariant.to in
      let made = subst (IsKeptAt words b.width block c.args.keep (pairs_of b) (pairs_of o) byte) w.in_default-2.is c.in_ok-child.ensures in
      let to = kept_skip words b.width block c.args.keep (pairs_of b) (pairs_of o) bytes kids byte small passed made in
      let items : c.match-branch-2.children.items ≡ kids = (λ t. (w.children-is t).items) in
      let next : byte + 1 ≡ c.from-from.result + 1 = ap (λ n. n + 1) (sym c.from-from.ensures) in
      record {
        inside = omega arith;
        to = kept_as words b.width block c.args.keep (pairs_of b) (pairs_of o) w.bytes-is items next to;
        counted = w.count-is ∙ c.bytes.invariant.counted ∙ ap (λ ks. population ks % 2 ^ 64) (sym items);
      }
]

pub add_all-returns-clause-kept : goal.add_all-returns-clause-kept
add_all-returns-clause-kept g t c =
    kept_gap g.V.Words.WORDS c.args.keep c.args.one.now c.args.other.now c.requires.below c.requires.other_below c.requires.level c.bytes.bytes c.bytes.children.items c.bytes.from 256
    c.bytes.invariant.inside (omega arith) c.in_default.ensures c.bytes.invariant.to

-- ---- the child of a byte

pub kept_at-index-requires : goal.kept_at-index-requires
kept_at-index-requires g t c =
    let b = c.args.one.now in
    let is = c.requires.below.level in
    let held = b.children.ok.0 in
    let inside = place_inside g.V.Words.WORDS b.width 0 b.bytes b.children.items c.in-Some-Some.at c.args.byte is.parts.children
    (stands b.bytes (bytes_ascend g.V.Words.WORDS b.width b.skip b.bytes b.children.items b.population is) c.args.byte c.in-Some-Some.at (sym c.place.ensures ∙ c.in-Some-Some.is-0)) in
    omega arith

pub kept_at-index-requires-in-Some-Some : goal.kept_at-index-requires-in-Some-Some
kept_at-index-requires-in-Some-Some g t c =
    let b = c.args.other.now in
    let is = c.requires.other_below.level in
    let held = b.children.ok.0 in
    let inside = place_inside g.V.Words.WORDS b.width 0 b.bytes b.children.items c.in-Some-Some.place c.args.byte is.parts.children
    (stands b.bytes (bytes_ascend g.V.Words.WORDS b.width b.skip b.bytes b.children.items b.population is) c.args.byte c.in-Some-Some.place (sym c.place-2.ensures ∙ c.in-Some-Some.is-1)) in
    omega arith

pub kept_at-index-requires-in-Some-None : goal.kept_at-index-requires-in-Some-None
kept_at-index-requires-in-Some-None g t c =
    let b = c.args.one.now in
    let is = c.requires.below.level in
    let held = b.children.ok.0 in
    let inside = place_inside g.V.Words.WORDS b.width 0 b.bytes b.children.items c.in-Some-None.at c.args.byte is.parts.children
    (stands b.bytes (bytes_ascend g.V.Words.WORDS b.width b.skip b.bytes b.children.items b.population is) c.args.byte c.in-Some-None.at (sym c.place.ensures ∙ c.in-Some-None.is-0)) in
    omega arith

pub kept_at-index-requires-in-None-Some : goal.kept_at-index-requires-in-None-Some
kept_at-index-requires-in-None-Some g t c =
    let b = c.args.other.now in
    let is = c.requires.other_below.level in
    let held = b.children.ok.0 in
    let inside = place_inside g.V.Words.WORDS b.width 0 b.bytes b.children.items c.in-None-Some.place c.args.byte is.parts.children
    (stands b.bytes (bytes_ascend g.V.Words.WORDS b.width b.skip b.bytes b.children.items b.population is) c.args.byte c.in-None-Some.place (sym c.place-2.ensures ∙ c.in-None-Some.is-1)) in
    omega arith

pub kept_at-node_kept-requires : goal.kept_at-node_kept-requires
kept_at-node_kept-requires g t c κs within =
    let words = g.V.Words.WORDS in
    let b = c.args.one.now in
    let o = c.args.other.now in
    let is = c.requires.below.level in
    let ois = c.requires.other_below.level in
    let at = c.in-Some-Some.at in
    let place = c.in-Some-Some.place in
    let inside = place_inside words b.width 0 b.bytes b.children.items at c.args.byte is.parts.children
    (stands b.bytes (bytes_ascend words b.width b.skip b.bytes b.children.items b.population is) c.args.byte at (sym c.place.ensures ∙ c.in-Some-Some.is-0)) in
    let other_inside = place_inside words o.width 0 o.bytes o.children.items place c.args.byte ois.parts.children
    (stands o.bytes (bytes_ascend words o.width o.skip o.bytes o.children.items o.population ois) c.args.byte place (sym c.place-2.ensures ∙ c.in-Some-Some.is-1)) in
    let kid = c.index.result.now in
    let okid = c.index-in-Some-Some.result.now in
    let falls = c.decreases in
    let narrow = is.parts.within in (
      omega arith,
      (
        within,
        (
          omega arith,
          (
            c.requires.one,
            (
              omega arith,
              (
                kid_is words b.width b.skip b.bytes b.children.items b.population is 0 at kid inside c.index.ensures,
                (
                  subst (λ w. IsChild words w okid) (sym c.requires.level.width)
                      (kid_is words o.width o.skip o.bytes o.children.items o.population ois 0 place okid other_inside c.index-in-Some-Some.ensures),
                  (
                    kid_tight b.children.items at kid (slice_get-get_or b.children.items at kid inside ∙ ap Some (sym c.index.ensures)) c.requires.below.tight,
                    kid_tight o.children.items place okid (slice_get-get_or o.children.items place okid other_inside ∙ ap Some (sym c.index-in-Some-Some.ensures)) c.requires.other_below.tight,
                  ),
                ),
              ),
            ),
          ),
        ),
      ),
    )

pub kept_at-returns-in-Some-Some : goal.kept_at-returns-in-Some-Some
kept_at-returns-in-Some-Some g t c =
    let words = g.V.Words.WORDS in
    let b = c.args.one.now in
    let o = c.args.other.now in
    let is = c.requires.below.level in
    let ois = c.requires.other_below.level in
    let at = c.in-Some-Some.at in
    let place = c.in-Some-Some.place in
    let byte = c.args.byte in
    let there = stands b.bytes (bytes_ascend words b.width b.skip b.bytes b.children.items b.population is) byte at (sym c.place.ensures ∙ c.in-Some-Some.is-0) in
    let other_there = stands o.bytes (bytes_ascend words o.width o.skip o.bytes o.children.items o.population ois) byte place (sym c.place-2.ensures ∙ c.in-Some-Some.is-1) in
    let inside = place_inside words b.width 0 b.bytes b.children.items at byte is.parts.children there in
    let other_inside = place_inside words o.width 0 o.bytes o.children.items place byte ois.parts.children other_there in
    let kid = c.index.result.now in
    let okid = c.index-in-Some-Some.result.now in
    let small : byte < 256 = omega (arith, c.ranges.byte.fits) in
    let level = c.requires.level in
    IfOk-weaker c.node_kept.result (IsKept words b.width c.args.keep kid.pairs okid.pairs) (IsKeptAt words b.width (number_of b.skip * 256) c.args.keep (pairs_of b) (pairs_of o) byte)
    (λ made kept. at_both words b.width (number_of b.skip * 256) c.args.keep (pairs_of b) (pairs_of o) byte kid.pairs okid.pairs made
    (λ rest low. kid_value words b.width b.skip b.bytes b.children.items b.population is byte rest small low at kid there
    (slice_get-get_or b.children.items at kid inside ∙ ap Some (sym c.index.ensures)))
    (λ rest low. value_as b.width o.width (number_of b.skip) (number_of o.skip) byte rest (pairs_of o) _ level.width level.number
    (kid_value words o.width o.skip o.bytes o.children.items o.population ois byte rest small (subst (λ w. rest < 256 ^ w) level.width low) place okid other_there
    (slice_get-get_or o.children.items place okid other_inside ∙ ap Some (sym c.index-in-Some-Some.ensures))))
    kept)
    c.node_kept.ensures

pub kept_at-returns-in-Some-None : goal.kept_at-returns-in-Some-None
kept_at-returns-in-Some-None g t c =
    let words = g.V.Words.WORDS in
    let b = c.args.one.now in
    let o = c.args.other.now in
    let is = c.requires.below.level in
    let ois = c.requires.other_below.level in
    let at = c.in-Some-None.at in
    let byte = c.args.byte in
    let there = stands b.bytes (bytes_ascend words b.width b.skip b.bytes b.children.items b.population is) byte at (sym c.place.ensures ∙ c.in-Some-None.is-0) in
    let inside = place_inside words b.width 0 b.bytes b.children.items at byte is.parts.children there in
    let kid = c.index-in-Some-None.result.now in
    let kid_there = slice_get-get_or b.children.items at kid inside ∙ ap Some (sym c.index-in-Some-None.ensures) in
    let small : byte < 256 = omega (arith, c.ranges.byte.fits) in
    let level = c.requires.level in
    IfOk-weaker c.copied_if.result (λ made. made ≡ cond c.args.keep.left (Some kid) None) (IsKeptAt words b.width (number_of b.skip * 256) c.args.keep (pairs_of b) (pairs_of o) byte)
    (λ made same. at_left words b.width (number_of b.skip * 256) c.args.keep (pairs_of b) (pairs_of o) byte kid made
    (kid_is words b.width b.skip b.bytes b.children.items b.population is 0 at kid inside c.index-in-Some-None.ensures)
    (kid_tight b.children.items at kid kid_there c.requires.below.tight) same
    (λ rest low. kid_value words b.width b.skip b.bytes b.children.items b.population is byte rest small low at kid there kid_there)
    (λ rest low. value_as b.width o.width (number_of b.skip) (number_of o.skip) byte rest (pairs_of o) None level.width level.number
    (gap_value words o.width o.skip o.bytes o.children.items o.population ois byte rest small (subst (λ w. rest < 256 ^ w) level.width low)
    (missing o.bytes byte (sym c.place-2.ensures ∙ c.in-Some-None.is-1)))))
    c.copied_if.ensures

pub kept_at-returns-in-None-Some : goal.kept_at-returns-in-None-Some
kept_at-returns-in-None-Some g t c =
    let words = g.V.Words.WORDS in
    let b = c.args.one.now in
    let o = c.args.other.now in
    let is = c.requires.below.level in
    let ois = c.requires.other_below.level in
    let place = c.in-None-Some.place in
    let byte = c.args.byte in
    let there = stands o.bytes (bytes_ascend words o.width o.skip o.bytes o.children.items o.population ois) byte place (sym c.place-2.ensures ∙ c.in-None-Some.is-1) in
    let inside = place_inside words o.width 0 o.bytes o.children.items place byte ois.parts.children there in
    let kid = c.index-in-None-Some.result.now in
    let kid_there = slice_get-get_or o.children.items place kid inside ∙ ap Some (sym c.index-in-None-Some.ensures) in
    let small : byte < 256 = omega (arith, c.ranges.byte.fits) in
    let level = c.requires.level in
    IfOk-weaker c.copied_if-in-None-Some.result (λ made. made ≡ cond c.args.keep.right (Some kid) None) (IsKeptAt words b.width (number_of b.skip * 256) c.args.keep (pairs_of b) (pairs_of o) byte)
    (λ made same. at_right words b.width (number_of b.skip * 256) c.args.keep (pairs_of b) (pairs_of o) byte kid made
    (subst (λ w. IsChild words w kid) (sym level.width) (kid_is words o.width o.skip o.bytes o.children.items o.population ois 0 place kid inside c.index-in-None-Some.ensures))
    (kid_tight o.children.items place kid kid_there c.requires.other_below.tight) same
    (λ rest low. gap_value words b.width b.skip b.bytes b.children.items b.population is byte rest small low (missing b.bytes byte (sym c.place.ensures ∙ c.in-None-Some.is-0)))
    (λ rest low. value_as b.width o.width (number_of b.skip) (number_of o.skip) byte rest (pairs_of o) _ level.width level.number
    (kid_value words o.width o.skip o.bytes o.children.items o.population ois byte rest small (subst (λ w. rest < 256 ^ w) level.width low) place kid there kid_there)))
    c.copied_if-in-None-Some.ensures

pub kept_at-returns-in-None-None : goal.kept_at-returns-in-None-None
kept_at-returns-in-None-None g t c =
    let b = c.args.one.now in
    let o = c.args.other.now in
    kept_nowhere g.V.Words.WORDS c.args.keep b o c.requires.below c.requires.other_below c.requires.level c.args.byte (omega (arith, c.ranges.byte.fits))
    (missing b.bytes c.args.byte (sym c.place.ensures ∙ c.in-None-None.is-0)) (missing o.bytes c.args.byte (sym c.place-2.ensures ∙ c.in-None-None.is-1))

-- ---- two nodes

pub node_kept-settled_kept-requires : goal.node_kept-settled_kept-requires
node_kept-settled_kept-requires g t c κs within =
    let words = g.V.Words.WORDS in
    let width = c.args.width in
    let falls = c.decreases in (
      omega arith,
      (
        within,
        (
          omega arith,
          (
            c.requires.one,
            (
              c.requires.width,
              (
                shown_below words width c.args.one.now c.enter-ours.result c.in-Branch.left c.in-Branch.is c.enter-ours.ensures.view c.requires.tight,
                (
                  shown_below words width c.args.other.now c.enter-theirs.result c.in-Branch-theirs.right c.in-Branch-theirs.is c.enter-theirs.ensures.view c.requires.other_tight,
                  (c.go_by_bytes.ensures c.if-go_by_bytes.true, shown_width words width c.args.one.now c.enter-ours.result c.in-Branch.left c.in-Branch.is c.enter-ours.ensures.view),
                ),
              ),
            ),
          ),
        ),
      ),
    )

pub settled_kept-branch_kept-requires : goal.settled_kept-branch_kept-requires
settled_kept-branch_kept-requires g t c κs within =
    let b = c.args.one.now in
    let o = c.args.other.now in
    let wide = c.requires.wide in
    let low = c.requires.width in
    let falls = c.decreases in (
      omega arith,
      (
        within,
        (
          c.requires.one,
          (c.requires.below, (c.requires.other_below, (c.requires.level, countable_low g.V.Words.WORDS (width_of b) c.args.keep (pairs_of b) (pairs_of o) (omega arith)))),
        ),
      ),
    )
