use Rattle.std.proofs.Common.{◌≡◌, ◌+◌, ◌/◌, ◌^◌, ◌<◌, ◌≤◌, false, true≢false, [], ◌∷◌, ◌++◌, length, Result, Ok, Err, OnOk, sym, ap, ◌∙◌, subst, arith}
use Rattle.std.specs.Result.{is_err}
use Rattle.std.specs.List.{insert}
use Rattle.std.proofs.lemmas.List.{length-take-le}
use Rattle.judy_model.proofs.lemmas.orders.ByteLemmas.{unit_pos}
use Rattle.judy_bits.specs.ByteSets.{rank}
use Rattle.judy_leaf.proofs.LeafLists.{rank_within}
use Rattle.judy_node.specs.Trees.{branch_tree}
use Rattle.judy_node.proofs.Groups.{with_byte-push}
use Rattle.judy_node.proofs.Maps.{children-length}
use Rattle.judy_change.specs.Appended.{first_key, IsLonger}
use Rattle.judy_change.proofs.BranchInserts.{BranchParts, AreOf}
use Rattle.judy_change.proofs.AppendFacts.{begin_map, insert_last, all_below, push_level, push_longer}
use Rattle.judy_change.proofs.appends.append_child.Goals as goal

-- What holds where nothing was refused.
not_refused : {T E : Type 0} (then : Type 0) (answer : Result T E) → is_err answer ≡ false → OnOk answer then → then
not_refused then (Ok done) none is = is
not_refused then (Err refused) never is = absurd (true≢false never)

pub child_of_sorted-requires : goal.child_of_sorted-requires
child_of_sorted-requires g c =
    let b = c.args.branch.now in
    let within = c.requires.level.parts.within in
    let long = length-take-le c.group_end-end.result c.args.more.pairs.now c.group_end-end.ensures.within in
    let some = c.if-end-eq0.false in (
      omega arith,
      (
        c.requires.one,
        (
          (c.requires.level.parts.some_width, omega arith),
          (
            omega arith,
            begin_map g.V.Words.WORDS (256 ^ 8) (256 ^ b.width) (first_key c.args.more.pairs.now / 256 ^ b.width) c.group_end-end.result c.args.more.pairs.now
                c.requires.map c.group_end-end.ensures.alike (unit_pos b.width),
          ),
        ),
      ),
    )

pub add_child-requires : goal.add_child-requires
add_child-requires g c =
    let b = c.args.branch.now in
    let is = c.requires.place in
    let long = children-length g.V.Words.WORDS b.width 0 b.bytes b.children.items c.requires.level.parts.children in
    let within = rank_within b.bytes c.args.byte in
    let same = ap length c.make_room.ensures.items in
    (omega arith, (is, (omega arith, not_refused _ c.make_room.result (sym c.is_err.ensures.value ∙ c.if-is_err.false) c.make_room.ensures.room)))

pub sums_of_children-requires : goal.sums_of_children-requires
sums_of_children-requires g c =
    let words = g.V.Words.WORDS in
    let b = c.args.branch.now in
    let made = c.add_child.ensures in
    let end = c.group_end-end.result in
    let small : c.args.byte < 256 = omega (arith, c.ranges.byte) in
    let is = c.requires.place in
    let long = children-length words b.width 0 b.bytes b.children.items c.requires.level.parts.children in
    let within = rank_within b.bytes c.args.byte in
    let told = c.len.ensures in
    let beyond = c.if-place-len.false in
    let last : length b.children.items ≤ rank b.bytes c.args.byte = omega arith in
    let below = all_below words b.width b.skip b.bytes b.children.items b.population c.requires.level c.args.byte c.args.more.pairs.now c.requires.head end
    c.group_end-end.ensures.within c.group_end-end.ensures.alike small c.requires.absent last c.in-Ok.child c.in-Ok.ensures in
    let bytes = made.bytes ∙ with_byte-push c.args.byte b.bytes below in
    let kids = made.children ∙ ap (λ ks. insert ks (rank b.bytes c.args.byte) c.in-Ok.child) c.make_room.ensures.items ∙
    insert_last b.children.items (rank b.bytes c.args.byte) c.in-Ok.child (omega arith) in
    let done = push_level words b.width b.skip b.bytes b.children.items b.population c.requires.level c.args.byte c.args.more.pairs.now c.requires.head end
    c.group_end-end.ensures.within c.group_end-end.ensures.alike small c.requires.absent last c.in-Ok.child c.in-Ok.ensures in
    let same : record { width = b.width; skip = b.skip; bytes = b.bytes ++ c.args.byte ∷ []; kids = b.children.items ++ c.in-Ok.child ∷ []; count = b.population + end }
    ≡ record {
      width = c.add_child.new.branch.width;
      skip = c.add_child.new.branch.skip;
      bytes = c.add_child.new.branch.bytes;
      kids = c.add_child.new.branch.children.items;
      count = c.add_child.new.branch.population + end;
    } =
    λ t. record { width = sym made.width t; skip = sym made.skip t; bytes = sym bytes t; kids = sym kids t; count = sym made.population t + end } in
    subst (λ (p : BranchParts). AreOf words p) same done

pub returns-clause-level : goal.returns-clause-level
returns-clause-level g c =
    let words = g.V.Words.WORDS in
    let b = c.args.branch.now in
    let made = c.add_child.ensures in
    let end = c.group_end-end.result in
    let small : c.args.byte < 256 = omega (arith, c.ranges.byte) in
    let is = c.requires.place in
    let long = children-length words b.width 0 b.bytes b.children.items c.requires.level.parts.children in
    let within = rank_within b.bytes c.args.byte in
    let told = c.len.ensures in
    let beyond = c.if-place-len.false in
    let last : length b.children.items ≤ rank b.bytes c.args.byte = omega arith in
    let below = all_below words b.width b.skip b.bytes b.children.items b.population c.requires.level c.args.byte c.args.more.pairs.now c.requires.head end
    c.group_end-end.ensures.within c.group_end-end.ensures.alike small c.requires.absent last c.in-Ok.child c.in-Ok.ensures in
    let bytes = made.bytes ∙ with_byte-push c.args.byte b.bytes below in
    let kids = made.children ∙ ap (λ ks. insert ks (rank b.bytes c.args.byte) c.in-Ok.child) c.make_room.ensures.items ∙
    insert_last b.children.items (rank b.bytes c.args.byte) c.in-Ok.child (omega arith) in
    let done = push_level words b.width b.skip b.bytes b.children.items b.population c.requires.level c.args.byte c.args.more.pairs.now c.requires.head end
    c.group_end-end.ensures.within c.group_end-end.ensures.alike small c.requires.absent last c.in-Ok.child c.in-Ok.ensures in
    let same : record { width = b.width; skip = b.skip; bytes = b.bytes ++ c.args.byte ∷ []; kids = b.children.items ++ c.in-Ok.child ∷ []; count = b.population + end }
    ≡ record {
      width = c.add_child.new.branch.width;
      skip = c.add_child.new.branch.skip;
      bytes = c.add_child.new.branch.bytes;
      kids = c.add_child.new.branch.children.items;
      count = c.add_child.new.branch.population + end;
    } =
    λ t. record { width = sym made.width t; skip = sym made.skip t; bytes = sym bytes t; kids = sym kids t; count = sym made.population t + end } in
    subst (λ (p : BranchParts). AreOf words p) same done

pub returns-clause-longer : goal.returns-clause-longer
returns-clause-longer g c =
    let words = g.V.Words.WORDS in
    let b = c.args.branch.now in
    let made = c.add_child.ensures in
    let end = c.group_end-end.result in
    let small : c.args.byte < 256 = omega (arith, c.ranges.byte) in
    let is = c.requires.place in
    let long = children-length words b.width 0 b.bytes b.children.items c.requires.level.parts.children in
    let within = rank_within b.bytes c.args.byte in
    let told = c.len.ensures in
    let beyond = c.if-place-len.false in
    let last : length b.children.items ≤ rank b.bytes c.args.byte = omega arith in
    let below = all_below words b.width b.skip b.bytes b.children.items b.population c.requires.level c.args.byte c.args.more.pairs.now c.requires.head end
    c.group_end-end.ensures.within c.group_end-end.ensures.alike small c.requires.absent last c.in-Ok.child c.in-Ok.ensures in
    let bytes = made.bytes ∙ with_byte-push c.args.byte b.bytes below in
    let kids = made.children ∙ ap (λ ks. insert ks (rank b.bytes c.args.byte) c.in-Ok.child) c.make_room.ensures.items ∙
    insert_last b.children.items (rank b.bytes c.args.byte) c.in-Ok.child (omega arith) in
    let done = push_longer words b.width b.skip b.bytes b.children.items b.population c.requires.level c.args.byte c.args.more.pairs.now c.requires.head end
    c.group_end-end.ensures.within c.group_end-end.ensures.alike small c.requires.absent last c.in-Ok.child c.in-Ok.ensures c.if-end-eq0.false in
    subst (IsLonger (length b.skip + 1 + b.width) end c.args.more.pairs.now (branch_tree b.width b.skip b.bytes b.children.items b.population))
    (λ t. branch_tree (sym made.width t) (sym made.skip t) (sym bytes t) (sym kids t) (sym made.population t + end)) done
