use Rattle.std.proofs.Common.{◌≢◌, ◌<◌, Some, true≢false, length, get_or, sym, ap, ◌∙◌, subst, arith}
use Rattle.std.specs.List.{remove}
use Rattle.judy_model.specs.Forms.{loose_in}
use Rattle.judy_bits.specs.ByteSets as set
use Rattle.judy_leaf.specs.KeyLists.{keys_of, values_of}
use Rattle.judy_node.specs.Trees.{IsChild}
use Rattle.judy_node.specs.Kinds.{imm_pairs, imm_tree, IsImm}
use Rattle.judy_change.proofs.Without.{value-none}
use Rattle.judy_change.proofs.LeafFacts.{taken_within, taken_value, taken_pairs, taken_length, imm_more, one_pair, kind_left}
use Rattle.judy_change.proofs.remove_leaf.remove_immediate.Goals as goal

pub imm_of-imm-requires-clause-level : goal.imm_of-imm-requires-clause-level
imm_of-imm-requires-clause-level g c = subst (λ head. IsImm g.V.Words.WORDS head c.args.word) (sym c.number.ensures.value) c.requires.level

pub imm_of-imm-requires-clause-child : goal.imm_of-imm-requires-clause-child
imm_of-imm-requires-clause-child g c = subst (λ head. IsChild g.V.Words.WORDS c.args.width (imm_tree g.V.Words.WORDS head c.args.word)) (sym c.number.ensures.value) c.requires.child

pub value_at-value-requires : goal.value_at-value-requires
value_at-value-requires g c =
    let words = g.V.Words.WORDS in
    let pairs = imm_pairs words c.args.head c.args.word in
    let child = c.requires.child in
    let is = ap (λ l. l.pairs) c.imm_of-imm.ensures ∙ ap (λ head. imm_pairs words head c.args.word) c.number.ensures.value in
    let place = ap (λ ps. set.place (keys_of ps) c.args.key) (sym is) ∙ sym c.find.ensures ∙ c.in-Some.is in
    subst (λ ps. c.in-Some.at < length ps) (sym is) (taken_within words c.args.width c.args.key c.in-Some.at pairs child.low_width child.high_width child.map place)

pub remove-requires : goal.remove-requires
remove-requires g c =
    let words = g.V.Words.WORDS in
    let pairs = imm_pairs words c.args.head c.args.word in
    let child = c.requires.child in
    let is = ap (λ l. l.pairs) c.imm_of-imm.ensures ∙ ap (λ head. imm_pairs words head c.args.word) c.number.ensures.value in
    let place = ap (λ ps. set.place (keys_of ps) c.args.key) (sym is) ∙ sym c.find.ensures ∙ c.in-Some.is in
    subst (λ ps. c.in-Some.at < length ps) (sym is) (taken_within words c.args.width c.args.key c.in-Some.at pairs child.low_width child.high_width child.map place)

pub returns-then-len-eq1 : goal.returns-then-len-eq1
returns-then-len-eq1 g c =
    let words = g.V.Words.WORDS in
    let pairs = imm_pairs words c.args.head c.args.word in
    let child = c.requires.child in
    let is = ap (λ l. l.pairs) c.imm_of-imm.ensures ∙ ap (λ head. imm_pairs words head c.args.word) c.number.ensures.value in
    let place = ap (λ ps. set.place (keys_of ps) c.args.key) (sym is) ∙ sym c.find.ensures ∙ c.in-Some.is in
    let found = taken_value words c.args.width c.args.key c.in-Some.at pairs child.low_width child.high_width child.map place in
    let value = c.value_at-value.ensures ∙ ap (λ ps. get_or (values_of ps) c.in-Some.at 0) is in
    (one_pair pairs c.args.key c.value_at-value.result (sym (c.len.ensures.count ∙ ap length is) ∙ c.if-len-eq1.true) (found ∙ ap Some (sym value)), c.close.ensures)

pub keys_kind-requires-clause-no_values : goal.keys_kind-requires-clause-no_values
keys_kind-requires-clause-no_values g c =
    let words = g.V.Words.WORDS in
    let pairs = imm_pairs words c.args.head c.args.word in
    let child = c.requires.child in
    let is = ap (λ l. l.pairs) c.imm_of-imm.ensures ∙ ap (λ head. imm_pairs words head c.args.word) c.number.ensures.value in
    imm_more words c.args.head c.args.word (λ one. c.if-len-eq1.false (c.len.ensures.count ∙ ap length is ∙ one))

pub keys_kind-requires-clause-some : goal.keys_kind-requires-clause-some
keys_kind-requires-clause-some g c =
    let words = g.V.Words.WORDS in
    let pairs = imm_pairs words c.args.head c.args.word in
    let child = c.requires.child in
    let is = ap (λ l. l.pairs) c.imm_of-imm.ensures ∙ ap (λ head. imm_pairs words head c.args.word) c.number.ensures.value in
    let place = ap (λ ps. set.place (keys_of ps) c.args.key) (sym is) ∙ sym c.find.ensures ∙ c.in-Some.is in
    let apart : length pairs ≢ 1 = λ one. c.if-len-eq1.false (c.len.ensures.count ∙ ap length is ∙ one) in
    let left = ap (λ l. l.pairs) c.remove.ensures ∙ ap (λ ps. remove ps c.in-Some.at) is in
    let fewer = taken_length words c.args.width c.args.key c.in-Some.at pairs child.low_width child.high_width child.map place in
    let some = child.some in
    let long = ap length left in
    omega arith

pub returns-else-len-eq1 : goal.returns-else-len-eq1
returns-else-len-eq1 g c =
    let words = g.V.Words.WORDS in
    let pairs = imm_pairs words c.args.head c.args.word in
    let child = c.requires.child in
    let is = ap (λ l. l.pairs) c.imm_of-imm.ensures ∙ ap (λ head. imm_pairs words head c.args.word) c.number.ensures.value in
    let place = ap (λ ps. set.place (keys_of ps) c.args.key) (sym is) ∙ sym c.find.ensures ∙ c.in-Some.is in
    let apart : length pairs ≢ 1 = λ one. c.if-len-eq1.false (c.len.ensures.count ∙ ap length is ∙ one) in
    let left = ap (λ l. l.pairs) c.remove.ensures ∙ ap (λ ps. remove ps c.in-Some.at) is in
    let found = taken_value words c.args.width c.args.key c.in-Some.at pairs child.low_width child.high_width child.map place in
    let value = c.value_at-value.ensures ∙ ap (λ ps. get_or (values_of ps) c.in-Some.at 0) is in
    let gone = c.keys_kind.ensures.pairs ∙ left ∙ taken_pairs words c.args.width c.args.key c.in-Some.at pairs child.low_width child.high_width child.map place in
    let wide = c.keys_kind.ensures.width ∙ ap (λ l. l.width) c.remove.ensures ∙ ap (λ l. l.width) c.imm_of-imm.ensures in
    record {
      found = found ∙ ap Some (sym value);
      gone = ap (λ t. t.pairs) c.close-in-Some.ensures ∙ gone;
      child = subst (IsChild words c.args.width) (sym c.close-in-Some.ensures)
          (kind_left words c.args.width c.args.key (imm_tree words c.args.head c.args.word) c.keys_kind.result c.keys_kind.ensures.level child wide gone);
      tight = λ _ _. ap (λ t. loose_in t.form) c.close-in-Some.ensures ∙ c.keys_kind.ensures.tight;
      short = λ _ never. absurd (true≢false never);
    }

pub returns-in-None : goal.returns-in-None
returns-in-None g c =
    let words = g.V.Words.WORDS in
    let pairs = imm_pairs words c.args.head c.args.word in
    let child = c.requires.child in
    let is = ap (λ l. l.pairs) c.imm_of-imm.ensures ∙ ap (λ head. imm_pairs words head c.args.word) c.number.ensures.value in
    let place = ap (λ ps. set.place (keys_of ps) c.args.key) (sym is) ∙ sym c.find.ensures ∙ c.in-None.is in
    (value-none pairs c.args.key place, c.close-in-None.ensures)
