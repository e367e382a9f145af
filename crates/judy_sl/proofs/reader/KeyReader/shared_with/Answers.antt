use Rattle.std.proofs.Common.{◌≡◌, ◌==◌, ℕ, List, Option, Some, IfSome, length, drop, get_or, sym, ap, ◌∙◌, subst, arith}
use Rattle.std.proofs.lemmas.List.{length-drop, take_rest}
use Rattle.judy_model.specs.DumpText.{shared_length}
use Rattle.judy_sl.specs.Readers.{shared_left, ends_left}
use Rattle.judy_sl.specs.Strings.{IsString}
use Rattle.judy_sl.specs.TextsLeft.{left_behind}
use Rattle.judy_sl.proofs.lemmas.pieces.PieceLemmas.{text_of_key}
use Rattle.judy_sl.proofs.lemmas.readers.TextSteps.{some_left, behind_long}
use Rattle.judy_sl.proofs.lemmas.readers.SharedBytes.{shared_front, shared_whole, ends_there, ends_behind}
use Rattle.judy_sl.proofs.reader.KeyReader.shared_with.Goals as goal

pub returns-then-same-lt8-clause-bytes : goal.returns-then-same-lt8-clause-bytes
returns-then-same-lt8-clause-bytes c =
    let rest = c.pieces.rest.now in
    let its = some_left c.pieces.self.left c.in-Some.piece (sym c.in-Some.is ∙ c.next_piece.ensures.piece) in
    let text = its.0 in
    let is = text_of_key text (subst (λ (left : Option (List ℕ)). IfSome left IsString) its.1 c.next_piece.ensures.is_string) in
    let same = c.shared_in-same.ensures text is its.2 in
    let few = c.if-same-lt8.true in
    let front = shared_front 8 text rest (omega (arith, few, same)) in
    let all = c.pieces.invariant.shared in
    let part = ap (λ (left : Option (List ℕ)). shared_left left rest) its.1 in
    omega (arith, same, front, all, part)

pub returns-then-same-lt8-clause-ends : goal.returns-then-same-lt8-clause-ends
returns-then-same-lt8-clause-ends c =
    let rest = c.pieces.rest.now in
    let its = some_left c.pieces.self.left c.in-Some.piece (sym c.in-Some.is ∙ c.next_piece.ensures.piece) in
    let text = its.0 in
    let is = text_of_key text (subst (λ (left : Option (List ℕ)). IfSome left IsString) its.1 c.next_piece.ensures.is_string) in
    let same = c.shared_in-same.ensures text is its.2 in
    let few = c.if-same-lt8.true in
    let front = shared_front 8 text rest (omega (arith, few, same)) in
    ap (λ (all : List ℕ). get_or all c.shared_in-same.result 0 == 0) c.to_be_bytes.ensures
    ∙ ends_there text rest is c.in-Some.piece its.2 c.shared_in-same.result (same ∙ sym front) few
    ∙ sym (c.pieces.invariant.ends ∙ ap (λ (left : Option (List ℕ)). ends_left left rest) its.1)

pub pieces-preserved : goal.pieces-preserved
pieces-preserved c =
    let rest = c.pieces.rest.now in
    let its = some_left c.pieces.self.left c.in-Some.piece (sym c.in-Some.is ∙ c.next_piece.ensures.piece) in
    let text = its.0 in
    let is = text_of_key text (subst (λ (left : Option (List ℕ)). IfSome left IsString) its.1 c.next_piece.ensures.is_string) in
    let same = c.shared_in-same.ensures text is its.2 in
    let many = c.if-same-lt8.false in
    let whole = shared_whole 8 text rest (omega (arith, many, same)) in
    let left : c.next_piece.new.self.left ≡ Some (drop 8 text) = c.next_piece.ensures.left ∙ ap left_behind its.1 ∙ behind_long text whole.long in
    let less = length-drop 8 rest in
    let shorter = length-drop 8 text in
    let long = whole.long in
    let also = whole.also in
    let on = whole.on in
    let within = c.pieces.invariant.within in
    let all = c.pieces.invariant.shared in
    let part = ap (λ (left : Option (List ℕ)). shared_left left rest) its.1 in
    let later = ap (λ (left : Option (List ℕ)). shared_left left (drop 8 rest)) left in
    rw take_rest (record {
      within = omega (arith, less, within);
      shared = omega (arith, less, within, also, all, part, on, later);
      ends = c.pieces.invariant.ends
          ∙ ap (λ (left : Option (List ℕ)). ends_left left rest) its.1
          ∙ ends_behind (shared_length text rest) (length text) (shared_length (drop 8 text) (drop 8 rest)) (length (drop 8 text)) on (omega (arith, shorter, long))
          ∙ sym (ap (λ (left : Option (List ℕ)). ends_left left (drop 8 rest)) left);
      value = c.next_piece.ensures.value ∙ c.pieces.invariant.value;
    })
