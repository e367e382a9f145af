use Rattle.std.proofs.Common.{List, ℕ, Option, IfSome, sym, ap, ◌∙◌, subst}
use Rattle.std.specs.Option.{option_copied}
use Rattle.judy_tails.proofs.TailLemmas.{is-text}
use Rattle.judy_sl.specs.Pieces.{IsText}
use Rattle.judy_sl.specs.TextsLeft.{text_left, IsTextOf}
use Rattle.judy_sl.proofs.lemmas.readers.TextSteps.{ended_at, text_step}
use Rattle.judy_sl.proofs.text_reader.TextReader.next_piece.Goals as goal
use Rattle.judy_sl.proofs.text_reader.TextReader.next_piece.Goals.{then-piece-eq0, else-piece-eq0}

pub returns-in_default-clause-piece : goal.returns-in_default-clause-piece
returns-in_default-clause-piece c =
    let here = ap (λ words. text_left (option_copied words)) (sym c.in_ok-words.was) ∙ c.self.view_is in
    (ended_at c.in_ok-words.words.now c.in_default.ensures.cases c.args.self.now here).0

pub invariant_of-self-2 : goal.invariant_of-self-2
invariant_of-self-2 c =
    let here = ap (λ words. text_left (option_copied words)) (sym c.in_ok-words.was) ∙ c.self.view_is in
    let are = subst (λ words. IfSome (option_copied words) IsTextOf) c.in_ok-words.was c.self.invariant in
    let step = text_step c.in_ok-words.words.now c.in-Some.field-0-0.now c.in-Some.rest.now c.in-Some.ensures.cases.0 are c.args.self.now here in
    elim c.if-piece-eq0.branch [
      | then-piece-eq0 w ↦ subst (λ words. IfSome (option_copied words) IsTextOf) (sym w.self-is) tt
      | else-piece-eq0 w ↦ subst (λ words. IfSome (option_copied words) IsTextOf) (sym w.self-is) step.are
    ]

pub returns-clause-piece : goal.returns-clause-piece
returns-clause-piece c =
    let here = ap (λ words. text_left (option_copied words)) (sym c.in_ok-words.was) ∙ c.self.view_is in
    let are = subst (λ words. IfSome (option_copied words) IsTextOf) c.in_ok-words.was c.self.invariant in
    (text_step c.in_ok-words.words.now c.in-Some.field-0-0.now c.in-Some.rest.now c.in-Some.ensures.cases.0 are c.args.self.now here).piece

pub returns-clause-left : goal.returns-clause-left
returns-clause-left c =
    let here = ap (λ words. text_left (option_copied words)) (sym c.in_ok-words.was) ∙ c.self.view_is in
    let are = subst (λ words. IfSome (option_copied words) IsTextOf) c.in_ok-words.was c.self.invariant in
    let step = text_step c.in_ok-words.words.now c.in-Some.field-0-0.now c.in-Some.rest.now c.in-Some.ensures.cases.0 are c.args.self.now here in
    elim c.if-piece-eq0.branch [
      | then-piece-eq0 w ↦ ap (λ words. text_left (option_copied words)) w.self-is ∙ step.last w.if-piece-eq0.true
      | else-piece-eq0 w ↦ ap (λ words. text_left (option_copied words)) w.self-is ∙ step.on w.if-piece-eq0.false
    ]

pub returns-clause-is_text : goal.returns-clause-is_text
returns-clause-is_text c =
    let here = ap (λ words. text_left (option_copied words)) (sym c.in_ok-words.was) ∙ c.self.view_is in
    subst (λ (left : Option (List ℕ)). IfSome left IsText) here (is-text c.in_ok-words.words.now)

pub returns-in_default-clause-is_text : goal.returns-in_default-clause-is_text
returns-in_default-clause-is_text c =
    let here = ap (λ words. text_left (option_copied words)) (sym c.in_ok-words.was) ∙ c.self.view_is in
    subst (λ (left : Option (List ℕ)). IfSome left IsText) here (is-text c.in_ok-words.words.now)
