use Rattle.std.proofs.Common.{◌≡◌, ◌∙◌, ℕ, List, [], ◌∷◌, sym, subst, Option, Some, None, MatchOption}
use Rattle.judy_sl.specs.Runs.{AreBeyond}
use Rattle.judy_sl.proofs.lemmas.scans.ScanEnds.{value_held}
use Rattle.judy_sl.proofs.lemmas.scans.LevelEntries.{stand_from}
use Rattle.judy_sl.proofs.runs.pass_own.Goals as goal

-- What is left behind the first of them.
left_behind : (old : List (ℕ × ℕ)) (item : Option (ℕ × ℕ)) (new : List (ℕ × ℕ)) (first : ℕ × ℕ) (others : List (ℕ × ℕ)) → old ≡ first ∷ others →
    MatchOption item ((old ≡ []) × (new ≡ [])) (λ x. old ≡ x ∷ new) → new ≡ others
left_behind old None new first others are steps = let none = steps.0 in cc
left_behind old (Some entry) new first others are steps = cc

pub returns-clause-beyond : goal.returns-clause-beyond
returns-clause-beyond c =
    let map = c.args.level.now.map in
    let value = value_held map c.args.piece c.requires.own in
    let stand = stand_from map c.args.piece value.0 value.1 in
    let from = c.requires.from ∙ stand.are in
    subst (AreBeyond map c.args.piece) (sym (left_behind c.args.following.now.0 c.next.result c.next.new.self.0 (c.args.piece, value.0) stand.others from c.next.ensures.steps)) stand.beyond
