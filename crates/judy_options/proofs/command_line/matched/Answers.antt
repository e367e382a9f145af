use Rattle.std.proofs.Common.{◌≡◌, ◌∙◌, true, ap, refl, subst, map}
use Rattle.std.specs.Prelude.{string_bytes}
use Rattle.std.proofs.lemmas.Result.{IfOk-weaker}
use Rattle.clap.proofs.WalkLemmas.{first_value-rows}
use Rattle.clap.specs.Words.{App, FailsBy, fault_of, first_of, found_of, is_simple, is_simple_and_free, matches_of}
use Rattle.judy_options.proofs.command_line.matched.Goals as goal

pub returns-clause-given : goal.returns-clause-given
returns-clause-given c =
    let same = c.in_ok-command.ensures.app in
    IfOk-weaker c.try_get_matches_from.result _ _ (λ m h id. first_value-rows (found_of m) id
    ∙ ap (first_of id) ((h (ap is_simple same)).0 ∙ ap (λ a. matches_of a (map string_bytes c.args.words.now)) same))
    c.try_get_matches_from.ensures.matches

pub returns-clause-kinds : goal.returns-clause-kinds
returns-clause-kinds c =
    let P : App → Type 0 = λ a. is_simple_and_free a ≡ true → FailsBy (fault_of a (map string_bytes c.args.words.now)) c.try_get_matches_from.result in
    subst P c.in_ok-command.ensures.app c.try_get_matches_from.ensures.kinds refl
