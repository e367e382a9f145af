use Rattle.std.proofs.Common.{ℕ, ◌^◌, Bool, true, false, cond, [], ◌∷◌, ◌++◌, sym, subst, arith}
use Rattle.std.specs.Result.{is_ok}
use Rattle.judy_node.specs.Trees.{Pairs, IsMap}
use Rattle.judy_word.proofs.FrontFacts.{map_push}
use Rattle.judy_word.proofs.filling.push_last.Goals as goal

-- Whether there was memory for one more or not.
either : (pushed : Bool) (words : ℕ) (more pairs : Pairs) → IsMap words 0 (256 ^ 8) more → IsMap words 0 (256 ^ 8) pairs → IsMap words 0 (256 ^ 8) (cond pushed more pairs)
either true words more pairs one other = one
either false words more pairs one other = other

pub returns-in-Ok-clause-map : goal.returns-in-Ok-clause-map
returns-in-Ok-clause-map g c =
    let kept = c.args.kept.now.items in
    let more = map_push g.V.Words.WORDS 0 (256 ^ 8) c.args.key c.args.value kept c.requires.map c.requires.above (omega arith) (omega (arith, c.ranges.key)) c.requires.no_value in
    subst (IsMap g.V.Words.WORDS 0 (256 ^ 8)) (sym c.push.ensures.items) (either (is_ok c.push.result) g.V.Words.WORDS (kept ++ (c.args.key, c.args.value) ∷ []) kept more c.requires.map)
