use Rattle.std.proofs.Common.{sym, ◌∙◌, ◌≡◌, ◌^◌, ◌-◌, suc, ap, arith}
use Rattle.std.specs.Cmp.{nat_cmp_total}
use Rattle.std.specs.Option.{option_map}
use Rattle.judy_model.specs.Counts.{by_count}
use Rattle.judy_model.proofs.lemmas.queries.RankLemmas.{by_count-nth, by_count-zero}
use Rattle.judy_query.proofs.Links.{nth_is}
use Rattle.judy_query.proofs.RankFacts.{key_at}
use Rattle.judy_word.specs.Held.{map_in}
use Rattle.judy_word.proofs.EntryFacts.{value-found_at}
use Rattle.judy_word.proofs.tree_array.TreeArray.by_count_entry.Goals as goal

pub returns-then-n-eq0-clause-key : goal.returns-then-n-eq0-clause-key
returns-then-n-eq0-clause-key g c = rw c.if-n-eq0.true (sym (by_count-zero nat_cmp_total (map_in c.args.self.now)))

pub returns-else-n-eq0-clause-key : goal.returns-else-n-eq0-clause-key
returns-else-n-eq0-clause-key g c =
    let n : suc (c.args.n - 1) ≡ c.args.n = omega (arith, c.if-n-eq0.false) in
    rw (← c.self.view_is) (
    ap (option_map (λ entry. entry.0)) c.entry_nth.ensures.entry
    ∙ sym (nth_is g.V.Words.WORDS (256 ^ 8) _ c.law.ensures.map (c.args.n - 1) ∙ key_at _ (c.args.n - 1))
    ∙ sym (by_count-nth nat_cmp_total _ (c.args.n - 1))
    ∙ ap (by_count _) n)

pub returns-else-n-eq0-clause-value : goal.returns-else-n-eq0-clause-value
returns-else-n-eq0-clause-value g c = rw (← c.self.view_is) (value-found_at g.V.Words.WORDS _ c.law.ensures.map _ (c.args.n - 1) c.entry_nth.ensures.entry)
