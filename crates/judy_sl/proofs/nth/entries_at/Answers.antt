use Rattle.std.proofs.Common.{ℕ, ◌+◌, ◌∙◌, drop, sym, ap, arith}
use Rattle.std.specs.Cmp.{nat_cmp_total}
use Rattle.std.specs.FinMap.{FinMap, entries}
use Rattle.judy_model.specs.Keys.{word_order}
use Rattle.judy_model.specs.Counts.{rank, by_count}
use Rattle.judy_model.proofs.lemmas.queries.RankLemmas.{rank_at, nth-slice_get}
use Rattle.judy_sl.proofs.lemmas.places.Nths.{place_some, place_at}
use Rattle.judy_sl.proofs.nth.entries_at.Goals as goal

pub overflow_add-place : goal.overflow_add-place
overflow_add-place c = let fits = c.requires.fits in omega arith

pub unreachable-requires : goal.unreachable-requires
unreachable-requires c =
    place_some c.args.level.now.map c.args.place c.requires.within (ap (λ (words : FinMap word_order ℕ). by_count words (c.args.place + 1)) (sym c.array.ensures.map) ∙
    sym c.by_count.ensures ∙ c.in_default.is)

pub returns : goal.returns
returns c =
    let words = c.args.level.now.map in
    let piece = c.in-Some.piece in
    let at = place_at words c.args.place piece (ap (λ (words : FinMap word_order ℕ). by_count words (c.args.place + 1)) (sym c.array.ensures.map) ∙ sym c.by_count.ensures ∙ c.in-Some.is) in
    let place = rank_at nat_cmp_total words c.args.place piece (sym (nth-slice_get nat_cmp_total words c.args.place) ∙ at) in
    c.iter_from.ensures
    ∙ ap (λ (words : FinMap word_order ℕ). drop (rank words piece) (entries words)) c.array-2.ensures.map
    ∙ ap (λ n. drop n (entries words)) place
