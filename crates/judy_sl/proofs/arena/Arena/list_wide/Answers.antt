use Rattle.std.proofs.Common.{◌≡◌, ◌-◌, ℕ, suc, Option, length, sym, ap, subst, ◌∙◌, arith}
use Rattle.std.specs.FinMap.{FinMap, get-entries}
use Rattle.judy_model.specs.Keys.{word_order}
use Rattle.judy_sums.specs.Levels.{part_of}
use Rattle.judy_sl.specs.Arenas.{world_of, node_of}
use Rattle.judy_sl.specs.Behind.{map_behind, entry_keys}
use Rattle.judy_sl.specs.Firsts.{AreFirsts}
use Rattle.judy_sl.specs.Listed.{GetsList}
use Rattle.judy_sl.proofs.lemmas.counts.FirstSums.{beginning_part}
use Rattle.judy_sl.proofs.lemmas.counts.ListSteps.{was_put, put_some, on_ok}
use Rattle.judy_sl.proofs.arena.Arena.list_wide.Goals as goal

pub read_list-requires-clause-stands : goal.read_list-requires-clause-stands
read_list-requires-clause-stands c = (suc c.args.at, ap node_of c.level_at-level.ensures, c.requires.fits)

pub returns-clause-right : goal.returns-clause-right
returns-clause-right c found some =
    subst (AreFirsts (map_behind (world_of c.args.self.now) (suc c.args.at))) (was_put c.put.result _ _ c.put.ensures.put c.put.ensures.absent found some) (record {
      numbers = λ piece.
          c.in_ok-list.ensures.numbers piece
          ∙ ap (λ (entry : Option ℕ). length (part_of (entry_keys (world_of c.args.self.now)) piece entry) - 1) (sym (get-entries c.level_at-level.result.now.map piece))
          ∙ ap (λ n. n - 1) (sym (beginning_part c.requires.is_arena.is_world (suc c.args.at) c.level_at-level.result.now.map (ap node_of c.level_at-level.ensures) piece));
      some = c.in_ok-list.ensures.some;
    })

pub returns-clause-wide : goal.returns-clause-wide
returns-clause-wide c = on_ok c.put.result (λ there gets. put_some there) c.put.ensures.put
