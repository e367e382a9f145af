use Rattle.std.proofs.Common.{◌≡◌, List, ℕ, Option, Some, sym, ap, ◌∙◌}
use Rattle.judy_model.specs.Counts.{by_count}
use Rattle.judy_model.specs.Neighbours.{last}
use Rattle.judy_sl.specs.Readers.{shared_left, ends_left}
use Rattle.judy_sl.specs.Scans.{value_found}
use Rattle.judy_string_sets.proofs.PlaceFacts.{last_counted}
use Rattle.judy_string_sets.proofs.NearFacts.{is_none}
use Rattle.judy_string_sets.proofs.ReachFacts.{whole_read, part_read}
use Rattle.judy_string_sets.proofs.longest.reach_by_place.Goals as goal

pub returns-in_err-key : goal.returns-in_err-key
returns-in_err-key g c =
    let m = c.args.strings.now.map in
    is_none _ c.from_residual.result c.from_residual.ensures
    (sym (ap (by_count m) c.count.ensures ∙ last_counted m c.args.front.now) ∙ c.in_err-key.ensures)

pub returns-then-shared : goal.returns-then-shared
returns-then-shared g c =
    let m = c.args.strings.now.map in
    let bytes = c.args.bytes.now in
    let near = last m c.args.front.now in
    let shared = c.shared_with-shared in
    let left : c.in_ok-key.key.left ≡ near = c.in_ok-key.ensures.0 ∙ ap (by_count m) c.count.ensures ∙ last_counted m c.args.front.now in
    whole_read m bytes near c.value.result shared.result.bytes shared.result.ends
    (ap (value_found m) (sym left) ∙ c.in_ok-key.ensures.1 ∙ ap Some (sym (c.value.ensures ∙ shared.ensures.value)))
    (shared.ensures.bytes ∙ ap (λ (key : Option (List ℕ)). shared_left key bytes) left)
    (shared.ensures.ends ∙ ap (λ (key : Option (List ℕ)). ends_left key bytes) left)
    c.if-shared.true

pub returns-else-shared : goal.returns-else-shared
returns-else-shared g c =
    let m = c.args.strings.now.map in
    let bytes = c.args.bytes.now in
    let near = last m c.args.front.now in
    let shared = c.shared_with-shared in
    let left : c.in_ok-key.key.left ≡ near = c.in_ok-key.ensures.0 ∙ ap (by_count m) c.count.ensures ∙ last_counted m c.args.front.now in
    part_read m bytes near c.in_ok-key.key.value shared.result.bytes shared.result.ends
    (ap (value_found m) (sym left) ∙ c.in_ok-key.ensures.1)
    (shared.ensures.bytes ∙ ap (λ (key : Option (List ℕ)). shared_left key bytes) left)
    (shared.ensures.ends ∙ ap (λ (key : Option (List ℕ)). ends_left key bytes) left)
    c.if-shared.false
