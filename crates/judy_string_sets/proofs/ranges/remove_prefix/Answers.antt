use Rattle.std.proofs.Common.{◌≡◌, IfOk, OnOk, sym, ap, subst, ◌∙◌, true≢false}
use Rattle.std.specs.FinMap.{len}
use Rattle.judy_model.specs.Arrays.{with_map}
use Rattle.judy_string_sets.specs.Walks.{Strings}
use Rattle.judy_string_sets.proofs.EndFacts.{by_prefix, part_prefix, others_prefix, no_prefix_count, no_prefix_left}
use Rattle.judy_string_sets.proofs.ranges.remove_prefix.Goals as goal

pub returns-then-not-is_key-clause-count : goal.returns-then-not-is_key-clause-count
returns-then-not-is_key-clause-count g c =
    sym (no_prefix_count g.L.KeyLength.LONGEST c.args.array.now.map (λ key value held. g.L.KeyLength.string_of key (c.strings_law.ensures key value held)) c.args.prefix.now
    (λ key. true≢false (sym (c.is_key.ensures.1 (g.L.KeyLength.key_of c.args.prefix.now key)) ∙ c.if-not-is_key.true)))

pub returns-then-not-is_key-clause-left : goal.returns-then-not-is_key-clause-left
returns-then-not-is_key-clause-left g c = ap (with_map c.args.array.now)
    (sym (no_prefix_left g.L.KeyLength.LONGEST c.args.array.now.map (λ key value held. g.L.KeyLength.string_of key (c.strings_law.ensures key value held)) c.args.prefix.now
    (λ key. true≢false (sym (c.is_key.ensures.1 (g.L.KeyLength.key_of c.args.prefix.now key)) ∙ c.if-not-is_key.true))))

pub remove_keys-requires-clause-front : goal.remove_keys-requires-clause-front
remove_keys-requires-clause-front g c = by_prefix c.args.prefix.now

pub returns-clause-count : goal.returns-clause-count
returns-clause-count g c =
    subst (λ (map : Strings). IfOk c.remove_keys.result (λ count. count ≡ len map)) (part_prefix c.args.array.now.map c.args.prefix.now) c.remove_keys.ensures.count

pub returns-clause-left : goal.returns-clause-left
returns-clause-left g c =
    subst (λ (map : Strings). OnOk c.remove_keys.result (c.remove_keys.new.array ≡ with_map c.args.array.now map)) (others_prefix c.args.array.now.map c.args.prefix.now)
    c.remove_keys.ensures.left
