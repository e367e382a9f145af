use Rattle.std.proofs.Common.{◌≡◌, length, take, true, false, sym, ap, ◌∙◌, subst, ◌<◌, arith}
use Rattle.std.specs.FinMap.{remove, len}
use Rattle.judy_model.specs.Keys.{byte_order}
use Rattle.judy_model.specs.Arrays.{ArrayOf}
use Rattle.judy_sl.specs.Arenas.{AreWithin}
use Rattle.judy_string_sets.specs.Ends.{reaches, part, others}
use Rattle.judy_string_sets.specs.Walks.{Strings}
use Rattle.judy_string_sets.proofs.EndFacts.{none_first, past_first, others_all, part_none, part_most, part_fewer, others_stay, all_fewer}
use Rattle.judy_string_sets.proofs.NearFacts.{left_within}
use Rattle.judy_string_sets.proofs.ranges.remove_by.Goals as goal

pub returns-clause-count : goal.returns-clause-count
returns-clause-count g c =
    let from = c.args.from.now in
    let within = reaches c.args.end c.args.bytes.now in
    let here = c.keys.array.map in
    let none = part_none here from within (none_first here from within c.in_default.ensures.found) in
    let counted = c.keys.invariant.counted in
    omega (arith, none, counted)

pub returns-clause-left : goal.returns-clause-left
returns-clause-left g c =
    let from = c.args.from.now in
    let within = reaches c.args.end c.args.bytes.now in
    let here = c.keys.array.map in
    let same : here ≡ others c.args.array.now.map from within = sym (others_all here from within (none_first here from within c.in_default.ensures.found)) ∙ c.keys.invariant.left in
    λ t. record { limit = c.keys.invariant.limit t; map = same t }

pub returns-then-not-reaches-clause-count : goal.returns-then-not-reaches-clause-count
returns-then-not-reaches-clause-count g c =
    let from = c.args.from.now in
    let within = reaches c.args.end c.args.bytes.now in
    let here = c.keys.array.map in
    let key = take c.in-Some.len c.first_from.new.buffer in
    let out : within key ≡ false = sym c.reaches.ensures ∙ c.if-not-reaches.true in
    let none = part_none here from within (past_first here from within key c.in-Some.ensures.found.is c.requires.front out) in
    let counted = c.keys.invariant.counted in
    omega (arith, none, counted)

pub returns-then-not-reaches-clause-left : goal.returns-then-not-reaches-clause-left
returns-then-not-reaches-clause-left g c =
    let from = c.args.from.now in
    let within = reaches c.args.end c.args.bytes.now in
    let here = c.keys.array.map in
    let key = take c.in-Some.len c.first_from.new.buffer in
    let out : within key ≡ false = sym c.reaches.ensures ∙ c.if-not-reaches.true in
    let none = past_first here from within key c.in-Some.ensures.found.is c.requires.front out in
    let same : here ≡ others c.args.array.now.map from within = sym (others_all here from within none) ∙ c.keys.invariant.left in
    λ t. record { limit = c.keys.invariant.limit t; map = same t }

pub overflow_add-count : goal.overflow_add-count
overflow_add-count g c =
    let from = c.args.from.now in
    let within = reaches c.args.end c.args.bytes.now in
    let here = c.keys.array.map in
    let key = take c.in-Some.len c.first_from.new.buffer in
    let meant : within key ≡ true = sym c.reaches.ensures ∙ c.if-not-reaches.false in
    let fewer = part_fewer here from within key c.in-Some.ensures.found.is meant in
    let counted = c.keys.invariant.counted in
    let most = part_most c.args.array.now.map from within in
    let long = c.len-most.ensures.count in
    omega (arith, fewer, counted, most, long)

pub keys-smaller : goal.keys-smaller
keys-smaller g c =
    let from = c.args.from.now in
    let within = reaches c.args.end c.args.bytes.now in
    let here = c.keys.array.map in
    let key = take c.in-Some.len c.first_from.new.buffer in
    let meant : within key ≡ true = sym c.reaches.ensures ∙ c.if-not-reaches.false in
    let after : c.del.new.self.map ≡ remove here key = ap (λ (a : ArrayOf byte_order). a.map) c.del.ensures.deleted in
    let less = all_fewer here from within key c.in-Some.ensures.found.is meant in
    subst (λ (w : Strings). len w < len here) (sym after) less

pub keys-preserved : goal.keys-preserved
keys-preserved g c =
    let from = c.args.from.now in
    let within = reaches c.args.end c.args.bytes.now in
    let here = c.keys.array.map in
    let key = take c.in-Some.len c.first_from.new.buffer in
    let meant : within key ≡ true = sym c.reaches.ensures ∙ c.if-not-reaches.false in
    let after : c.del.new.self.map ≡ remove here key = ap (λ (a : ArrayOf byte_order). a.map) c.del.ensures.deleted in
    let fewer = part_fewer here from within key c.in-Some.ensures.found.is meant in
    let counted = c.keys.invariant.counted in
    let long = ap (λ (w : Strings). len (part w from within)) after in record {
      limit = ap (λ (a : ArrayOf byte_order). a.limit) c.del.ensures.deleted ∙ c.keys.invariant.limit;
      left = ap (λ (w : Strings). others w from within) after ∙ others_stay here from within key c.in-Some.ensures.found.is meant ∙ c.keys.invariant.left;
      counted = omega (arith, fewer, counted, long);
      fit = subst (λ n. AreWithin n c.del.new.self.map) (sym c.in-Some.ensures.room)
          (subst (λ (w : Strings). AreWithin (length c.keys.buffer) w) (sym after) (left_within (length c.keys.buffer) here c.keys.invariant.fit key));
      room = (let same = c.in-Some.ensures.room in let fits = c.keys.invariant.room in omega (arith, same, fits));
    }
