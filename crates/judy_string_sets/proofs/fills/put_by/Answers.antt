use Rattle.std.proofs.Common.{length, sym, ap, ◌∙◌, subst, arith}
use Rattle.judy_model.specs.Arrays.{ArrayOf, with_map}
use Rattle.judy_model.specs.Keys.{byte_order}
use Rattle.judy_model.specs.TwoMaps.{union}
use Rattle.judy_sl.specs.Arenas.{AreWithin}
use Rattle.judy_string_sets.specs.Walks.{Strings, picked}
use Rattle.judy_string_sets.proofs.PartFacts.{taken_fewer}
use Rattle.judy_string_sets.proofs.FillFacts.{put_one, put_none}
use Rattle.judy_string_sets.proofs.NearFacts.{picked_within, taken_within}
use Rattle.judy_string_sets.proofs.fills.put_by.Goals as goal

pub keys-init : goal.keys-init
keys-init g c =
    let which = c.args.which in
    let other = c.args.other.now.map in
    let made = c.args.made.now in
    let room = length c.args.buffer.now in record {
      made = ap (λ (w : Strings). with_map made (union (picked which w other) made.map)) c.of-keys.ensures;
      fit = subst (λ (w : Strings). AreWithin room (picked which w other)) (sym c.of-keys.ensures) (picked_within room c.args.one.now.map c.requires which other);
    }

pub keys-smaller : goal.keys-smaller
keys-smaller g c =
    let which = c.args.which in
    let other = c.args.other.now.map in
    let fewer = taken_fewer (picked which c.keys.keys.map other) c.next_of.new.keys.key c.in-Some.value (picked which c.next_of.new.keys.map other) c.in-Some.ensures in
    omega (arith, fewer)

pub keys-preserved : goal.keys-preserved
keys-preserved g c =
    let which = c.args.which in
    let other = c.args.other.now.map in
    let before = picked which c.keys.keys.map other in
    let after = picked which c.next_of.new.keys.map other in
    let key = c.next_of.new.keys.key in
    let value = c.in-Some.value in record {
      made = ap (λ (a : ArrayOf byte_order). with_map a (union after a.map)) c.in_ok-put_in.ensures.put
          ∙ ap (with_map c.keys.made) (put_one before key value after c.keys.made.map c.in-Some.ensures)
          ∙ c.keys.invariant.made;
      fit = subst (λ n. AreWithin n after) (sym c.in_ok-put_in.ensures.room) (taken_within (length c.keys.buffer) before c.keys.invariant.fit key value after c.in-Some.ensures);
    }

pub returns : goal.returns
returns g c = sym (ap (with_map c.keys.made) (put_none (picked c.args.which c.keys.keys.map c.args.other.now.map) c.keys.made.map c.in_default.ensures)) ∙ c.keys.invariant.made
