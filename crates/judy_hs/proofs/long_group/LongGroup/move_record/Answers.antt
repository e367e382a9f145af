use Rattle.std.proofs.Common.{List, set, sym, ap, ◌∙◌}
use Rattle.std.specs.FinMap.{get, insert}
use Rattle.judy_model.specs.Arrays.{with_map}
use Rattle.judy_records.specs.Texts.{words_for}
use Rattle.judy_records.specs.Spots.{Spot, free, spot_at, put_at}
use Rattle.judy_hs.specs.LongGroups.{Long}
use Rattle.judy_hs.proofs.RelaidMoves.{made-again, again-long, on-went, moved-kept, moved-relaid}
use Rattle.judy_hs.proofs.long_group.LongGroup.move_record.Goals as goal

pub put-requires-2 : goal.put-requires-2
put-requires-2 c =
    let leads = ap (λ (long : Long). get long.hashes.map c.args.hash) c.self.view_is ∙ c.requires in
    let spot = spot_at c.self.inside.records c.args.place in
    ap words_for (again-long c.self.inside.key_length spot (c.self.invariant.led c.args.hash c.args.place leads) (c.self.invariant.spelled c.args.place) c.bytes.result.now
    (c.bytes.ensures ∙ c.in-Some.ensures.key)) ∙ sym c.self.invariant.size

pub invariant_of-self-in-Ok : goal.invariant_of-self-in-Ok
invariant_of-self-in-Ok c =
    let leads = ap (λ (long : Long). get long.hashes.map c.args.hash) c.self.view_is ∙ c.requires in
    let spot = spot_at c.self.inside.records c.args.place in
    let again = made-again c.self.inside.key_length spot (c.self.invariant.led c.args.hash c.args.place leads) (c.self.invariant.spelled c.args.place) c.in-Some.value c.bytes.result.now
    c.in-Some.ensures.value (c.bytes.ensures ∙ c.in-Some.ensures.key) in
    let put =
    on-went c.put.result c.if-is_err.ensures.value c.put.ensures.put
    ∙ ap (λ n. with_map c.self.inside.hashes (insert c.self.inside.hashes.map c.args.hash n)) c.next_place-next.ensures in
    let spots =
    c.take_out.ensures.spots ∙ ap (λ (spots : List Spot). set spots c.args.place (free 0)) (c.in-Ok.ensures.put ∙ ap (put_at c.self.inside.records.spots c.self.inside.records.next) again) in
    moved-kept c.self.inside.hashes c.self.inside.key_length c.self.inside.chains c.self.inside.records c.self.invariant c.law.ensures.next c.args.hash c.args.place leads
    c.in-Some.ensures.alone c.put.new.self c.take_out.new.self put (c.take_out.ensures.size ∙ c.put-2.ensures.size) spots

pub returns : goal.returns
returns c =
    let leads = ap (λ (long : Long). get long.hashes.map c.args.hash) c.self.view_is ∙ c.requires in
    let spot = spot_at c.self.inside.records c.args.place in
    let again = made-again c.self.inside.key_length spot (c.self.invariant.led c.args.hash c.args.place leads) (c.self.invariant.spelled c.args.place) c.in-Some.value c.bytes.result.now
    c.in-Some.ensures.value (c.bytes.ensures ∙ c.in-Some.ensures.key) in
    let put =
    on-went c.put.result c.if-is_err.ensures.value c.put.ensures.put
    ∙ ap (λ n. with_map c.self.inside.hashes (insert c.self.inside.hashes.map c.args.hash n)) c.next_place-next.ensures in
    let spots =
    c.take_out.ensures.spots ∙ ap (λ (spots : List Spot). set spots c.args.place (free 0)) (c.in-Ok.ensures.put ∙ ap (put_at c.self.inside.records.spots c.self.inside.records.next) again) in
    rw (← c.self.view_is) (
    moved-relaid c.self.inside.hashes c.self.inside.key_length c.self.inside.chains c.self.inside.records c.self.invariant c.law.ensures.next c.args.hash c.args.place leads
    c.in-Some.ensures.alone c.put.new.self c.take_out.new.self put (c.take_out.ensures.size ∙ c.put-2.ensures.size) spots
    )
