use Rattle.std.proofs.Common.{◌≡◌, ◌^◌, ◌≤◌, Bool, true, false, cond, [], refl, sym, ap, ◌∙◌, arith}
use Rattle.std.proofs.Math.Nat.{pow-le-pow_right}
use mir.Val.{bool_byte}
use Rattle.judy_node.specs.Views.{view_pairs}
use Rattle.judy_query.specs.Parts.{width_of}
use Rattle.judy_query.proofs.RankFacts.{at_below}
use Rattle.judy_sets.proofs.MeetFacts.{found-more, found-none}
use Rattle.judy_sets.proofs.meets.count_each.Goals as goal

byte_of : (b : Bool) → bool_byte b ≡ cond b 1 0
byte_of true = refl
byte_of false = refl

byte_most : (b : Bool) → bool_byte b ≤ 1
byte_most true = omega arith
byte_most false = omega arith

pub keys-init : goal.keys-init
keys-init g c = record { few = omega arith; counted = sym (found-none c.args.wanted c.args.by [] (view_pairs c.args.other.now) refl) }

pub is_sought-requires-clause-inside : goal.is_sought-requires-clause-inside
is_sought-requires-clause-inside g c =
    let one = c.args.one.now in
    let key = c.entry_in-key.result in
    let below = at_below g.V.Words.WORDS 0 (256 ^ width_of one) (view_pairs one) c.keys.at key.0 key.1 c.requires.shown.map c.entry_in-key.ensures in
    let fits = c.requires.fits in
    omega arith

pub overflow_add-by : goal.overflow_add-by
overflow_add-by g c =
    let one = c.args.one.now in
    let key = c.entry_in-key.result in
    let below = at_below g.V.Words.WORDS 0 (256 ^ width_of one) (view_pairs one) c.keys.at key.0 key.1 c.requires.shown.map c.entry_in-key.ensures in
    let most : 256 ^ width_of c.args.other.now ≤ 256 ^ 8 = pow-le-pow_right {n = 256} (omega arith) c.requires.other_shown.narrow in
    let fits = c.requires.fits in
    omega arith

pub keys-preserved : goal.keys-preserved
keys-preserved g c =
    let more = found-more c.args.wanted c.args.by c.keys.at (view_pairs c.args.one.now) (view_pairs c.args.other.now) c.entry_in-key.result c.entry_in-key.ensures in
    let byte = byte_of c.is_sought.result ∙ ap (λ b. cond b 1 0) c.is_sought.ensures in
    let small = byte_most c.is_sought.result in
    let few = c.keys.invariant.few in
    let counted = c.keys.invariant.counted in
    record { few = omega (arith, small, few); counted = omega (arith, more, byte, counted) }
