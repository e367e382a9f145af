use Rattle.std.proofs.Common.{◌≡◌, ◌∷◌, ◌++◌, List, ℕ, [], Option, unwrap_or, Result, Ok, Err, OnOk, sym, ap, ◌∙◌}
use Rattle.std.proofs.lemmas.List.{append_assoc}
use Rattle.judy_records.specs.Spots.{spot_at, value_of, text_of}
use Rattle.judy_records.specs.Texts.{bytes_in}
use Rattle.judy_hs.specs.Chains.{Pairs}
use Rattle.judy_hs.specs.LongRecords.{others_at}
use Rattle.judy_hs.specs.Listed.{entries_in}
use Rattle.judy_hs.proofs.LongLemmas.{seen-held, at-held}
use Rattle.judy_hs.proofs.WalkLemmas.{listed_more}
use Rattle.judy_hs.proofs.long_group.LongGroup.list_place.Goals as goal

on-ok : {A E : Type 0} {P Q : Type 0} (result : Result A E) → OnOk result P → (P → Q) → OnOk result Q
on-ok (Ok done) holds follows = follows holds
on-ok (Err error) holds follows = tt

-- One key is listed, and then others.
two-listed : (before now after : Pairs) (key : List ℕ) (value : ℕ) (others all : Pairs) → now ≡ before ++ (key, value) ∷ [] → after ≡ now ++ others →
    all ≡ (key, value) ∷ others → after ≡ before ++ all
two-listed before now after key value others all one more is =
    more ∙ ap (λ (pairs : Pairs). pairs ++ others) one ∙ append_assoc before ((key, value) ∷ []) others ∙ ap (λ (pairs : Pairs). before ++ pairs) (sym is)

pub bytes-requires : goal.bytes-requires
bytes-requires c = seen-held c.self.inside.key_length c.self.inside.chains c.self.inside.records c.args.place c.self.view_is c.requires

pub value-requires : goal.value-requires
value-requires c = seen-held c.self.inside.key_length c.self.inside.chains c.self.inside.records c.args.place c.self.view_is c.requires

pub returns-in-Some : goal.returns-in-Some
returns-in-Some c =
    let is = seen-held c.self.inside.key_length c.self.inside.chains c.self.inside.records c.args.place c.self.view_is c.requires in
    let spot = spot_at c.self.inside.records c.args.place in
    let others = ap (λ (found : Option Pairs). unwrap_or found []) c.in-Some.ensures.value in
    let own : ◌≡◌ {A = List ℕ × ℕ} (c.in_ok-key.key.items, c.value.result) (bytes_in c.self.inside.key_length (text_of spot), value_of spot) = (λ t. (c.in_ok-key.ensures t, c.value.ensures t)) in
    let one = listed_more c.args.list.now.items c.push.new.self.items _ (bytes_in c.self.inside.key_length (text_of spot), value_of spot) c.in_ok-push.ensures.items own in
    let all = at-held c.self.inside.key_length c.self.inside.chains c.self.inside.records c.args.place is in
    rw (← c.self.view_is) (on-ok c.list.result c.list.ensures (λ more.
    two-listed (entries_in c.args.list.now.items) (entries_in c.push.new.self.items) (entries_in c.list.new.list.items) (bytes_in c.self.inside.key_length (text_of spot))
    (value_of spot) (others_at c.self.inside.chains c.args.place) _
    one (more ∙ ap (λ (pairs : Pairs). entries_in c.push.new.self.items ++ pairs) others) all))

pub returns-in-None : goal.returns-in-None
returns-in-None c =
    let is = seen-held c.self.inside.key_length c.self.inside.chains c.self.inside.records c.args.place c.self.view_is c.requires in
    let spot = spot_at c.self.inside.records c.args.place in
    let others = ap (λ (found : Option Pairs). unwrap_or found []) c.in-None.ensures.value in
    let own : ◌≡◌ {A = List ℕ × ℕ} (c.in_ok-key.key.items, c.value.result) (bytes_in c.self.inside.key_length (text_of spot), value_of spot) = (λ t. (c.in_ok-key.ensures t, c.value.ensures t)) in
    let one = listed_more c.args.list.now.items c.push.new.self.items _ (bytes_in c.self.inside.key_length (text_of spot), value_of spot) c.in_ok-push.ensures.items own in
    let all = at-held c.self.inside.key_length c.self.inside.chains c.self.inside.records c.args.place is in
    rw (← c.self.view_is) (one ∙ ap (λ (pairs : Pairs). entries_in c.args.list.now.items ++ (bytes_in c.self.inside.key_length (text_of spot), value_of spot) ∷ pairs) others ∙
    ap (λ (pairs : Pairs). entries_in c.args.list.now.items ++ pairs) (sym all))
