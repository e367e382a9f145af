use Rattle.std.proofs.Common.{◌≢◌, ℕ, [], Option, Some, IsSome, unwrap_or, inl, inr, refl, sym, ap, subst, ◌∙◌}
use Rattle.std.specs.Option.{ghost_name_of}
use borrow.Follows.Closed.{read_of}
use Rattle.std.proofs.lemmas.Bool.{false≢true}
use Rattle.judy_records.specs.Spots.{spot_at, text_of}
use Rattle.judy_records.specs.Texts.{bytes_in}
use Rattle.judy_hs.specs.Chains.{Pairs, value_in, with_value}
use Rattle.judy_hs.specs.LongGroups.{Long, chain_at}
use Rattle.judy_hs.proofs.ChainLemmas.{some_used}
use Rattle.judy_hs.proofs.LongLemmas.{pairs-at, seen-held, long_of}
use Rattle.judy_hs.proofs.LongChanges.{own-value, other-value, value-kept, value-written, other-kept, other-written, beside-same}
use Rattle.judy_hs.proofs.SharedLemmas.{through-here, through-there, same-each}
use Rattle.judy_hs.proofs.long_group.LongGroup.slot.Goals as goal

pub is_own-requires-clause-held : goal.is_own-requires-clause-held
is_own-requires-clause-held c = seen-held c.self.inside.key_length c.self.inside.chains c.self.inside.records c.args.place c.self.view_is (some_used _ c.args.key.now c.requires.is_there)

pub is_own-requires-clause-there : goal.is_own-requires-clause-there
is_own-requires-clause-there c =
    subst (λ (pairs : Pairs). IsSome (value_in pairs c.args.key.now)) (pairs-at c.self.inside.key_length c.self.inside.chains c.self.inside.records c.args.place)
    (subst (λ (long : Long). IsSome (value_in (chain_at long c.args.place) c.args.key.now)) (sym c.self.view_is) c.requires.is_there)

pub slot-requires : goal.slot-requires
slot-requires c = seen-held c.self.inside.key_length c.self.inside.chains c.self.inside.records c.args.place c.self.view_is (some_used _ c.args.key.now c.requires.is_there)

pub invariant_of-self-lent : goal.invariant_of-self-lent
invariant_of-self-lent c =
    let is = seen-held c.self.inside.key_length c.self.inside.chains c.self.inside.records c.args.place c.self.view_is (some_used _ c.args.key.now c.requires.is_there) in
    λ w. value-kept c.self.inside.hashes c.self.inside.key_length c.self.inside.chains c.self.inside.records c.self.invariant c.args.place is c.args.key.now (c.if-is_own.ensures.0 refl) w

pub returns-then-is_own : goal.returns-then-is_own
returns-then-is_own c =
    let is = seen-held c.self.inside.key_length c.self.inside.chains c.self.inside.records c.args.place c.self.view_is (some_used _ c.args.key.now c.requires.is_there) in
    let own = c.if-is_own.ensures.0 refl in
    rw (← c.self.view_is) (
      λ t. inl (
        c.slot.result.ghost_name,
        λ w. value-written c.self.inside.hashes c.self.inside.key_length c.self.inside.chains c.self.inside.records c.self.invariant c.args.place is c.args.key.now own w t,
      ),
      record {
        writes_back = tt;
        value =
            ap (λ (v : ℕ). Some v) c.slot.ensures.value ∙ sym (own-value c.self.inside.hashes c.self.inside.key_length c.self.inside.chains c.self.inside.records
            c.self.invariant c.args.place is c.args.key.now own);
      },
    )

pub invariant_of-self-lent-in-Some : goal.invariant_of-self-lent-in-Some
invariant_of-self-lent-in-Some c _ =
    let is = seen-held c.self.inside.key_length c.self.inside.chains c.self.inside.records c.args.place c.self.view_is (some_used _ c.args.key.now c.requires.is_there) in
    let apart : bytes_in c.self.inside.key_length (text_of (spot_at c.self.inside.records c.args.place)) ≢ c.args.key.now = (λ same. false≢true (c.if-is_own.ensures.1 same)) in
    let led = c.in-Some.ensures.value in
    let others = ap (λ (found : Option Pairs). unwrap_or found []) led in (
      λ w.
          let there = through-there c.self.inside.chains (c.get_mut.follows.lender (with_value c.in-Some.chain.now c.args.key.now w)) c.args.place c.in-Some.chain.now
          (with_value c.in-Some.chain.now c.args.key.now w) led (c.get_mut.follows.holds (with_value c.in-Some.chain.now c.args.key.now w)) in
          let here = through-here c.self.inside.chains (c.get_mut.follows.lender (with_value c.in-Some.chain.now c.args.key.now w)) c.args.place c.in-Some.chain.now
          (with_value c.in-Some.chain.now c.args.key.now w) led (c.get_mut.follows.holds (with_value c.in-Some.chain.now c.args.key.now w)) in
          other-kept c.self.inside.hashes c.self.inside.key_length c.self.inside.chains c.self.inside.records c.self.invariant c.args.place is c.args.key.now apart
          (c.get_mut.follows.lender (with_value c.in-Some.chain.now c.args.key.now w)) there w (here ∙ ap (λ (pairs : Pairs). with_value pairs c.args.key.now w) others),
      (let there = through-there c.self.inside.chains (c.get_mut.follows.lender c.in-Some.chain.now) c.args.place c.in-Some.chain.now c.in-Some.chain.now led
          (c.get_mut.follows.holds c.in-Some.chain.now) in
          let here = through-here c.self.inside.chains (c.get_mut.follows.lender c.in-Some.chain.now) c.args.place c.in-Some.chain.now c.in-Some.chain.now led
          (c.get_mut.follows.holds c.in-Some.chain.now) in
          (beside-same c.self.inside.hashes c.self.inside.key_length c.self.inside.chains c.self.inside.records c.self.invariant c.args.place is
          (c.get_mut.follows.lender c.in-Some.chain.now) (same-each c.self.inside.chains (c.get_mut.follows.lender c.in-Some.chain.now) c.args.place (here ∙ others) there)).1),
    )

pub returns-in-Some : goal.returns-in-Some
returns-in-Some c =
    let is = seen-held c.self.inside.key_length c.self.inside.chains c.self.inside.records c.args.place c.self.view_is (some_used _ c.args.key.now c.requires.is_there) in
    let apart : bytes_in c.self.inside.key_length (text_of (spot_at c.self.inside.records c.args.place)) ≢ c.args.key.now = (λ same. false≢true (c.if-is_own.ensures.1 same)) in
    let led = c.in-Some.ensures.value in
    let others = ap (λ (found : Option Pairs). unwrap_or found []) led in
    let there = through-there c.self.inside.chains (c.get_mut.follows.lender c.in-Some.chain.now) c.args.place c.in-Some.chain.now c.in-Some.chain.now led
    (c.get_mut.follows.holds c.in-Some.chain.now) in
    let here = through-here c.self.inside.chains (c.get_mut.follows.lender c.in-Some.chain.now) c.args.place c.in-Some.chain.now c.in-Some.chain.now led
    (c.get_mut.follows.holds c.in-Some.chain.now) in
    let back = (beside-same c.self.inside.hashes c.self.inside.key_length c.self.inside.chains c.self.inside.records c.self.invariant c.args.place is
    (c.get_mut.follows.lender c.in-Some.chain.now) (same-each c.self.inside.chains (c.get_mut.follows.lender c.in-Some.chain.now) c.args.place (here ∙ others) there)).0 in
    rw (← c.self.view_is) (
      λ t. read_of (ghost_name_of c.slot-in-Some.result) (λ w.
          other-written c.self.inside.hashes c.self.inside.key_length c.self.inside.chains c.self.inside.records c.self.invariant c.args.place is c.args.key.now apart
          (c.get_mut.follows.lender (with_value c.in-Some.chain.now c.args.key.now w))
          (through-there c.self.inside.chains (c.get_mut.follows.lender (with_value c.in-Some.chain.now c.args.key.now w)) c.args.place c.in-Some.chain.now
          (with_value c.in-Some.chain.now c.args.key.now w) led (c.get_mut.follows.holds (with_value c.in-Some.chain.now c.args.key.now w))) w
          (through-here c.self.inside.chains (c.get_mut.follows.lender (with_value c.in-Some.chain.now c.args.key.now w)) c.args.place c.in-Some.chain.now
          (with_value c.in-Some.chain.now c.args.key.now w) led (c.get_mut.follows.holds (with_value c.in-Some.chain.now c.args.key.now w)) ∙
          ap (λ (pairs : Pairs). with_value pairs c.args.key.now w) others) t) (back t),
      record {
        writes_back = tt;
        value =
            c.slot-in-Some.ensures.value ∙ ap (λ (pairs : Pairs). value_in pairs c.args.key.now) others ∙
            sym (other-value c.self.inside.hashes c.self.inside.key_length c.self.inside.chains c.self.inside.records c.self.invariant c.args.place is c.args.key.now apart);
      },
    )

pub returns-in-None : goal.returns-in-None
returns-in-None c =
    let is = seen-held c.self.inside.key_length c.self.inside.chains c.self.inside.records c.args.place c.self.view_is (some_used _ c.args.key.now c.requires.is_there) in
    let apart : bytes_in c.self.inside.key_length (text_of (spot_at c.self.inside.records c.args.place)) ≢ c.args.key.now = (λ same. false≢true (c.if-is_own.ensures.1 same)) in
    let others = ap (λ (found : Option Pairs). unwrap_or found []) c.in-None.ensures.value in
    rw (← c.self.view_is) (
      λ t. inr (long_of c.self.inside.hashes c.self.inside.key_length (c.get_mut.follows.holds-at-none t) c.self.inside.records),
      record {
        writes_back = tt;
        value =
            ap (λ (pairs : Pairs). value_in pairs c.args.key.now) others ∙ sym (other-value c.self.inside.hashes c.self.inside.key_length c.self.inside.chains
            c.self.inside.records c.self.invariant c.args.place is c.args.key.now apart);
      },
    )
