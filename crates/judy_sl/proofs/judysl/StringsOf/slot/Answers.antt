use Rattle.std.proofs.Common.{◌∙◌, sym, ap, refl, true≢false}
use Rattle.std.specs.Option.{ghost_name_of}
use borrow.Follows.Closed.{read_of}
use Rattle.judy_model.specs.Arrays.{ArrayOf}
use Rattle.judy_model.specs.Keys.{byte_order}
use Rattle.judy_sl.specs.Arenas.{world_of}
use Rattle.judy_sl.specs.Lends.{with_value}
use Rattle.judy_sl.proofs.lemmas.seats.Maps.{get-map_none, get-map_bad}
use Rattle.judy_sl.proofs.lemmas.pieces.PieceLemmas.{text_of_key}
use Rattle.judy_sl.proofs.lemmas.pieces.Exact.{ends-text}
use Rattle.judy_sl.proofs.lemmas.counts.FirstWays.{firsts_slot}
use Rattle.judy_sl.proofs.lemmas.counts.CountedWrites.{counted_written}
use Rattle.judy_sl.proofs.lemmas.seats.Keeping.{gap-none, clash-none, strings-written, array-written, value-place}
use Rattle.judy_sl.proofs.lemmas.counts.ListWrites.{listed_slot}
use Rattle.judy_sl.proofs.judysl.StringsOf.slot.Goals as goal

pub returns-then-ends_in_zero : goal.returns-then-ends_in_zero
returns-then-ends_in_zero g c =
    rw (← c.self.view_is) (
      refl,
      record {
        writes_back = tt;
        value =
            sym (get-map_bad c.self.inside.arena c.args.key.now (λ is. true≢false (sym c.if-ends_in_zero.true ∙ c.ends_in_zero.ensures.1 (ends-text c.args.key.now (text_of_key c.args.key.now is)))));
      },
    )

pub invariant_of-self-lent : goal.invariant_of-self-lent
invariant_of-self-lent g c _ =
    let key = c.in-At.ensures.there c.in-At.place refl in
    let found = c.in-At.ensures.way (text_of_key _ key) in (
      λ w. (
        strings-written _ _ _ c.self.invariant.0 c.args.key.now key c.in-At.place found w,
        counted_written c.self.inside.arena c.self.invariant.0.is_arena c.args.key.now c.in-At.place found w c.self.invariant.1,
        firsts_slot _ _ _ c.self.invariant.0 c.args.key.now key c.in-At.place found c.self.inside.firsts c.self.invariant.2 w,
        listed_slot _ _ _ c.self.invariant.0 c.args.key.now key c.in-At.place found w c.self.inside.lists c.self.invariant.3,
      ),
      c.self.invariant,
    )

pub returns-in-At : goal.returns-in-At
returns-in-At g c =
    let key = c.in-At.ensures.there c.in-At.place refl in (
      λ t. read_of (ghost_name_of c.slot.result) (λ w. (array-written _ _ _ c.self.invariant.0 c.args.key.now key c.in-At.place (c.in-At.ensures.way (text_of_key _ key)) w ∙
          ap (λ (s : ArrayOf byte_order). with_value s c.args.key.now w) c.self.view_is) t) (c.self.view_is t),
      record {
        writes_back = tt;
        value = rw (← c.self.view_is) (c.slot.ensures.value ∙ value-place _ _ _ c.self.invariant.0 c.args.key.now key c.in-At.place (c.in-At.ensures.way (text_of_key _ key)));
      },
    )

pub returns-in-Gap : goal.returns-in-Gap
returns-in-Gap g c =
    rw (← c.self.view_is) (
      refl,
      record {
        writes_back = tt;
        value = sym (get-map_none c.self.inside.arena c.args.key.now (λ key. gap-none (world_of c.self.inside.arena) c.args.key.now _ _ (c.in-Gap.ensures.way (text_of_key _ key))));
      },
    )

pub returns-in-Clash : goal.returns-in-Clash
returns-in-Clash g c =
    rw (← c.self.view_is) (
      refl,
      record {
        writes_back = tt;
        value = sym (get-map_none c.self.inside.arena c.args.key.now (λ key. clash-none (world_of c.self.inside.arena) c.args.key.now _ _ _ (c.in-Clash.ensures.way (text_of_key _ key))));
      },
    )
