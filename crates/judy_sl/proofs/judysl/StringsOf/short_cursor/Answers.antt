use Rattle.std.proofs.Common.{sym, subst}
use Rattle.judy_sl.specs.Pieces.{IsText}
use Rattle.judy_sl.specs.KeyLengths.{store_string, store_longest}
use Rattle.judy_sl.proofs.lemmas.pieces.PieceLemmas.{text_of_key}
use Rattle.judy_sl.proofs.lemmas.pieces.Strings.{string_to}
use Rattle.judy_sl.proofs.judysl.StringsOf.short_cursor.Goals as goal

pub invariant_of-result : goal.invariant_of-result
invariant_of-result g c = (
  c.of.ensures.whole,
  record {
    is_arena = c.self.invariant.0.is_arena;
    short = rw (← c.self.view_is) at c.requires.short;
    is_text = subst IsText (sym c.of.ensures.bytes) (text_of_key c.args.from.now (string_to store_longest c.args.from.now (store_string c.args.from.now c.requires.from)));
    leads = rw c.none.ensures tt;
  },
)
