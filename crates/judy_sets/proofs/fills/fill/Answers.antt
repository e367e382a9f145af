use Rattle.std.proofs.Common.{take, subst}
use Rattle.judy_sets.specs.Fills.{IsRestPut}
use Rattle.judy_sets.specs.Pages.{Ahead, rest}
use Rattle.judy_sets.proofs.FillFacts.{part_filled, ends_filled}
use Rattle.judy_sets.proofs.fills.fill.Goals as goal

pub pages-preserved : goal.pages-preserved
pages-preserved g c =
    let words = g.V.Words.WORDS in
    let part = c.in-Some.ensures in
    let count = c.in-Some.count in
    let out = c.next_pairs.new.out in
    record {
      left_up = part.left_up;
      right_up = part.right_up;
      later = λ new is. c.pages.invariant.later new
          (part_filled words c.args.keep c.pages.made c.put_all.new.made new (take count out) (rest c.pages.left) (rest c.pages.right) (rest c.next_pairs.new.left)
          (rest c.next_pairs.new.right) part.taken
          c.in_ok-put_all.ensures is);
    }

pub returns : goal.returns
returns g c =
    let words = g.V.Words.WORDS in
    let keep = c.args.keep in
    let end = c.in_default.ensures in
    c.pages.invariant.later c.put_rest-2.new.made
    (ends_filled words keep c.pages.made c.put_rest.new.made c.put_rest-2.new.made (rest c.pages.left) (rest c.pages.right) end.ended
    (subst (λ (a : Ahead). IsRestPut words keep.left c.pages.made c.put_rest.new.made (rest a)) end.left_same c.in_ok-put_rest.ensures)
    (subst (λ (a : Ahead). IsRestPut words keep.right c.put_rest.new.made c.put_rest-2.new.made (rest a)) end.right_same c.in_ok-put_rest-2.ensures))
