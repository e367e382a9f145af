use Rattle.std.proofs.Common.{◌≡◌, ◌-◌, ◌++◌, ◌∷◌, [], length, get_or, Option, sym, ap, subst, refl, ◌∙◌, arith}
use Rattle.std.specs.Option.{option_to_list}
use Rattle.judy_records.specs.Kinds.{IsShorter}
use Rattle.judy_records.specs.Spots.{RecordList, spot_at, free}
use Rattle.judy_records.specs.PageSpots.{PageList, empty_page}
use Rattle.judy_records.specs.Pages.{start_of}
use Rattle.judy_records.specs.Inside.{ArePages, spots_to, spot_of}
use Rattle.judy_records.proofs.PagesTrim.{trimmed-start, trimmed-are, trimmed-spots}
use Rattle.judy_records.proofs.ListHolds.{per, some, shift-fits}
use Rattle.judy_records.proofs.records.Records.drop_last.Goals as goal

pub start_of-self-inside-requires-clause-shift : goal.start_of-self-inside-requires-clause-shift
start_of-self-inside-requires-clause-shift c = shift-fits c.self.inside c.self.invariant

abbrev last : goal.After-self-1 → PageList
last c = get_or c.self.inside.pages.items (c.self.inside.pages.len - 1) (empty_page 0)

shorter : (c : goal.After-self-1) → IsShorter c.self.inside.turns c.pop.new.self
shorter c = (c.if-not-pop.ensures).popped refl

-- the pages are the others and the last one
is-last : (c : goal.After-self-1) → c.self.inside.pages.items ≡ c.pop-2.new.self.items ++ last c ∷ []
is-last c =
    let more = (shorter c).long in
    let counted = c.self.invariant.pages.counted in
    c.pop-2.ensures.items
    ∙ ap (λ (found : Option PageList). c.pop-2.new.self.items ++ option_to_list found) (c.pop-2.ensures.value (empty_page 0) (omega (arith, more, counted, c.self.inside.pages.ok)))

end-is : (c : goal.After-self-1) → c.start_of-self-inside.result ≡ start_of (per c.self.inside c.self.invariant) (length c.pop-2.new.self.items)
end-is c =
    let same : c.len.result ≡ length c.pop-2.new.self.items = omega (arith, c.len.ensures, c.pop-2.new.self.ok) in
    c.start_of-self-inside.ensures ∙ ap (start_of (per c.self.inside c.self.invariant)) same

pub invariant_of-self-2 : goal.invariant_of-self-2
invariant_of-self-2 c =
    let list = c.self.inside in
    let are = c.self.invariant in
    let rest = c.pop-2.new.self.items in
    let now = trimmed-are list.size (per list are) list.end (some list are) list.pages.items rest (last c) (is-last c) list.turns c.pop.new.self are.pages (shorter c) in
    let start = trimmed-start list.size (per list are) list.end (some list are) list.pages.items rest (last c) (is-last c) list.turns c.pop.new.self are.pages (shorter c) in
    let same = end-is c in
    let most = are.most in
    record {
      pages = subst (λ n. ArePages list.size (per list are) n rest c.pop.new.self) (sym same) now;
      shift_is = are.shift_is;
      size_within = are.size_within;
      most = omega (arith, same, start, most);
    }

pub returns : goal.returns
returns c =
    let list = c.self.inside in
    let are = c.self.invariant in
    let rest = c.pop-2.new.self.items in
    record {
      size = ap (λ (seen : RecordList). seen.size) c.self.view_is;
      spots = λ place.
          ap (λ n. get_or (spots_to n (spot_of (per list are) rest)) place (free 0)) (end-is c)
          ∙ trimmed-spots list.size (per list are) list.end (some list are) list.pages.items rest (last c) (is-last c) list.turns c.pop.new.self are.pages (shorter c) place
          ∙ ap (λ (seen : RecordList). spot_at seen place) c.self.view_is;
    }
