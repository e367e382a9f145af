use Rattle.std.proofs.Common.{◌≡◌, ◌+◌, ◌-◌, ◌*◌, take, drop, get_or, ap, ◌∙◌, arith}
use Rattle.judy_records.specs.Spots.{held}
use Rattle.judy_records.proofs.PageStands.{seen-long, seen-spot}
use Rattle.judy_records.proofs.SpotLemmas.{first-taken}
use Rattle.judy_records.proofs.page.Page.at.Goals as goal

pub overflow_mul-start : goal.overflow_mul-start
overflow_mul-start c =
    omega (arith, seen-long c.self.inside c.self.invariant c.self.view_is c.args.place c.requires, c.self.inside.words.ok, c.self.inside.words.small)

pub overflow_add-start-2 : goal.overflow_add-start-2
overflow_add-start-2 c =
    omega (arith, seen-long c.self.inside c.self.invariant c.self.view_is c.args.place c.requires, c.self.inside.words.ok, c.self.inside.words.small)

pub offset_bounds-deref-start : goal.offset_bounds-deref-start
offset_bounds-deref-start c =
    omega (arith, seen-long c.self.inside c.self.invariant c.self.view_is c.args.place c.requires, c.self.inside.words.ok, c.self.inside.words.small)

pub slice_bounds-new-end : goal.slice_bounds-new-end
slice_bounds-new-end c =
    omega (arith, seen-long c.self.inside c.self.invariant c.self.view_is c.args.place c.requires, c.self.inside.words.ok, c.self.inside.words.small, c.deref.ensures.len)

pub returns : goal.returns
returns c =
    let start = c.args.place * (c.self.inside.size + 1) in
    let e : start + (c.self.inside.size + 1) - start ≡ c.self.inside.size + 1 = omega arith in
    c.new.ensures
    ∙ ap (λ words. held (get_or words 0 0) (drop 1 words)) (ap (λ n. take n (drop start c.deref.result.now)) e ∙ ap (λ words. take (c.self.inside.size + 1) (drop start words)) c.deref.ensures.value)
    ∙ first-taken c.self.inside.size (drop start c.self.inside.words.items)
    ∙ seen-spot c.self.inside c.self.invariant c.self.view_is c.args.place c.requires
