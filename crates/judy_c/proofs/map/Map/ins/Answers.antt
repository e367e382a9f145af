-- `Map::ins`: where there is no memory for the array itself, the handle held none, so the key is absent.
use Rattle.std.proofs.Common.{◌≡◌, refl, sym, subst, true≢false}
use Rattle.std.specs.Prelude.{OnErr}
use Rattle.judy_c.proofs.WordHandles.{null_has_none}
use Rattle.judy_c.proofs.map.Map.ins.Goals as goal

pub returns-in-Err : goal.returns-in-Err
returns-in-Err c =
    let same : c.array_or_new.follows.lender-at-none ≡ c.args.self.now = subst (λ r. OnErr r (c.array_or_new.follows.lender-at-none ≡ c.args.self.now)) c.in-Err.is
    c.array_or_new.follows.holds-at-none in
    ((refl, (λ w is. absurd (true≢false (sym is))), same), record { writes_back = tt; value = null_has_none _ c.args.key c.in-Err.ensures.null })
