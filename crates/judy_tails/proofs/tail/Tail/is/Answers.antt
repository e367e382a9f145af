use Rattle.std.proofs.Common.{sym, ap, ◌∙◌, arith}
use Rattle.judy_tails.proofs.TailLemmas.{are-bytes, whole-same, same-whole}
use Rattle.judy_tails.proofs.tail.Tail.is.Goals as goal

pub returns : goal.returns
returns c =
    let spot = c.self.inside.stored in (
      λ same. sym (ap (λ tail. tail.0) c.self.view_is) ∙ whole-same spot c.self.invariant c.args.bytes.now (are-bytes c.args.bytes.now (λ at. omega (arith, c.type_inv.bytes at))) c.requires
          (c.is_of.ensures.0 same),
      λ same. c.is_of.ensures.1 (same-whole spot c.self.invariant c.args.bytes.now (ap (λ tail. tail.0) c.self.view_is ∙ same)),
    )
