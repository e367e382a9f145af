use Rattle.std.proofs.Common.{◌++◌, ap, ◌∙◌, append_assoc}
use Rattle.judy_model.specs.DumpText as text
use Rattle.judy_shelf.proofs.page.Tuple2U64U64Written.put_behind.Goals as goal

pub returns-clause-items : goal.returns-clause-items
returns-clause-items c =
    c.put_word_behind-2.ensures.items ∙ ap (λ bytes. bytes ++ text.word c.args.self.now.1) c.put_word_behind.ensures.items
    ∙ append_assoc c.args.bytes.now.items (text.word c.args.self.now.0) (text.word c.args.self.now.1)
