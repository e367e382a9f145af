use Rattle.std.proofs.Common.{◌+◌, set, ap, ◌∙◌}
use Rattle.judy_block.specs.Contents.{Contents}
use Rattle.judy_leaf.proofs.ValueSteps.{put_is}
use Rattle.judy_leaf.proofs.bit_edit.insert_value.Goals as goal

pub returns : goal.returns
returns c =
    let before = c.args.block.now in
    let written : Contents → Contents = λ block. record block { words = set block.words (4 + c.args.at) c.args.value } in
    c.put.ensures ∙ ap written c.open_gap.ensures ∙ (λ t. record before { words = put_is before.words (4 + c.args.at) c.args.value c.requires.place t })
