-- `block_count` meets its contract: the greatest is at least as high as each, and one of them.
use Rattle.std.proofs.Common.{rules, ◌∙◌}
use Rattle.merged_model.specs.LabelsLaws.{count-greatest}
use Rattle.merged_model.proofs.block_count.Goals as goal

pub returns : goal.returns
returns c =
    let blocks = c.args.blocks.now in
    c.unwrap_or.ensures ∙ count-greatest blocks c.max.result (search rules) (search rules)
