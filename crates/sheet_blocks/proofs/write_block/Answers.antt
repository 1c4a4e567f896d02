-- `write_block` meets its contract: the block is new, or it was written.
use native.Mathlib.Omega.{arith}
use mathlib.Core.Path.{sym, ◌∙◌}
use borrow.Author.Tests.{eqb-true, eqb-false}
use Rattle.sheet_blocks.specs.BlocksLaws.{put-none, put-new, new-size, new-few, new-room}
use Rattle.sheet_blocks.proofs.write_block.Goals as goal

pub returns-then-not-is_first : goal.returns-then-not-is_first
returns-then-not-is_first c = put-none c.requires.0 (eqb-false _ _ (sym c.is_first.ensures ∙ c.if-not-is_first.true)) _ _ (omega arith)

pub block-next-requires : goal.block-next-requires
block-next-requires c =
    let a = c.requires in
    let new = (eqb-true _ _ (sym c.is_first.ensures ∙ c.if-not-is_first.false)) in
    let fits = new-size a.0 new c.count_related-size.ensures in
    (omega (arith, a.0.inside, a.0.in_rows.model.few), fits.0, fits.1, new-room a.0 new c.count_related-size.ensures _ _ a.1)

pub overflow_add-result : goal.overflow_add-result
overflow_add-result c = omega (arith, new-few c.requires.0 (eqb-true _ _ (sym c.is_first.ensures ∙ c.if-not-is_first.false)))

pub returns : goal.returns
returns c = put-new c.requires.0 (eqb-true _ _ (sym c.is_first.ensures ∙ c.if-not-is_first.false)) c.count_related-size.ensures c.block-next.ensures
