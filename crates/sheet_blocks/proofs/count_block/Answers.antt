-- `count_block` meets its contract: the block is new, or it was counted.
use native.Mathlib.Omega.{arith}
use Prim.Native.Nat.{ℕ, ◌*◌}
use mathlib.Core.Path.{sym, ◌∙◌, ap}
use borrow.Author.Tests.{eqb-true, eqb-false}
use Rattle.block_sheet.specs.definitions.Sheet.{line_count}
use Rattle.sheet_blocks.specs.BlocksLaws.{counted_none, counted-new, new-size, new-few}
use Rattle.sheet_blocks.proofs.count_block.Goals as goal

pub returns-then-not-is_first : goal.returns-then-not-is_first
returns-then-not-is_first c = counted_none c.requires (eqb-false _ _ (sym c.is_first.ensures ∙ c.if-not-is_first.true))

pub line_count-requires : goal.line_count-requires
line_count-requires c = omega (arith, (new-size c.requires (eqb-true _ _ (sym c.is_first.ensures ∙ c.if-not-is_first.false)) c.count_related-members.ensures).1)

pub overflow_mul-result : goal.overflow_mul-result
unfolding line_count
overflow_mul-result c =
    omega (arith, c.line_count.ensures, (new-size c.requires (eqb-true _ _ (sym c.is_first.ensures ∙ c.if-not-is_first.false)) c.count_related-members.ensures).1)

pub overflow_add-result : goal.overflow_add-result
overflow_add-result c = omega (arith, new-few c.requires (eqb-true _ _ (sym c.is_first.ensures ∙ c.if-not-is_first.false)))

pub returns : goal.returns
returns c =
    counted-new c.requires (eqb-true _ _ (sym c.is_first.ensures ∙ c.if-not-is_first.false)) c.count_related-members.ensures _ (ap (λ (k : ℕ). 73 * k) c.line_count.ensures)
