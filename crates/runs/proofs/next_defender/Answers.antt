-- `next_defender` meets its contract.
use Rattle.std.proofs.Common.{refl, arith}
use Rattle.pairs.specs.RowsLaws.{as-number}
use Rattle.runs.specs.RunsLaws.{defender-next, defender-behind}
use Rattle.runs.proofs.next_defender.Goals as goal

pub returns-then-next-state : goal.returns-then-next-state
returns-then-next-state c =
    defender-next _ _ _ _ (as-number _ c.unwrap_or-next.ensures c.next_related.ensures) c.if-next-state.true

pub returns : goal.returns
returns c =
    defender-behind _ _ _ _ (as-number _ c.unwrap_or-next.ensures c.next_related.ensures) (omega arith) refl
    (as-number _ c.unwrap_or.ensures c.next_related-2.ensures)
