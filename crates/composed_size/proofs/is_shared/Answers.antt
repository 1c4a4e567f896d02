-- `is_shared` meets its contract.
use Rattle.std.proofs.Common.{rules, arith}
use Rattle.bisimulation.proofs.argument.ChoiceLaws.{less}
use Rattle.composition.specs.definitions.Composition.{shared_below}
use Rattle.composed_size.specs.CountedLaws.{chosen, not-shared}
use Rattle.composed_size.proofs.is_shared.Goals as goal

pub returns-then-action-left : goal.returns-then-action-left
unfolding shared_below
returns-then-action-left c = less _ (omega arith) (less _ (omega arith) (chosen (λ b. b) _ _))

pub returns-else-action-left : goal.returns-else-action-left
returns-else-action-left c = not-shared _ (search rules) c.if-action-left.either
