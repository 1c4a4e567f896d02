-- `seen_after` meets its contract.
use native.Mathlib.Omega.{arith}
use mathlib.Core.Path.{refl}
use Rattle.bisimulation.proofs.argument.ChoiceLaws.{same, not_same}
use Rattle.blocks.proofs.seen_after.Goals as goal

pub returns-then-block-seen : goal.returns-then-block-seen
returns-then-block-seen c = same _ (omega arith) refl

pub returns : goal.returns
returns c = not_same _ (omega (arith, c.if-block-seen.false)) refl
