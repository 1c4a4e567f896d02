-- `same_block` meets its contract.
use mathlib.Core.Path.{refl}
use Rattle.bisimulation.proofs.argument.ChoiceLaws.{same, not_same}
use Rattle.alike.proofs.same_block.Goals as goal

pub returns-then-blocks-v : goal.returns-then-blocks-v
returns-then-blocks-v c = same _ c.if-blocks-v.true refl

pub returns : goal.returns
returns c = not_same _ c.if-blocks-v.false refl
