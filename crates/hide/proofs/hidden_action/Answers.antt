-- `hidden_action` meets its contract.
use mathlib.Core.Path.{refl}
use Rattle.bisimulation.proofs.argument.ChoiceLaws.{is_true, is_false}
use Rattle.bisimulation.specs.definitions.Hidden.{hidden_action}
use Rattle.hide.proofs.hidden_action.Goals as goal

pub returns-then-members-action : goal.returns-then-members-action
unfolding hidden_action
returns-then-members-action c = is_true _ c.if-members-action.true refl

pub returns-else-members-action : goal.returns-else-members-action
unfolding hidden_action
returns-else-members-action c = is_false _ c.if-members-action.false refl
