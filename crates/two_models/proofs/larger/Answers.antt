-- `larger` meets its contract.
use Rattle.std.proofs.Common.{rules}
use Rattle.bisimulation.specs.definitions.Choice.{if_less}
use Rattle.bisimulation.specs.definitions.Joined as joined
use Rattle.two_models.proofs.larger.Goals as goal

pub returns : goal.returns
unfolding joined.larger if_less
returns c = search rules
