-- `outside` meets its contract, test by test.
use Rattle.std.proofs.Common.{rules}
use Rattle.bisimulation.specs.definitions.Choice.{if_less}
use Rattle.largest_pair.specs.definitions.LargestAnswer.{outside_limits}
use Rattle.largest.proofs.outside.Goals as goal

pub returns-then-n-gt-STATES : goal.returns-then-n-gt-STATES
unfolding outside_limits if_less
returns-then-n-gt-STATES c = grind rules

pub returns-else-n-gt-STATES : goal.returns-else-n-gt-STATES
unfolding outside_limits if_less
returns-else-n-gt-STATES c = grind rules
