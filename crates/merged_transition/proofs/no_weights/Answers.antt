-- `no_weights` meets its contract.
use Rattle.merged_transition.specs.WeightsLaws.{no-weights}
use Rattle.merged_transition.proofs.no_weights.Goals as goal

pub returns : goal.returns
returns c = no-weights
