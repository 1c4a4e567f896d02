-- `refused_at` meets its contract.
use Rattle.read_prism.specs.PrismLaws.{refusal-at}
use Rattle.read_prism.proofs.refused_at.Goals as goal

pub returns : goal.returns
returns c = refusal-at _ _ _ _ c.fault.ensures c.at.ensures c.refused_in.ensures
