-- `no_remainders` meets its contract.
use Rattle.remainders.specs.RemaindersLaws.{zeros}
use Rattle.remainders.proofs.no_remainders.Goals as goal

pub returns : goal.returns
returns c = zeros
