-- `departure` meets its contract, test by test.
use mathlib.Core.Path.{refl}
use Rattle.bisimulation.proofs.argument.ChoiceLaws.{same, not_same}
use native.Mathlib.Omega.{arith}
use Rattle.rule_kind.specs.Steps.{departure_of}
use Rattle.rule_kind.proofs.departure.Goals as goal

pub returns-then-layer-eq2 : goal.returns-then-layer-eq2
unfolding departure_of
returns-then-layer-eq2 c = same _ (omega arith) refl

pub returns : goal.returns
unfolding departure_of
returns c = not_same _ (omega arith) refl
