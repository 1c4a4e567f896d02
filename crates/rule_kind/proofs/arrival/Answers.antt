-- `arrival` meets its contract, test by test.
use mathlib.Core.Path.{refl}
use Rattle.bisimulation.proofs.argument.ChoiceLaws.{same, not_same}
use native.Mathlib.Omega.{arith}
use Rattle.rule_kind.specs.Steps.{arrival_of}
use Rattle.rule_kind.proofs.arrival.Goals as goal

pub returns-then-layer-eq0 : goal.returns-then-layer-eq0
unfolding arrival_of
returns-then-layer-eq0 c = same _ (omega arith) refl

pub returns : goal.returns
unfolding arrival_of
returns c = not_same _ (omega arith) refl
