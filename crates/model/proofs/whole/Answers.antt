-- `whole` meets its contract: bytes left are refused where the records end.
use native.Mathlib.Omega.{arith}
use mathlib.Core.Path.{refl, ◌∙◌, ap₂}
use Rattle.bisimulation.proofs.argument.ChoiceLaws.{less, not_less}
use Rattle.rules.specs.definitions.Reading.{refused, refuse_bytes_left}
use Rattle.model.proofs.whole.Goals as goal

pub returns-then-m-s : goal.returns-then-m-s
unfolding refuse_bytes_left
returns-then-m-s c = ap₂ refused (c.at.ensures.is ∙ c.fault.ensures) c.at.ensures.at ∙ less _ (omega arith) refl

pub returns : goal.returns
unfolding refuse_bytes_left
returns c = not_less _ (omega arith) refl
