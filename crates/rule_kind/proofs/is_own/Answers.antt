-- `is_own` meets its contract, test by test.
use native.Mathlib.Omega.{arith}
use Rattle.rule_kind.specs.StepsLaws.{other-source, same_source}
use Rattle.rule_kind.proofs.is_own.Goals as goal

pub returns-then-source-t : goal.returns-then-source-t
returns-then-source-t c = other-source _ _ _ _ (λ e. omega arith)

pub returns : goal.returns
returns c = same_source _ _ _ _ (omega arith)
