-- `open` meets its contract: each return is one way out of `open_fault`.
use native.Mathlib.Omega.{arith}
use mathlib.Core.Path.{refl, ◌∙◌}
use Rattle.rules.proofs.argument.FaultLaws.{open-ends, open-mark, open-cut, open-whole}
use Rattle.field.specs.Taken.{taken_at}
use Rattle.record.proofs.open.Goals as goal

pub returns-then-left-lt2 : goal.returns-then-left-lt2
returns-then-left-lt2 c = record { is = open-ends _ _ _ _ _ (omega arith) (c.at.ensures.is ∙ c.fault.ensures); at = c.at.ensures.at }

pub returns-then-pair-mark : goal.returns-then-pair-mark
returns-then-pair-mark c = record { is = open-mark _ _ _ _ _ (omega arith) (omega (arith, taken_at c.pair.ensures _ c.new.ensures)) (c.at-then-pair-mark.ensures.is ∙ c.fault-then-pair-mark.ensures); at = c.at-then-pair-mark.ensures.at }

pub returns-then-left-size : goal.returns-then-left-size
returns-then-left-size c = record { is = open-cut _ _ _ _ _ (omega arith) (omega (arith, taken_at c.pair.ensures _ c.new.ensures)) (omega arith) (c.at-then-left-size.ensures.is ∙ c.fault-then-left-size.ensures); at = c.at-then-left-size.ensures.at }

pub returns : goal.returns
returns c = record { is = open-whole _ _ _ _ _ (omega arith) (omega (arith, taken_at c.pair.ensures _ c.new.ensures)) (omega arith) refl; at = tt }
