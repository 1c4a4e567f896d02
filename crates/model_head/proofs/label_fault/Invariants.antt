-- `label_fault` meets its contract. The invariant: the labels left have the fault of all.
use Rattle.std.proofs.Common.{◌+◌, ◌-◌, ◌≡◌, take, drop}
use Rattle.rules.specs.definitions.Limits.{limits}
use Rattle.rules.specs.definitions.Reading.{label_fault}
use Rattle.model_head.proofs.label_fault.Given as goal

abbrev pub invariant-loop-label : goal.invariant-loop-label
invariant-loop-label l = label_fault limits l.s (l.n - l.label-index) (8 + l.label-index) ≡ label_fault limits l.s l.n 8
