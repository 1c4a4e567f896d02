-- `write_targets` meets its contract. The invariant: the entries of the targets before this one are appended.
use Prim.Native.Nat.{◌+◌, ◌*◌}
use mathlib.Core.Path.{◌≡◌}
use Rattle.writer.specs.Appends.{Appends}
use Rattle.prism_choice.specs.TargetsLaws.{divided_bytes}
use Rattle.prism_choice.proofs.write_targets.Given as goal

abbrev pub invariant-loop-target : goal.invariant-loop-target
invariant-loop-target l =
    (l.next ≡ l.at + 3 * l.target-index) × Appends (divided_bytes l.divisor l.targets l.target-index) l.at l.initial.records l.records l.next
