-- `write_labels` meets its contract. The invariant: the labels of the blocks before b are appended.
use Prim.Native.Nat.{◌+◌}
use mathlib.Core.Path.{◌≡◌}
use Rattle.quotient.specs.definitions.Quotient.{block_labels}
use Rattle.writer.specs.Appends.{Appends}
use Rattle.merged_model.proofs.write_labels.Given as goal

abbrev pub invariant-loop-b : goal.invariant-loop-b
invariant-loop-b l =
    (l.next ≡ l.at + l.b) × Appends (block_labels l.blocks l.labels l.b 0) l.at l.initial.out l.out l.next
