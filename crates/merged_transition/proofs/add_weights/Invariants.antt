-- `add_weights` meets its contract. The invariant is `Adding`.
use Prim.Native.Nat.{◌-◌}
use Rattle.transition.specs.Known.{entries_of}
use Rattle.merged_transition.specs.WeightsLaws.{Adding}
use Rattle.merged_transition.proofs.add_weights.Given as goal

abbrev pub invariant-loop : goal.invariant-loop
invariant-loop l =
    Adding l.model.file.now l.blocks (entries_of l.model.file.now l.r) l.weights l.count (l.end - l.counter) l.place.at
