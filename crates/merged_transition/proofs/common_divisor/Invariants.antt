-- `common_divisor` meets its contract. The invariant is `Dividing`.
use Prim.Native.Nat.{◌-◌}
use Rattle.transition.specs.Known.{entries_of}
use Rattle.merged_transition.specs.WeightsLaws.{Dividing}
use Rattle.merged_transition.proofs.common_divisor.Given as goal

abbrev pub invariant-loop : goal.invariant-loop
invariant-loop l =
    Dividing l.model.file.now l.blocks l.weights (entries_of l.model.file.now l.r) l.g (l.end - l.counter) l.place.at
