-- `first_not_below` meets its contract. The invariant: the search from here on finds what the whole search finds.
use Rattle.rules.specs.definitions.Reading.{first_not_below}
use Prim.Native.Nat.{◌-◌}
use mathlib.Core.Path.{◌≡◌}
use Rattle.fetch.proofs.first_not_below.Given as goal

abbrev pub invariant-loop-at : goal.invariant-loop-at
invariant-loop-at l = first_not_below l.model.file.now l.state (l.model.transitions - l.at) l.at ≡ first_not_below l.model.file.now l.state (l.model.transitions - l.r) l.r
