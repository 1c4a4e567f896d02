-- `highest_label` meets its contract. The invariant: the highest of the labels so far.
use mathlib.Core.Path.{◌≡◌}
use Rattle.bisimulation.specs.definitions.Composed.{highest}
use Rattle.transition.specs.Known.{automaton_in}
use Rattle.composed_size.proofs.highest_label.Given as goal

abbrev pub invariant-loop-label : goal.invariant-loop-label
invariant-loop-label l = l.most ≡ highest l.label-index (automaton_in l.s).label
