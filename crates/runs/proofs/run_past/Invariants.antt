-- `run_past` meets its contract. The invariant: the transitions passed leave the state.
use Rattle.std.proofs.Common.{ℕ, ◌≤◌, ◌<◌, ◌≡◌}
use Rattle.transition.specs.Known.{automaton_in}
use Rattle.runs.proofs.run_past.Given as goal

abbrev pub invariant-loop-past : goal.invariant-loop-past
invariant-loop-past l = (i : ℕ) → l.r ≤ i → i < l.past → (automaton_in l.s).source i ≡ l.state
