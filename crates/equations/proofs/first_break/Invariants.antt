-- `first_break` meets its contract. The invariant: the remainders left have the break of all.
use Rattle.std.proofs.Common.{◌-◌, ◌≡◌}
use Rattle.fault.specs.Faults.{number_of}
use Rattle.equations.specs.Differences.{remainder_break}
use Rattle.equations.proofs.first_break.Given as goal

abbrev pub invariant-loop-v : goal.invariant-loop-v
invariant-loop-v l = remainder_break (number_of l.refusal) l.remainders l.first (l.n - l.v) l.v ≡ remainder_break (number_of l.refusal) l.remainders l.first l.n 0
