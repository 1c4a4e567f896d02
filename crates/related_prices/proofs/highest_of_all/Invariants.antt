-- `highest_of_all` meets its contract. The invariant is `AboveAll`, for the states so far.
use Rattle.related_prices.specs.Highest.{AboveAll}
use Rattle.related_prices.proofs.highest_of_all.Given as goal

abbrev pub invariant-loop-u : goal.invariant-loop-u
invariant-loop-u l = AboveAll l.u l.g l.most
