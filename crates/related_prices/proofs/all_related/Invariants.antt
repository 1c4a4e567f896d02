-- `all_related` meets its contract. The invariant is `Covering`.
use Rattle.related_prices.specs.HighestLaws.{Covering}
use Rattle.related_prices.proofs.all_related.Given as goal

abbrev pub invariant-loop-v : goal.invariant-loop-v
invariant-loop-v l = Covering l.n l.rows l.x l.g l.v l.known
