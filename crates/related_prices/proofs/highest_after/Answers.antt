-- `highest_after` meets its contract: equal rows have the highest price in common.
use Rattle.std.proofs.Common.{subst}
use Rattle.related_prices.specs.Highest.{IsKnown}
use Rattle.related_prices.specs.HighestLaws.{highest-alike, highest-back}
use Rattle.related_prices.proofs.highest_after.Goals as goal

pub returns-then-same_in : goal.returns-then-same_in
returns-then-same_in c =
    let known = subst (IsKnown c.args.rows.now c.args.g.now c.args.v) c.in-Some.is c.requires.1 in
    highest-back (highest-alike c.same_in.ensures c.if-same_in.true known.1)
