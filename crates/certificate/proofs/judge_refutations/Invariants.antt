-- `judge_refutations` meets its contract. Before each refutation the rows hold the pairs left (`Refuting`).
use Prim.Native.Nat.{◌-◌}
use Rattle.rule_kind.specs.Kinds.{rule_of}
use Rattle.refutation_prices.specs.PricesJudged.{Tables}
use Rattle.certificate.specs.Refuting.{Refuting}
use Rattle.certificate.proofs.judge_refutations.Given as goal

abbrev pub invariant-loop : goal.invariant-loop
invariant-loop l =
    Refuting (rule_of l.kind l.model.file.now) l.model.file.now l.cert l.model.states l.rows (l.refutations - l.counter) l.place.at × Tables l.x l.y l.g
