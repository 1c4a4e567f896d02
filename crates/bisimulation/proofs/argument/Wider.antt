-- What is met by a movement for a relation is met for a wider one, by the same flow.
use Rattle.std.specs.Prelude.{ℕ, refl}
use Rattle.bisimulation.specs.definitions.StepRule.{StepRule, Met}
use Rattle.bisimulation.specs.definitions.Rule.{MetWider}
use Rattle.bisimulation.proofs.argument.Moves.{Movement, Besides, ByMovement}
use Rattle.bisimulation.proofs.argument.MovesLaws.{couples_cong}
use Rattle.bisimulation.proofs.argument.PlainMoves.{plain_by}

pub wider_by : {met : StepRule} {movement : (a t : ℕ) → Movement} {More : Besides} → ByMovement met movement More → MetWider met
wider_by by A W Wide wider q t m =
    let o = by.to A W q t m in
    by.from A Wide q t
    (record {
      flow = o.flow;
      at_least_one = o.at_least_one;
      moves = o.moves;
      couples = couples_cong (λ v u i j. wider v u) refl (λ u i. refl) o.couples;
      more = o.more;
    })

-- document 01's rule
pub plain_wider : MetWider Met
plain_wider = wider_by plain_by
