-- The strong step rule has all that a certificate needs.
use Rattle.bisimulation.specs.definitions.Rule.{Rule}
use Rattle.strong.specs.definitions.StrongStepRule.{StrongMet}
use Rattle.strong.specs.definitions.StrongRefutation.{StrongRefutes}
use Rattle.strong.proofs.argument.StrongDuality.{strong_duality}
use Rattle.strong.proofs.argument.StrongMoves.{strong_own, strong_respelled, strong_wider}

-- K14's step rule
abbrev pub strong : Rule
strong =
    record {
      met = StrongMet;
      refutes = StrongRefutes;
      duality = strong_duality;
      own = strong_own;
      respelled = strong_respelled;
      wider = strong_wider;
    }
