-- Document 01's own step rule has all that a certificate needs.
use Rattle.bisimulation.specs.definitions.StepRule.{Met}
use Rattle.bisimulation.specs.definitions.Rule.{Rule}
use Rattle.bisimulation.specs.definitions.Refutation.{PlainRefutes}
use Rattle.bisimulation.proofs.argument.Duality.{plain_duality}
use Rattle.bisimulation.proofs.argument.Own.{plain_own}
use Rattle.bisimulation.proofs.argument.Respelled.{plain_respelled}
use Rattle.bisimulation.proofs.argument.Wider.{plain_wider}

-- document 01's step rule
abbrev pub plain : Rule
plain =
    record {
      met = Met;
      refutes = PlainRefutes;
      duality = plain_duality;
      own = plain_own;
      respelled = plain_respelled;
      wider = plain_wider;
    }
