-- Demands 2 and 3 for today's current, document 01's model files and step rule.
use Rattle.std.specs.Prelude.{ℕ, ◌↔◌, List}
use Rattle.rules.specs.definitions.Limits.{current}
use Rattle.rules.specs.definitions.SoundModel.{Bytes}
use Rattle.rules.specs.definitions.Reading.{read_whole}
use Rattle.rules.specs.definitions.PlainRule.{plain_rule}
use Rattle.rules.specs.definitions.PlainSays.{plain_says}
use Rattle.rules.specs.definitions.Judging.{AcceptedFor}
use Rattle.rules.specs.definitions.Accepted.{FileOf, Accepted}
use Rattle.rules.specs.definitions.Demand3.{Demand3}
use Rattle.rules.specs.definitions.JudgedBy.{plain_pairs}
use Rattle.rules.proofs.argument.AcceptedExactly.{accepted-exactly}
use Rattle.rules.proofs.argument.Demand3Holds.{demand3}
use Rattle.rules.proofs.argument.PlainRules.{plain_rules}

-- accepted exactly when document 01's rules are kept; the mark of the certificate's head is 43 54
pub plain-accepted : (bytes C blocks : List ℕ) → Bytes bytes → Bytes C → AcceptedFor current (read_whole current) plain_rule bytes C blocks ↔ Accepted current (FileOf current) plain_says 0x4354 bytes C blocks
plain-accepted = accepted-exactly plain_rules

-- demand 3
pub plain-demand3 : Demand3 plain_pairs
plain-demand3 = demand3 plain_rules
