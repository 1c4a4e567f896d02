-- A certificate of another kind has another mark: 12 at 0.
use Rattle.std.proofs.Common.{arith}
use Rattle.rules.proofs.argument.PlainRules.{plain_rules}
use Rattle.rules.proofs.argument.DemandsHold.{MarkRefused, mark-refused}
use Rattle.strong_files.proofs.argument.StrongRules.{strong_rules}

-- a strong certificate, 43 53, given to a call that judges by document 01's rules
pub strong-mark-refused : MarkRefused plain_rules 0x4353
strong-mark-refused = mark-refused plain_rules 0x4353 (λ s z. omega arith)

-- one of document 01, 43 54, or with costs, 43 43, given to one that judges by the strong rule
pub plain-mark-refused : MarkRefused strong_rules 0x4354
plain-mark-refused = mark-refused strong_rules 0x4354 (λ s z. omega arith)

pub cost-mark-refused : MarkRefused strong_rules 0x4343
cost-mark-refused = mark-refused strong_rules 0x4343 (λ s z. omega arith)
