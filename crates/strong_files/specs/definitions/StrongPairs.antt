-- Document 02, K14: what a pair is judged by under the strong rule, and what is promised of the files.
use Rattle.std.specs.Prelude.{ℕ, List}
use Rattle.rules.specs.definitions.Limits.{Limits, current}
use Rattle.rules.specs.definitions.SoundModel.{Bytes}
use Rattle.rules.specs.definitions.JudgedBy.{JudgedBy, whole_pairs_at, plain_pairs_at, AcceptedBy}
use Rattle.rules.specs.definitions.Demand3.{InOneBlock}
use Rattle.strong.specs.definitions.StrongStepRule.{StrongMet}
use Rattle.strong_files.specs.definitions.StrongFile.{strong_file}
use Rattle.strong_files.specs.definitions.StrongSays.{strong_says}

-- document 01's model files, and the strong step rule for all of them, within given limits
abbrev pub strong_pairs_at : Limits → JudgedBy
strong_pairs_at L = whole_pairs_at L strong_file strong_says StrongMet

-- as the call judges them
abbrev pub strong_pairs : JudgedBy
strong_pairs = strong_pairs_at current

-- 'these lie inside the weak blocks of the same model'
unfoldable pub StrongBlocksInside : Limits → Type 0
StrongBlocksInside L = (bytes C blocks plain_c plain_blocks : List ℕ) → Bytes bytes → Bytes C → Bytes plain_c → AcceptedBy (strong_pairs_at L) bytes C blocks → AcceptedBy (plain_pairs_at L) bytes plain_c plain_blocks → (s t : ℕ) → InOneBlock blocks s t → InOneBlock plain_blocks s t
