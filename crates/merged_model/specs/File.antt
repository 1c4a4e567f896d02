-- The file of the merged model in a lent buffer.
use Rattle.std.specs.Prelude.{ℕ, ◌+◌, ◌≤◌, ◌≡◌, List, ◌++◌, length, drop}
use Rattle.rules.specs.definitions.Reading.{model_at}
use Rattle.rules.specs.definitions.BlockCount.{block_count}
use Rattle.quotient.specs.definitions.Quotient.{by_block, merged_file}
use Rattle.rules.proofs.argument.NumberedBlocks.{NumberedBlocks}
use Rattle.merged_transitions.specs.declared.Kept.{Kept}
use Rattle.merged_transitions.specs.MergedTransitions.{transitions_in, Holds}

-- blocks as an accepted certificate has them, the records of the merged transitions, and room for the file
pub record CanWriteParts (s blocks : List ℕ) (k : ℕ) (records : List ℕ) (kept : Kept) (out : List ℕ) : Type 0 where
  pub numbered : NumberedBlocks (model_at s) blocks
  pub count : k ≡ block_count blocks
  pub held : Holds (by_block blocks (transitions_in s) k 0) records kept
  pub inside : kept.size ≤ length records
  pub room : 8 + k + kept.size ≤ length out

-- the file stands at the start of the buffer, and later bytes stay
pub record PartsWritten (s blocks before after : List ℕ) : Type 0 where
  pub buffer : after ≡ merged_file (model_at s) blocks ++ drop (length (merged_file (model_at s) blocks)) before
