-- How many blocks there are.
use Rattle.std.specs.Prelude.{ℕ, ◌+◌, List, [], ◌∷◌}
use Rattle.bisimulation.specs.definitions.Choice.{if_less}

-- block numbers count up from 0, so there is one more than the highest
unfoldable pub block_count : List ℕ → ℕ
block_count [] = 0
block_count (b ∷ bs) = if_less b (block_count bs) (block_count bs) (b + 1)
