-- The sizes of tables that follow from the limits.
use Rattle.std.specs.Prelude.{ℕ, ◌+◌, ◌*◌}
use Rattle.rules.specs.definitions.Limits.{limits}

-- a place for each transition, and one for where the records end
abbrev pub places : ℕ
places = limits.transitions + 1

-- a remainder for each state before a flow's move, and one after it
abbrev pub remainders : ℕ
remainders = 2 * limits.states

-- the words of the related pairs: two for the row of each state
abbrev pub row_words : ℕ
row_words = 2 * limits.states

-- the bytes of the transition records of a sound model, at most
abbrev pub records : ℕ
records = 7 * limits.transitions + 3 * limits.entries
