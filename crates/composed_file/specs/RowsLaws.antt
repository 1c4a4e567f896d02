-- The records of a row, and of all rows, state by state.
use Rattle.std.specs.Prelude.{ℕ, ◌≡◌, List}
use Rattle.transition.specs.Known.{automaton_in}
use Rattle.composition.specs.definitions.Composition.{gathered, moves_from, moves_of}
use Rattle.composed_states.specs.Records.{state_records}
use Rattle.composed_states.specs.RecordsLaws.{records-gathered}
use Rattle.composed_file.specs.ComposedFile.{row_records, all_records}

module _ (left right : List ℕ) where
  pub row-parts : (s : ℕ) → row_records left right s ≡ gathered (automaton_in right).states (state_records left right s)
  row-parts s = records-gathered left right (automaton_in right).states (moves_from (automaton_in left) (automaton_in right) s)

  pub all-parts : all_records left right ≡ gathered (automaton_in left).states (row_records left right)
  unfolding moves_of
  all-parts =
      records-gathered left right (automaton_in left).states
      (λ s. gathered (automaton_in right).states (moves_from (automaton_in left) (automaton_in right) s))
