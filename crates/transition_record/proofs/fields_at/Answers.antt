-- `fields_at` meets its contract: each field is read at its place.
use Rattle.field.specs.Taken.{taken_at}
use native.Mathlib.Omega.{arith}
use Rattle.rules.specs.definitions.Reading.{source_at, action_at, denominator_at, entry_count_at}
use Rattle.transition_record.proofs.fields_at.Goals as goal

pub returns : goal.returns
unfolding source_at action_at denominator_at entry_count_at
returns c =
    record {
      source = taken_at c.byte-source.ensures _ (omega arith);
      action = taken_at c.byte-action.ensures _ (omega arith);
      denominator = taken_at c.pair-denominator.ensures _ (omega arith);
      count = taken_at c.byte-count.ensures _ (omega arith);
      fits = omega arith;
      small = omega arith;
      entries = omega arith;
    }
