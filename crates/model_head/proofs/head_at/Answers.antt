-- `head_at` meets its contract: each field is read at its place.
use Rattle.field.specs.Taken.{taken_at}
use native.Mathlib.Omega.{arith}
use Rattle.rules.specs.definitions.Reading.{states_of, actions_of, count_of}
use Rattle.model_head.proofs.head_at.Goals as goal

pub returns : goal.returns
unfolding states_of actions_of count_of
returns c =
    record {
      states = taken_at c.byte-states.ensures _ (omega arith);
      actions = taken_at c.byte-actions.ensures _ (omega arith);
      transitions = taken_at c.pair-transitions.ensures _ (omega arith);
      small = omega arith;
    }
