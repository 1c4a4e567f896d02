-- `entry_at` meets its contract: the weight stands one byte after the state.
use native.Mathlib.Omega.{arith}
use Rattle.field.specs.Taken.{taken_at}
use Rattle.transition.proofs.entry_at.Goals as goal

pub returns : goal.returns
returns c =
    record {
      state = omega arith;
      weight = omega (arith, taken_at c.pair-weight.ensures _ c.byte-state.ensures.next);
      small = omega arith;
      next = omega arith;
    }
