-- `head_at` meets its contract: each field is read at its place.
use native.Mathlib.Omega.{arith}
use Rattle.rules.specs.definitions.Certificate.{challenger_at, defender_at}
use Rattle.field.specs.Taken.{taken_at}
use Rattle.refutation.proofs.head_at.Goals as goal

pub returns : goal.returns
unfolding challenger_at defender_at
returns c =
    record {
      challenger = taken_at c.pair-challenger.ensures _ (omega arith);
      defender = taken_at c.byte-defender.ensures _ (omega arith);
      prices = omega arith;
    }
