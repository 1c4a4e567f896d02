-- `with_rest` meets its contract.
use native.Mathlib.Omega.{arith}
use Rattle.prices.specs.AddingLaws.{adds_then, ready-fewer, ready-then}
use Rattle.prices.proofs.with_rest.Goals as goal

pub with_two-two-requires : goal.with_two-two-requires
with_two-two-requires c = ready-fewer c.requires.1 (omega arith)

pub with_last-requires-2 : goal.with_last-requires-2
with_last-requires-2 c =
    (omega arith, ready-then c.requires.1 c.with_two-two.ensures (omega arith))

pub returns : goal.returns
returns c = adds_then c.with_two-two.ensures c.with_last-2.ensures (omega arith)
