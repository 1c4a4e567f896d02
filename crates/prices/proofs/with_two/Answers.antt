-- `with_two` meets its contract.
use native.Mathlib.Omega.{arith}
use Rattle.prices.specs.AddingLaws.{adds_then, ready-fewer, ready-then}
use Rattle.prices.proofs.with_two.Goals as goal

pub with_entry-half-requires : goal.with_entry-half-requires
with_entry-half-requires c = ready-fewer c.requires (omega arith)

pub with_entry-requires : goal.with_entry-requires
with_entry-requires c = ready-then c.requires c.with_entry-half.ensures (omega arith)

pub returns : goal.returns
returns c = adds_then c.with_entry-half.ensures c.with_entry.ensures (omega arith)
