-- `with_last` meets its contract.
use mathlib.Core.Path.{refl}
use native.Mathlib.Omega.{arith}
use Rattle.prices.specs.AddingLaws.{adds_none, adds_then, ready-fewer}
use Rattle.prices.proofs.with_last.Goals as goal

pub returns-then-left-eq0 : goal.returns-then-left-eq0
returns-then-left-eq0 c = adds_none (omega arith)

pub with_entry-requires : goal.with_entry-requires
with_entry-requires c = ready-fewer c.requires.1 (omega arith)

pub returns : goal.returns
returns c = adds_then c.with_entry.ensures (adds_none refl) (omega arith)
