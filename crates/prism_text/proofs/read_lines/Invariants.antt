-- `read_lines` meets its contract. The invariant: what the text holds is what follows from the place on, with what has been read.
use Prim.Native.Nat.{◌-◌}
use lib.ListN.{length}
use Rattle.prism_text.specs.LinesLaws.{Between}
use Rattle.prism_text.proofs.read_lines.Given as goal

abbrev pub invariant-lines : goal.invariant-lines
invariant-lines l = Between l.text l.from l.head l.names l.targets l.records l.p l.at

abbrev pub decreases-lines : goal.decreases-lines
decreases-lines l = length l.text - l.at
