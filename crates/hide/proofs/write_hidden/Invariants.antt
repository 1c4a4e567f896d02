-- `write_hidden` meets its contract. The invariant is `HidingFile`.
use lib.ListN.{length, drop}
use Rattle.hide.specs.HidingFile.{HidingFile}
use Rattle.hide.proofs.write_hidden.Given as goal

abbrev pub invariant-loop-r : goal.invariant-loop-r
invariant-loop-r l = HidingFile l.set l.model.file.now (drop (length l.model.file.now) l.initial.out) l.model.transitions l.r l.out
