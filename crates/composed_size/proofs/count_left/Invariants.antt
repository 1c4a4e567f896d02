-- `count_left` meets its contract. The invariant: the first q transitions are counted.
use Rattle.composed_size.specs.Counted.{move_most, SumsCounted, LeftCounted}
use Rattle.composed_size.proofs.count_left.Given as goal

abbrev pub invariant-loop-q : goal.invariant-loop-q
invariant-loop-q l = LeftCounted l.left.file.now l.right.file.now (SumsCounted l.q move_most) l.sizes
