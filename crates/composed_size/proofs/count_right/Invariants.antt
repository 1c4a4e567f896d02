-- `count_right` meets its contract. The invariant: the first r transitions are counted.
use Rattle.composed_size.specs.Counted.{pair_most, SumsCounted, RightCounted}
use Rattle.composed_size.proofs.count_right.Given as goal

abbrev pub invariant-loop-r : goal.invariant-loop-r
invariant-loop-r l = RightCounted l.left.model.actions l.left.model.states l.right.file.now (SumsCounted l.r pair_most) l.sizes
