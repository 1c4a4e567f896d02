-- `count_partners` meets its contract. The invariant: the pairs with the first r transitions are counted.
use Rattle.composed_size.specs.Counted.{pair_most, SumsCounted, PartnersCounted}
use Rattle.composed_size.proofs.count_partners.Given as goal

abbrev pub invariant-loop-r : goal.invariant-loop-r
invariant-loop-r l = PartnersCounted l.t l.right.file.now (SumsCounted l.r pair_most) l.sizes
