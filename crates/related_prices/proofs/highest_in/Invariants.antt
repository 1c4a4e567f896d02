-- `highest_in` meets its contract. The invariant is `Seeking`.
use Prim.Native.Nat.{◌*◌, ◌-◌}
use Rattle.word.specs.Bits.{word_bits}
use Rattle.related_prices.specs.HighestLaws.{Seeking}
use Rattle.related_prices.proofs.highest_in.Given as goal

abbrev pub invariant-loop-u : goal.invariant-loop-u
invariant-loop-u l = Seeking l.rows l.v (l.k * word_bits) l.rest l.u l.g l.most

abbrev pub decreases-loop-u : goal.decreases-loop-u
decreases-loop-u l = word_bits - l.u
