-- `write_repeated` meets its contract. The invariant is `Repeating`.
use native.Mathlib.Omega.{arith}
use Rattle.largest.specs.Repeated.{repeating-start, repeating-room, repeating-turn, repeating-end}
use Rattle.largest.proofs.write_repeated.Goals as goal

pub loop-init : goal.loop-init
loop-init c = repeating-start (omega arith) c.requires

pub part-next-requires : goal.part-next-requires
part-next-requires c = repeating-room c.loop.invariant (omega arith)

pub loop-preserved : goal.loop-preserved
loop-preserved c = repeating-turn c.loop.invariant (omega arith) c.part-next.ensures

pub returns : goal.returns
returns c = repeating-end c.loop.invariant (omega arith)
