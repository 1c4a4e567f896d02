-- `write_flows` meets its contract. The invariant is `Against`.
use native.Mathlib.Omega.{arith}
use Rattle.largest.specs.LargestLaws.{against-start, against-room, against-turn, against-end}
use Rattle.largest.proofs.write_flows.Goals as goal

pub loop-t-init : goal.loop-t-init
loop-t-init c = let p = c.requires in against-start p.0 p.2

pub write_repeated-next-requires : goal.write_repeated-next-requires
write_repeated-next-requires c = against-room c.loop-t.invariant c.loop-t-test.true c.flow.ensures

pub loop-t-preserved : goal.loop-t-preserved
loop-t-preserved c = against-turn c.loop-t.invariant c.loop-t-test.true c.flow.ensures c.write_repeated-next.ensures

pub returns : goal.returns
returns c = against-end c.loop-t.invariant (omega arith)
