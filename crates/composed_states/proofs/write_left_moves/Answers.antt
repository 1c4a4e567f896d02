-- `write_left_moves` meets its contract. The invariant is `RunLoop`.
use native.Mathlib.Omega.{arith}
use Rattle.composed_states.specs.RunLoops.{run-start, run-turn, run_end}
use Rattle.composed_states.specs.RecordsLaws.{left-of-run}
use Rattle.composed_states.specs.MovesLaws.{left-ask}
use Rattle.composed_states.proofs.write_left_moves.Goals as goal

pub loop-q-init : goal.loop-q-init
loop-q-init c = let p = c.requires in run-start (left-of-run _ _ _ p.1) p.0.room

pub write_left_move-next-requires : goal.write_left_move-next-requires
write_left_move-next-requires c = left-ask c.requires c.loop-q.invariant (omega arith)

pub loop-q-preserved : goal.loop-q-preserved
loop-q-preserved c =
    run-turn (left-of-run _ _ _ c.requires.1) c.loop-q.invariant (omega arith) c.write_left_move-next.ensures

pub returns : goal.returns
returns c =
    run_end (left-of-run _ _ _ c.requires.1) c.loop-q.invariant (omega arith)
