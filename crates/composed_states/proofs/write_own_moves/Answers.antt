-- `write_own_moves` meets its contract. The invariant is `RunLoop`.
use native.Mathlib.Omega.{arith}
use Rattle.composed_states.specs.RunLoops.{run-start, run-turn, run_end}
use Rattle.composed_states.specs.OwnLaws.{own-of-run, owns-ask}
use Rattle.composed_states.proofs.write_own_moves.Goals as goal

pub loop-r-init : goal.loop-r-init
loop-r-init c = let p = c.requires in run-start (own-of-run _ _ _ p.leaving) p.room

pub write_own_move-next-requires : goal.write_own_move-next-requires
write_own_move-next-requires c = owns-ask c.requires c.loop-r.invariant (omega arith)

pub loop-r-preserved : goal.loop-r-preserved
loop-r-preserved c =
    run-turn (own-of-run _ _ _ c.requires.leaving) c.loop-r.invariant (omega arith) c.write_own_move-next.ensures

pub returns : goal.returns
returns c =
    run_end (own-of-run _ _ _ c.requires.leaving) c.loop-r.invariant (omega arith)
