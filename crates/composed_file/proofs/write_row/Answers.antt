-- `write_row` meets its contract. The invariant is `StateLoop`.
use native.Mathlib.Omega.{arith}
use Rattle.composed_states.specs.ModelsLaws.{right-known}
use Rattle.composed_file.specs.StateLoops.{states-start, states-ask, states-room, states-run, states-turn, states-end}
use Rattle.composed_file.specs.RowsLaws.{row-parts}
use Rattle.composed_file.proofs.write_row.Goals as goal

pub loop-e-init : goal.loop-e-init
loop-e-init c = let p = c.requires.0 in states-start (right-known p.models) (row-parts _ _ _) p.room

pub run_past-past-requires : goal.run_past-past-requires
run_past-past-requires c =
    states-ask (right-known c.requires.0.models) (row-parts _ _ _) c.loop-e.invariant

pub write_state-next-requires : goal.write_state-next-requires
write_state-next-requires c =
    let p = c.requires in
    let k = right-known p.0.models in (
      record { models = p.0.models; room = states-room k (row-parts _ _ _) c.loop-e.invariant (omega arith) },
      p.1,
      states-run k (row-parts _ _ _) c.loop-e.invariant (omega arith) c.run_past-past.ensures,
    )

pub loop-e-preserved : goal.loop-e-preserved
loop-e-preserved c =
    states-turn (right-known c.requires.0.models) (row-parts _ _ _) c.loop-e.invariant
    (omega arith) c.run_past-past.ensures c.write_state-next.ensures

pub returns : goal.returns
returns c =
    states-end (right-known c.requires.0.models) (row-parts _ _ _) c.loop-e.invariant (omega arith)
