-- `write_moves` meets its contract. The invariant is `StateLoop`.
use native.Mathlib.Omega.{arith}
use Rattle.composed_states.specs.ModelsLaws.{left-known}
use Rattle.composed_file.specs.StateLoops.{states-start, states-ask, states-room, states-run, states-turn, states-end}
use Rattle.composed_file.specs.RowsLaws.{all-parts}
use Rattle.composed_file.proofs.write_moves.Goals as goal

pub loop-s-init : goal.loop-s-init
loop-s-init c = let p = c.requires in states-start (left-known p.models) (all-parts _ _) p.room

pub run_past-past-requires : goal.run_past-past-requires
run_past-past-requires c =
    states-ask (left-known c.requires.models) (all-parts _ _) c.loop-s.invariant

pub write_row-next-requires : goal.write_row-next-requires
write_row-next-requires c =
    let p = c.requires in
    let k = left-known p.models in (
      record { models = p.models; room = states-room k (all-parts _ _) c.loop-s.invariant (omega arith) },
      states-run k (all-parts _ _) c.loop-s.invariant (omega arith) c.run_past-past.ensures,
    )

pub loop-s-preserved : goal.loop-s-preserved
loop-s-preserved c =
    states-turn (left-known c.requires.models) (all-parts _ _) c.loop-s.invariant
    (omega arith) c.run_past-past.ensures c.write_row-next.ensures

pub returns : goal.returns
returns c =
    states-end (left-known c.requires.models) (all-parts _ _) c.loop-s.invariant (omega arith)
