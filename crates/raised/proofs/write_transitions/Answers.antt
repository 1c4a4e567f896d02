-- `write_transitions` meets its contract. The invariant is `Changing`.
use native.Mathlib.Omega.{arith}
use Rattle.writer.specs.ChangedRecords.{changing-start, changing-turn, changing-end}
use Rattle.raised.specs.RaisedLaws.{record-asks}
use Rattle.raised.proofs.write_transitions.Goals as goal

pub loop-r-init : goal.loop-r-init
loop-r-init c = changing-start _ _ c.args.model.known.transitions (omega (arith, c.requires.room))

pub write_transition-next-requires : goal.write_transition-next-requires
write_transition-next-requires c = record-asks c.args.model.known c.requires c.loop-r.invariant (omega arith)

pub loop-r-preserved : goal.loop-r-preserved
loop-r-preserved c =
    changing-turn _ _ c.loop-r.invariant (omega arith) c.write_transition-next.ensures

pub shape_of-out : goal.shape_of-out
shape_of-out c = c.loop-r.invariant.ahead.size

pub returns : goal.returns
returns c = changing-end _ _ c.loop-r.invariant (omega arith)
