-- `write_hidden` meets its contract. The invariant is `HidingFile`.
use Prim.Native.Nat.{◌+◌}
use mathlib.Core.Path.{◌∙◌}
use lib.ListN.{get_or}
use native.Mathlib.Omega.{arith}
use Rattle.rules.specs.definitions.Bytes.{byte_at}
use Rattle.transition.specs.KnownLaws.{few-transitions}
use Rattle.hide.specs.MembersLaws.{action-hidden}
use Rattle.hide.specs.HidingFile.{record-placed, hiding-start, hiding-turn, hiding-end}
use Rattle.hide.proofs.write_hidden.Goals as goal

pub loop-r-init : goal.loop-r-init
loop-r-init c = hiding-start _ c.args.model.known c.requires.0 c.part.ensures

pub offset_bounds-model-r : goal.offset_bounds-model-r
offset_bounds-model-r c = omega (arith, few-transitions c.args.model.known)

pub bounds-model-r : goal.bounds-model-r
bounds-model-r c = omega (arith, few-transitions c.args.model.known)

pub overflow_add-at : goal.overflow_add-at
overflow_add-at c = omega (arith, record-placed c.args.model.known c.loop-r.r (omega arith))

pub bounds-model-at : goal.bounds-model-at
bounds-model-at c = omega (arith, record-placed c.args.model.known c.loop-r.r (omega arith))

pub bounds-out-at : goal.bounds-out-at
bounds-out-at c = omega (arith, record-placed c.args.model.known c.loop-r.r (omega arith), c.part.ensures.size)

pub loop-r-preserved : goal.loop-r-preserved
unfolding byte_at
loop-r-preserved c =
    let placed = record-placed c.args.model.known c.loop-r.r (omega arith) in
    let at = get_or c.args.model.places.now c.loop-r.r 0 + 3 in
    hiding-turn _ c.loop-r.invariant (omega arith) (omega (arith, placed.0))
    (c.hidden_action.ensures ∙ action-hidden c.members_of-members.ensures _ (omega arith))

pub returns : goal.returns
returns c = hiding-end _ c.part.ensures c.loop-r.invariant (omega arith)
