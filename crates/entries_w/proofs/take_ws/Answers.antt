-- `take_ws` meets its contract. The invariant is `TakingWs`.
use mathlib.Core.Path.{refl}
use native.Mathlib.Omega.{arith}
use Rattle.entries_w.specs.WEntriesLaws.{ws-start, ws-refused, v-asks, u-asks, ws-turn, ws-end, w-read}
use Rattle.entries_w.proofs.take_ws.Goals as goal

pub loop-init : goal.loop-init
loop-init c = ws-start c.requires _ (omega arith)

pub returns-then-not-stands : goal.returns-then-not-stands
returns-then-not-stands c =
    ws-refused _ c.loop.invariant (omega arith) (w-read c.byte-from.ensures c.byte-to.ensures c.quad-amount.ensures) (c.stands.ensures.wrong c.if-not-stands.true)

pub take-nonzero-requires : goal.take-nonzero-requires
take-nonzero-requires c = (
  v-asks c.loop.invariant (w-read c.byte-from.ensures c.byte-to.ensures c.quad-amount.ensures) (c.stands.ensures.right c.if-not-stands.false),
  omega arith,
)

pub give-target_nonzero-requires : goal.give-target_nonzero-requires
give-target_nonzero-requires c = (
  u-asks c.loop.invariant (w-read c.byte-from.ensures c.byte-to.ensures c.quad-amount.ensures) (c.stands.ensures.right c.if-not-stands.false),
  omega arith,
)

pub loop-preserved : goal.loop-preserved
loop-preserved c =
    ws-turn _ _ c.loop.invariant (omega arith) (w-read c.byte-from.ensures c.byte-to.ensures c.quad-amount.ensures)
    (c.stands.ensures.right c.if-not-stands.false)
    c.take-nonzero.ensures c.give-target_nonzero.ensures (omega arith)

pub returns : goal.returns
returns c = ws-end _ c.loop.invariant (omega arith) refl refl refl
