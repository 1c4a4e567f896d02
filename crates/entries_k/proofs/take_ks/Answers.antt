-- `take_ks` meets its contract. The invariant is `TakingKs`.
use mathlib.Core.Path.{refl}
use native.Mathlib.Omega.{arith}
use Rattle.transition.specs.KnownLaws.{known-transitions}
use Rattle.rule_kind.specs.StepsLaws.{tests-of}
use Rattle.entries_k.specs.KEntriesLaws.{ks-start, ks-refused, ks-asks, ks-pays, ks-turn, ks-end, k-read, k-stands}
use Rattle.entries_k.proofs.take_ks.Goals as goal

pub loop-init : goal.loop-init
loop-init c = ks-start c.requires _ _ (omega arith)

pub returns-then-not-stands : goal.returns-then-not-stands
returns-then-not-stands c =
    ks-refused (tests-of c.args.kind c.args.model.file.now) (known-transitions c.args.model.known) _ c.loop.invariant (omega arith)
    (k-read c.byte-layer.ensures c.pair-which.ensures c.quad-amount.ensures) (c.stands.ensures.wrong c.if-not-stands.true)

pub take_k-nonzero-requires : goal.take_k-nonzero-requires
take_k-nonzero-requires c =
    ks-asks
    (k-stands (tests-of c.args.kind c.args.model.file.now) c.loop.invariant (omega arith) (k-read c.byte-layer.ensures c.pair-which.ensures c.quad-amount.ensures) c.args.model.known (c.stands.ensures.right c.if-not-stands.false))

pub pay-paid-requires : goal.pay-paid-requires
pay-paid-requires c =
    ks-pays
    (k-stands (tests-of c.args.kind c.args.model.file.now) c.loop.invariant (omega arith) (k-read c.byte-layer.ensures c.pair-which.ensures c.quad-amount.ensures) c.args.model.known (c.stands.ensures.right c.if-not-stands.false))
    _ c.requires.stands

pub loop-preserved : goal.loop-preserved
loop-preserved c =
    ks-turn
    (k-stands (tests-of c.args.kind c.args.model.file.now) c.loop.invariant (omega arith) (k-read c.byte-layer.ensures c.pair-which.ensures c.quad-amount.ensures) c.args.model.known (c.stands.ensures.right c.if-not-stands.false))
    _ (omega arith)
    c.take_k-nonzero.ensures c.pay-paid.ensures (omega (arith, c.quad-amount.ensures.next, c.pair-which.ensures.next, c.byte-layer.ensures.next)) (omega arith)

pub returns : goal.returns
returns c = ks-end _ c.loop.invariant (omega arith) refl refl refl
