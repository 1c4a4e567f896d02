-- `piece_end` meets its contract. The invariant: no byte that parts lies between the beginning and here.
use native.Mathlib.Omega.{arith}
use Rattle.std.proofs.Common.{◌≡◌, subst, length}
use Rattle.text_fields.specs.FieldLaws.{NoneParts, none_yet, parts-not, parts-here}
use Rattle.text_fields.proofs.piece_end.Goals as goal

pub loop-at-init : goal.loop-at-init
loop-at-init c = none_yet _ _ _ (omega arith)

pub returns-then-s-at : goal.returns-then-s-at
returns-then-s-at c = parts-here c.loop-at.invariant (λ h. c.if-s-at.true)

pub loop-at-preserved : goal.loop-at-preserved
loop-at-preserved c = parts-not c.loop-at.invariant (omega arith) c.if-s-at.false

pub returns : goal.returns
returns c =
    let last : c.loop-at.at ≡ length c.args.s.now = omega arith in
    parts-here (subst (NoneParts c.args.s.now c.args.from c.args.parting) last c.loop-at.invariant) (λ h. absurd (omega arith))
