-- `write_signed` meets its contract: the digits stand behind the sign, or alone.
use mathlib.Core.Path.{ap}
use lib.ListN.{length}
use mir.Facts.{to_z-of_z}
use native.Mathlib.Omega.{arith}
use Rattle.writer.specs.AppendsLaws.{appended-as, append-more}
use Rattle.decimals.specs.SignLaws.{signed_below, signed_above}
use Rattle.decimals.proofs.write_signed.Goals as goal

pub byte-next-requires : goal.byte-next-requires
byte-next-requires c =
    let e = signed_below (to_z-of_z c.ranges.z) c.unsigned_abs-amount.ensures.value c.if-z-lt0.true in
    (omega (arith, c.requires, ap length e), omega arith)

pub write_decimal-requires : goal.write_decimal-requires
write_decimal-requires c =
    let e = signed_below (to_z-of_z c.ranges.z) c.unsigned_abs-amount.ensures.value c.if-z-lt0.true in
    omega (arith, c.requires, ap length e, c.byte-next.ensures.place, c.byte-next.ensures.size)

pub returns-then-z-lt0 : goal.returns-then-z-lt0
returns-then-z-lt0 c =
    appended-as (signed_below (to_z-of_z c.ranges.z) c.unsigned_abs-amount.ensures.value c.if-z-lt0.true)
    (append-more c.byte-next.ensures c.write_decimal.ensures)

pub write_decimal-requires-2 : goal.write_decimal-requires-2
write_decimal-requires-2 c =
    omega (arith, c.requires, ap length (signed_above (to_z-of_z c.ranges.z) c.unsigned_abs-amount.ensures.value c.if-z-lt0.false))

pub returns : goal.returns
returns c =
    appended-as (signed_above (to_z-of_z c.ranges.z) c.unsigned_abs-amount.ensures.value c.if-z-lt0.false) c.write_decimal-2.ensures
