-- `nonzero_after` meets its contract.
use native.Mathlib.Omega.{arith}
use mir.Facts.{to_z-of_z}
use Rattle.remainders.specs.NonzeroLaws.{at_most_one}
use Rattle.remainders.proofs.nonzero_after.Goals as goal

pub overflow_add-result : goal.overflow_add-result
overflow_add-result c =
    let new = rw (to_z-of_z c.ranges.new) at c.is_nonzero.ensures in
    omega (arith, at_most_one c.args.new, c.requires.few)

pub overflow_sub-result : goal.overflow_sub-result
overflow_sub-result c =
    let old = rw (to_z-of_z c.ranges.old) at c.is_nonzero-2.ensures in
    omega (arith, c.requires.some)

pub returns : goal.returns
returns c =
    let new = rw (to_z-of_z c.ranges.new) at c.is_nonzero.ensures in
    let old = rw (to_z-of_z c.ranges.old) at c.is_nonzero-2.ensures in
    omega (arith, c.requires.some)
