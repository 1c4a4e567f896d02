-- `head_at` meets its contract: the fields stand at their places.
use native.Mathlib.Omega.{arith}
use Rattle.rules.specs.definitions.Certificate.{k_count_at}
use Rattle.field.specs.Taken.{taken_at}
use Rattle.flow.proofs.head_at.Goals as goal

pub returns : goal.returns
unfolding k_count_at
returns c =
    let size = c.quad-d.ensures in
    let count = c.pair-entries.ensures in
    let new = c.new.ensures in
    record { d = taken_at size _ new; small = size.small; entries = taken_at count _ (omega (arith, new, size.next)); few = count.small; first = omega (arith, new, size.next, count.next) }
