-- `count_pair` meets its contract: another action, or a partner.
use native.Mathlib.Omega.{arith}
use Rattle.composed_size.specs.CountedLaws.{small-products, no-pair, one-pair}
use Rattle.composed_size.proofs.count_pair.Goals as goal

pub returns-then-u-t : goal.returns-then-u-t
returns-then-u-t c = no-pair (λ e. omega arith) (omega arith)

pub overflow_mul-result : goal.overflow_mul-result
overflow_mul-result c =
    let small = c.requires in
    omega (arith, (small-products small.0 small.1).0)

pub overflow_mul-t : goal.overflow_mul-t
overflow_mul-t c =
    let small = c.requires in
    omega (arith, (small-products small.0 small.1).1)

pub returns : goal.returns
returns c =
    let small = c.requires in
    one-pair small.0 small.1 (omega arith) (record { transitions = omega arith; entries = omega arith; long = c.is_long.ensures })
