-- `divisors_of` meets its contract: the table holds the divisors of the transitions that were passed.
use Prim.Native.Nat.{ℕ}
use mathlib.Core.Path.{subst}
use native.Mathlib.Omega.{arith}
use Rattle.transition.specs.KnownLaws.{few-transitions, known-transition, entries-known}
use Rattle.divisors.specs.Table.{HoldsDivisors}
use Rattle.divisors.specs.TableLaws.{none-held, one-more-held, divisor-found}
use Rattle.divisors.proofs.divisors_of.Goals as goal

pub loop-r-init : goal.loop-r-init
loop-r-init c = none-held _

pub divisor_of-requires : goal.divisor_of-requires
divisor_of-requires c = omega (arith, entries-known {r = c.loop-r.r} (known-transition c.args.model.known (omega arith)), c.fields-t.ensures)

pub offset_bounds-divisors-r : goal.offset_bounds-divisors-r
offset_bounds-divisors-r c = omega (arith, few-transitions c.args.model.known)

pub bounds-divisors-r : goal.bounds-divisors-r
bounds-divisors-r c = omega (arith, few-transitions c.args.model.known)

pub loop-r-preserved : goal.loop-r-preserved
loop-r-preserved c =
    let l = c.loop-r in
    let k = c.args.model.known in
    one-more-held l.invariant (omega (arith, few-transitions k)) (divisor-found k (omega arith) c.fields-t.ensures c.divisor_of.ensures)

pub returns : goal.returns
returns c = let l = c.loop-r in subst (λ (k : ℕ). HoldsDivisors c.args.model.file.now k l.divisors) (omega arith) l.invariant
