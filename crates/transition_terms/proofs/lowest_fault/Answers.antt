-- `lowest_fault` meets its contract.
use native.Mathlib.Omega.{arith}
use mathlib.Core.Path.{refl}
use Rattle.transition_terms.specs.DivisorsLaws.{above-one, is_one}
use Rattle.transition_terms.proofs.lowest_fault.Goals as goal

pub returns-then-divisor_of-ne1 : goal.returns-then-divisor_of-ne1
returns-then-divisor_of-ne1 c = above-one _ _ _ _ (λ z. omega (arith, z)) c.fault.ensures

pub returns : goal.returns
returns c = is_one _ _ _ _ (omega arith) refl
