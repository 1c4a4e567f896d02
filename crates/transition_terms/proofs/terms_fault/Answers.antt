-- `terms_fault` meets its contract.
use mathlib.Core.Path.{refl}
use Rattle.transition_terms.specs.DivisorsLaws.{any-judged, lowest-judged}
use Rattle.transition_terms.proofs.terms_fault.Goals as goal

pub returns-in-Any : goal.returns-in-Any
returns-in-Any c = any-judged _ _ _ _ _ c.in-Any.is refl

pub returns-in-Lowest : goal.returns-in-Lowest
returns-in-Lowest c = lowest-judged _ _ _ _ _ c.in-Lowest.is c.lowest_fault.ensures
