-- What a term, and a transition's weights and denominator, change in the remainders.
use Rattle.std.specs.Prelude.{ℕ, ◌+◌, ◌*◌, ◌^◌, ◌≤◌, ◌<◌, List, [], ◌∷◌, set, ℤ, pos, ◌+ℤ◌, ◌*ℤ◌, nat_abs}
use Rattle.std.specs.Int.Signed.{mag}
use Rattle.bisimulation.specs.definitions.Automaton.{Automaton}
use Rattle.rules.specs.definitions.Limits.{limits}
use Rattle.rules.specs.definitions.Model.{Entry}
use Rattle.limits.specs.Sizes as sizes
use Rattle.transition.specs.Known.{KnownTransition}
use Rattle.signed.specs.Terms.{Addable}
use Rattle.remainders.specs.Remainders.{remainder_at}
use Rattle.remainders.specs.Nonzero.{Counted}

-- one remainder with one more term
unfoldable pub added : List ℤ → (i weight : ℕ) → ℤ → List ℤ
added remainders i weight factor = set remainders i (remainder_at remainders i +ℤ pos weight *ℤ factor)

-- the weights of entries, times a factor, at the remainders of their states, which begin at `first`
unfoldable pub arrived : List Entry → ℤ → ℕ → List ℤ → List ℤ
arrived [] factor first remainders = remainders
arrived (e ∷ es) factor first remainders = arrived es factor first (added remainders (first + e.state) e.weight factor)

-- the denominator of a transition, times a factor, at the remainder of its source
unfoldable pub departed : Automaton → ℕ → ℤ → ℕ → List ℤ → List ℤ
departed A r factor first remainders = added remainders (first + A.source r) (A.denominator r) factor

-- a change is less than this: a weight or a denominator, of 2 bytes, times an amount, of 4
abbrev pub change : ℕ
change = 2 ^ 48

-- so many changes of a remainder that is zero at first stay in its 8 bytes
abbrev pub most_changes : ℕ
most_changes = 2 ^ 15

-- the remainders have room for so many more changes
pub record Room (remainders : List ℤ) (changes : ℕ) : Type 0 where
  pub small : (i : ℕ) → i < sizes.remainders → nat_abs (remainder_at remainders i) + changes * change ≤ most_changes * change

-- a remainder to which a term can be added
pub record CanAdd (remainders : List ℤ) (i weight : ℕ) (factor : ℤ) (nonzero : ℕ) : Type 0 where
  pub table : Counted remainders nonzero
  pub inside : i < sizes.remainders
  pub fits : Addable (remainder_at remainders i) weight factor

-- remainders to which a transition's weights or its denominator can be added
pub record CanMove (s places : List ℕ) (r : ℕ) (factor : ℤ) (first : ℕ) (remainders : List ℤ) (nonzero : ℕ) : Type 0 where
  pub known : KnownTransition s places r
  pub small : mag factor < 2 ^ 32
  pub layer : first ≤ limits.states
  pub table : Counted remainders nonzero
  pub room : Room remainders 1
