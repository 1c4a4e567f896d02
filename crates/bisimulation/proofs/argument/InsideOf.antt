-- Two step rules of which the first asks more: what is met by the first is met by the second, so the first's largest relation lies inside the
-- second's.
use Rattle.std.specs.Prelude.{ℕ}
use Rattle.bisimulation.specs.definitions.Automaton.{Automaton}
use Rattle.bisimulation.specs.definitions.StepRule.{StepRule, MeetsStepRule}
use Rattle.bisimulation.specs.definitions.Largest.{Bisimulation, LargestBisimulation, LargestPairs}

-- a question that the first rule finds met, the second does
abbrev pub Implies : (first second : StepRule) → Automaton → Type 1
Implies first second A = (W : ℕ → ℕ → Type 0) (q t : ℕ) → first A W q t → second A W q t

module _ {first second : StepRule} {A : Automaton} (implies : Implies first second A) where
  -- a relation, a symmetric one that keeps labels
  pub meets_inside : {W : ℕ → ℕ → Type 0} → MeetsStepRule first A W → MeetsStepRule second A W
  meets_inside {W} m = record { met = λ s t w q l e. implies W q t (m.met s t w q l e) }

  pub bisimulation_inside : {W : ℕ → ℕ → Type 0} → Bisimulation first A W → Bisimulation second A W
  bisimulation_inside b =
      record {
        on_states = b.on_states;
        symmetric = b.symmetric;
        keeps_labels = b.keeps_labels;
        meets = meets_inside b.meets;
      }

  -- of the two largest relations, and for relations that are sets of pairs
  pub largest_inside : {First Second : ℕ → ℕ → Type 0} → LargestBisimulation first A First → LargestBisimulation second A Second → (s t : ℕ) → First s t → Second s t
  largest_inside {First} l k s t w = k.largest First (bisimulation_inside l.itself) s t w

  pub pairs_inside : {First Second : ℕ → ℕ → Type 0} → LargestPairs first A First → LargestPairs second A Second → (s t : ℕ) → First s t → Second s t
  pairs_inside l k s t w = let b = (l.exactly s t).0 w in k.largest b.W (bisimulation_inside b.bisimulation) s t b.linked
