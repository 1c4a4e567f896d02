-- Document 01, 'The certificate': refutations in a row, for any step rule.
use Rattle.std.specs.Prelude.{ℕ, ◌<◌, ◌≡◌, ◌≢◌, true, ℤ}
use Rattle.bisimulation.specs.definitions.Automaton.{Automaton}
use Rattle.bisimulation.specs.definitions.Pairs.{Pairs, equal_labels, removed}
use Rattle.bisimulation.specs.definitions.Rule.{Rule}

-- the related pairs that refutations in a row leave
pub data PairsLeft (rule : Rule) (A : Automaton) : Pairs → Type 0 where
  -- 'The related pairs start as all pairs with equal labels'
  start : PairsLeft rule A (equal_labels A)
  -- 'A refutation needs t different from the challenger's source s, and s, t still related. Its prices must satisfy: .. Then (s,t) and
  -- (t,s) are removed'
  refuted : {R : Pairs} → PairsLeft rule A R → (q t : ℕ) (p : ℕ → ℤ) → q < A.transitions → t < A.states → t ≢ A.source q → R (A.source q) t ≡ true → rule.refutes A R q t p → PairsLeft rule A (removed (A.source q) t R)
