-- Document 02, K14: 'Hardware users must not skip internal steps': the strong combined step of source document 000, section 7.2.3.
use Rattle.std.specs.Prelude.{ℕ, ◌*◌, ◌≤◌, ◌<◌, ◌≡◌}
use Rattle.bisimulation.specs.definitions.Sum.{sum}
use Rattle.bisimulation.specs.definitions.Automaton.{Automaton}
use Rattle.bisimulation.specs.definitions.StepRule.{Flow, Sides, Holds, arriving, over_targets, at_target}

-- 'over transitions of t itself with the challenger's action, internal included'
pub record StrongAllows (A : Automaton) (q t r : ℕ) : Type 0 where
  pub own : A.source r ≡ t
  pub action : A.action r ≡ A.action q

module _ (A : Automaton) (f : Flow) where
  -- 'D equals the sum of k times d'
  unfoldable pub strong_total : Sides
  strong_total = record { left = f.D; right = sum A.transitions (λ r. f.k 1 r * A.denominator r) }

  -- 'At each v, the sum of k times p(v) equals the sum of w(v,u)'
  unfoldable pub strong_move : ℕ → Sides
  strong_move v = record { left = arriving A (f.k 1) v; right = over_targets A f.w v }

-- the question of the challenger q against the defender t: 'entries of layer 1 only'; 'the target equations are as before'
pub record StrongMet (A : Automaton) (W : ℕ → ℕ → Type 0) (q t : ℕ) : Type 0 where
  pub flow : Flow
  pub at_least_one : 1 ≤ flow.D
  pub layer1 : (r : ℕ) → r < A.transitions → 0 < flow.k 1 r → StrongAllows A q t r
  pub related : (v u : ℕ) → v < A.states → u < A.states → 0 < flow.w v u → W v u
  pub total : Holds (strong_total A flow)
  pub move : (v : ℕ) → v < A.states → Holds (strong_move A flow v)
  pub target : (u : ℕ) → u < A.states → Holds (at_target A flow q u)
