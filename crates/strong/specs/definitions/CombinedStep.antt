-- Source document 000, section 7.2.3: the problem by which a strong combined step is decided, with its fractions over one common denominator N.
use Rattle.std.specs.Prelude.{ℕ, ◌*◌, ◌≤◌, ◌<◌, ◌≡◌}
use Rattle.bisimulation.specs.definitions.Sum.{sum}
use Rattle.bisimulation.specs.definitions.Automaton.{Automaton}
use Rattle.strong.specs.definitions.StrongStepRule.{StrongAllows}

-- M is a multiple of every denominator d, each times its cofactor: so p(v)/d is p(v) times the cofactor of d, over M
pub record CommonMultiple (A : Automaton) (M : ℕ) (cofactor : ℕ → ℕ) : Type 0 where
  pub positive : 1 ≤ M
  pub each : (r : ℕ) → r < A.transitions → cofactor r * A.denominator r ≡ M

-- numbers p_i and f_(u,v) exist that solve the problem: p_i is c/N for the transition i, and f_(u,v) is f/N. None is negative, and that none is
-- above 1 follows from the sums. As in the step rule W is asked of (v,u), for v that t leads to and u that the challenger does.
pub record CombinedStep (A : Automaton) (W : ℕ → ℕ → Type 0) (q t : ℕ) : Type 0 where
  pub N : ℕ
  pub c : ℕ → ℕ
  pub f : ℕ → ℕ → ℕ
  pub at_least_one : 1 ≤ N
  -- 'the transitions enabled by t with label a', and no others; 'for each (u,v) in W', and no others
  pub enabled : (r : ℕ) → r < A.transitions → 0 < c r → StrongAllows A q t r
  pub related : (v u : ℕ) → v < A.states → u < A.states → 0 < f v u → W v u
  -- the sum of p_i is 1
  pub whole : sum A.transitions c ≡ N
  -- for each u the challenger's probability p0(u)/d0 is the sum of f_(u,v) over v: multiplied by d0 and N
  pub challenger : (u : ℕ) → u < A.states → A.denominator q * sum A.states (λ v. f v u) ≡ A.weight q u * N
  -- for each v the sum of f_(u,v) over u is the sum of p_i times the probability of v in the transition i: multiplied by M and N
  pub M : ℕ
  pub cofactor : ℕ → ℕ
  pub common : CommonMultiple A M cofactor
  pub combined : (v : ℕ) → v < A.states → M * sum A.states (λ u. f v u) ≡ sum A.transitions (λ r. c r * (A.weight r v * cofactor r))
