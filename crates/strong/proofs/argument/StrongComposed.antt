-- Parallel composition keeps strong bisimulations.
use Rattle.std.specs.Prelude.{ℕ, ◌*◌, ◌<◌, ◌≡◌, refl, true}
use Rattle.std.proofs.Common.{sym, ◌∙◌, inr, mul-pos, arith}
use Rattle.std.proofs.Math.Decide.{ℕ_discrete}
use Rattle.bisimulation.specs.definitions.Choice.{if_same}
use Rattle.bisimulation.specs.definitions.Automaton.{Automaton, SoundAutomaton}
use Rattle.bisimulation.specs.definitions.StepRule.{leaving, over_targets}
use Rattle.bisimulation.specs.definitions.Largest.{Bisimulation}
use Rattle.bisimulation.specs.definitions.Composed.{IsComposed, LinkedBeside}
use Rattle.bisimulation.proofs.argument.ChoiceLaws.{same, not_same}
use Rattle.bisimulation.proofs.argument.SumLaws.{term_le}
use Rattle.bisimulation.proofs.argument.Moves.{Layer, one_movement, start, Through, MetBy, Nothing}
use Rattle.bisimulation.proofs.argument.MovesLaws.{leaving_own}
use Rattle.bisimulation.proofs.argument.OneLayer.{moves_one, through_one, once_in_one}
use Rattle.bisimulation.proofs.argument.ComposedMoves.{through_together}
use Rattle.bisimulation.proofs.argument.ComposedLaws.{Beside, ComposesBy, composed_bisimulation_by}
use Rattle.strong.specs.definitions.StrongStepRule.{strong_total, StrongMet}
use Rattle.strong.proofs.argument.StrongMoves.{strong_by}

-- a step of any transitions with the action a
abbrev step_with : ℕ → Layer
step_with a = record { allows = λ s b. b ≡ a; step = true }

-- where all that is there is at t, a step uses t's transitions alone
step_own : (A : Automaton) → SoundAutomaton A → (k : ℕ → ℕ) (t D : ℕ) → ((v : ℕ) → v < A.states → leaving A k v ≡ start t D v) → (r : ℕ) → r < A.transitions → 0 < k r → A.source r ≡ t
unfolding leaving start SoundAutomaton
step_own A sound k t D leaves r l u = go (ℕ_discrete (A.source r) t)
  where
    go : Dec (A.source r ≡ t) → A.source r ≡ t
    go (yes e) = e
    go (no n) =
        absurd (omega (
          arith,
          mul-pos u (sound r l).positive,
          same {z = k r * A.denominator r} 0 {a = A.source r} refl refl,
          term_le A.transitions (λ x. if_same (A.source x) (A.source r) (k x * A.denominator x) 0) r l,
          leaves (A.source r) (sound r l).from,
          not_same {z = 0} D n refl,
        ))

-- so for a state of a sound automaton such a step is a strong one
of_step : (A : Automaton) → SoundAutomaton A → (W : ℕ → ℕ → Type 0) (q t : ℕ) → t < A.states → MetBy A (one_movement (step_with (A.action q))) (Nothing A q t) W q t → StrongMet A W q t
unfolding strong_total start
of_step A sound W q t state o =
    strong_by.from A W q t
    (record {
      flow = o.flow;
      at_least_one = o.at_least_one;
      moves = moves_one (record { uses = λ r j u. (own r j u, step.uses r j u); balance = step.balance; all = step.all });
      couples = o.couples;
      more = record { equal = same _ refl refl ∙ sym (step.all refl t state) ∙ leaving_own A t k own t ∙ sym (same _ refl refl) };
    })
  where
    k : ℕ → ℕ
    k = o.flow.k 0

    step : Through A (step_with (A.action q)) k (start t o.flow.D) (over_targets A o.flow.w)
    step = through_one o.moves

    own : (r : ℕ) → r < A.transitions → 0 < k r → A.source r ≡ t
    own = step_own A sound k t o.flow.D (step.all refl)

-- beside a transition r of the right automaton
step_beside : Beside (λ a. one_movement (step_with a))
step_beside A B C composed sound r below shared k x y o =
    let p = through_together A B C composed (λ s v b h. h) (through_one o) sound r below shared refl (λ s b h. h) in
    (λ i. p.0, moves_one p.1)

strong_composes : ComposesBy StrongMet (λ a. one_movement (step_with a)) SoundAutomaton
strong_composes =
    record {
      to = λ A W q t m. let o = strong_by.to A W q t m in let step = through_one o.moves in record {
        flow = o.flow;
        at_least_one = o.at_least_one;
        moves = moves_one (record { uses = λ r l u. (step.uses r l u).1; balance = step.balance; all = step.all });
        couples = o.couples;
        more = tt;
      };
      from = of_step;
      does = λ a s. once_in_one refl;
      any_source = λ a i l s v b h. h;
      allowed = λ a i l s b h. inr h;
      beside = step_beside;
    }

pub strong_composed_bisimulation : (A B C : Automaton) → SoundAutomaton B → IsComposed A B C → SoundAutomaton C → (W : ℕ → ℕ → Type 0) → Bisimulation StrongMet A W → Bisimulation StrongMet C (LinkedBeside B.states W)
strong_composed_bisimulation = composed_bisimulation_by strong_composes
