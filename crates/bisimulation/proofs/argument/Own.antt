-- A state meets its own transitions by a movement that can do one once: it does the challenger and stays linked with itself.
use Rattle.std.specs.Prelude.{ℕ, ◌*◌, ◌<◌, refl}
use Rattle.std.proofs.Common.{sym, ap, subst, arith}
use Rattle.bisimulation.specs.definitions.Automaton.{Automaton, SoundAutomaton}
use Rattle.bisimulation.specs.definitions.StepRule.{Flow, over_sources, StepRule, Met}
use Rattle.bisimulation.specs.definitions.Rule.{MeetsOwn}
use Rattle.bisimulation.proofs.argument.Once.{diagonal, diagonal_used, over_targets_diagonal, over_sources_diagonal}
use Rattle.bisimulation.proofs.argument.Moves.{Movement, Besides, ByMovement, DoesOnce}
use Rattle.bisimulation.proofs.argument.MovesLaws.{moves_cong, own_layers, own_moves}
use Rattle.bisimulation.proofs.argument.PlainMoves.{plain_by, plain_once}

-- the flow that does the transition q once, in one layer
abbrev pub own_flow : Automaton → (q layer : ℕ) → Flow
own_flow A q layer = record { D = A.denominator q; k = own_layers q layer; w = diagonal (A.weight q) }

pub own_by : {met : StepRule} {movement : (a t : ℕ) → Movement} {More : Besides} → ByMovement met movement More → (does : (a s : ℕ) → DoesOnce (movement a s) s a) → ((A : Automaton) (q : ℕ) → q < A.transitions → More A q (A.source q) (own_flow A q (does (A.action q) (A.source q)).layer)) → MeetsOwn met
unfolding SoundAutomaton over_sources
own_by by does more A sound W reflexive q l =
    by.from A W q (A.source q)
    (record {
      flow = own_flow A q (does (A.action q) (A.source q)).layer;
      at_least_one = (sound q l).positive;
      moves = moves_cong (λ v i. refl) (λ v i. sym (over_targets_diagonal A (A.weight q) v i)) refl (own_moves A q l (does (A.action q) (A.source q)));
      couples = record {
        related = λ v u i j z. subst (λ (x : ℕ). W v x) (diagonal_used (A.weight q) v u z) (reflexive v i);
        target = λ u i. omega (arith, ap (λ (z : ℕ). A.denominator q * z) (over_sources_diagonal A (A.weight q) u i));
      };
      more = more A q l;
    })

-- document 01's rule
pub plain_own : MeetsOwn Met
plain_own = own_by plain_by plain_once (λ A q l. tt)
