-- Document 01: 'Two model files hold one automaton when they differ at most in the terms that their fractions p(v)/d are written in'. For
-- any step rule, the largest relation does not depend on these terms.
use Rattle.std.specs.Prelude.{ℕ, ◌↔◌}
use Rattle.std.proofs.Common.{sym, ◌∙◌, arith}
use Rattle.bisimulation.specs.definitions.Automaton.{Automaton, SoundAutomaton, SameProbabilities}
use Rattle.bisimulation.specs.definitions.StepRule.{MeetsStepRule}
use Rattle.bisimulation.specs.definitions.Largest.{Bisimulation, LargestBisimulation}
use Rattle.bisimulation.specs.definitions.Rule.{Rule}

-- in either order
pub same_probabilities_turned : {A B : Automaton} → SameProbabilities A B → SameProbabilities B A
same_probabilities_turned e =
    record {
      states = sym e.states;
      actions = sym e.actions;
      transitions = sym e.transitions;
      label = λ v l. sym (e.label v (omega arith));
      source = λ q l. sym (e.source q (omega arith));
      action = λ q l. sym (e.action q (omega arith));
      probability = λ q v l k. sym (e.probability q v (omega arith) (omega arith));
    }

-- a relation that meets the step rule in one spelling meets it in the other
pub meets_respelled : (rule : Rule) {A B : Automaton} → SoundAutomaton A → SoundAutomaton B → SameProbabilities A B → (W : ℕ → ℕ → Type 0) → MeetsStepRule rule.met A W → MeetsStepRule rule.met B W
meets_respelled rule {A} {B} sound_a sound_b e W m =
    record { met = λ s t w q i f. rule.respelled A B sound_a sound_b e W q t (omega arith) (m.met s t w q (omega arith) (e.source q (omega arith) ∙ f)) }

pub bisimulation_respelled : (rule : Rule) {A B : Automaton} → SoundAutomaton A → SoundAutomaton B → SameProbabilities A B → (W : ℕ → ℕ → Type 0) → Bisimulation rule.met A W → Bisimulation rule.met B W
bisimulation_respelled rule sound_a sound_b e W b =
    record {
      on_states = λ s t w. let o = b.on_states s t w in (omega arith, omega arith);
      symmetric = b.symmetric;
      keeps_labels = λ s t w. let o = b.on_states s t w in sym (e.label s o.0) ∙ b.keeps_labels s t w ∙ e.label t o.1;
      meets = meets_respelled rule sound_a sound_b e W b.meets;
    }

-- so two spellings have the same relations
pub same_relations : (rule : Rule) {A B : Automaton} → SoundAutomaton A → SoundAutomaton B → SameProbabilities A B → (W : ℕ → ℕ → Type 0) → (MeetsStepRule rule.met A W ↔ MeetsStepRule rule.met B W) × (Bisimulation rule.met A W ↔ Bisimulation rule.met B W)
same_relations rule sound_a sound_b e W =
    let f = same_probabilities_turned e in (
      (meets_respelled rule sound_a sound_b e W, meets_respelled rule sound_b sound_a f W),
      (bisimulation_respelled rule sound_a sound_b e W, bisimulation_respelled rule sound_b sound_a f W),
    )

-- 'any two accepted certificates for one automaton name the same blocks, also where two model files spell its fractions differently'
pub one_answer : (rule : Rule) {A B : Automaton} → SoundAutomaton A → SoundAutomaton B → SameProbabilities A B → {Same₁ Same₂ : ℕ → ℕ → Type 0} → LargestBisimulation rule.met A Same₁ → LargestBisimulation rule.met B Same₂ → (s t : ℕ) → Same₁ s t ↔ Same₂ s t
one_answer rule sound_a sound_b e {Same₁} {Same₂} l k s t =
    (k.largest Same₁ (bisimulation_respelled rule sound_a sound_b e Same₁ l.itself) s t, l.largest Same₂ (bisimulation_respelled rule sound_b sound_a (same_probabilities_turned e) Same₂ k.itself) s t)
