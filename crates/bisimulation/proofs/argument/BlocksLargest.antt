-- For any step rule: what a certificate's refutations leave and its flows meet is the largest relation.
use Rattle.std.specs.Prelude.{ℕ, ◌<◌, ◌≡◌}
use Rattle.std.proofs.Common.{subst, ◌∙◌}
use Rattle.std.proofs.Math.Decide.{ℕ_discrete}
use Rattle.bisimulation.specs.definitions.Automaton.{Automaton, SoundAutomaton}
use Rattle.bisimulation.specs.definitions.Pairs.{Pairs}
use Rattle.bisimulation.specs.definitions.Largest.{Bisimulation, LargestBisimulation}
use Rattle.bisimulation.specs.definitions.Rule.{Rule}
use Rattle.bisimulation.specs.definitions.PairsLeft.{PairsLeft}
use Rattle.bisimulation.proofs.argument.PairsLeftLaws.{left_reflexive, left_symmetric, left_keeps_labels, bisimulation_left}
use Rattle.bisimulation.specs.definitions.Blocks.{SharedExactlyWhenLeft, QuestionsMet}

module _ {rule : Rule} {A : Automaton} (sound : SoundAutomaton A) {R : Pairs} (left : PairsLeft rule A R) {Same : ℕ → ℕ → Type 0} (block : SharedExactlyWhenLeft A R Same) where
  -- sharing a block is symmetric, keeps labels and meets the step rule
  pub blocks_bisimulation : QuestionsMet rule.met A Same → Bisimulation rule.met A Same
  blocks_bisimulation flows =
      record {
        on_states = block.on_states;
        symmetric = λ s t z. let o = block.on_states s t z in block.shared t s o.1 o.0 (left_symmetric left s t (block.related s t z));
        keeps_labels = λ s t z. left_keeps_labels left s t (block.related s t z);
        meets = record { met = meets };
      }
    where
      meets : (s t : ℕ) → Same s t → (q : ℕ) → q < A.transitions → A.source q ≡ s → rule.met A Same q t
      meets s t z q i e = go (ℕ_discrete s t)
        where
          go : Dec (s ≡ t) → rule.met A Same q t
          go (yes f) = subst (λ (x : ℕ). rule.met A Same q x) (e ∙ f) (rule.own A sound Same (λ v l. block.shared v v l l (left_reflexive left v)) q i)
          go (no n) = flows.met s t z n q i e

  -- every relation that is symmetric, keeps labels and meets the step rule stays inside the blocks
  pub inside_blocks : (W : ℕ → ℕ → Type 0) → Bisimulation rule.met A W → (s t : ℕ) → W s t → Same s t
  inside_blocks W b s t w = let o = b.on_states s t w in block.shared s t o.0 o.1 (bisimulation_left sound b left s t w)

  -- 'Lying in one block is itself such a relation, the largest'
  pub blocks_largest : QuestionsMet rule.met A Same → LargestBisimulation rule.met A Same
  blocks_largest flows =
      record {
        itself = blocks_bisimulation flows;
        largest = inside_blocks;
        exactly = λ s t. (λ z. record { W = Same; bisimulation = blocks_bisimulation flows; linked = z }, λ z. inside_blocks z.W z.bisimulation s t z.linked);
      }
