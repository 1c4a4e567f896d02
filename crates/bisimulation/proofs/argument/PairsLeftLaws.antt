-- The laws of the pairs left, for any step rule.
use Rattle.std.specs.Prelude.{ℕ, ◌<◌, ◌≡◌, refl, true, ℤ}
use Rattle.std.proofs.Common.{sym, subst, ◌∙◌}
use Rattle.bisimulation.specs.definitions.Automaton.{Automaton, SoundAutomaton}
use Rattle.bisimulation.specs.definitions.Pairs.{Pairs, removed}
use Rattle.bisimulation.proofs.argument.PairsLaws.{equal_labels_of, labels_equal, other_pair_turned, removed_keeps, removed_left}
use Rattle.bisimulation.specs.definitions.StepRule.{MeetsStepRule}
use Rattle.bisimulation.specs.definitions.Largest.{Bisimulation}
use Rattle.bisimulation.specs.definitions.Rule.{Rule}
use Rattle.bisimulation.specs.definitions.PairsLeft.{PairsLeft, start, refuted}

-- weak duality: a relation inside the related pairs that meets the step rule does not link the challenger's source with t
pub refuted_unlinked : (rule : Rule) (A : Automaton) → SoundAutomaton A → (R : Pairs) (q t : ℕ) (p : ℕ → ℤ) → q < A.transitions → t < A.states → rule.refutes A R q t p → (W : ℕ → ℕ → Type 0) → ((v u : ℕ) → W v u → R v u ≡ true) → MeetsStepRule rule.met A W → W (A.source q) t → ⊥
refuted_unlinked rule A sound R q t p i j refutes W inside meets linked =
    rule.duality A sound R q t p i j refutes W inside (meets.met (A.source q) t linked q i refl)

module _ {rule : Rule} {A : Automaton} where
  -- a state stays related with itself
  pub left_reflexive : {R : Pairs} → PairsLeft rule A R → (s : ℕ) → R s s ≡ true
  left_reflexive start s = equal_labels_of A s s refl
  left_reflexive (refuted {R} l q t p i j n e f) s =
      removed_keeps (A.source q) t R s s (record { straight = λ x y. n (sym y ∙ x); turned = λ x y. n (sym x ∙ y) }) (left_reflexive l s)

  pub left_symmetric : {R : Pairs} → PairsLeft rule A R → (s t : ℕ) → R s t ≡ true → R t s ≡ true
  left_symmetric start s t e = equal_labels_of A t s (sym (labels_equal A s t e))
  left_symmetric (refuted {R} l q x p i j n d f) s t e =
      let k = removed_left (A.source q) x R s t e in
      removed_keeps (A.source q) x R t s (other_pair_turned k.0) (left_symmetric l s t k.1)

  pub left_keeps_labels : {R : Pairs} → PairsLeft rule A R → (s t : ℕ) → R s t ≡ true → A.label s ≡ A.label t
  left_keeps_labels start s t e = labels_equal A s t e
  left_keeps_labels (refuted {R} l q x p i j n d f) s t e = left_keeps_labels l s t (removed_left (A.source q) x R s t e).1

  module _ (sound : SoundAutomaton A) {W : ℕ → ℕ → Type 0} (b : Bisimulation rule.met A W) where
    -- every relation that is symmetric, keeps labels and meets the step rule stays inside the pairs left
    pub bisimulation_left : {R : Pairs} → PairsLeft rule A R → (s t : ℕ) → W s t → R s t ≡ true
    bisimulation_left start s t w = equal_labels_of A s t (b.keeps_labels s t w)
    bisimulation_left (refuted {R} l q x p i j n d f) s t w = go (λ v u z. bisimulation_left l v u z)
      where
        go : ((v u : ℕ) → W v u → R v u ≡ true) → removed (A.source q) x R s t ≡ true
        go ih =
            let unlinked : W (A.source q) x → ⊥ = refuted_unlinked rule A sound R q x p i j f W ih b.meets in
            removed_keeps (A.source q) x R s t
            (record {
              straight = λ g h. unlinked (subst (λ (y : ℕ). W y x) g (subst (λ (y : ℕ). W s y) h w));
              turned = λ g h. unlinked (b.symmetric x (A.source q) (subst (λ (y : ℕ). W y (A.source q)) g (subst (λ (y : ℕ). W s y) h w)));
            })
            (ih s t w)
