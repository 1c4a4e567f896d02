-- Document 02, K14: 'these lie inside the weak blocks of the same model'. What is met by a strong step is met by a weak one, with the same k in
-- layer 1, or in layer 0 for an internal challenger.
use Rattle.std.specs.Prelude.{ℕ, ◌≡◌, ◌≢◌}
use Rattle.std.proofs.Common.{◌∙◌, arith}
use Rattle.bisimulation.specs.definitions.Choice.{if_same}
use Rattle.bisimulation.specs.definitions.Automaton.{Automaton}
use Rattle.bisimulation.specs.definitions.StepRule.{before_move, after_move, internal_move, at_target, MetInternal, MetExternal, Met, MeetsStepRule}
use Rattle.bisimulation.specs.definitions.Largest.{Bisimulation, LargestBisimulation, LargestPairs}
use Rattle.bisimulation.proofs.argument.InsideOf.{meets_inside, bisimulation_inside, largest_inside, pairs_inside}
use Rattle.bisimulation.proofs.argument.Once.{none, arriving_none, leaving_none}
use Rattle.bisimulation.proofs.argument.Moves.{start}
use Rattle.strong.specs.definitions.StrongStepRule.{strong_move, StrongMet}
use Rattle.strong.proofs.argument.StrongMoves.{leaves_all}

module _ {A : Automaton} where
  module _ (W : ℕ → ℕ → Type 0) (q t : ℕ) (m : StrongMet A W q t) where
    strong_internal : A.action q ≡ 0 → MetInternal A W q t
    unfolding strong_move internal_move at_target start
    strong_internal e =
        let f = m.flow in
        record {
          flow = record { D = f.D; k = λ i. f.k 1; w = f.w };
          at_least_one = m.at_least_one;
          layer0 = λ r l u. (m.layer1 r l u).action ∙ e;
          related = m.related;
          move = λ v l. record { equal = omega (arith, leaves_all A W q t m v, (m.move v l).equal) };
          target = λ u l. record { equal = (m.target u l).equal };
        }

    strong_external : A.action q ≢ 0 → MetExternal A W q t
    unfolding strong_move before_move after_move at_target start if_same none
    strong_external n =
        let f = m.flow in
        record {
          flow = record { D = f.D; k = λ i. if_same i 1 (f.k 1) none; w = f.w };
          at_least_one = m.at_least_one;
          layer0 = λ r l u. absurd (omega arith);
          layer1 = λ r l u. (m.layer1 r l u).action;
          layer2 = λ r l u. absurd (omega arith);
          related = m.related;
          before = λ v l. record { equal = omega (arith, leaves_all A W q t m v, arriving_none A v, leaving_none A v) };
          after = λ v l. record { equal = omega (arith, (m.move v l).equal, arriving_none A v, leaving_none A v) };
          target = λ u l. record { equal = (m.target u l).equal };
        }

  -- a question, a relation, a symmetric one that keeps labels
  pub strong_met_inside : (W : ℕ → ℕ → Type 0) (q t : ℕ) → StrongMet A W q t → Met A W q t
  strong_met_inside W q t m = record { internal = strong_internal W q t m; external = strong_external W q t m }

  pub strong_meets_inside : {W : ℕ → ℕ → Type 0} → MeetsStepRule StrongMet A W → MeetsStepRule Met A W
  strong_meets_inside = meets_inside strong_met_inside

  pub strong_bisimulation_inside : {W : ℕ → ℕ → Type 0} → Bisimulation StrongMet A W → Bisimulation Met A W
  strong_bisimulation_inside = bisimulation_inside strong_met_inside

  -- of the two largest relations, and for relations that are sets of pairs
  pub strong_inside : {Strong Weak : ℕ → ℕ → Type 0} → LargestBisimulation StrongMet A Strong → LargestBisimulation Met A Weak → (s t : ℕ) → Strong s t → Weak s t
  strong_inside = largest_inside strong_met_inside

  pub strong_pairs_inside : {Strong Weak : ℕ → ℕ → Type 0} → LargestPairs StrongMet A Strong → LargestPairs Met A Weak → (s t : ℕ) → Strong s t → Weak s t
  strong_pairs_inside = pairs_inside strong_met_inside
