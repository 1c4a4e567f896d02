-- A transition to two states by halves, and a state with a transition to each: it meets the first by both together, whatever their action.
use Rattle.std.specs.Prelude.{ℕ, ◌≡◌, refl, true, false, [], ◌∷◌, get_or, ℤ, pos, neg_ℤ, ◌≤ℤ◌, ◌<ℤ◌}
use Rattle.std.specs.Int.Signed.{lt_z_yes}
use Rattle.std.proofs.Common.{arith}
use Rattle.bisimulation.specs.definitions.Choice.{if_same}
use Rattle.bisimulation.specs.definitions.Sum.{sum, sumℤ}
use Rattle.bisimulation.specs.definitions.Automaton.{Automaton}
use Rattle.bisimulation.specs.definitions.StepRule.{Flow, arriving, over_targets, over_sources, at_target}
use Rattle.bisimulation.specs.definitions.Pairs.{equal_labels}
use Rattle.bisimulation.specs.definitions.Prices.{price_at, price_of_targets}
use Rattle.bisimulation.proofs.argument.ChoiceLaws.{false-not}
use Rattle.bisimulation.proofs.cases.SmallPair.{below_three, both_below_three, passes, none}
use Rattle.strong.specs.definitions.StrongStepRule.{strong_total, strong_move, StrongMet}
use Rattle.strong.specs.definitions.StrongRefutation.{price_a, prices_b, prices_g, StrongRefutes}

-- labels 0 0 1; each with the action a, transition 0: state 0, to 1 and 2 with 1/2; transition 1: state 1, to 1 with 1/1; transition 2: state 1,
-- to 2 with 2/2
unfoldable pub mixed : ℕ → Automaton
mixed a =
    record {
      states = 3;
      actions = 2;
      transitions = 3;
      label = λ v. if_same v 2 1 0;
      source = λ q. if_same q 0 0 1;
      action = λ q. a;
      denominator = λ q. if_same q 1 1 2;
      weight = λ q v. if_same v 0 0 (if_same q 0 1 (if_same v q (if_same q 1 1 2) 0));
    }

-- D, k of transition 1 2 and of transition 2 1, w(1,1) 2 and w(2,2) 2: for transition 0 against state 1
unfoldable pub mixed_flow : ℕ → Flow
mixed_flow D =
    record {
      D = D;
      k = λ layer r. if_same layer 1 (if_same r 1 2 (if_same r 2 1 0)) 0;
      w = λ v u. if_same v 0 0 (if_same v u 2 0);
    }

-- 'D equals the sum of k times d': 2·1 + 1·2
pub mixed_total : strong_total (mixed 1) (mixed_flow 3) ≡ record { left = 3; right = 4 }
unfolding strong_total sum mixed mixed_flow if_same
mixed_total = refl

-- 'the sum of k times p(v) equals the sum of w(v,u)', at the state 2: 1·2 and 2
pub mixed_move : strong_move (mixed 1) (mixed_flow 4) 2 ≡ record { left = 2; right = 2 }
unfolding strong_move arriving over_targets sum mixed mixed_flow if_same
mixed_move = refl

-- so the question is met, when related states are the same: 'internal included'
pub mixed_met : (a : ℕ) → StrongMet (mixed a) (λ v u. v ≡ u) 0 1
unfolding strong_total strong_move sum mixed mixed_flow if_same arriving over_targets over_sources at_target
mixed_met a =
    record {
      flow = mixed_flow 4;
      at_least_one = omega arith;
      layer1 = below_three _ none (λ _. record { own = refl; action = refl }) (λ _. record { own = refl; action = refl });
      related = both_below_three _ none none none none (λ _. refl) none none none (λ _. refl);
      total = record { equal = refl };
      move = below_three _ (record { equal = refl }) (record { equal = refl }) (record { equal = refl });
      target = below_three _ (record { equal = refl }) (record { equal = refl }) (record { equal = refl });
    }

-- A x, B 2 2 0, G 2 2 -1
unfoldable pub mixed_prices : ℤ → ℕ → ℤ
mixed_prices x i = get_or (x ∷ pos 2 ∷ pos 2 ∷ pos 0 ∷ pos 2 ∷ pos 2 ∷ neg_ℤ (pos 1) ∷ []) i (pos 0)

-- the other way round state 0 is refuted by transition 1: 'd times A is at least the sum of p(v)B(v)', 2·1 and 1·2 + 1·0; 1·1 is below 1·2
pub mixed_refutes : (a : ℕ) → StrongRefutes (mixed a) (equal_labels (mixed a)) 1 0 (mixed_prices (pos 1))
unfolding mixed if_same sumℤ price_at price_of_targets price_a prices_b prices_g mixed_prices equal_labels
mixed_refutes a =
    record {
      move = below_three _ (passes tt) (λ o. absurd (omega arith)) (λ o. absurd (omega arith));
      related = record { holds = both_below_three _ (passes tt) (passes tt) unrelated (passes tt) (passes tt) unrelated unrelated unrelated (passes tt) };
      last = record { holds = lt_z_yes tt };
    }
  where
    unrelated : {P : Type 0} → false ≡ true → P
    unrelated e = absurd (false-not e)

-- with A 0 the condition of transition 0 breaks: 2 is not at most 0
pub mixed_move_broken : (a : ℕ) → StrongRefutes (mixed a) (equal_labels (mixed a)) 1 0 (mixed_prices (pos 0)) → ⊥
unfolding mixed if_same sumℤ price_at price_of_targets price_a prices_b mixed_prices
mixed_move_broken a r = at_most (r.move 0 (omega arith) (record { own = refl; action = refl }))
  where
    at_most : pos 2 ≤ℤ pos 0 → ⊥
    at_most h = h.le

-- with A 2 the last one does: 2 is not below 2
pub mixed_last_broken : (a : ℕ) → StrongRefutes (mixed a) (equal_labels (mixed a)) 1 0 (mixed_prices (pos 2)) → ⊥
unfolding mixed if_same sumℤ price_at price_of_targets price_a prices_g mixed_prices
mixed_last_broken a r = below r.last.holds
  where
    below : pos 2 <ℤ pos 2 → ⊥
    below h = h.lt
