-- A state that goes three steps where another goes one, and what they cost: the cost equation's sides, and the side that the term of L stands
-- on, by computation.
use Rattle.std.specs.Prelude.{ℕ, ◌≡◌, refl, true, false, List, [], ◌∷◌, get_or, ℤ, pos, neg_ℤ, ◌≤ℤ◌, ◌<ℤ◌}
use Rattle.std.specs.Int.Signed.{lt_z_yes}
use Rattle.std.proofs.Common.{arith}
use Rattle.bisimulation.specs.definitions.Choice.{if_same}
use Rattle.bisimulation.specs.definitions.Sum.{sum, sumℤ}
use Rattle.bisimulation.specs.definitions.Automaton.{Automaton}
use Rattle.bisimulation.specs.definitions.StepRule.{Flow, arriving, leaving, over_targets, over_sources, before_move, after_move, at_target}
use Rattle.bisimulation.specs.definitions.Pairs.{equal_labels}
use Rattle.bisimulation.specs.definitions.Prices.{price_at, price_of_targets}
use Rattle.bisimulation.proofs.argument.ChoiceLaws.{false-not}
use Rattle.bisimulation.proofs.cases.SmallPair.{below_three, both_below_three, passes, none}
use Rattle.costs.specs.definitions.CostStepRule.{cost_of_layer, layers, cost_equation, CostMet}
use Rattle.costs.specs.definitions.CostPrices.{price_with_cost}
use Rattle.costs.specs.definitions.CostRefutation.{price_after, CostRefutes}

-- what is asked of unrelated states
unrelated : {P : Type 0} → false ≡ true → P
unrelated e = absurd (false-not e)

-- labels 0 1 0; transition 0: state 0, internal, to 1 with 2/2; transition 1: state 1, action 1, to 0 with 1/1; transition 2: state 2, action
-- a, to 1 with 1/1
unfoldable pub relay : ℕ → Automaton
relay a =
    record {
      states = 3;
      actions = 2;
      transitions = 3;
      label = λ v. if_same v 1 1 0;
      source = λ q. q;
      action = λ q. if_same q 0 0 (if_same q 1 1 a);
      denominator = λ q. if_same q 0 2 1;
      weight = λ q v. if_same v (if_same q 1 0 1) (if_same q 0 2 1) 0;
    }

-- its transitions cost 2, 3 and c
unfoldable pub relay_costs : ℕ → ℕ → ℕ
relay_costs c q = if_same q 0 2 (if_same q 1 3 c)

-- D 2, k (0,0) 1, (1,1) 2 and (2,0) 1, w(1,1) 2: for transition 2 against state 0
unfoldable pub relay_flow : Flow
relay_flow =
    record {
      D = 2;
      k = λ layer r. if_same layer 1 (if_same r 1 2 0) (if_same r 0 1 0);
      w = λ v u. if_same v 1 (if_same u 1 2 0) 0;
    }

-- 'the sum of k times d times cost over all layers equals the challenger's cost times D': 1·2·2 + 2·1·3 + 1·2·2 and c·2 for an external
-- challenger; of an internal one layer 0 alone
pub relay_sides :
    (cost_equation (relay_costs 7) (relay 1) relay_flow 2 ≡ record { left = 14; right = 14 })
    × (cost_equation (relay_costs 8) (relay 1) relay_flow 2 ≡ record { left = 14; right = 16 })
    × (cost_equation (relay_costs 2) (relay 0) relay_flow 2 ≡ record { left = 4; right = 4 })
unfolding cost_equation cost_of_layer layers sum relay relay_costs relay_flow if_same
relay_sides = (refl, refl, refl)

-- so with cost 7 the question is met, when related states are the same
pub relay_met : CostMet (relay_costs 7) (relay 1) (λ v u. v ≡ u) 2 0
unfolding cost_equation cost_of_layer layers sum relay relay_costs relay_flow if_same arriving leaving over_targets over_sources before_move after_move at_target
relay_met =
    record {
      internal = λ e. absurd (omega arith);
      external = λ _. record {
        plain = record {
          flow = relay_flow;
          at_least_one = omega arith;
          layer0 = below_three _ (λ _. refl) none none;
          layer1 = below_three _ none (λ _. refl) none;
          layer2 = below_three _ (λ _. refl) none none;
          related = both_below_three _ none none none none (λ _. refl) none none none none;
          before = below_three _ (record { equal = refl }) (record { equal = refl }) (record { equal = refl });
          after = below_three _ (record { equal = refl }) (record { equal = refl }) (record { equal = refl });
          target = below_three _ (record { equal = refl }) (record { equal = refl }) (record { equal = refl });
        };
        costs = record { equal = refl };
      };
    }

-- the prices of a record
unfoldable pub price_list : List ℤ → ℕ → ℤ
price_list l i = get_or l i (pos 0)

-- A 7 x 8, B y 0 0, G 0 0 0, then L
abbrev pub dearer_with : (x y L : ℤ) → ℕ → ℤ
dearer_with x y L = price_list (pos 7 ∷ x ∷ pos 8 ∷ y ∷ pos 0 ∷ pos 0 ∷ pos 0 ∷ pos 0 ∷ pos 0 ∷ L ∷ [])

-- x 5 and y 2
abbrev pub dearer_prices : ℤ → ℕ → ℤ
dearer_prices L = dearer_with (pos 5) (pos 2) L

-- with cost 8, above the relay's 7, transition 2 refutes state 0 with L 1
pub dearer_refutes : CostRefutes (relay_costs 8) (relay 1) (equal_labels (relay 1)) 2 0 (dearer_prices (pos 1))
unfolding relay relay_costs if_same sumℤ price_at price_of_targets price_with_cost price_after equal_labels price_list
dearer_refutes =
    record {
      internal = λ e. absurd (omega arith);
      external = λ _. record {
        before = record { holds = below_three _ (passes tt) (λ e. absurd (omega arith)) (λ e. absurd (omega arith)) };
        after = record { holds = below_three _ (passes tt) (λ e. absurd (omega arith)) (λ e. absurd (omega arith)) };
        move = record { holds = below_three _ (λ e. absurd (omega arith)) (passes tt) (passes tt) };
        related = record { holds = both_below_three _ (passes tt) unrelated (passes tt) unrelated (passes tt) unrelated (passes tt) unrelated (passes tt) };
        last = record { holds = lt_z_yes tt };
      };
    }

-- with the term of L on the other side, that is L -1, the last condition breaks: 7 is not below -8
pub dearer_turned : CostRefutes (relay_costs 8) (relay 1) (equal_labels (relay 1)) 2 0 (dearer_prices (neg_ℤ (pos 1))) → ⊥
unfolding relay relay_costs if_same sumℤ price_at price_of_targets price_with_cost price_after price_list
dearer_turned r = below (r.external (λ e. omega arith)).last.holds
  where
    below : pos 7 <ℤ neg_ℤ (pos 8) → ⊥
    below h = h.lt

-- L's term alone decides in layer 2: with B 1 of state 0 the condition of transition 0 breaks, 0 + 2·2 is not at most 2·1
pub dearer_after : CostRefutes (relay_costs 8) (relay 1) (equal_labels (relay 1)) 2 0 (dearer_with (pos 5) (pos 1) (pos 1)) → ⊥
unfolding relay relay_costs if_same sumℤ price_at price_of_targets price_with_cost price_after price_list
dearer_after r = at_most ((r.external (λ e. omega arith)).after.holds 0 (omega arith) refl)
  where
    at_most : pos 4 ≤ℤ pos 2 → ⊥
    at_most h = h.le

-- and in the move: with A 4 of state 1 that of transition 1 does, 2 + 3 is not at most 4
pub dearer_move : CostRefutes (relay_costs 8) (relay 1) (equal_labels (relay 1)) 2 0 (dearer_with (pos 4) (pos 2) (pos 1)) → ⊥
unfolding relay relay_costs if_same sumℤ price_at price_of_targets price_with_cost price_after price_list
dearer_move r = at_most ((r.external (λ e. omega arith)).move.holds 1 (omega arith) refl)
  where
    at_most : pos 5 ≤ℤ pos 4 → ⊥
    at_most h = h.le

-- A -2 0 -1, G -2 0 -2, then L
abbrev pub cheaper_prices : ℤ → ℕ → ℤ
cheaper_prices L = price_list (neg_ℤ (pos 2) ∷ pos 0 ∷ neg_ℤ (pos 1) ∷ neg_ℤ (pos 2) ∷ pos 0 ∷ neg_ℤ (pos 2) ∷ L ∷ [])

-- with cost 1, below the 2 of transition 0, an internal transition 2 refutes state 0 with L -1
pub cheaper_refutes : CostRefutes (relay_costs 1) (relay 0) (equal_labels (relay 0)) 2 0 (cheaper_prices (neg_ℤ (pos 1)))
unfolding relay relay_costs if_same sumℤ price_at price_of_targets price_with_cost price_after equal_labels price_list
cheaper_refutes =
    record {
      internal = λ _. record {
        internal = record { holds = below_three _ (passes tt) (λ e. absurd (omega arith)) (passes tt) };
        related = record { holds = both_below_three _ (passes tt) unrelated (passes tt) unrelated (passes tt) unrelated (passes tt) unrelated (passes tt) };
        last = record { holds = lt_z_yes tt };
      };
      external = λ n. absurd (n refl);
    }

-- with the term of L on the other side, that is L 1, the condition of transition 0 breaks: 4 is not at most -4
pub cheaper_turned : CostRefutes (relay_costs 1) (relay 0) (equal_labels (relay 0)) 2 0 (cheaper_prices (pos 1)) → ⊥
unfolding relay relay_costs if_same sumℤ price_at price_of_targets price_with_cost price_after price_list
cheaper_turned r = at_most ((r.internal refl).internal.holds 0 (omega arith) refl)
  where
    at_most : pos 4 ≤ℤ neg_ℤ (pos 4) → ⊥
    at_most h = h.le
