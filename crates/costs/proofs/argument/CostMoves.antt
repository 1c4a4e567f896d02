-- The step rule with costs says what document 01's movements say, of flows that keep the cost equation too; so what is proved of flows by a
-- movement holds with costs, where the cost equation of the flow is kept.
use Prim.Native.Nat.{ℕ, ◌*◌, ◌<◌}
use Rattle.std.specs.Prelude.{◌≡◌}
use Rattle.std.proofs.Common.{sym, ◌∙◌, arith}
use Rattle.std.proofs.Math.Path.{ap}
use Rattle.bisimulation.specs.definitions.Choice.{if_same}
use Rattle.bisimulation.specs.definitions.Sum.{sum}
use Rattle.bisimulation.specs.definitions.Automaton.{Automaton, SoundAutomaton, SameProbabilities}
use Rattle.bisimulation.specs.definitions.StepRule.{Flow, Holds}
use Rattle.bisimulation.specs.definitions.Rule.{MeetsOwn, MetRespelled, MetWider}
use Rattle.bisimulation.proofs.argument.ChoiceLaws.{of_same}
use Rattle.bisimulation.proofs.argument.SumLaws.{sum_cong, sum_times, sum_same}
use Rattle.bisimulation.proofs.argument.Once.{once, none}
use Rattle.bisimulation.proofs.argument.Moves.{Movement, plain_movement, MetBy, Besides, ByMovement}
use Rattle.bisimulation.proofs.argument.MovesLaws.{own_layers}
use Rattle.bisimulation.proofs.argument.PlainMoves.{internal_by, external_by, internal_from, external_from, either_movement, internal_of, external_of, plain_once}
use Rattle.bisimulation.proofs.argument.Wider.{wider_by}
use Rattle.bisimulation.proofs.argument.Own.{own_flow, own_by}
use Rattle.bisimulation.proofs.argument.Respelled.{multiple, respelled_layer, respelled_flow, respelled_by}
use Rattle.costs.specs.definitions.CostStepRule.{cost_of_layer, layers, cost_equation, CostMet}
use Rattle.costs.proofs.argument.CostLaws.{cost_none, cost_once, cost_respelled_layer}

-- 'all layers' are those of the movement
pub all_layers : (A : Automaton) (q : ℕ) → (plain_movement (A.action q)).count ≡ layers A q
unfolding plain_movement layers
all_layers A q = of_same (λ (m : Movement). m.count) (A.action q) 0 _ _

module _ (cost : ℕ → ℕ) where
  -- more is asked of the flow
  abbrev pub KeepsCosts : Besides
  KeepsCosts A q t f = Holds (cost_equation cost A f q)

  pub cost_by : ByMovement (CostMet cost) (λ a t. plain_movement a) KeepsCosts
  unfolding internal_from external_from
  cost_by =
      record {
        to = λ A W q t m. either_movement (λ o. MetBy A o (KeepsCosts A q t) W q t) (λ e. internal_by A _ W q t (m.internal e).plain (m.internal e).costs) (λ n. external_by A _ W q t (m.external n).plain (m.external n).costs);
        from = λ A W q t m. record {
          internal = λ e. let o = internal_of (λ x. MetBy A x (KeepsCosts A q t) W q t) m e in record { plain = internal_from A _ W q t o; costs = o.more };
          external = λ n. let o = external_of (λ x. MetBy A x (KeepsCosts A q t) W q t) m n in record { plain = external_from A _ W q t o; costs = o.more };
        };
      }

  pub cost_wider : MetWider (CostMet cost)
  cost_wider = wider_by cost_by

  -- the challenger done once has the challenger's cost
  own_equation : (A : Automaton) (q : ℕ) → q < A.transitions → KeepsCosts A q (A.source q) (own_flow A q (plain_once (A.action q) (A.source q)).layer)
  unfolding cost_equation own_layers
  own_equation A q l =
      record {
        equal =
            sum_cong (layers A q) _ _ (λ i j. of_same (cost_of_layer cost A) i layer (once q) none ∙ ap (λ (z : ℕ). if_same i layer (cost_of_layer cost A (once q)) z) (cost_none cost A))
            ∙ sum_same (layers A q) layer (λ i. cost_of_layer cost A (once q)) (omega (arith, (plain_once (A.action q) (A.source q)).below, all_layers A q))
            ∙ omega (arith, cost_once cost A q l);
      }
    where
      layer : ℕ
      layer = (plain_once (A.action q) (A.source q)).layer

  pub cost_own : MeetsOwn (CostMet cost)
  cost_own = own_by cost_by plain_once own_equation

  -- in another spelling the flow's cost is scaled as D is
  respelled_equation : (A B : Automaton) → SoundAutomaton A → SoundAutomaton B → SameProbabilities A B → (q t : ℕ) (f : Flow) → q < A.transitions → KeepsCosts A q t f → KeepsCosts B q t (respelled_flow A B f)
  unfolding cost_equation layers respelled_flow
  respelled_equation A B sound_a sound_b e q t f i h =
      record {
        equal =
            ap (λ (a : ℕ). sum (if_same a 0 1 3) (λ l. cost_of_layer cost B (respelled_layer A B (f.k l)))) (sym (e.action q i))
            ∙ sum_cong (layers A q) _ _ (λ l j. cost_respelled_layer cost A B sound_a sound_b e (f.k l))
            ∙ sum_times (layers A q) (multiple B) (λ l. cost_of_layer cost A (f.k l))
            ∙ omega (arith, ap (λ (z : ℕ). multiple B * z) h.equal);
      }

  pub cost_respelled : MetRespelled (CostMet cost)
  cost_respelled = respelled_by cost_by respelled_equation
