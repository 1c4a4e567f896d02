-- Weak duality of the strong step rule: what is refuted is met for no relation inside the related pairs.
use Rattle.std.specs.Prelude.{ℕ, suc, ◌<◌, ◌≡◌, ◌≤ℤ◌}
use Rattle.std.proofs.Common.{sym}
use Rattle.bisimulation.specs.definitions.Choice.{if_same}
use Rattle.bisimulation.specs.definitions.Prices.{price_at, price_of_targets}
use Rattle.bisimulation.specs.definitions.Rule.{WeakDuality}
use Rattle.bisimulation.proofs.argument.ChoiceLaws.{false-not}
use Rattle.bisimulation.proofs.argument.OneLayer.{one_layer}
use Rattle.bisimulation.proofs.argument.Duality.{duality_by, nothing_added}
use Rattle.strong.specs.definitions.StrongStepRule.{StrongMet}
use Rattle.strong.specs.definitions.StrongRefutation.{price_a, prices_b, prices_g, StrongRefutes}
use Rattle.strong.proofs.argument.StrongMoves.{strong_by}

-- the price A of t is that of the source of each of its transitions
pub strong_duality : WeakDuality StrongMet StrongRefutes
unfolding if_same price_at price_a
strong_duality =
    duality_by strong_by
    (λ A sound R q t p h. nothing_added sound
    (record {
      prices = λ i. if_same i 0 (price_a p) (prices_b p);
      G = prices_g A p;
      layers =
          one_layer (λ i. (r : ℕ) → r < A.transitions → (A.source r ≡ t) × (A.action r ≡ A.action q) → price_of_targets A (if_same (suc i) 0 (price_a p) (prices_b p)) r ≤ℤ price_at A (if_same i 0 (price_a p) (prices_b p)) r (A.source r))
          (λ r l a. h.move r l (record { own = a.0; action = a.1 }));
      kept = λ i l s. absurd (false-not (sym s));
      related = h.related;
      last = h.last;
    }))
