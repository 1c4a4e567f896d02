-- The laws of the value of amounts.
use Rattle.std.specs.Prelude.{ℕ, ◌+◌, ◌*◌, ◌<◌, ◌≡◌}
use Rattle.std.proofs.Math.Path.{sym, ap}
use Rattle.std.proofs.Common.{◌∙◌, arith}
use Rattle.bisimulation.specs.definitions.Choice.{if_same}
use Rattle.bisimulation.proofs.argument.ChoiceLaws.{turned, times_same}
use Rattle.bisimulation.specs.definitions.Sum.{sum}
use Rattle.bisimulation.proofs.argument.SumLaws.{sum_cong, sum_add, sum_times, sum_times_right, sum_exchange, sum_same}
use Rattle.bisimulation.proofs.argument.Value.{value}

module _ (n : ℕ) where
  pub value_cong : (f g X : ℕ → ℕ) → ((v : ℕ) → v < n → f v ≡ g v) → value n f X ≡ value n g X
  unfolding value
  value_cong f g X h = sum_cong n _ _ (λ v l. ap (λ (z : ℕ). z * X v) (h v l))

  pub value_prices : (f X Y : ℕ → ℕ) → ((v : ℕ) → v < n → X v ≡ Y v) → value n f X ≡ value n f Y
  unfolding value
  value_prices f X Y h = sum_cong n _ _ (λ v l. ap (λ (z : ℕ). f v * z) (h v l))

  pub value_add : (f g X : ℕ → ℕ) → value n (λ v. f v + g v) X ≡ value n f X + value n g X
  unfolding value
  value_add f g X = sum_cong n _ (λ v. f v * X v + g v * X v) (λ v l. omega arith) ∙ sum_add n (λ v. f v * X v) (λ v. g v * X v)

  -- an equation at each state, priced
  pub value_equation : (a b c d X : ℕ → ℕ) → ((v : ℕ) → v < n → a v + b v ≡ c v + d v) → value n a X + value n b X ≡ value n c X + value n d X
  value_equation a b c d X h = sym (value_add a b X) ∙ value_cong _ _ X h ∙ value_add c d X

  pub value_times : (c : ℕ) (f X : ℕ → ℕ) → value n (λ v. c * f v) X ≡ c * value n f X
  unfolding value
  value_times c f X = sum_cong n _ (λ v. c * (f v * X v)) (λ v l. omega arith) ∙ sum_times n c (λ v. f v * X v)

  pub value_sum : (m : ℕ) (f : ℕ → ℕ → ℕ) (X : ℕ → ℕ) → value n (λ v. sum m (λ i. f i v)) X ≡ sum m (λ i. value n (f i) X)
  unfolding value
  value_sum m f X = sum_cong n _ _ (λ v l. sym (sum_times_right m (X v) (λ i. f i v))) ∙ sum_exchange n m (λ v i. f i v * X v)

  -- an amount at the one state t, the two orders of the test
  pub value_same : (t c : ℕ) (X : ℕ → ℕ) → t < n → value n (λ v. if_same v t c 0) X ≡ c * X t
  unfolding value
  value_same t c X l = sum_cong n _ _ (λ v k. times_same v t c (X v)) ∙ sum_same n t (λ v. c * X v) l

  pub value_same_turned : (t c : ℕ) (X : ℕ → ℕ) → t < n → value n (λ v. if_same t v c 0) X ≡ c * X t
  value_same_turned t c X l = value_cong _ _ X (λ v k. turned t v c 0) ∙ value_same t c X l
