-- Document 01, 'The certificate': the price conditions of a refutation, as plain propositions. X, Y and G stand for the prices A, B and G. The
-- side of the targets is a parameter: document 01's is 'the sum of p(v)A(v)', another rule may add to it.
use Rattle.std.specs.Prelude.{ℕ, ◌+◌, ◌*◌, ◌<◌, ◌≡◌, ◌≢◌, true, ℤ, ◌≤ℤ◌, ◌<ℤ◌}
use Rattle.bisimulation.specs.definitions.Automaton.{Automaton}
use Rattle.bisimulation.specs.definitions.Prices.{Side, price_at, price_of_targets}
use Rattle.bisimulation.specs.definitions.Pairs.{Pairs}

-- 'd times A(source) is at least the sum of p(v)A(v)' for each transition with the action a, from the prices X of its source to the
-- prices Y of its targets
pub record PriceCondition (A : Automaton) (side : Side) (a : ℕ) (X Y : ℕ → ℤ) : Type 0 where
  pub holds : (r : ℕ) → r < A.transitions → A.action r ≡ a → side Y r ≤ℤ price_at A X r (A.source r)

-- 'For each related v, u, B(v) is at least G(u)'
pub record RelatedCondition (A : Automaton) (R : Pairs) (Y G : ℕ → ℤ) : Type 0 where
  pub holds : (v u : ℕ) → v < A.states → u < A.states → R v u ≡ true → G u ≤ℤ Y v

-- 'Lastly d0 times A(t) is below the sum of p0(u)G(u)'
pub record LastCondition (A : Automaton) (side : Side) (q t : ℕ) (X G : ℕ → ℤ) : Type 0 where
  pub holds : price_at A X q t <ℤ side G q

-- the price conditions of an internal challenger
pub record RefutesInternal (A : Automaton) (side : Side) (R : Pairs) (q t : ℕ) (X G : ℕ → ℤ) : Type 0 where
  pub internal : PriceCondition A side 0 X X
  pub related : RelatedCondition A R X G
  pub last : LastCondition A side q t X G

-- those of an external challenger
pub record RefutesExternal (A : Automaton) (side : Side) (R : Pairs) (q t : ℕ) (X Y G : ℕ → ℤ) : Type 0 where
  pub before : PriceCondition A side 0 X X
  pub after : PriceCondition A side 0 Y Y
  pub move : PriceCondition A side (A.action q) X Y
  pub related : RelatedCondition A R Y G
  pub last : LastCondition A side q t X G

-- document 01's: the prices of a record, 'A for n states, then B for n states if the action is external, then G for n states', by the
-- challenger's kind
pub record PlainRefutes (A : Automaton) (R : Pairs) (q t : ℕ) (p : ℕ → ℤ) : Type 0 where
  pub internal : A.action q ≡ 0 → RefutesInternal A (price_of_targets A) R q t p (λ v. p (A.states + v))
  pub external : A.action q ≢ 0 → RefutesExternal A (price_of_targets A) R q t p (λ v. p (A.states + v)) (λ v. p (2 * A.states + v))
