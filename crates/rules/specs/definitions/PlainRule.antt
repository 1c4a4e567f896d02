-- Document 01's own step rule, as what it decides of a certificate file. X, Y and G stand for the prices A, B and G.
use Rattle.std.specs.Prelude.{ℕ, zero, suc, ◌+◌, ◌*◌, Bool, true, false, eqb, ℤ, ◌-ℤ◌}
use Rattle.std.proofs.Math.IntN.{sub_ℕ}
use Rattle.std.specs.Int.Signed.{le_z, lt_z}
use Rattle.bisimulation.specs.definitions.Choice.{if_same, if_true, unless_same, unless_true, all_below}
use Rattle.bisimulation.specs.definitions.Automaton.{Automaton}
use Rattle.bisimulation.specs.definitions.StepRule.{Flow, Sides, before_move, after_move, internal_move, at_target}
use Rattle.bisimulation.specs.definitions.Prices.{Side, price_at, price_of_targets}
use Rattle.bisimulation.specs.definitions.Pairs.{Pairs}
use Rattle.rules.specs.definitions.Certificate.{FileRule}
use Rattle.rules.specs.definitions.Faults.{Fault, fault_by, fault, no_fault, first_of}

-- the first of the states left, from v on, at which an equation breaks, with its left side less its right
unfoldable pub break_from : (number : ℕ) → (ℕ → Sides) → (left v : ℕ) → Fault
break_from number e zero v = no_fault
break_from number e (suc left) v =
    unless_same (e v).left (e v).right (fault_by number v (sub_ℕ (e v).left (e v).right))
    (break_from number e left (v + 1))

-- document 02, K5: which actions may stand in which layer, 'as cases on the layer, three for an internal and three for an external challenger; a
-- layer above 2 is 19 for both'. With each case its group of constraints in definition 2 of source document 003: tr is the entry's transition,
-- from v to v' by ρ, a the challenger's action and τ action 0; what flows into tr is k·d over D, from there to v' k·p(v') over D. 003 prints
-- ρ(v'_a) in the last two groups, where 001 has ρ(v'). An internal challenger, 'without the last two groups of constraints':
unfoldable pub internal_in_question : (layer action : ℕ) → Bool
internal_in_question layer action =
    -- f(v^tr,v') - ρ(v')f(v,v^tr) = 0, for each tr = v -τ-> ρ
    if_same layer 0 (eqb action 0)
    -- without f(v_a^tr,v'_a) - ρ(v')f(v,v_a^tr) = 0
    (if_same layer 1 false
    -- without f(v_a^tr,v'_a) - ρ(v')f(v_a,v_a^tr) = 0
    (if_same layer 2 false
    false))

-- an external one:
unfoldable pub external_in_question : (challenger layer action : ℕ) → Bool
external_in_question challenger layer action =
    -- before the move: f(v^tr,v') - ρ(v')f(v,v^tr) = 0, for each tr = v -τ-> ρ
    if_same layer 0 (eqb action 0)
    -- the move: f(v_a^tr,v'_a) - ρ(v')f(v,v_a^tr) = 0, for each tr = v -a-> ρ
    (if_same layer 1 (eqb action challenger)
    -- after the move: f(v_a^tr,v'_a) - ρ(v')f(v_a,v_a^tr) = 0, for each tr = v -τ-> ρ
    (if_same layer 2 (eqb action 0)
    false))

-- by the challenger's kind: 'Layer 0, one k for each internal transition. If a is external, also layer 1, one k for each transition with action
-- a, and layer 2, a second k for each internal transition'
unfoldable pub plain_in_question : (challenger layer action : ℕ) → Bool
plain_in_question challenger layer action =
    if_same challenger 0 (internal_in_question layer action) (external_in_question challenger layer action)

module _ (A : Automaton) where
  -- x for an internal challenger, y for an external one
  unfoldable pub by_kind {ℓ} : {X : Type ℓ} → ℕ → X → X → X
  by_kind q x y = if_same (A.action q) 0 x y

  -- 'prices A for n states, then B for n states if the action is external, then G for n states'
  unfoldable pub plain_price_count : ℕ → ℕ
  plain_price_count q = by_kind q (2 * A.states) (3 * A.states)

  -- 'for each transition with its action'
  unfoldable pub all_with_action : ℕ → (ℕ → Bool) → Bool
  all_with_action a f = all_below A.transitions (λ r. if_same (A.action r) a (f r) true)

  -- 'For each related v, u, B(v) is at least G(u)'
  unfoldable pub all_related : Pairs → (ℕ → ℤ) → (ℕ → ℤ) → Bool
  all_related R X G = all_below A.states (λ v. all_below A.states (λ u. if_true (R v u) (le_z (G u) (X v)) true))

-- the price conditions, whatever the side of the targets: document 01's is 'the sum of p(v)A(v)', another rule may add to it
module _ (A : Automaton) (side : Side) where
  -- 'd times A(source) is at least the sum of p(v)A(v)': from the prices X of the source to the prices Y of the targets
  unfoldable pub price_condition : (ℕ → ℤ) → (ℕ → ℤ) → ℕ → Bool
  price_condition X Y r = le_z (side Y r) (price_at A X r (A.source r))

  -- 'Lastly d0 times A(t) is below the sum of p0(u)G(u)'
  unfoldable pub below : (ℕ → ℤ) → (ℕ → ℤ) → (q t : ℕ) → Bool
  below X G q t = lt_z (price_at A X q t) (side G q)

  -- 16, 'the last breaks'; document 02, K2: 't, and the last condition's left side less its right'
  unfoldable pub last_fault : (ℕ → ℤ) → (ℕ → ℤ) → (q t : ℕ) → Fault
  last_fault X G q t =
      unless_true (below X G q t) (fault_by 16 t (price_at A X q t -ℤ side G q))
      no_fault

  -- the price conditions of an internal challenger: 15, 'a price condition other than the last breaks'; 16
  unfoldable pub internal_prices_fault : Pairs → (q t : ℕ) → (X G : ℕ → ℤ) → Fault
  internal_prices_fault R q t X G =
      unless_true (all_with_action A 0 (price_condition X X)) (fault 15)
      (unless_true (all_related A R X G) (fault 15)
      (last_fault X G q t))

  -- those of an external challenger
  unfoldable pub external_prices_fault : Pairs → (q t : ℕ) → (X Y G : ℕ → ℤ) → Fault
  external_prices_fault R q t X Y G =
      unless_true (all_with_action A 0 (price_condition X X)) (fault 15)
      (unless_true (all_with_action A 0 (price_condition Y Y)) (fault 15)
      (unless_true (all_with_action A (A.action q) (price_condition X Y)) (fault 15)
      (unless_true (all_related A R Y G) (fault 15)
      (last_fault X G q t))))

module _ (A : Automaton) where
  -- the prices of a record, by the challenger's kind
  unfoldable pub plain_prices_fault : Pairs → (q t : ℕ) → (ℕ → ℤ) → Fault
  plain_prices_fault R q t p =
      by_kind A q
      (internal_prices_fault A (price_of_targets A) R q t p (λ v. p (A.states + v)))
      (external_prices_fault A (price_of_targets A) R q t p (λ v. p (A.states + v)) (λ v. p (2 * A.states + v)))

  -- an equation at some state breaks; K2: 'the first v', 'the first u'
  unfoldable pub first_break : (number : ℕ) → (ℕ → Sides) → Fault
  first_break number e = break_from number e A.states 0

  -- the equations of an internal challenger: 20, 'an equation at some v breaks'; 21, 'an equation at some u breaks'
  unfoldable pub internal_equations_fault : (q t : ℕ) → Flow → Fault
  internal_equations_fault q t f =
      first_of (first_break 20 (internal_move A f t))
      (first_break 21 (at_target A f q))

  -- those of an external challenger; K2: 'the equations before the move first'
  unfoldable pub external_equations_fault : (q t : ℕ) → Flow → Fault
  external_equations_fault q t f =
      first_of (first_break 20 (before_move A f t))
      (first_of (first_break 20 (after_move A f))
      (first_break 21 (at_target A f q)))

  -- the equations of a record, by the challenger's kind
  unfoldable pub plain_equations_fault : (q t : ℕ) → Flow → Fault
  plain_equations_fault q t f = by_kind A q (internal_equations_fault q t f) (external_equations_fault q t f)

-- a certificate whose head's mark is 43 54
abbrev pub plain_rule : FileRule
plain_rule =
    record {
      mark = 0x4354;
      price_count = plain_price_count;
      prices_fault = plain_prices_fault;
      in_question = λ A q t layer r. plain_in_question (A.action q) layer (A.action r);
      equations_fault = plain_equations_fault;
    }
