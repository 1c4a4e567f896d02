-- The tests of document 01's step rule find no fault exactly where its propositions hold.
use Rattle.std.specs.Prelude.{ℕ, ◌+◌, ◌*◌, ◌<◌, ◌≡◌, ◌≢◌, ◌↔◌, Bool, T, eqb, ℤ, ◌*ℤ◌, ◌<ℤ◌}
use Rattle.std.proofs.Math.Path.{refl, sym, ap, subst₂}
use Rattle.std.proofs.Common.{◌∙◌, subst, eqb-true, eq-eqb, arith}
use Rattle.std.proofs.Math.Bool.{true, false}
use Rattle.std.proofs.Math.IntN.{pos}
use Rattle.std.specs.Int.Signed.{le_z, ◌≤ℤ◌}
use Rattle.std.proofs.Math.Decide.{ℕ_discrete}
use Rattle.bisimulation.specs.definitions.Choice.{if_same, if_true}
use Rattle.bisimulation.proofs.argument.ChoiceLaws.{same, not_same, either_same, is_true, all-below, below_all, false-not}
use Rattle.bisimulation.specs.definitions.Automaton.{Automaton, SoundAutomaton}
use Rattle.bisimulation.proofs.argument.SumLaws.{sumℤCong}
use Rattle.bisimulation.specs.definitions.StepRule.{Flow, Sides, Holds, before_move, after_move, internal_move, at_target}
use Rattle.bisimulation.specs.definitions.Pairs.{Pairs}
use Rattle.bisimulation.specs.definitions.Prices.{Side, price_at, price_of_targets}
use Rattle.bisimulation.specs.definitions.Refutation.{PriceCondition, RelatedCondition, LastCondition, RefutesInternal, RefutesExternal, PlainRefutes}
use Rattle.rules.proofs.argument.AnyRule.{Decides}
use Rattle.rules.specs.definitions.Faults.{Fault, no_fault, Passes}
use Rattle.rules.specs.definitions.PlainRule.{by_kind, plain_price_count, price_condition, all_with_action, all_related, below, last_fault, internal_prices_fault, external_prices_fault, plain_prices_fault, internal_in_question, external_in_question, plain_in_question, first_break, internal_equations_fault, external_equations_fault, plain_equations_fault, plain_rule}
use Rattle.rules.proofs.argument.FaultLaws.{pass_on, pass-unless_true, none_first, first-none}
use Rattle.rules.proofs.argument.BreakLaws.{break-none, break-passed}
use Rattle.rules.specs.definitions.PlainSays.{InPlainQuestion, InternalEquations, ExternalEquations, PlainEquations, plain_says}

-- a test and what it says
pub holds-T : {b : Bool} → b ≡ true → T b
holds-T e = subst T (sym e) tt

pub T-holds : (b : Bool) → T b → b ≡ true
T-holds true h = refl
T-holds false h = absurd h

-- document 02, K5: an entry passes the six cases exactly when the request's sentence holds of it
pub six-cases : (challenger layer action : ℕ) → (plain_in_question challenger layer action ≡ true) ↔ InPlainQuestion challenger layer action
unfolding plain_in_question internal_in_question external_in_question
six-cases challenger layer action = (λ e. there e (ℕ_discrete challenger 0) (ℕ_discrete layer 0) (ℕ_discrete layer 1) (ℕ_discrete layer 2), back)
  where
    there : plain_in_question challenger layer action ≡ true → Dec (challenger ≡ 0) → Dec (layer ≡ 0) → Dec (layer ≡ 1) → Dec (layer ≡ 2) → InPlainQuestion challenger layer action
    there e (yes i) (yes z) o w = InPlainQuestion.before z (eqb-true _ _ (same _ z refl ∙ same _ i refl ∙ e))
    there e (yes i) (no z) o w = absurd (false-not (not_same _ z (either_same (λ (x : Bool). false ≡ x) layer 1 refl (either_same (λ (x : Bool). false ≡ x) layer 2 refl refl)) ∙ same _ i refl ∙ e))
    there e (no n) (yes z) o w = InPlainQuestion.before z (eqb-true _ _ (same _ z refl ∙ not_same _ n refl ∙ e))
    there e (no n) (no z) (yes o) w = InPlainQuestion.move n o (eqb-true _ _ (same _ o refl ∙ not_same _ z refl ∙ not_same _ n refl ∙ e))
    there e (no n) (no z) (no o) (yes w) = InPlainQuestion.after n w (eqb-true _ _ (same _ w refl ∙ not_same _ o refl ∙ not_same _ z refl ∙ not_same _ n refl ∙ e))
    there e (no n) (no z) (no o) (no w) = absurd (false-not (not_same _ w refl ∙ not_same _ o refl ∙ not_same _ z refl ∙ not_same _ n refl ∙ e))

    back : InPlainQuestion challenger layer action → plain_in_question challenger layer action ≡ true
    back (InPlainQuestion.before z b) =
        let first : (rest : Bool) → if_same layer 0 (eqb action 0) rest ≡ true = λ rest. sym (same rest z (sym (eq-eqb _ _ b))) in
        either_same (λ (x : Bool). x ≡ true) challenger 0 (first _) (first _)
    back (InPlainQuestion.move n o b) = sym (not_same _ n (not_same _ (λ z. omega arith) (same _ o (sym (eq-eqb _ _ b)))))
    back (InPlainQuestion.after n w b) =
        sym (not_same _ n (not_same _ (λ z. omega arith) (not_same _ (λ z. omega arith) (same _ w (sym (eq-eqb _ _ b))))))

-- the choice by the challenger's kind
module _ (A : Automaton) where
  pub kind-internal : {X : Type 0} (q : ℕ) (x y : X) → A.action q ≡ 0 → x ≡ by_kind A q x y
  unfolding by_kind
  kind-internal q x y e = same y e refl

  pub kind-external : {X : Type 0} (q : ℕ) (x y : X) → A.action q ≢ 0 → y ≡ by_kind A q x y
  unfolding by_kind
  kind-external q x y n = not_same x n refl

  -- 'for each transition with its action'
  pub all-with-action : (a : ℕ) (f : ℕ → Bool) → all_with_action A a f ≡ true → (r : ℕ) → r < A.transitions → A.action r ≡ a → f r ≡ true
  unfolding all_with_action
  all-with-action a f e r l is_a = same true is_a refl ∙ all-below A.transitions _ e r l

  pub with-action-all : (a : ℕ) (f : ℕ → Bool) → ((r : ℕ) → r < A.transitions → A.action r ≡ a → f r ≡ true) → all_with_action A a f ≡ true
  unfolding all_with_action
  with-action-all a f h = below_all A.transitions _ (λ r l. go r l (ℕ_discrete (A.action r) a))
    where
      go : (r : ℕ) → r < A.transitions → Dec (A.action r ≡ a) → if_same (A.action r) a (f r) true ≡ true
      go r l (yes is_a) = sym (same true is_a (sym (h r l is_a)))
      go r l (no n) = sym (not_same (f r) n refl)

  -- 'for each related v, u'
  pub all-related : (R : Pairs) (X G : ℕ → ℤ) → all_related A R X G ≡ true → RelatedCondition A R X G
  unfolding all_related
  all-related R X G e =
      record {
        holds = λ v u l k related.
            record { le = holds-T (is_true true related refl ∙ all-below A.states _ (all-below A.states _ e v l) u k) };
      }

  pub related-all : (R : Pairs) (X G : ℕ → ℤ) → RelatedCondition A R X G → all_related A R X G ≡ true
  unfolding all_related if_true
  related-all R X G h = below_all A.states _ (λ v l. below_all A.states _ (λ u k. go v u l k (R v u) refl))
    where
      go : (v u : ℕ) → v < A.states → u < A.states → (t : Bool) → R v u ≡ t → if_true t (le_z (G u) (X v)) true ≡ true
      go v u l k true e = T-holds _ (h.holds v u l k e).le
      go v u l k false e = refl

-- the price conditions, whatever the side of the targets
module _ (A : Automaton) (side : Side) where
  all-conditions : (a : ℕ) (X Y : ℕ → ℤ) → all_with_action A a (price_condition A side X Y) ≡ true → PriceCondition A side a X Y
  unfolding price_condition
  all-conditions a X Y e = record { holds = λ r l is_a. record { le = holds-T (all-with-action A a _ e r l is_a) } }

  conditions-all : (a : ℕ) (X Y : ℕ → ℤ) → PriceCondition A side a X Y → all_with_action A a (price_condition A side X Y) ≡ true
  unfolding price_condition
  conditions-all a X Y h = with-action-all A a _ (λ r l is_a. T-holds _ (h.holds r l is_a).le)

  -- the last condition
  last-holds : (X G : ℕ → ℤ) (q t : ℕ) → below A side X G q t ≡ true → LastCondition A side q t X G
  unfolding below
  last-holds X G q t e = record { holds = record { lt = holds-T e } }

  holds-last : (X G : ℕ → ℤ) (q t : ℕ) → LastCondition A side q t X G → below A side X G q t ≡ true
  unfolding below
  holds-last X G q t h = T-holds _ h.holds.lt

  -- prices without fault refute
  pub internal-refutes : (R : Pairs) (q t : ℕ) (X G : ℕ → ℤ) → Passes (internal_prices_fault A side R q t X G) ↔ RefutesInternal A side R q t X G
  unfolding internal_prices_fault last_fault
  internal-refutes R q t X G = (
    λ e.
        let a = pass-unless_true _ _ _ e (omega arith) in
        let b = pass-unless_true _ _ _ a.1 (omega arith) in
        let c = pass-unless_true _ _ _ b.1 (omega arith) in
        record { internal = all-conditions 0 X X a.0; related = all-related A R X G b.0; last = last-holds X G q t c.0 },
    λ h.
        pass_on (is_true _ (conditions-all 0 X X h.internal) (is_true _ (related-all A R X G h.related) (is_true _ (holds-last X G q t h.last) refl))) refl,
  )

  pub external-refutes : (R : Pairs) (q t : ℕ) (X Y G : ℕ → ℤ) → Passes (external_prices_fault A side R q t X Y G) ↔ RefutesExternal A side R q t X Y G
  unfolding external_prices_fault last_fault
  external-refutes R q t X Y G = (
    λ e.
        let a = pass-unless_true _ _ _ e (omega arith) in
        let b = pass-unless_true _ _ _ a.1 (omega arith) in
        let c = pass-unless_true _ _ _ b.1 (omega arith) in
        let d = pass-unless_true _ _ _ c.1 (omega arith) in
        let f = pass-unless_true _ _ _ d.1 (omega arith) in
        record {
          before = all-conditions 0 X X a.0;
          after = all-conditions 0 Y Y b.0;
          move = all-conditions (A.action q) X Y c.0;
          related = all-related A R Y G d.0;
          last = last-holds X G q t f.0;
        },
    λ h.
        pass_on
        (is_true _ (conditions-all 0 X X h.before)
        (is_true _ (conditions-all 0 Y Y h.after)
        (is_true _ (conditions-all (A.action q) X Y h.move)
        (is_true _ (related-all A R Y G h.related) (is_true _ (holds-last X G q t h.last) refl)))))
        refl,
  )

-- of a choice by the challenger's kind
module _ (A : Automaton) where
  pub by-kind : (q : ℕ) (x y : Fault) {P Q : Type 0} → Passes x ↔ P → Passes y ↔ Q → Passes (by_kind A q x y) ↔ ((A.action q ≡ 0 → P) × (A.action q ≢ 0 → Q))
  by-kind q x y {P} {Q} internal external = (
    λ e. (λ i. internal.0 (pass_on (sym (kind-internal A q _ _ i)) e), λ n. external.0 (pass_on (sym (kind-external A q _ _ n)) e)),
    λ h. go h (ℕ_discrete (A.action q) 0),
  )
    where
      go : (A.action q ≡ 0 → P) × (A.action q ≢ 0 → Q) → Dec (A.action q ≡ 0) → Passes (by_kind A q x y)
      go h (yes i) = pass_on (kind-internal A q _ _ i) (internal.1 (h.0 i))
      go h (no n) = pass_on (kind-external A q _ _ n) (external.1 (h.1 n))

  pub plain-refutes : (R : Pairs) (q t : ℕ) (p : ℕ → ℤ) → Passes (plain_prices_fault A R q t p) ↔ PlainRefutes A R q t p
  unfolding plain_prices_fault
  plain-refutes R q t p =
      let both = by-kind q _ _ (internal-refutes A (price_of_targets A) R q t p (λ v. p (A.states + v))) (external-refutes A (price_of_targets A) R q t p (λ v. p (A.states + v)) (λ v. p (2 * A.states + v))) in
      (λ e. let h = both.0 e in record { internal = h.0; external = h.1 }, λ h. both.1 (h.internal, h.external))

  -- equations without fault hold
  pub all_hold : (number : ℕ) (e : ℕ → Sides) → (number ≡ 0 → ⊥) → Passes (first_break A number e) → (v : ℕ) → v < A.states → Holds (e v)
  unfolding first_break
  all_hold number e some p v l = break-passed number e some A.states 0 p v (omega arith) (omega arith)

  pub hold-all : (number : ℕ) (e : ℕ → Sides) → ((v : ℕ) → v < A.states → Holds (e v)) → no_fault ≡ first_break A number e
  unfolding first_break
  hold-all number e h = break-none number e A.states 0 (λ v l m. h v (omega arith))

  internal-equations : (q t : ℕ) (f : Flow) → Passes (internal_equations_fault A q t f) ↔ InternalEquations A q t f
  unfolding internal_equations_fault
  internal-equations q t f = (
    λ e.
        let a = none_first _ _ e in
        record { move = all_hold 20 (internal_move A f t) (omega arith) a.0; target = all_hold 21 (at_target A f q) (omega arith) a.1 },
    λ h. pass_on (first-none _ _ (pass_on (hold-all 20 (internal_move A f t) h.move) refl) (hold-all 21 (at_target A f q) h.target)) refl,
  )

  external-equations : (q t : ℕ) (f : Flow) → Passes (external_equations_fault A q t f) ↔ ExternalEquations A q t f
  unfolding external_equations_fault
  external-equations q t f = (
    λ e.
        let a = none_first _ _ e in
        let b = none_first _ _ a.1 in
        record {
          before = all_hold 20 (before_move A f t) (omega arith) a.0;
          after = all_hold 20 (after_move A f) (omega arith) b.0;
          target = all_hold 21 (at_target A f q) (omega arith) b.1;
        },
    λ h.
        pass_on
        (first-none _ _ (pass_on (hold-all 20 (before_move A f t) h.before) refl)
        (first-none _ _ (pass_on (hold-all 20 (after_move A f) h.after) refl)
        (hold-all 21 (at_target A f q) h.target)))
        refl,
  )

  pub plain-equations : (q t : ℕ) (f : Flow) → Passes (plain_equations_fault A q t f) ↔ PlainEquations A q t f
  unfolding plain_equations_fault
  plain-equations q t f =
      let both = by-kind q _ _ (internal-equations q t f) (external-equations q t f) in
      (λ e. let h = both.0 e in record { internal = h.0; external = h.1 }, λ h. both.1 (h.internal, h.external))

  -- the conditions look at prices of states alone
  abbrev pub AlikeOnStates : (X Y : ℕ → ℤ) → Type 0
  AlikeOnStates X Y = (v : ℕ) → v < A.states → X v ≡ Y v

  pub targets-same : (X Y : ℕ → ℤ) → AlikeOnStates X Y → (r : ℕ) → price_of_targets A X r ≡ price_of_targets A Y r
  unfolding price_of_targets
  targets-same X Y h r = sumℤCong A.states _ _ (λ v l. ap (λ (z : ℤ). pos (A.weight r v) *ℤ z) (h v l))

  pub price-same : (X Y : ℕ → ℤ) → AlikeOnStates X Y → (r x : ℕ) → x < A.states → price_at A X r x ≡ price_at A Y r x
  unfolding price_at
  price-same X Y h r x l = ap (λ (z : ℤ). pos (A.denominator r) *ℤ z) (h x l)

-- two sides that are the same for such prices: the conditions of each kind of challenger
module _ (A : Automaton) (sound : SoundAutomaton A) {side side' : Side} (sides : (X Y : ℕ → ℤ) → AlikeOnStates A X Y → (r : ℕ) → side X r ≡ side' Y r) where
  condition-same : (a : ℕ) {X X' Y Y' : ℕ → ℤ} → AlikeOnStates A X X' → AlikeOnStates A Y Y' → PriceCondition A side a X Y → PriceCondition A side' a X' Y'
  unfolding SoundAutomaton
  condition-same a h k c = record { holds = λ r l is_a. subst₂ ◌≤ℤ◌ (sides _ _ k r) (price-same A _ _ h r (A.source r) (sound r l).from) (c.holds r l is_a) }

  related_same : (R : Pairs) {X X' G G' : ℕ → ℤ} → AlikeOnStates A X X' → AlikeOnStates A G G' → RelatedCondition A R X G → RelatedCondition A R X' G'
  related_same R h k c = record { holds = λ v u l m e. subst₂ ◌≤ℤ◌ (k u m) (h v l) (c.holds v u l m e) }

  last-same : (q t : ℕ) {X X' G G' : ℕ → ℤ} → t < A.states → AlikeOnStates A X X' → AlikeOnStates A G G' → LastCondition A side q t X G → LastCondition A side' q t X' G'
  last-same q t l h k c = record { holds = subst₂ ◌<ℤ◌ (price-same A _ _ h q t l) (sides _ _ k q) c.holds }

  module _ (R : Pairs) (q t : ℕ) (l : t < A.states) {p p' : ℕ → ℤ} where
    pub internal-same : ((i : ℕ) → i < 2 * A.states → p i ≡ p' i) → RefutesInternal A side R q t p (λ v. p (A.states + v)) → RefutesInternal A side' R q t p' (λ v. p' (A.states + v))
    internal-same h d =
        let x : AlikeOnStates A p p' = λ v m. h v (omega arith) in
        let g : AlikeOnStates A (λ v. p (A.states + v)) (λ v. p' (A.states + v)) = λ v m. h (A.states + v) (omega arith) in
        record { internal = condition-same 0 x x d.internal; related = related_same R x g d.related; last = last-same q t l x g d.last }

    pub external-same : ((i : ℕ) → i < 3 * A.states → p i ≡ p' i) → RefutesExternal A side R q t p (λ v. p (A.states + v)) (λ v. p (2 * A.states + v)) → RefutesExternal A side' R q t p' (λ v. p' (A.states + v)) (λ v. p' (2 * A.states + v))
    external-same h d =
        let x : AlikeOnStates A p p' = λ v m. h v (omega arith) in
        let y : AlikeOnStates A (λ v. p (A.states + v)) (λ v. p' (A.states + v)) = λ v m. h (A.states + v) (omega arith) in
        let g : AlikeOnStates A (λ v. p (2 * A.states + v)) (λ v. p' (2 * A.states + v)) = λ v m. h (2 * A.states + v) (omega arith) in
        record {
          before = condition-same 0 x x d.before;
          after = condition-same 0 y y d.after;
          move = condition-same (A.action q) x y d.move;
          related = related_same R y g d.related;
          last = last-same q t l x g d.last;
        }

pub only-prices : (A : Automaton) → SoundAutomaton A → (R : Pairs) (q t : ℕ) (p p' : ℕ → ℤ) → t < A.states → ((i : ℕ) → i < plain_price_count A q → p i ≡ p' i) → PlainRefutes A R q t p → PlainRefutes A R q t p'
unfolding plain_price_count
only-prices A sound R q t p p' l h c =
    record {
      internal = λ i. internal-same A sound (targets-same A) R q t l (λ j m. h j (omega (arith, kind-internal A q (2 * A.states) (3 * A.states) i))) (c.internal i);
      external = λ n. external-same A sound (targets-same A) R q t l (λ j m. h j (omega (arith, kind-external A q (2 * A.states) (3 * A.states) n))) (c.external n);
    }

-- document 01's tests decide its propositions
pub plain-decides : Decides plain_rule plain_says
plain-decides =
    record {
      price_count = λ A q. refl;
      refutes = plain-refutes;
      only_prices = only-prices;
      in_question = λ A q t layer r. six-cases (A.action q) layer (A.action r);
      equations = plain-equations;
    }
