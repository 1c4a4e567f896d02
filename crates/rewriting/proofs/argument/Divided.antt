-- An automaton whose transitions are divided, each by a number of its own: document 01's rules are kept by a certificate whose k are multiplied.
use Rattle.std.specs.Prelude.{ℕ, ◌*◌, ◌≤◌, ◌<◌, ◌≡◌, ℤ, ◌*ℤ◌}
use Rattle.std.proofs.Math.Path.{refl, ap}
use Rattle.std.proofs.Common.{◌∙◌, subst, arith}
use Rattle.std.proofs.Math.IntN.{pos}
use Rattle.std.proofs.Math.Nat.{eq_of_mul-eq-mul_right}
use Rattle.bisimulation.specs.definitions.Choice.{if_same}
use Rattle.bisimulation.specs.definitions.Sum.{sum}
use Rattle.bisimulation.proofs.argument.SumLaws.{sum_cong}
use Rattle.bisimulation.specs.definitions.Automaton.{Automaton}
use Rattle.bisimulation.specs.definitions.StepRule.{Flow, Holds, arriving, leaving, over_targets, over_sources, before_move, after_move, internal_move, at_target}
use Rattle.bisimulation.specs.definitions.Pairs.{Pairs}
use Rattle.bisimulation.specs.definitions.Prices.{Side, price_at, price_of_targets}
use Rattle.bisimulation.specs.definitions.Refutation.{PriceCondition, RelatedCondition, LastCondition, RefutesInternal, RefutesExternal, PlainRefutes}
use Rattle.rules.specs.definitions.PlainRule.{by_kind, plain_price_count}
use Rattle.rules.specs.definitions.Accepted.{RuleSays}
use Rattle.rules.specs.definitions.PlainSays.{PlainEquations, plain_says}
use Rattle.rewriting.proofs.argument.TimesLaws.{Times, times-le, times-lt, times-factor, times-total}

-- an automaton with other fractions
abbrev pub with_fractions : Automaton → (d : ℕ → ℕ) → (p : ℕ → ℕ → ℕ) → Automaton
with_fractions A d p =
    record {
      states = A.states;
      actions = A.actions;
      transitions = A.transitions;
      label = A.label;
      source = A.source;
      action = A.action;
      denominator = d;
      weight = p;
    }

-- B is A with the numbers of each transition r divided by g r; all else is the same
pub record Divided (g : ℕ → ℕ) (A B : Automaton) : Type 0 where
  pub others : with_fractions A B.denominator B.weight ≡ B
  pub some : (q : ℕ) → q < A.transitions → 1 ≤ g q
  pub denominator : (q : ℕ) → q < A.transitions → A.denominator q ≡ B.denominator q * g q
  pub weight : (q v : ℕ) → q < A.transitions → A.weight q v ≡ B.weight q v * g q

-- 'each flow's k for that transition is multiplied by g'
abbrev pub multiplied : (g : ℕ → ℕ) → Flow → Flow
multiplied g f = record { D = f.D; k = λ layer r. f.k layer r * g r; w = f.w }

-- what a rule says is kept when the automaton is divided and the k are multiplied
pub record KeptDivided (says : RuleSays) : Type 0 where
  pub price_count : {g : ℕ → ℕ} {A B : Automaton} → Divided g A B → (q : ℕ) → says.price_count A q ≡ says.price_count B q
  pub refutes : {g : ℕ → ℕ} {A B : Automaton} → Divided g A B → (R : Pairs) (q t : ℕ) (p : ℕ → ℤ) → q < A.transitions → says.refutes A R q t p → says.refutes B R q t p
  pub in_question : {g : ℕ → ℕ} {A B : Automaton} → Divided g A B → (q t layer r : ℕ) → says.in_question A q t layer r → says.in_question B q t layer r
  pub equations : {g : ℕ → ℕ} {A B : Automaton} → Divided g A B → (q t : ℕ) (f : Flow) → q < A.transitions → says.equations A q t f → says.equations B q t (multiplied g f)

module _ {g : ℕ → ℕ} {A B : Automaton} (divided : Divided g A B) where
  -- B, with what it has of A in its place
  abbrev pub in_place : Automaton
  in_place = with_fractions A B.denominator B.weight

  -- each side of a price condition is divided by its transition's number
  price-times : (X : ℕ → ℤ) (q x : ℕ) → q < A.transitions → Times (g q) (price_at in_place X q x) (price_at A X q x)
  unfolding price_at
  price-times X q x l = times-factor (g q) (divided.some q l) (B.denominator q) (A.denominator q) (divided.denominator q l) (X x)

  pub targets-times : (X : ℕ → ℤ) (q : ℕ) → q < A.transitions → Times (g q) (price_of_targets in_place X q) (price_of_targets A X q)
  unfolding price_of_targets
  targets-times X q l =
      times-total (g q) (divided.some q l) A.states (λ v. pos (B.weight q v) *ℤ X v) (λ v. pos (A.weight q v) *ℤ X v)
      (λ v k. times-factor (g q) (divided.some q l) (B.weight q v) (A.weight q v) (divided.weight q v l) (X v))

  -- the sides of the targets, of whatever rule
  module _ {side side_b : Side} (sides : (X : ℕ → ℤ) (q : ℕ) → q < A.transitions → Times (g q) (side_b X q) (side X q)) where
    condition : (a : ℕ) (X Y : ℕ → ℤ) → PriceCondition A side a X Y → PriceCondition in_place side_b a X Y
    condition a X Y c = record { holds = λ r l e. times-le (g r) (divided.some r l) (sides Y r l) (price-times X r (A.source r) l) (c.holds r l e) }

    related : (R : Pairs) (Y G : ℕ → ℤ) → RelatedCondition A R Y G → RelatedCondition in_place R Y G
    related R Y G c = record { holds = c.holds }

    last : (q t : ℕ) (X G : ℕ → ℤ) → q < A.transitions → LastCondition A side q t X G → LastCondition in_place side_b q t X G
    last q t X G l c = record { holds = times-lt (g q) (divided.some q l) (price-times X q t l) (sides G q l) c.holds }

    pub internal-divided : (R : Pairs) (q t : ℕ) (X G : ℕ → ℤ) → q < A.transitions → RefutesInternal A side R q t X G → RefutesInternal in_place side_b R q t X G
    internal-divided R q t X G l h =
        record { internal = condition 0 X X h.internal; related = related R X G h.related; last = last q t X G l h.last }

    pub external-divided : (R : Pairs) (q t : ℕ) (X Y G : ℕ → ℤ) → q < A.transitions → RefutesExternal A side R q t X Y G → RefutesExternal in_place side_b R q t X Y G
    external-divided R q t X Y G l h =
        record {
          before = condition 0 X X h.before;
          after = condition 0 Y Y h.after;
          move = condition (A.action q) X Y h.move;
          related = related R Y G h.related;
          last = last q t X G l h.last;
        }

  -- k times g times what is divided by g
  module _ (k : ℕ → ℕ) where
    pub used-denominator : (q : ℕ) → q < A.transitions → k q * g q * B.denominator q ≡ k q * A.denominator q
    used-denominator q l = omega (arith, ap (λ (z : ℕ). k q * z) (divided.denominator q l))

    arriving-same : (v : ℕ) → arriving in_place (λ r. k r * g r) v ≡ arriving A k v
    unfolding arriving
    arriving-same v = sum_cong A.transitions _ _ (λ q l. omega (arith, ap (λ (z : ℕ). k q * z) (divided.weight q v l)))

    leaving-same : (v : ℕ) → leaving in_place (λ r. k r * g r) v ≡ leaving A k v
    unfolding leaving
    leaving-same v = sum_cong A.transitions _ _ (λ q l. ap (λ (z : ℕ). if_same (A.source q) v z 0) (used-denominator q l))

  -- each equation holds as it did, and the one at the targets divided
  module _ (f : Flow) where
    before-divided : (t v : ℕ) → Holds (before_move A f t v) → Holds (before_move in_place (multiplied g f) t v)
    unfolding before_move
    before-divided t v h = record { equal = omega (arith, h.equal, arriving-same (f.k 0) v, leaving-same (f.k 0) v, leaving-same (f.k 1) v) }

    after-divided : (v : ℕ) → Holds (after_move A f v) → Holds (after_move in_place (multiplied g f) v)
    unfolding after_move over_targets
    after-divided v h = record { equal = omega (arith, h.equal, arriving-same (f.k 1) v, arriving-same (f.k 2) v, leaving-same (f.k 2) v) }

    move-divided : (t v : ℕ) → Holds (internal_move A f t v) → Holds (internal_move in_place (multiplied g f) t v)
    unfolding internal_move over_targets
    move-divided t v h = record { equal = omega (arith, h.equal, arriving-same (f.k 0) v, leaving-same (f.k 0) v) }

    target-divided : (q u : ℕ) → q < A.transitions → Holds (at_target A f q u) → Holds (at_target in_place (multiplied g f) q u)
    unfolding at_target over_sources
    target-divided q u l h =
        let w = sum A.states (λ v. f.w v u) in
        record {
          equal =
              eq_of_mul-eq-mul_right (g q) (divided.some q l) _ _
              (omega (arith, h.equal, ap (λ (z : ℕ). z * w) (divided.denominator q l), ap (λ (z : ℕ). z * f.D) (divided.weight q u l)));
        }

    pub equations-divided : (q t : ℕ) → q < A.transitions → PlainEquations A q t f → PlainEquations in_place q t (multiplied g f)
    equations-divided q t l h =
        record {
          internal = λ i.
              let e = h.internal i in
              record { move = λ v k. move-divided t v (e.move v k); target = λ u k. target-divided q u l (e.target u k) };
          external = λ n.
              let e = h.external n in
              record {
                before = λ v k. before-divided t v (e.before v k);
                after = λ v k. after-divided v (e.after v k);
                target = λ u k. target-divided q u l (e.target u k);
              };
        }

  count-divided : (q : ℕ) → plain_price_count A q ≡ plain_price_count in_place q
  unfolding plain_price_count by_kind
  count-divided q = refl

  pub plain-count-divided : (q : ℕ) → plain_price_count A q ≡ plain_price_count B q
  plain-count-divided q = count-divided q ∙ ap (λ (X : Automaton). plain_price_count X q) divided.others

-- document 01's rule is kept
pub plain-divided : KeptDivided plain_says
plain-divided =
    record {
      price_count = plain-count-divided;
      refutes = λ {g} {A} {B} divided R q t p l h.
          subst (λ (X : Automaton). PlainRefutes X R q t p) divided.others
          (record {
            internal = λ i. internal-divided divided (targets-times divided) R q t _ _ l (h.internal i);
            external = λ n. external-divided divided (targets-times divided) R q t _ _ _ l (h.external n);
          });
      in_question = λ divided q t layer r h. subst (λ (X : Automaton). plain_says.in_question X q t layer r) divided.others h;
      equations = λ {g} divided q t f l h. subst (λ (X : Automaton). PlainEquations X q t (multiplied g f)) divided.others (equations-divided divided f q t l h);
    }
