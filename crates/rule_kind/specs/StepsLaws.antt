-- Laws of what each step rule decides of a question.
use Rattle.std.specs.Prelude.{ℕ, ◌+◌, ◌*◌, ◌^◌, ◌≤◌, ◌<◌, ◌≡◌, refl, Bool, true, false, not, List, eqb, ℤ, pos}
use Rattle.std.proofs.Math.Path.{sym, ap}
use Rattle.std.proofs.Common.{◌∙◌, ap₂, subst, to_z, of_z, to_z-of_z, arith, eqb-true, eq-eqb, ne_eqb}
use Rattle.std.proofs.Math.Bool.{cond}
use Rattle.std.specs.Int.Signed.{mag}
use Rattle.std.specs.Int.{w64}
use Rattle.std.proofs.lemmas.Bool.{not-true, not-false, eqb-false}
use Rattle.bisimulation.specs.definitions.Choice.{if_same, if_true, both}
use Rattle.bisimulation.proofs.argument.ChoiceLaws.{same, not_same, is_true, is_false, either_same, either_true, kept_same, both_true, false-not}
use Rattle.bisimulation.specs.definitions.Automaton.{Automaton}
use Rattle.rules.specs.definitions.Limits.{limits}
use Rattle.rules.specs.definitions.Bytes.{signed_at}
use Rattle.rules.specs.definitions.PlainRule.{by_kind, plain_price_count, plain_in_question}
use Rattle.rules.specs.definitions.PlainSays.{InPlainQuestion}
use Rattle.rules.proofs.argument.PlainDecides.{six-cases}
use Rattle.cost_files.specs.definitions.CostFile.{cost_price_count}
use Rattle.strong_files.specs.definitions.StrongFile.{own_with_action, strong_in_question, strong_price_count}
use Rattle.field.specs.declared.Price.{Price}
use Rattle.field.specs.Taken.{Priced}
use Rattle.rule_kind.specs.declared.Kind.{Kind}
use Rattle.rule_kind.specs.declared.Kind.TheVariants.{Plain, Costs, Strong}
use Rattle.rule_kind.specs.declared.Condition.TheVariants.{Across, Within, Unasked}
use Rattle.rule_kind.specs.Kinds.{is_strong, rule_of}
use Rattle.rule_kind.specs.KindsLaws.{by-kind}
use Rattle.rule_kind.specs.Steps.{TellsLayer, own_transition, strong_question, in_question_by, Tests, arrival_of, departure_of, has_move, w_departure_of, further_prices, first_prices, prices_by, further_at, IsFurther, weak_condition, strong_condition, condition_by}

-- an answer of the six cases tells what the request's sentence does
pub tells-layer : (challenger layer action : ℕ) {b : Bool} → b ≡ plain_in_question challenger layer action → TellsLayer challenger layer action b
tells-layer challenger layer action e =
    let exactly = six-cases challenger layer action in
    record { is = e; exactly = (λ passed. exactly.0 (sym e ∙ passed), λ said. e ∙ exactly.1 said) }

-- they decide for the rules with and without costs
pub weak-question : (kind : Kind) → is_strong kind ≡ false → (challenger t layer source action : ℕ) → plain_in_question challenger layer action ≡ in_question_by kind challenger t layer source action
unfolding in_question_by
weak-question Plain w challenger t layer source action = refl
weak-question Costs w challenger t layer source action = refl
weak-question Strong w challenger t layer source action = absurd (false-not (sym w))

pub strong-question : (kind : Kind) → is_strong kind ≡ true → (challenger t layer source action : ℕ) → strong_question challenger t layer source action ≡ in_question_by kind challenger t layer source action
unfolding in_question_by
strong-question Plain e challenger t layer source action = absurd (false-not e)
strong-question Costs e challenger t layer source action = absurd (false-not e)
strong-question Strong e challenger t layer source action = refl

-- a transition of t itself
module _ (challenger t source action : ℕ) where
  pub other-source : (source ≡ t → ⊥) → false ≡ own_transition challenger t source action
  unfolding own_transition both
  other-source n = ap (λ (b : Bool). cond b (eqb action challenger) false) (sym (ne_eqb _ _ n))

  pub same_source : source ≡ t → eqb action challenger ≡ own_transition challenger t source action
  unfolding own_transition both
  same_source e = ap (λ (b : Bool). cond b (eqb action challenger) false) (sym (eq-eqb _ _ e))

-- what the strong rule asks stands in layer 1
pub strong-asked : (challenger t layer source action : ℕ) → strong_question challenger t layer source action ≡ true → (layer ≡ 1) × (source ≡ t) × (action ≡ challenger)
unfolding strong_question own_transition
strong-asked challenger t layer source action e =
    let k = kept_same (own_transition challenger t source action) false layer 1 (λ z. false-not (sym z)) (sym e) in
    let b = both_true _ _ (sym k.1) in
    (k.0, eqb-true _ _ b.0, eqb-true _ _ b.1)

-- what is asked stands in one of three layers
layer-of : {challenger layer action : ℕ} → InPlainQuestion challenger layer action → layer ≤ 2
layer-of (InPlainQuestion.before z b) = omega arith
layer-of (InPlainQuestion.move n o b) = omega arith
layer-of (InPlainQuestion.after n w b) = omega arith

-- the rule's test of what is in the question
pub tests-of : (kind : Kind) (s : List ℕ) → Tests (in_question_by kind) (rule_of kind s)
unfolding in_question_by strong_question own_transition strong_in_question own_with_action
tests-of Plain s =
    record { is = λ A q t layer r. refl; layers = λ challenger t layer source action e. layer-of ((six-cases challenger layer action).0 e) }
tests-of Costs s =
    record { is = λ A q t layer r. refl; layers = λ challenger t layer source action e. layer-of ((six-cases challenger layer action).0 e) }
tests-of Strong s =
    record { is = λ A q t layer r. refl; layers = λ challenger t layer source action e. omega (arith, (strong-asked challenger t layer source action e).0) }

-- where a layer leads to, and what it leaves
pub arrives-before : {layer : ℕ} → layer ≡ 0 → arrival_of layer ≡ 0
unfolding arrival_of
arrives-before e = sym (same limits.states e refl)

pub arrives-after : {layer : ℕ} → (layer ≡ 0 → ⊥) → arrival_of layer ≡ limits.states
unfolding arrival_of
arrives-after o = sym (not_same 0 o refl)

pub either-arrival : (P : ℕ → Type 0) (layer : ℕ) → P 0 → P limits.states → P (arrival_of layer)
unfolding arrival_of
either-arrival P layer = either_same P layer 0

pub leaves_after : {layer : ℕ} → layer ≡ 2 → departure_of layer ≡ limits.states
unfolding departure_of
leaves_after e = sym (same 0 e refl)

pub leaves-before : {layer : ℕ} → (layer ≡ 2 → ⊥) → departure_of layer ≡ 0
unfolding departure_of
leaves-before o = sym (not_same limits.states o refl)

pub either-departure : (P : ℕ → Type 0) (layer : ℕ) → P limits.states → P 0 → P (departure_of layer)
unfolding departure_of
either-departure P layer = either_same P layer 2

pub arrival-most : (layer : ℕ) → arrival_of layer ≤ limits.states
arrival-most layer = either-arrival (λ (x : ℕ). x ≤ limits.states) layer (omega arith) (omega arith)

pub departure-most : (layer : ℕ) → departure_of layer ≤ limits.states
departure-most layer = either-departure (λ (x : ℕ). x ≤ limits.states) layer (omega arith) (omega arith)

-- whether there is a move
pub weak-move : (kind : Kind) → is_strong kind ≡ false → (challenger : ℕ) → not (eqb challenger 0) ≡ has_move kind challenger
unfolding has_move
weak-move Plain w challenger = refl
weak-move Costs w challenger = refl
weak-move Strong w challenger = absurd (false-not (sym w))

pub strong-move : (kind : Kind) → is_strong kind ≡ true → (challenger : ℕ) → true ≡ has_move kind challenger
unfolding has_move
strong-move Plain e challenger = absurd (false-not e)
strong-move Costs e challenger = absurd (false-not e)
strong-move Strong e challenger = refl

pub moves-external : (kind : Kind) → is_strong kind ≡ false → (challenger : ℕ) → has_move kind challenger ≡ true → challenger ≡ 0 → ⊥
moves-external kind w challenger e = eqb-false challenger 0 (not-true _ (weak-move kind w challenger ∙ e))

pub stays-internal : (kind : Kind) → is_strong kind ≡ false → (challenger : ℕ) → has_move kind challenger ≡ false → challenger ≡ 0
stays-internal kind w challenger e = eqb-true challenger 0 (not-false _ (weak-move kind w challenger ∙ e))

-- what w leaves
pub w-after : (kind : Kind) (challenger : ℕ) → has_move kind challenger ≡ true → w_departure_of kind challenger ≡ limits.states
unfolding w_departure_of
w-after kind challenger e = sym (is_true 0 e refl)

pub w-before : (kind : Kind) (challenger : ℕ) → has_move kind challenger ≡ false → w_departure_of kind challenger ≡ 0
unfolding w_departure_of
w-before kind challenger e = sym (is_false limits.states e refl)

pub either-w : (P : ℕ → Type 0) (kind : Kind) (challenger : ℕ) → P limits.states → P 0 → P (w_departure_of kind challenger)
unfolding w_departure_of
either-w P kind challenger = either_true P (has_move kind challenger)

pub w-departure-most : (kind : Kind) (challenger : ℕ) → w_departure_of kind challenger ≤ limits.states
w-departure-most kind challenger = either-w (λ (x : ℕ). x ≤ limits.states) kind challenger (omega arith) (omega arith)

-- how many prices A there are
pub weak-first : (kind : Kind) → is_strong kind ≡ false → (n : ℕ) → n ≡ first_prices kind n
unfolding first_prices
weak-first Plain w n = refl
weak-first Costs w n = refl
weak-first Strong w n = absurd (false-not (sym w))

pub strong-first : (kind : Kind) → is_strong kind ≡ true → (n : ℕ) → 1 ≡ first_prices kind n
unfolding first_prices
strong-first Plain e n = absurd (false-not e)
strong-first Costs e n = absurd (false-not e)
strong-first Strong e n = refl

-- how many prices a refutation has
few-further : (kind : Kind) (n : ℕ) → first_prices kind n + further_prices kind ≤ n + 1
unfolding first_prices
few-further Plain n = omega arith
few-further Costs n = omega arith
few-further Strong n = omega arith

module _ (kind : Kind) (n challenger : ℕ) where
  pub prices-with-move : has_move kind challenger ≡ true → first_prices kind n + 2 * n + further_prices kind ≡ prices_by kind n challenger
  unfolding prices_by
  prices-with-move e = ap (λ (k : ℕ). first_prices kind n + k + further_prices kind) (is_true n e refl)

  pub prices-without-move : has_move kind challenger ≡ false → first_prices kind n + n + further_prices kind ≡ prices_by kind n challenger
  unfolding prices_by
  prices-without-move e = ap (λ (k : ℕ). first_prices kind n + k + further_prices kind) (is_false (2 * n) e refl)

  pub prices-most : prices_by kind n challenger ≤ 3 * n + 1
  unfolding prices_by
  prices-most =
      either_true (λ (k : ℕ). first_prices kind n + k + further_prices kind ≤ 3 * n + 1) (has_move kind challenger) (omega (arith, few-further kind n)) (omega (arith, few-further kind n))

-- as many as the rule says
weak-prices : (n challenger : ℕ) → n + if_true (not (eqb challenger 0)) (2 * n) n ≡ if_same challenger 0 (2 * n) (3 * n)
unfolding if_true if_same
weak-prices n challenger = go (eqb challenger 0)
  where
    go : (b : Bool) → n + cond (not b) (2 * n) n ≡ cond b (2 * n) (3 * n)
    go true = omega arith
    go false = omega arith

pub prices-of : (kind : Kind) (s : List ℕ) (A : Automaton) (q : ℕ) {n challenger : ℕ} → A.states ≡ n → challenger ≡ A.action q → prices_by kind n challenger ≡ (rule_of kind s).price_count A q
unfolding prices_by first_prices has_move plain_price_count by_kind cost_price_count strong_price_count if_true
prices-of kind s A q e f = ap₂ (prices_by kind) (sym e) f ∙ by-kind kind
  where
    by-kind : (kind : Kind) → prices_by kind A.states (A.action q) ≡ (rule_of kind s).price_count A q
    by-kind Plain = omega (arith, weak-prices A.states (A.action q))
    by-kind Costs = omega (arith, weak-prices A.states (A.action q))
    by-kind Strong = omega arith

-- the price L, by the kinds of rules
pub further-none : (other : Kind) {kind : Kind} {C : List ℕ} {at : ℕ} {l : ℤ} → ((C : List ℕ) (at : ℕ) → further_at other C at ≡ pos 0) → kind ≡ other → l ≡ pos 0 → IsFurther kind C at l
further-none other {C = C} {at} none e z =
    record { is = by-kind (λ (k : Kind). further_at k C at) e (z ∙ sym (none C at)); small = subst (λ (y : ℤ). mag y < 2 ^ 31) (sym z) (omega arith) }

pub further-read : {kind : Kind} {C : List ℕ} {at place : ℕ} {p : Price} → kind ≡ Costs → Priced C place p → place ≡ at → IsFurther kind C at (to_z w64 (of_z w64 p.value))
further-read {C = C} {at} {p = p} e h here =
    rw (to_z-of_z {w = w64} {z = p.value} (record { sfits = omega (arith, h.small) }))
    (record { is = by-kind (λ (k : Kind). further_at k C at) e (h.value ∙ ap (signed_at C) here); small = h.small })

-- which condition a transition has by the rules with and without costs
pub weak-conditions : (kind : Kind) → is_strong kind ≡ false → (challenger t source action : ℕ) → weak_condition challenger action ≡ condition_by kind challenger t source action
unfolding condition_by
weak-conditions Plain w challenger t source action = refl
weak-conditions Costs w challenger t source action = refl
weak-conditions Strong w challenger t source action = absurd (false-not (sym w))

pub strong-conditions : (kind : Kind) → is_strong kind ≡ true → (challenger t source action : ℕ) → strong_condition challenger t source action ≡ condition_by kind challenger t source action
unfolding condition_by
strong-conditions Plain e challenger t source action = absurd (false-not e)
strong-conditions Costs e challenger t source action = absurd (false-not e)
strong-conditions Strong e challenger t source action = refl

module _ (kind : Kind) (w : is_strong kind ≡ false) (challenger t source action : ℕ) where
  pub across : action ≡ challenger → condition_by kind challenger t source action ≡ Across
  unfolding weak_condition
  across e = sym (weak-conditions kind w challenger t source action) ∙ sym (same _ e refl)

  pub within : (action ≡ challenger → ⊥) → action ≡ 0 → condition_by kind challenger t source action ≡ Within
  unfolding weak_condition
  within n e = sym (weak-conditions kind w challenger t source action) ∙ sym (not_same _ n (same _ e refl))

  pub unasked : (action ≡ challenger → ⊥) → (action ≡ 0 → ⊥) → condition_by kind challenger t source action ≡ Unasked
  unfolding weak_condition
  unasked n o = sym (weak-conditions kind w challenger t source action) ∙ sym (not_same _ n (not_same _ o refl))
