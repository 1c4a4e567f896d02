-- What the remainders hold after all entries: the left side of each equation less the right one.
use Prim.Native.Nat.{ℕ, zero, suc, ◌+◌, ◌*◌, ◌-◌, ◌≤◌, ◌<◌}
use Rattle.std.specs.Prelude.{◌≡◌, Bool, true, false, cond, List, length, ltb, ℤ, pos, negsuc, neg_ℤ}
use Rattle.std.proofs.Math.Path.{refl, sym, ap, ap₂}
use Rattle.std.proofs.Common.{◌∙◌, subst, subst₂, ltb-true, ltb-false}
use Rattle.std.proofs.Math.IntN.{sub_ℕ}
use Rattle.std.proofs.Math.Nat.{zero-add}
use native.Mathlib.Omega.{arith}
use Rattle.std.proofs.Math.Decide.{ℕ_discrete, dec_lt}
use Rattle.bisimulation.specs.definitions.Choice.{if_same, if_true}
use Rattle.bisimulation.proofs.argument.ChoiceLaws.{same, not_same, turned, times_same}
use Rattle.bisimulation.specs.definitions.Automaton.{Automaton, SoundAutomaton}
use Rattle.bisimulation.specs.definitions.Pairs.{Pairs}
use Rattle.bisimulation.proofs.argument.Raised.{Raised, above, below}
use Rattle.rules.specs.definitions.Bytes.{byte_at, two_at, three_at, four_at}
use Rattle.rules.proofs.argument.ModelAutomaton.{automaton-weight}
use Rattle.rules.specs.definitions.Limits.{limits}
use Rattle.rules.specs.definitions.Reading.{states_of, model_at}
use Rattle.rules.proofs.argument.SoundModelLaws.{sound-automaton}
use Rattle.rules.specs.definitions.Certificate.{FileRule, k_fault, w_fault, k_count_at, w_count_at, after_k, flow_at}
use Rattle.rules.specs.definitions.Faults.{Fault, fault_by, fault, no_fault, first_of, Passes}
use Rattle.rules.specs.definitions.PlainRule.{break_from, first_break}
use Rattle.rules.proofs.argument.FaultLaws.{none_first, first_stops, first_passes}
use Rattle.rules.proofs.argument.BreakLaws.{break-none, break-passed}
use Rattle.rules.proofs.argument.EntryFaults.{passed-k, passed-w}
use Rattle.limits.specs.Sizes as sizes
use Rattle.transition.specs.Known.{automaton_in, Known, KnownTransition, entries_of}
use Rattle.transition.specs.KnownLaws.{few-states, known-states, known-transitions, known-transition, entries-known}
use Rattle.remainders.specs.Remainders.{remainder_at, AllZero}
use Rattle.equations.specs.Differences.{w_sum, before_left, before_right, after_left, after_right, taken_at, given_at, first_left, first_right, second_left, second_right, target_left, target_right, cost_left, cost_right, sides_of, before_break, after_break, target_break, cost_break, Decided, remainder_break, verdict_of}
use Rattle.remainders.specs.Nonzero.{is_nonzero, Counted}
use Rattle.remainders.specs.NonzeroLaws.{zero-remainders, nonzero-remainders}
use Rattle.remainders.specs.Moving.{added, arrived, departed}
use Rattle.rule_kind.specs.declared.Kind.{Kind}
use Rattle.rule_kind.specs.Kinds.{rule_of}
use Rattle.rule_kind.specs.Steps.{arrival_of, departure_of, has_move, w_departure_of}
use Rattle.rule_kind.specs.StepsLaws.{arrives-before, arrives-after, either-arrival, leaves_after, leaves-before, either-departure, w-after, w-before, either-w}
use Rattle.entries_k.specs.Taking.{took_k, took_ks, k_sum}
use Rattle.entries_w.specs.Matching.{took_ws, took_vs, took_us}
use Rattle.remainders.specs.MovingLaws.{added-length, added-raised, landed, arrived-length, arrived-raised, landed-weight, landed_none}

-- a difference by equal sides, and of the numbers that are added and taken away
raised-as : {c k d l : ℕ} {z : ℤ} → Raised c k z → c ≡ d → k ≡ l → Raised d l z
raised-as {z = z} h e f = subst₂ (λ (c k : ℕ). Raised c k z) e f h

plus-raised : (k : ℕ) → Raised 0 k (pos k)
plus-raised k = above k (omega arith)

minus-raised : (k : ℕ) → Raised k 0 (neg_ℤ (pos k))
minus-raised zero = above 0 refl
minus-raised (suc a) = below a (omega arith)

zero-raised : {z : ℤ} → z ≡ pos 0 → Raised 0 0 z
zero-raised e = subst (Raised 0 0) (sym e) (above 0 refl)

-- a difference is zero exactly where its sides are equal
pub sides-same : {c k : ℕ} {z : ℤ} → Raised c k z → z ≡ pos 0 → k ≡ c
sides-same {c} {k} h e = go (subst (Raised c k) e h)
  where
    go : Raised c k (pos 0) → k ≡ c
    go (above a p) = omega arith

pub same-zero : {c k : ℕ} {z : ℤ} → Raised c k z → k ≡ c → z ≡ pos 0
same-zero (above zero p) e = refl
same-zero (above (suc a) p) e = absurd (omega arith)
same-zero (below a p) e = absurd (omega arith)

-- it is the left side less the right
raised_is : {c k : ℕ} {z : ℤ} → Raised c k z → z ≡ sub_ℕ k c
raised_is {c} {k} (above a p) = go (ltb k c) refl
  where
    go : (t : Bool) → ltb k c ≡ t → pos a ≡ cond t (negsuc (c - suc k)) (pos (k - c))
    go true q = absurd (omega (arith, ltb-true k c q))
    go false q = let e : a ≡ k - c = omega arith in ap pos e
raised_is {c} {k} (below a p) = go (ltb k c) refl
  where
    go : (t : Bool) → ltb k c ≡ t → negsuc a ≡ cond t (negsuc (c - suc k)) (pos (k - c))
    go true q = let e : a ≡ c - suc k = omega arith in ap negsuc e
    go false q = absurd (omega (arith, ltb-false k c q))

zero_is : {z : ℤ} → z ≡ pos 0 → is_nonzero z ≡ 0
unfolding is_nonzero
zero_is e = ap is_nonzero e

is_zero : (z : ℤ) → is_nonzero z ≡ 0 → z ≡ pos 0
unfolding is_nonzero
is_zero (pos zero) e = refl
is_zero (pos (suc a)) e = absurd (omega (arith, e))
is_zero (negsuc a) e = absurd (omega (arith, e))

-- one k entry, at a remainder
module _ (s : List ℕ) (i : ℕ) where
  unfoldable k_up : (layer r k : ℕ) → ℕ
  k_up layer r k = landed (entries_of s r) (arrival_of layer) i * k

  unfoldable k_down : (layer r k : ℕ) → ℕ
  k_down layer r k = if_same (departure_of layer + (automaton_in s).source r) i ((automaton_in s).denominator r) 0 * k

  took-length : (layer r k : ℕ) (remainders : List ℤ) → length (took_k s layer r k remainders) ≡ length remainders
  unfolding took_k departed
  took-length layer r k remainders = added-length _ _ _ _ ∙ arrived-length (entries_of s r) (pos k) (arrival_of layer) remainders

  took-raised : (layer r k R L : ℕ) (remainders : List ℤ) → i < length remainders → Raised R L (remainder_at remainders i) → Raised (R + k_down layer r k) (L + k_up layer r k) (remainder_at (took_k s layer r k remainders) i)
  unfolding took_k departed k_up k_down
  took-raised layer r k R L remainders h c =
      raised-as
      (added-raised _ (departure_of layer + (automaton_in s).source r) ((automaton_in s).denominator r) i (omega (arith, arrived-length (entries_of s r) (pos k) (arrival_of layer) remainders)) (minus-raised k)
      (arrived-raised (entries_of s r) (arrival_of layer) i R L remainders h (plus-raised k) c))
      (omega arith)
      (omega arith)

ks-length : (s C : List ℕ) (left at : ℕ) (remainders : List ℤ) → length (took_ks s C left at remainders) ≡ length remainders
unfolding took_ks
ks-length s C zero at remainders = refl
ks-length s C (suc left) at remainders = ks-length s C left (at + 7) _ ∙ took-length s 0 (byte_at C at) (two_at C (at + 1)) (four_at C (at + 3)) remainders

-- all of them, where a term for each entry is what it brings to the remainder
module _ (rule : FileRule) (s C : List ℕ) (q t i : ℕ) (up down : ℕ → ℕ → ℕ → ℕ) (step : (layer r k : ℕ) → r < (automaton_in s).transitions → (k_up s i layer r k ≡ up layer r k) × (k_down s i layer r k ≡ down layer r k)) where
  ks-raised : (left at lowest R L : ℕ) (remainders : List ℤ) → i < length remainders → Passes (k_fault rule (automaton_in s) C q t left at lowest) → Raised R L (remainder_at remainders i) → Raised (R + k_sum C down left at) (L + k_sum C up left at) (remainder_at (took_ks s C left at remainders) i)
  unfolding k_sum took_ks
  ks-raised zero at lowest R L remainders h e c = raised-as c (omega arith) (omega arith)
  ks-raised (suc left) at lowest R L remainders h e c =
      let p = passed-k rule (automaton_in s) C q t left at lowest e in
      let here = step (byte_at C at) (two_at C (at + 1)) (four_at C (at + 3)) p.transition in
      raised-as
      (ks-raised left (at + 7) (three_at C at + 1) _ _ _ (omega (arith, took-length s i (byte_at C at) (two_at C (at + 1)) (four_at C (at + 3)) remainders)) p.rest
      (took-raised s i (byte_at C at) (two_at C (at + 1)) (four_at C (at + 3)) R L remainders h c))
      (omega (arith, here.1))
      (omega (arith, here.0))

-- the same for w entries
module _ (A : Automaton) (C : List ℕ) (P : Pairs) (i : ℕ) (change : (v u w : ℕ) → List ℤ → List ℤ) (up down : ℕ → ℕ → ℕ → ℕ) (size : (v u w : ℕ) (remainders : List ℤ) → length (change v u w remainders) ≡ length remainders) (step : (v u w : ℕ) → v < A.states → u < A.states → (R L : ℕ) (remainders : List ℤ) → i < length remainders → Raised R L (remainder_at remainders i) → Raised (R + down v u w) (L + up v u w) (remainder_at (change v u w remainders) i)) where
  ws-raised : (left at lowest R L : ℕ) (remainders : List ℤ) → i < length remainders → Passes (w_fault A C P left at lowest) → Raised R L (remainder_at remainders i) → Raised (R + w_sum C down left at) (L + w_sum C up left at) (remainder_at (took_ws C change left at remainders) i)
  unfolding w_sum took_ws
  ws-raised zero at lowest R L remainders h e c = raised-as c (omega arith) (omega arith)
  ws-raised (suc left) at lowest R L remainders h e c =
      let p = passed-w A C P left at lowest e in
      raised-as
      (ws-raised left (at + 6) (two_at C at + 1) _ _ _ (omega (arith, size (byte_at C at) (byte_at C (at + 1)) (four_at C (at + 2)) remainders)) p.rest
      (step (byte_at C at) (byte_at C (at + 1)) (four_at C (at + 2)) p.from p.to R L remainders h c))
      (omega arith)
      (omega arith)

-- a term at the remainder of x, seen from the remainder of v
term-here : (first x v i d k : ℕ) → first + v ≡ i → if_same (first + x) i d 0 * k ≡ if_same x v (k * d) 0
term-here first x v i d k e = times_same (first + x) i d k ∙ go (ℕ_discrete x v)
  where
    go : Dec (x ≡ v) → if_same (first + x) i (d * k) 0 ≡ if_same x v (k * d) 0
    go (yes p) =
        let turn : d * k ≡ k * d = omega arith in
        sym (same 0 (omega arith) refl) ∙ turn ∙ same 0 p refl
    go (no o) = sym (not_same (d * k) (λ p. o (omega arith)) refl) ∙ not_same (k * d) o refl

term-other : (j i d k : ℕ) → (j ≡ i → ⊥) → if_same j i d 0 * k ≡ 0
term-other j i d k o = times_same j i d k ∙ sym (not_same (d * k) o refl)

-- no remainder of a state, before the move or after it
abbrev pub Idle : ℕ → ℕ → Type 0
Idle n i = (v : ℕ) → v < n → (v ≡ i → ⊥) × (limits.states + v ≡ i → ⊥)

module _ {s places : List ℕ} {n count : ℕ} (m : Known s n count places) where
  module _ {r : ℕ} (less : r < (automaton_in s).transitions) where
    transition-known : KnownTransition s places r
    transition-known = known-transition m (omega (arith, known-transitions m))

    source_known : (automaton_in s).source r < n
    unfolding SoundAutomaton
    source_known = omega (arith, known-states m, (sound-automaton limits (model_at s) m.sound r less).from)

    weight-here : (first v i : ℕ) → first + v ≡ i → landed (entries_of s r) first i ≡ (automaton_in s).weight r v
    weight-here first v i e =
        ap (landed (entries_of s r) first) (sym e)
        ∙ landed-weight (entries_of s r) 0 first v (entries-known transition-known).ascend
        ∙ sym (automaton-weight s r (omega (arith, known-transitions m, m.transitions)) v)

    weight-other : (first i : ℕ) → ((v : ℕ) → v < n → first + v ≡ i → ⊥) → landed (entries_of s r) first i ≡ 0
    weight-other first i o = landed_none (states_of s) (entries_of s r) first i (entries-known transition-known).states (λ v l. o v (omega (arith, m.states)))

  before-step : (v : ℕ) → v < limits.states → (layer r k : ℕ) → r < (automaton_in s).transitions → (k_up s v layer r k ≡ before_left (automaton_in s) v layer r k) × (k_down s v layer r k ≡ before_right (automaton_in s) v layer r k)
  unfolding k_up k_down before_left before_right
  before-step v low layer r k less = (up (ℕ_discrete layer 0), down (ℕ_discrete layer 2))
    where
      A : Automaton
      A = automaton_in s

      up : Dec (layer ≡ 0) → landed (entries_of s r) (arrival_of layer) v * k ≡ if_same layer 0 (k * A.weight r v) 0
      up (yes e) =
          let w = weight-here less 0 v v (omega arith) in
          let turn : A.weight r v * k ≡ k * A.weight r v = omega arith in
          ap (λ (first : ℕ). landed (entries_of s r) first v * k) (arrives-before e) ∙ ap (λ (x : ℕ). x * k) w ∙ turn ∙ same 0 e refl
      up (no o) =
          let w = weight-other less limits.states v (λ u l e. omega arith) in
          ap (λ (first : ℕ). landed (entries_of s r) first v * k) (arrives-after o) ∙ ap (λ (x : ℕ). x * k) w ∙ not_same (k * A.weight r v) o (omega arith)

      down : Dec (layer ≡ 2) → if_same (departure_of layer + A.source r) v (A.denominator r) 0 * k ≡ if_same layer 2 0 (if_same (A.source r) v (k * A.denominator r) 0)
      down (yes e) =
          ap (λ (first : ℕ). if_same (first + A.source r) v (A.denominator r) 0 * k) (leaves_after e)
          ∙ term-other (limits.states + A.source r) v (A.denominator r) k (λ f. omega arith) ∙ same _ e refl
      down (no o) =
          ap (λ (first : ℕ). if_same (first + A.source r) v (A.denominator r) 0 * k) (leaves-before o)
          ∙ term-here 0 (A.source r) v v (A.denominator r) k (omega arith) ∙ not_same 0 o refl

  after-step : (v : ℕ) → (layer r k : ℕ) → r < (automaton_in s).transitions → (k_up s (limits.states + v) layer r k ≡ after_left (automaton_in s) v layer r k) × (k_down s (limits.states + v) layer r k ≡ after_right (automaton_in s) v layer r k)
  unfolding k_up k_down after_left after_right
  after-step v layer r k less = (up (ℕ_discrete layer 0), down (ℕ_discrete layer 2))
    where
      A : Automaton
      A = automaton_in s

      up : Dec (layer ≡ 0) → landed (entries_of s r) (arrival_of layer) (limits.states + v) * k ≡ if_same layer 0 0 (k * A.weight r v)
      up (yes e) =
          let w = weight-other less 0 (limits.states + v) (λ u l f. omega (arith, few-states m)) in
          ap (λ (first : ℕ). landed (entries_of s r) first (limits.states + v) * k) (arrives-before e) ∙ ap (λ (x : ℕ). x * k) w ∙ same (k * A.weight r v) e (omega arith)
      up (no o) =
          let w = weight-here less limits.states v (limits.states + v) refl in
          let turn : A.weight r v * k ≡ k * A.weight r v = omega arith in
          ap (λ (first : ℕ). landed (entries_of s r) first (limits.states + v) * k) (arrives-after o) ∙ ap (λ (x : ℕ). x * k) w ∙ turn ∙ not_same 0 o refl

      down : Dec (layer ≡ 2) → if_same (departure_of layer + A.source r) (limits.states + v) (A.denominator r) 0 * k ≡ if_same layer 2 (if_same (A.source r) v (k * A.denominator r) 0) 0
      down (yes e) =
          ap (λ (first : ℕ). if_same (first + A.source r) (limits.states + v) (A.denominator r) 0 * k) (leaves_after e)
          ∙ term-here limits.states (A.source r) v (limits.states + v) (A.denominator r) k refl ∙ same 0 e refl
      down (no o) =
          ap (λ (first : ℕ). if_same (first + A.source r) (limits.states + v) (A.denominator r) 0 * k) (leaves-before o)
          ∙ term-other (0 + A.source r) (limits.states + v) (A.denominator r) k (λ f. omega (arith, few-states m, source_known less)) ∙ not_same _ o refl

  idle-step : (i : ℕ) → Idle n i → (layer r k : ℕ) → r < (automaton_in s).transitions → (k_up s i layer r k ≡ 0) × (k_down s i layer r k ≡ 0)
  unfolding k_up k_down
  idle-step i idle layer r k less = (
    either-arrival (λ (first : ℕ). landed (entries_of s r) first i * k ≡ 0) layer
        (ap (λ (x : ℕ). x * k) (weight-other less 0 i (λ v l e. (idle v l).0 (omega arith))) ∙ none)
        (ap (λ (x : ℕ). x * k) (weight-other less limits.states i (λ v l e. (idle v l).1 e)) ∙ none),
    either-departure (λ (first : ℕ). if_same (first + (automaton_in s).source r) i ((automaton_in s).denominator r) 0 * k ≡ 0) layer
        (term-other _ i ((automaton_in s).denominator r) k (idle ((automaton_in s).source r) (source_known less)).1)
        (term-other _ i ((automaton_in s).denominator r) k (λ e. (idle ((automaton_in s).source r) (source_known less)).0 (omega arith))),
  )
    where
      none : 0 * k ≡ 0
      none = omega arith

-- the sums of nothing
k-none : (C : List ℕ) (left at : ℕ) → k_sum C (λ layer r k. 0) left at ≡ 0
unfolding k_sum
k-none C zero at = refl
k-none C (suc left) at = omega (arith, k-none C left (at + 7))

w-none : (C : List ℕ) (left at : ℕ) → w_sum C (λ v u w. 0) left at ≡ 0
unfolding w_sum
w-none C zero at = refl
w-none C (suc left) at = omega (arith, w-none C left (at + 6))

-- all w entries, at a remainder: what they take at v, and what they give at u
module _ (A : Automaton) (C : List ℕ) (P : Pairs) (i left at : ℕ) (passed : Passes (w_fault A C P left at 0)) (term : ℕ → ℕ → ℕ → ℕ) {R L : ℕ} (remainders : List ℤ) (inside : i < length remainders) (c : Raised R L (remainder_at remainders i)) where
  vs-raised : (first : ℕ) → ((v u w : ℕ) → v < A.states → if_same (first + v) i 1 0 * w ≡ term v u w) → Raised (R + w_sum C term left at) L (remainder_at (took_vs C first left at remainders) i)
  vs-raised first e =
      raised-as
      (ws-raised A C P i (λ v u w remainders. added remainders (first + v) 1 (neg_ℤ (pos w))) (λ v u w. 0) term
      (λ v u w remainders. added-length remainders (first + v) 1 (neg_ℤ (pos w)))
      (λ v u w l k R L remainders h c. raised-as (added-raised remainders (first + v) 1 i h (minus-raised w) c) (omega (arith, e v u w l)) (omega arith))
      left at 0 R L remainders inside passed c)
      refl
      (omega (arith, w-none C left at))

  us-raised : (d : ℕ) → ((v u w : ℕ) → u < A.states → if_same u i d 0 * w ≡ term v u w) → Raised R (L + w_sum C term left at) (remainder_at (took_us C d left at remainders) i)
  us-raised d e =
      raised-as
      (ws-raised A C P i (λ v u w target. added target u d (pos w)) term (λ v u w. 0)
      (λ v u w target. added-length target u d (pos w))
      (λ v u w l k R L remainders h c. raised-as (added-raised remainders u d i h (plus-raised w) c) (omega arith) (omega (arith, e v u w k)))
      left at 0 R L remainders inside passed c)
      (omega (arith, w-none C left at))
      refl

-- the remainders after all entries of a flow without fault among them
pub record Ended (moves : Bool) (A : Automaton) (C : List ℕ) (n q t at : ℕ) (remainders target : List ℤ) : Type 0 where
  pub first : (v : ℕ) → v < limits.states → Raised (first_right A C q t at moves v) (first_left A C q t at v) (remainder_at remainders v)
  pub second : (v : ℕ) → v < limits.states → Raised (second_right A C q t at moves v) (second_left A C q t at v) (remainder_at remainders (limits.states + v))
  pub aim : (u : ℕ) → u < limits.states → Raised (target_right A C q t at u) (target_left A C q t at u) (remainder_at target u)
  pub idle : (i : ℕ) → i < sizes.remainders → Idle n i → remainder_at remainders i ≡ pos 0
  pub target_idle : (i : ℕ) → i < sizes.remainders → n ≤ i → remainder_at target i ≡ pos 0

module _ (kind : Kind) {s places : List ℕ} {n count : ℕ} (m : Known s n count places) (C : List ℕ) (P : Pairs) (q t at : ℕ) (challenger : q < count) (defender : t < n) (ks : Passes (k_fault (rule_of kind s) (automaton_in s) C q t (k_count_at C at) (at + 8) 0)) (ws : Passes (w_fault (automaton_in s) C P (w_count_at C at) (after_k C at + 2) 0)) {remainders target : List ℤ} (zeros : AllZero remainders) (target_zeros : AllZero target) where
  abbrev A : Automaton
  A = automaton_in s

  abbrev D : ℕ
  D = four_at C (at + 2)

  abbrev moves : Bool
  moves = has_move kind (A.action q)

  abbrev first : ℕ
  first = w_departure_of kind (A.action q)

  abbrev given : List ℤ
  given = added remainders t 1 (pos D)

  given-size : length given ≡ sizes.remainders
  given-size = added-length remainders t 1 (pos D) ∙ zeros.size

  abbrev taken : List ℤ
  taken = took_ks s C (k_count_at C at) (at + 8) given

  taken-size : length taken ≡ sizes.remainders
  taken-size = ks-length s C (k_count_at C at) (at + 8) given ∙ given-size

  abbrev asked : List ℤ
  asked = arrived (entries_of s q) (neg_ℤ (pos D)) 0 target

  -- a remainder of the equations at v, by what each entry brings to it
  remainder-at : (i : ℕ) → i < sizes.remainders → (up down : ℕ → ℕ → ℕ → ℕ) → ((layer r k : ℕ) → r < A.transitions → (k_up s i layer r k ≡ up layer r k) × (k_down s i layer r k ≡ down layer r k)) → (term : ℕ → ℕ → ℕ → ℕ) → ((v u w : ℕ) → v < A.states → if_same (first + v) i 1 0 * w ≡ term v u w) → Raised (k_sum C down (k_count_at C at) (at + 8) + w_sum C term (w_count_at C at) (after_k C at + 2)) (if_same t i 1 0 * D + k_sum C up (k_count_at C at) (at + 8)) (remainder_at (took_vs C first (w_count_at C at) (after_k C at + 2) taken) i)
  remainder-at i h up down step term e =
      raised-as
      (vs-raised A C P i (w_count_at C at) (after_k C at + 2) ws term taken (omega (arith, taken-size))
      (ks-raised (rule_of kind s) s C q t i up down step (k_count_at C at) (at + 8) 0 0 (if_same t i 1 0 * D) given (omega (arith, given-size)) ks
      (raised-as (added-raised remainders t 1 i (omega (arith, zeros.size)) (plus-raised D) (zero-raised (zeros.zero i h))) (omega arith) (omega arith)))
      first e)
      (omega arith)
      refl

  -- the w entries leave where the rule says, and nowhere else
  k_sums : (ℕ → ℕ → ℕ → ℕ) → ℕ
  k_sums f = k_sum C f (k_count_at C at) (at + 8)

  w_sums : (ℕ → ℕ → ℕ → ℕ) → ℕ
  w_sums f = w_sum C f (w_count_at C at) (after_k C at + 2)

  end : List ℤ
  end = took_vs C first (w_count_at C at) (after_k C at + 2) taken

  at_first : (b : ℕ) → first ≡ b → (v : ℕ) (x u w : ℕ) → if_same (first + x) (b + v) 1 0 * w ≡ taken_at v x u w
  unfolding taken_at
  at_first b e v x u w =
      let one : w * 1 ≡ w = omega arith in
      ap (λ (f : ℕ). if_same (f + x) (b + v) 1 0 * w) e ∙ term-here b x v (b + v) 1 w refl ∙ ap (λ (y : ℕ). if_same x v y 0) one

  not_there : (b : ℕ) → first ≡ b → (i x w : ℕ) → (b + x ≡ i → ⊥) → if_same (first + x) i 1 0 * w ≡ 0
  not_there b e i x w o = ap (λ (f : ℕ). if_same (f + x) i 1 0 * w) e ∙ term-other (b + x) i 1 w o

  holds-first : (v : ℕ) → v < limits.states → Raised (first_right A C q t at moves v) (first_left A C q t at v) (remainder_at end v)
  unfolding first_right first_left k_sums w_sums end if_true
  holds-first v low = go moves refl
    where
      sides : (term : ℕ → ℕ → ℕ → ℕ) (total : ℕ) → ((x u w : ℕ) → x < A.states → if_same (first + x) v 1 0 * w ≡ term x u w) → w_sums term ≡ total → Raised (k_sums (before_right A v) + total) (if_same v t D 0 + k_sums (before_left A v)) (remainder_at end v)
      sides term total e f =
          let one : 1 * D ≡ D = omega arith in
          let mine : if_same t v 1 0 * D ≡ if_same v t D 0 = times_same t v 1 D ∙ turned t v (1 * D) 0 ∙ ap (λ (y : ℕ). if_same v t y 0) one in
          raised-as (remainder-at v (omega arith) (before_left A v) (before_right A v) (before-step m v low) term e)
          (ap (λ (y : ℕ). k_sums (before_right A v) + y) f) (ap (λ (y : ℕ). y + k_sums (before_left A v)) mine)

      go : (b : Bool) → moves ≡ b → Raised (k_sums (before_right A v) + if_true b 0 (w_sums (taken_at v))) (if_same v t D 0 + k_sums (before_left A v)) (remainder_at end v)
      go true e =
          sides (λ x u w. 0) 0 (λ x u w l. not_there limits.states (w-after kind (A.action q) e) v x w (λ f. omega arith)) (w-none C (w_count_at C at) (after_k C at + 2))
      go false e =
          sides (taken_at v) (w_sums (taken_at v))
          (λ x u w l. subst (λ (i : ℕ). if_same (first + x) i 1 0 * w ≡ taken_at v x u w) (zero-add v) (at_first 0 (w-before kind (A.action q) e) v x u w)) refl

  holds-second : (v : ℕ) → v < limits.states → Raised (second_right A C q t at moves v) (second_left A C q t at v) (remainder_at end (limits.states + v))
  unfolding second_right second_left k_sums w_sums end if_true
  holds-second v low = go moves refl
    where
      sides : (term : ℕ → ℕ → ℕ → ℕ) (total : ℕ) → ((x u w : ℕ) → x < A.states → if_same (first + x) (limits.states + v) 1 0 * w ≡ term x u w) → w_sums term ≡ total → Raised (k_sums (after_right A v) + total) (k_sums (after_left A v)) (remainder_at end (limits.states + v))
      sides term total e f =
          let mine = term-other t (limits.states + v) 1 D (λ p. omega (arith, few-states m)) in
          raised-as (remainder-at (limits.states + v) (omega arith) (after_left A v) (after_right A v) (after-step m v) term e)
          (ap (λ (y : ℕ). k_sums (after_right A v) + y) f) (omega (arith, mine))

      go : (b : Bool) → moves ≡ b → Raised (k_sums (after_right A v) + if_true b (w_sums (taken_at v)) 0) (k_sums (after_left A v)) (remainder_at end (limits.states + v))
      go true e = sides (taken_at v) (w_sums (taken_at v)) (λ x u w l. at_first limits.states (w-after kind (A.action q) e) v x u w) refl
      go false e =
          sides (λ x u w. 0) 0 (λ x u w l. not_there 0 (w-before kind (A.action q) e) (limits.states + v) x w (λ f. omega (arith, known-states m, few-states m))) (w-none C (w_count_at C at) (after_k C at + 2))

  stays-idle : (i : ℕ) → i < sizes.remainders → Idle n i → remainder_at end i ≡ pos 0
  unfolding end
  stays-idle i h idle =
      let mine = term-other t i 1 D (idle t defender).0 in
      same-zero (remainder-at i h (λ layer r k. 0) (λ layer r k. 0) (idle-step m i idle) (λ x u w. 0)
      (λ x u w l. either-w (λ (b : ℕ). if_same (b + x) i 1 0 * w ≡ 0) kind (A.action q) (term-other (limits.states + x) i 1 w (idle x (omega (arith, known-states m))).1) (term-other (0 + x) i 1 w (λ e. (idle x (omega (arith, known-states m))).0 (omega arith)))))
      (omega (arith, mine, k-none C (k_count_at C at) (at + 8), w-none C (w_count_at C at) (after_k C at + 2)))

  -- the target's remainders
  aimed : List ℤ
  aimed = took_us C (A.denominator q) (w_count_at C at) (after_k C at + 2) asked

  target_at : (i : ℕ) → i < sizes.remainders → (weight : ℕ) → landed (entries_of s q) 0 i ≡ weight → (term : ℕ → ℕ → ℕ → ℕ) → ((v u w : ℕ) → u < A.states → if_same u i (A.denominator q) 0 * w ≡ term v u w) → Raised (weight * D) (w_sums term) (remainder_at aimed i)
  unfolding aimed w_sums
  target_at i h weight l term e =
      raised-as
      (us-raised A C P i (w_count_at C at) (after_k C at + 2) ws term asked (omega (arith, arrived-length (entries_of s q) (neg_ℤ (pos D)) 0 target, target_zeros.size))
      (arrived-raised (entries_of s q) 0 i 0 0 target (omega (arith, target_zeros.size)) (minus-raised D) (zero-raised (target_zeros.zero i h)))
      (A.denominator q) e)
      (ap (λ (x : ℕ). 0 + x * D) l ∙ zero-add (weight * D))
      (omega arith)

  challenger-known : q < A.transitions
  challenger-known = omega (arith, known-transitions m)

  holds-aim : (u : ℕ) → u < limits.states → Raised (target_right A C q t at u) (target_left A C q t at u) (remainder_at aimed u)
  unfolding target_right target_left given_at w_sums
  holds-aim u low =
      target_at u (omega arith) (A.weight q u) (weight-here m challenger-known 0 u u (omega arith)) (given_at (A.denominator q) u)
      (λ v x w l. times_same x u (A.denominator q) w)

  target-idle : (i : ℕ) → i < sizes.remainders → n ≤ i → remainder_at aimed i ≡ pos 0
  unfolding w_sums
  target-idle i h far =
      same-zero
      (target_at i h 0 (weight-other m challenger-known 0 i (λ v l e. omega arith)) (λ v u w. 0) (λ v u w l. term-other u i (A.denominator q) w (λ e. omega (arith, known-states m))))
      (omega (arith, w-none C (w_count_at C at) (after_k C at + 2)))

  pub ended : Ended (has_move kind ((automaton_in s).action q)) (automaton_in s) C n q t at (took_vs C (w_departure_of kind ((automaton_in s).action q)) (w_count_at C at) (after_k C at + 2) (took_ks s C (k_count_at C at) (at + 8) (added remainders t 1 (pos (four_at C (at + 2)))))) (took_us C ((automaton_in s).denominator q) (w_count_at C at) (after_k C at + 2) (arrived (entries_of s q) (neg_ℤ (pos (four_at C (at + 2)))) 0 target))
  unfolding end aimed
  ended = record { first = holds-first; second = holds-second; aim = holds-aim; idle = stays-idle; target_idle = target-idle }

-- the remainders left, one by one
pub break-end : (number : ℕ) (table : List ℤ) (first left v : ℕ) → left ≤ 0 → no_fault ≡ remainder_break number table first left v
unfolding remainder_break
break-end number table first zero v h = refl
break-end number table first (suc left) v h = absurd (omega arith)

pub break-turn : (number : ℕ) (table : List ℤ) (first left v : ℕ) → 0 < left → remainder_break number table first left v ≡ if_same (is_nonzero (remainder_at table (first + v))) 0 (remainder_break number table first (left - 1) (v + 1)) (fault_by number v (remainder_at table (first + v)))
unfolding remainder_break
break-turn number table first zero v h = absurd (omega arith)
break-turn number table first (suc left) v h =
    let e : left ≡ suc left - 1 = omega arith in
    ap (λ (l : ℕ). if_same (is_nonzero (remainder_at table (first + v))) 0 (remainder_break number table first l (v + 1)) (fault_by number v (remainder_at table (first + v)))) e

-- the first remainder that is not zero is the first break of the equation whose sides it is the difference of
module _ (number : ℕ) (table : List ℤ) (first : ℕ) (L R : ℕ → ℕ) (most : ℕ) (raised : (v : ℕ) → v < most → Raised (R v) (L v) (remainder_at table (first + v))) where
  pub breaks-alike : (left v : ℕ) → v + left ≤ most → remainder_break number table first left v ≡ break_from number (sides_of L R) left v
  unfolding remainder_break break_from
  breaks-alike zero v h = refl
  breaks-alike (suc left) v h = go (raised v (omega arith)) (breaks-alike left (v + 1) (omega arith)) (ℕ_discrete (L v) (R v))
    where
      go : Raised (R v) (L v) (remainder_at table (first + v)) → remainder_break number table first left (v + 1) ≡ break_from number (sides_of L R) left (v + 1) → Dec (L v ≡ R v) → if_same (is_nonzero (remainder_at table (first + v))) 0 (remainder_break number table first left (v + 1)) (fault_by number v (remainder_at table (first + v))) ≡ if_same (L v) (R v) (break_from number (sides_of L R) left (v + 1)) (fault_by number v (sub_ℕ (L v) (R v)))
      go r later (yes e) = sym (same _ (zero_is (same-zero r e)) refl) ∙ later ∙ same _ e refl
      go r later (no n) = sym (not_same _ (λ z. n (sides-same r (is_zero _ z))) refl) ∙ ap (fault_by number v) (raised_is r) ∙ not_same _ n refl

-- the equations by the remainders
module _ {rule : FileRule} {cost : ℕ → ℕ} {moves : Bool} {A : Automaton} {C : List ℕ} {n q t at : ℕ} {remainders target : List ℤ} (known : A.states ≡ n) (few : n ≤ limits.states) (e : Ended moves A C n q t at remainders target) (d : Decided rule cost moves A C q t at) where
  abbrev before : Fault
  before = before_break A C q t at moves

  abbrev after : Fault
  after = after_break A C q t at moves

  abbrev aimed-at : Fault
  aimed-at = target_break A C q t at

  -- each is the first break of its remainders
  break-of : (number : ℕ) (table : List ℤ) (first : ℕ) (L R : ℕ → ℕ) → ((v : ℕ) → v < limits.states → Raised (R v) (L v) (remainder_at table (first + v))) → remainder_break number table first n 0 ≡ first_break A number (sides_of L R)
  unfolding first_break
  break-of number table first L R raised =
      breaks-alike number table first L R limits.states raised n 0 (omega arith) ∙ ap (λ (k : ℕ). break_from number (sides_of L R) k 0) (sym known)

  from_zero : (table : List ℤ) (L R : ℕ → ℕ) → ((v : ℕ) → v < limits.states → Raised (R v) (L v) (remainder_at table v)) → (v : ℕ) → v < limits.states → Raised (R v) (L v) (remainder_at table (0 + v))
  from_zero table L R raised v l = let z : v ≡ 0 + v = omega arith in subst (λ (i : ℕ). Raised (R v) (L v) (remainder_at table i)) z (raised v l)

  before-is : remainder_break 20 remainders 0 n 0 ≡ before
  before-is = break-of 20 remainders 0 (first_left A C q t at) (first_right A C q t at moves) (from_zero remainders (first_left A C q t at) (first_right A C q t at moves) e.first)

  after_is : remainder_break 20 remainders limits.states n 0 ≡ after
  after_is = break-of 20 remainders limits.states (second_left A C q t at) (second_right A C q t at moves) e.second

  target_is : remainder_break 21 target 0 n 0 ≡ aimed-at
  target_is = break-of 21 target 0 (target_left A C q t at) (target_right A C q t at) (from_zero target (target_left A C q t at) (target_right A C q t at) e.aim)

  -- where it passes, the sides are equal
  passed : (number : ℕ) (L R : ℕ → ℕ) → (number ≡ 0 → ⊥) → Passes (first_break A number (sides_of L R)) → (v : ℕ) → v < A.states → L v ≡ R v
  unfolding first_break
  passed number L R some p v l = (break-passed number (sides_of L R) some A.states 0 p v (omega arith) (omega arith)).equal

  -- and where they are equal, it is no fault
  none : (number : ℕ) (L R : ℕ → ℕ) → ((v : ℕ) → v < A.states → L v ≡ R v) → no_fault ≡ first_break A number (sides_of L R)
  unfolding first_break
  none number L R h = break-none number (sides_of L R) A.states 0 (λ u l m. record { equal = h u (omega arith) })

  -- the remainders of equal sides are zero
  remainders-zero : ((v : ℕ) → v < A.states → first_left A C q t at v ≡ first_right A C q t at moves v) → ((v : ℕ) → v < A.states → second_left A C q t at v ≡ second_right A C q t at moves v) → (i : ℕ) → i < sizes.remainders → remainder_at remainders i ≡ pos 0
  remainders-zero f g i h = go (dec_lt i n) (dec_lt i limits.states) (dec_lt i (limits.states + n))
    where
      go : Dec (i < n) → Dec (i < limits.states) → Dec (i < limits.states + n) → remainder_at remainders i ≡ pos 0
      go (yes a) b c = same-zero (e.first i (omega arith)) (f i (omega (arith, known)))
      go (no a) (no b) (yes c) =
          let back : limits.states + (i - limits.states) ≡ i = omega arith in
          subst (λ (k : ℕ). remainder_at remainders k ≡ pos 0) back (same-zero (e.second (i - limits.states) (omega arith)) (g (i - limits.states) (omega (arith, known))))
      go (no a) (yes b) c = e.idle i h (λ v l. ((λ p. omega arith), (λ p. omega arith)))
      go (no a) (no b) (no c) = e.idle i h (λ v l. ((λ p. omega arith), (λ p. omega arith)))

  target-zero : ((u : ℕ) → u < A.states → target_left A C q t at u ≡ target_right A C q t at u) → (i : ℕ) → i < sizes.remainders → remainder_at target i ≡ pos 0
  target-zero f i h = go (dec_lt i n)
    where
      go : Dec (i < n) → remainder_at target i ≡ pos 0
      go (yes a) = same-zero (e.aim i (omega arith)) (f i (omega (arith, known)))
      go (no a) = e.target_idle i h (omega arith)

  -- the sides of remainders that are all zero are equal
  zeros-pass : AllZero remainders → (no_fault ≡ before) × (no_fault ≡ after)
  zeros-pass z = (
    none 20 _ _ (λ v l. sides-same (e.first v (omega (arith, known))) (z.zero v (omega (arith, known)))),
    none 20 _ _ (λ v l. sides-same (e.second v (omega (arith, known))) (z.zero (limits.states + v) (omega (arith, known)))),
  )

  -- some remainder is not zero: the fault is before or after the move, whatever follows
  some-break : (((i : ℕ) → i < sizes.remainders → remainder_at remainders i ≡ pos 0) → ⊥) → (next : Fault) → first_of before (first_of after (fault 20)) ≡ first_of before (first_of after next)
  some-break o next = go (ℕ_discrete before.number 0) (ℕ_discrete after.number 0)
    where
      go : Dec (before.number ≡ 0) → Dec (after.number ≡ 0) → first_of before (first_of after (fault 20)) ≡ first_of before (first_of after next)
      go (no m) y = sym (first_stops _ _ refl m) ∙ first_stops _ _ refl m
      go (yes z) (no m) = ap (first_of before) (sym (first_stops _ _ refl m) ∙ first_stops _ _ refl m)
      go (yes z) (yes y) = absurd (o (remainders-zero (passed 20 _ _ (λ w. omega (arith, w)) z) (passed 20 _ _ (λ w. omega (arith, w)) y)))

  -- the same at the targets
  some-aim : (((i : ℕ) → i < sizes.remainders → remainder_at target i ≡ pos 0) → ⊥) → (next : Fault) → first_of aimed-at (fault 21) ≡ first_of aimed-at next
  some-aim o next = go (ℕ_discrete aimed-at.number 0)
    where
      go : Dec (aimed-at.number ≡ 0) → first_of aimed-at (fault 21) ≡ first_of aimed-at next
      go (no m) = sym (first_stops _ _ refl m) ∙ first_stops _ _ refl m
      go (yes z) = absurd (o (target-zero (passed 21 _ _ (λ w. omega (arith, w)) z)))

  -- the verdict is that of the equations
  pub verdict-is : {nonzero asked paid owed : ℕ} → Counted remainders nonzero → Counted target asked → paid ≡ cost_left A C q t at cost → owed ≡ cost_right A C q t at cost → verdict_of n remainders nonzero target asked paid owed ≡ rule.equations_fault A q t (flow_at C at)
  unfolding verdict_of
  verdict-is {nonzero} {asked} {paid} {owed} c b l r =
      go (ℕ_discrete nonzero 0) (ℕ_discrete asked 0)
      ∙ ap₂ (λ (x y : ℕ). first_of before (first_of after (first_of aimed-at (cost_break x y)))) l r
      ∙ d.is
    where
      go : Dec (nonzero ≡ 0) → Dec (asked ≡ 0) → if_same nonzero 0 (if_same asked 0 (cost_break paid owed) (first_of (remainder_break 21 target 0 n 0) (fault 21))) (first_of (remainder_break 20 remainders 0 n 0) (first_of (remainder_break 20 remainders limits.states n 0) (fault 20))) ≡ first_of before (first_of after (first_of aimed-at (cost_break paid owed)))
      go (no o) y = sym (not_same _ o refl) ∙ ap₂ (λ (x y : Fault). first_of x (first_of y (fault 20))) before-is after_is ∙ some-break (nonzero-remainders c o) _
      go (yes z) y =
          let p = zeros-pass (zero-remainders c z) in
          sym (same _ z refl) ∙ targets y ∙ first_passes _ _ p.1 refl refl ∙ first_passes _ _ p.0 refl refl
        where
          targets : Dec (asked ≡ 0) → if_same asked 0 (cost_break paid owed) (first_of (remainder_break 21 target 0 n 0) (fault 21)) ≡ first_of aimed-at (cost_break paid owed)
          targets (no o) = sym (not_same _ o refl) ∙ ap (λ (x : Fault). first_of x (fault 21)) target_is ∙ some-aim (nonzero-remainders b o) _
          targets (yes y) =
              sym (same _ y refl)
              ∙ first_passes _ _ (none 21 _ _ (λ u l. sides-same (e.aim u (omega (arith, known))) ((zero-remainders b y).zero u (omega (arith, known))))) refl refl

-- where it is none all remainders are zero
pub verdict-zeros : (n : ℕ) {remainders target : List ℤ} {nonzero asked : ℕ} (paid owed : ℕ) → Counted remainders nonzero → Counted target asked → Passes (verdict_of n remainders nonzero target asked paid owed) → AllZero remainders × AllZero target
unfolding verdict_of
verdict-zeros n {remainders} {target} {nonzero} {asked} paid owed c b p = go (ℕ_discrete nonzero 0) (ℕ_discrete asked 0)
  where
    number : {f : Fault} → f ≡ if_same nonzero 0 (if_same asked 0 (cost_break paid owed) (first_of (remainder_break 21 target 0 n 0) (fault 21))) (first_of (remainder_break 20 remainders 0 n 0) (first_of (remainder_break 20 remainders limits.states n 0) (fault 20))) → Passes f
    number q = ap (λ (x : Fault). x.number) q ∙ p

    go : Dec (nonzero ≡ 0) → Dec (asked ≡ 0) → AllZero remainders × AllZero target
    go (no o) y = absurd (omega (arith, (none_first _ _ (none_first _ _ (number (not_same _ o refl))).1).1))
    go (yes z) (no o) = absurd (omega (arith, (none_first _ _ (number (same _ z (not_same _ o refl)))).1))
    go (yes z) (yes y) = (zero-remainders c z, zero-remainders b y)
