-- The largest pair is accepted, since it keeps every rule: each state answers state 0's transitions by staying where it is.
use Prim.Native.Nat.{ℕ, zero, suc, ◌+◌, ◌*◌, ◌-◌, ◌≤◌, ◌<◌}
use Rattle.std.specs.Prelude.{◌≡◌, ◌≢◌, Bool, true, false, cond, get_or, eqb}
use Rattle.std.proofs.Math.Path.{refl, sym, ap, ap₂, subst}
use Rattle.std.proofs.Common.{◌∙◌, subst₂}
use mathlib.Core.List.{List, [], ◌∷◌, ◌++◌, append_assoc, append-nil}
use Rattle.std.proofs.Math.ListN.{length, replicate, length-append, length-replicate}
use Rattle.std.proofs.lemmas.List.{get_or-replicate}
use Rattle.std.proofs.Math.Decide.{ℕ_discrete}
use native.Mathlib.Omega.{arith}
use borrow.Author.Tests.{eq-eqb}
use Rattle.bisimulation.specs.definitions.Choice.{if_less, if_same, if_true, both}
use Rattle.bisimulation.proofs.argument.ChoiceLaws.{less, not_less, same, not_same, is_true, either_same, either_true, turned}
use Rattle.bisimulation.specs.definitions.Sum.{sum}
use Rattle.bisimulation.proofs.argument.SumLaws.{sum_cong, sum_zero, sum_same}
use Rattle.bisimulation.specs.definitions.Automaton.{Automaton}
use Rattle.bisimulation.specs.definitions.Pairs.{Pairs, equal_labels}
use Rattle.bisimulation.specs.definitions.StepRule.{Flow, arriving, leaving, over_targets, over_sources, Holds, internal_move, at_target}
use Rattle.numbers.specs.definitions.Divisor.{Divides}
use Rattle.numbers.proofs.argument.DivisorLaws.{one-divides, divides-each-other}
use Rattle.rules.specs.definitions.Limits.{Limits}
use Rattle.rules.specs.definitions.Bytes.{two_bytes}
use Rattle.rules.specs.definitions.Model.{Entry, Transition, Model, model_bytes, weight_of, no_transition, automaton_of}
use Rattle.rules.specs.definitions.SoundModel.{Each, Along, sum_over, TransitionRules, LowestTerms, SoundModel, FitsWidths}
use Rattle.rules.specs.definitions.BlockCount.{block_count}
use Rattle.rules.specs.definitions.Certificate.{same_block}
use Rattle.rules.specs.definitions.Judging.{Question, questions_of_pair, questions_of_state, questions_from, questions}
use Rattle.rules.specs.definitions.Encoding.{WEntry, FlowRecord, Certificate, four_bytes, list_bytes, refutation_bytes, blocks_bytes, flow_bytes, k_bytes, w_bytes, certificate_bytes, k_in, w_in, flow_of}
use Rattle.rules.specs.definitions.PlainRule.{plain_rule}
use Rattle.rules.specs.definitions.PlainSays.{plain_says, PlainEquations}
use Rattle.rules.specs.definitions.Accepted.{GoodRefutations, GoodBlocks, GoodW, GoodFlow, GoodFlows, Ascends, w_key, KeepsRules, FileOf}
use Rattle.rules.proofs.argument.QuestionsLaws.{questions-asked}
use Rattle.rules.proofs.argument.LengthLaws.{file-length}
use Rattle.rules.proofs.argument.SoundModelLaws.{lowest-has}
use Rattle.largest_pair.specs.definitions.LargestPair.{zeros, self_loop, largest_model, stays, flows_against, largest_certificate, largest_model_file, largest_certificate_file}
use Rattle.largest_pair.specs.definitions.LargestAnswer.{WithinLimits}

-- one thing, so many times
module _ {X : Type 0} (x : X) where
  each-replicate : (P : X → Type 0) (k : ℕ) → P x → Each P (replicate k x)
  unfolding Each
  each-replicate P zero p = tt
  each-replicate P (suc k) p = (p, each-replicate P k p)

  along-replicate : (R : X → X → Type 0) (k : ℕ) → R x x → Along R (replicate k x)
  unfolding Along
  along-replicate R zero r = tt
  along-replicate R (suc zero) r = tt
  along-replicate R (suc (suc k)) r = (r, along-replicate R (suc k) r)

  sum-replicate : (f : X → ℕ) (k : ℕ) → sum_over f (replicate k x) ≡ k * f x
  unfolding sum_over
  sum-replicate f zero = omega arith
  sum-replicate f (suc k) = omega (arith, sum-replicate f k)

  pub bytes-replicate : (f : X → List ℕ) (k : ℕ) → length (list_bytes f (replicate k x)) ≡ k * length (f x)
  unfolding list_bytes
  bytes-replicate f zero = omega arith
  bytes-replicate f (suc k) = omega (arith, length-append (f x) (list_bytes f (replicate k x)), bytes-replicate f k)

  -- also beyond them, where what stands there has the same
  always : {Y : Type 0} (f : X → Y) (k i : ℕ) (d : X) → f d ≡ f x → f (get_or (replicate k x) i d) ≡ f x
  always f zero i d e = e
  always f (suc k) zero d e = refl
  always f (suc k) (suc i) d e = always f k i d e

pub list-append : {X : Type 0} (f : X → List ℕ) (xs ys : List X) → list_bytes f (xs ++ ys) ≡ list_bytes f xs ++ list_bytes f ys
unfolding list_bytes
list-append f [] ys = refl
list-append f (x ∷ xs) ys = ap (λ (l : List ℕ). f x ++ l) (list-append f xs ys) ∙ sym (append_assoc (f x) (list_bytes f xs) (list_bytes f ys))

pub flow-length : (t : ℕ) → length (flow_bytes (stays t)) ≡ 16
unfolding flow_bytes list_bytes w_bytes four_bytes two_bytes
flow-length t = refl

pub length-zeros : (n : ℕ) → length (zeros n) ≡ n
length-zeros n = length-replicate n 0

module _ (n T : ℕ) where
  pub largest-states : length (largest_model n T).labels ≡ n
  unfolding largest_model
  largest-states = length-zeros n

  pub largest-transitions : length (largest_model n T).transitions ≡ T
  unfolding largest_model
  largest-transitions = length-replicate T self_loop

  -- how long the files are
  pub model-length : length (largest_model_file n T) ≡ 8 + n + 10 * T
  unfolding largest_model
  model-length = omega (arith, file-length (largest_model n T), length-zeros n, length-replicate T self_loop, sum-replicate self_loop (λ (t : Transition). length t.entries) T)

  flows-count : (left t : ℕ) → length (flows_against T left t) ≡ T * left
  unfolding flows_against
  flows-count zero t = omega arith
  flows-count (suc left) t = omega (arith, length-append (replicate T (stays t)) (flows_against T left (t + 1)), length-replicate T (stays t), flows-count left (t + 1))

  pub flow-count : length (largest_certificate n T).flows ≡ T * (n - 1)
  unfolding largest_certificate
  flow-count = flows-count (n - 1) 1

  flows-length : (left t : ℕ) → length (list_bytes flow_bytes (flows_against T left t)) ≡ 16 * (T * left)
  unfolding flows_against list_bytes
  flows-length zero t = omega arith
  flows-length (suc left) t =
      let rest = flows_against T left (t + 1) in
      omega (
        arith,
        ap length (list-append flow_bytes (replicate T (stays t)) rest),
        length-append (list_bytes flow_bytes (replicate T (stays t))) (list_bytes flow_bytes rest),
        bytes-replicate (stays t) flow_bytes T,
        ap (λ (k : ℕ). T * k) (flow-length t),
        flows-length left (t + 1),
      )

  pub certificate-length : length (largest_certificate_file n T) ≡ 6 + n + 16 * (T * (n - 1))
  unfolding certificate_bytes largest_certificate list_bytes blocks_bytes two_bytes
  certificate-length =
      omega (arith, length-append (zeros n) (list_bytes flow_bytes (flows_against T (n - 1) 1)), length-zeros n, flows-length (n - 1) 1)

-- one block
pub one-block : (n : ℕ) → 1 ≤ n → block_count (zeros n) ≡ 1
unfolding block_count
one-block zero h = absurd (omega arith)
one-block (suc zero) h = sym (not_less _ (omega arith) refl)
one-block (suc (suc n)) h =
    let e = one-block (suc n) (omega arith) in
    ap (λ (b : ℕ). if_less 0 b b 1) e ∙ sym (less _ (omega arith) refl)

-- the model is sound, within limits of which one allows an entry for each transition
module _ (L : Limits) (n T : ℕ) (w : WithinLimits L n T) where
  rules : TransitionRules (length (zeros n)) 1 self_loop
  unfolding Each Along sum_over
  rules =
      let l = length-zeros n in
      record {
        source = omega (arith, l, w.some);
        action = omega arith;
        positive = omega arith;
        fits = omega arith;
        some = omega arith;
        most = omega (arith, l, w.some);
        states = (omega (arith, l, w.some), tt);
        ascend = tt;
        weights = (omega arith, tt);
        whole = refl;
      }

  lowest : LowestTerms self_loop
  unfolding LowestTerms Each
  lowest k d = divides-each-other d.0 (one-divides k)

  pub largest-sound : 1 ≤ L.actions → L.transitions ≤ L.entries → SoundModel L (largest_model n T)
  unfolding largest_model
  largest-sound acts each =
      let l = length-zeros n in
      let c = length-replicate T self_loop in
      record {
        some_state = omega (arith, l, w.some);
        states = omega (arith, l, w.states);
        some_action = omega arith;
        actions = acts;
        count = omega (arith, c, w.transitions);
        labels = each-replicate 0 (λ (b : ℕ). b ≤ L.label) n (omega arith);
        transitions = each-replicate self_loop (TransitionRules (length (zeros n)) 1) T rules;
        sources = along-replicate self_loop (λ (t u : Transition). t.source ≤ u.source) T (omega arith);
        entries = omega (arith, sum-replicate self_loop (λ (t : Transition). length t.entries) T, w.transitions, each);
        terms = each-replicate self_loop _ T (lowest-has L.terms self_loop lowest);
      }

-- the w of a flow
w-one : (t v u : ℕ) → w_in (stays t).ws v u ≡ if_same v t (if_same u 0 1 0) 0
unfolding w_in if_true both if_same
w-one t v u = go (eqb t v) (eqb 0 u) ∙ turned t v (if_same 0 u 1 0) 0 ∙ ap (λ (x : ℕ). if_same v t x 0) (turned 0 u 1 0)
  where
    go : (a b : Bool) → ◌≡◌ {A = ℕ} (cond (cond a b false) 1 0) (cond a (cond b 1 0) 0)
    go false b = refl
    go true b = refl

-- flows in a row
good-append : {A : Automaton} {R : Pairs} (xs ys : List Question) (fs gs : List FlowRecord) → GoodFlows plain_says A R xs fs → GoodFlows plain_says A R ys gs → GoodFlows plain_says A R (xs ++ ys) (fs ++ gs)
good-append xs ys fs gs GoodFlows.done h = h
good-append xs ys fs gs (GoodFlows.flow {xs = more} {fs = rest} g more-good) h = GoodFlows.flow g (good-append more ys rest gs more-good h)

module _ (n T : ℕ) (some : 1 ≤ n) where
  abbrev A : Automaton
  A = automaton_of (largest_model n T)

  abbrev blocks : List ℕ
  blocks = zeros n

  states-are : A.states ≡ n
  unfolding automaton_of
  states-are = largest-states n T

  transitions-are : A.transitions ≡ T
  unfolding automaton_of
  transitions-are = largest-transitions n T

  label_is : (v : ℕ) → A.label v ≡ 0
  unfolding automaton_of largest_model
  label_is v = always 0 (λ (x : ℕ). x) n v 0 refl

  block-is : (v : ℕ) → get_or blocks v 0 ≡ 0
  block-is v = always 0 (λ (x : ℕ). x) n v 0 refl

  source_is : (q : ℕ) → A.source q ≡ 0
  unfolding automaton_of largest_model
  source_is q = always self_loop (λ (t : Transition). t.source) T q no_transition refl

  action-is : (q : ℕ) → A.action q ≡ 0
  unfolding automaton_of largest_model
  action-is q = always self_loop (λ (t : Transition). t.action) T q no_transition refl

  module _ (q : ℕ) (l : q < T) where
    transition-is : get_or (replicate T self_loop) q no_transition ≡ self_loop
    transition-is = get_or-replicate T q self_loop no_transition l

    denominator-is : A.denominator q ≡ 1
    unfolding automaton_of largest_model
    denominator-is = ap (λ (t : Transition). t.denominator) transition-is

    weight_is : (v : ℕ) → A.weight q v ≡ if_same 0 v 1 0
    unfolding automaton_of largest_model weight_of
    weight_is v = ap (λ (t : Transition). weight_of t.entries v) transition-is

  related : (v u : ℕ) → equal_labels A v u ≡ true
  unfolding equal_labels
  related v u = eq-eqb _ _ (label_is v ∙ sym (label_is u))

  together : (v u : ℕ) → same_block blocks v u ≡ true
  unfolding same_block
  together v u = eq-eqb _ _ (block-is v ∙ sym (block-is u))

  -- t meets the question by staying where it is
  module _ (t : ℕ) (below : t < n) where
    abbrev flow : Flow
    flow = flow_of (stays t)

    no-arriving : (v : ℕ) → arriving A (flow.k 0) v ≡ 0
    unfolding arriving flow_of k_in
    no-arriving v = sum_zero A.transitions (λ q. 0 * A.weight q v) (λ q l. omega arith)

    no-leaving : (v : ℕ) → leaving A (flow.k 0) v ≡ 0
    unfolding leaving flow_of k_in
    no-leaving v = sum_zero A.transitions (λ q. if_same (A.source q) v (0 * A.denominator q) 0) (λ q l. either_same (λ (x : ℕ). x ≡ 0) (A.source q) v (omega arith) refl)

    from-v : (v : ℕ) → over_targets A flow.w v ≡ if_same v t 1 0
    unfolding over_targets flow_of
    from-v v = sum_cong A.states (λ u. w_in (stays t).ws v u) (λ u. if_same v t (if_same u 0 1 0) 0) (λ u l. w-one t v u) ∙ go (ℕ_discrete v t)
      where
        go : Dec (v ≡ t) → sum A.states (λ u. if_same v t (if_same u 0 1 0) 0) ≡ if_same v t 1 0
        go (yes e) =
            sum_cong A.states (λ u. if_same v t (if_same u 0 1 0) 0) (λ u. if_same u 0 1 0) (λ u l. sym (same 0 e refl))
            ∙ sum_same A.states 0 (λ u. 1) (omega (arith, states-are, some))
            ∙ same 0 e refl
        go (no ne) =
            sum_zero A.states (λ u. if_same v t (if_same u 0 1 0) 0) (λ u l. sym (not_same (if_same u 0 1 0) ne refl)) ∙ not_same 1 ne refl

    onto-u : (u : ℕ) → over_sources A flow.w u ≡ if_same u 0 1 0
    unfolding over_sources flow_of
    onto-u u =
        sum_cong A.states (λ v. w_in (stays t).ws v u) (λ v. if_same v t (if_same u 0 1 0) 0) (λ v l. w-one t v u)
        ∙ sum_same A.states t (λ v. if_same u 0 1 0) (omega (arith, states-are))

    equations : (q : ℕ) → q < T → PlainEquations A q t flow
    unfolding internal_move at_target flow_of
    equations q l =
        record {
          internal = λ e.
              record {
                move = λ v h. record { equal = omega (arith, no-arriving v, no-leaving v, from-v v) };
                target = λ u h.
                    record {
                      equal =
                          ap₂ (λ (x y : ℕ). x * y) (denominator-is q l) (onto-u u)
                          ∙ omega (arith, turned {X = ℕ} u 0 1 0)
                          ∙ ap (λ (x : ℕ). x * 1) (sym (weight_is q l u));
                    };
              };
          external = λ ne. absurd (ne (action-is q));
        }

    good : (q : ℕ) → q < T → GoodFlow plain_says A (equal_labels A) (record { challenger = q; defender = t }) (stays t)
    unfolding Each
    good q l =
        record {
          some = omega arith;
          fits = omega arith;
          k_few = omega arith;
          ks = tt;
          k_order = Ascends.end;
          w_few = omega arith;
          ws = (record { from = omega (arith, states-are); to = omega (arith, states-are, some); related = related t 0; some = omega arith; fits = omega arith }, tt);
          w_order = Ascends.next {lowest = 0} {x = record { v = t; u = 0; w = 1 }} (omega arith) Ascends.end;
          equations = equations q l;
        }

    abbrev ask : ℕ → Question
    ask q = record { challenger = q; defender = t }

    pair-good : (left r : ℕ) → r + left ≤ T → GoodFlows plain_says A (equal_labels A) (questions_of_pair A 0 t left r) (replicate left (stays t))
    unfolding questions_of_pair
    pair-good zero r h = GoodFlows.done
    pair-good (suc left) r h =
        subst (λ (l : List Question). GoodFlows plain_says A (equal_labels A) (l ++ questions_of_pair A 0 t left (r + 1)) (replicate (suc left) (stays t))) (same [] (source_is r) refl)
        (GoodFlows.flow (good r (omega arith)) (pair-good left (r + 1) (omega arith)))

  state-good : (left t : ℕ) → 1 ≤ t → t + left ≤ n → GoodFlows plain_says A (equal_labels A) (questions_of_state A blocks 0 left t) (flows_against T left t)
  unfolding questions_of_state flows_against
  state-good zero t low high = GoodFlows.done
  state-good (suc left) t low high =
      good-append (if_same 0 t [] (if_true (same_block blocks 0 t) (questions_of_pair A 0 t A.transitions 0) [])) (questions_of_state A blocks 0 left (t + 1)) (replicate T (stays t)) (flows_against T left (t + 1))
      (subst₂ (λ (l : List Question) (fs : List FlowRecord). GoodFlows plain_says A (equal_labels A) l fs)
      (not_same [] (λ e. omega arith) (is_true [] (together 0 t) refl))
      (ap (λ (k : ℕ). replicate k (stays t)) transitions-are)
      (pair-good t (omega arith) A.transitions 0 (omega (arith, transitions-are))))
      (state-good left (t + 1) (omega arith) (omega arith))

  -- no other state has a transition
  other-pair : (s t left r : ℕ) → 1 ≤ s → questions_of_pair A s t left r ≡ []
  unfolding questions_of_pair
  other-pair s t zero r h = refl
  other-pair s t (suc left) r h =
      ap₂ ◌++◌ (sym (not_same (record { challenger = r; defender = t } ∷ []) (λ e. omega (arith, source_is r)) refl)) (other-pair s t left (r + 1) h)

  other-state : (s left t : ℕ) → 1 ≤ s → questions_of_state A blocks s left t ≡ []
  unfolding questions_of_state
  other-state s zero t h = refl
  other-state s (suc left) t h = ap₂ ◌++◌ (either_same (λ (l : List Question). l ≡ []) s t refl (either_true (λ (l : List Question). l ≡ []) (same_block blocks s t) (other-pair s t A.transitions 0 h) refl)) (other-state s left (t + 1) h)

  other_from : (left s : ℕ) → 1 ≤ s → questions_from A blocks left s ≡ []
  unfolding questions_from
  other_from zero s h = refl
  other_from (suc left) s h = ap₂ ◌++◌ (other-state s A.states 0 h) (other_from left (s + 1) (omega arith))

  first-state : (k : ℕ) → A.states ≡ suc k → questions A blocks ≡ questions_of_state A blocks 0 k 1
  unfolding questions questions_from questions_of_state
  first-state k e =
      ap (λ (m : ℕ). questions_from A blocks m 0) e
      ∙ ap₂ ◌++◌ (ap (λ (m : ℕ). questions_of_state A blocks 0 m 0) e ∙ ap (λ (l : List Question). l ++ questions_of_state A blocks 0 k 1) (sym (same _ refl refl))) (other_from k 1 (omega arith))
      ∙ append-nil (questions_of_state A blocks 0 k 1)

  blocks-good : GoodBlocks A (equal_labels A) blocks
  blocks-good =
      record {
        whole = length-zeros n ∙ sym states-are;
        first_appearance = λ v l b h. absurd (omega (arith, block-is v));
        as_related = λ v u l k. (λ e. related v u, λ e. block-is v ∙ sym (block-is u));
      }

  -- the certificate keeps every rule
  pub largest-keeps : (L : Limits) → KeepsRules L plain_says A (largest_certificate n T)
  unfolding largest_certificate
  largest-keeps L =
      record {
        left = equal_labels A;
        few = omega arith;
        refutations = GoodRefutations.done;
        blocks = blocks-good;
        asked = questions A blocks;
        is_asked = questions-asked A blocks;
        flows =
            subst (λ (l : List Question). GoodFlows plain_says A (equal_labels A) l (flows_against T (n - 1) 1)) (sym (first-state (n - 1) (omega (arith, states-are, some))))
            (state-good (n - 1) 1 (omega arith) (omega arith));
      }
