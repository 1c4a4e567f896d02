-- No accepted certificate has more than T times (n-1) flow records, since no more questions are asked.
use Prim.Native.Nat.{ℕ, zero, suc, ◌+◌, ◌*◌, ◌-◌, ◌≤◌, ◌<◌}
use Rattle.std.specs.Prelude.{◌≡◌, Bool, List, [], ◌∷◌, ◌++◌}
use Rattle.std.proofs.Math.Path.{refl, ap, ap₂}
use Rattle.std.proofs.Common.{sym, ◌∙◌}
use Rattle.std.proofs.Math.ListN.{length, length-append}
use Rattle.std.proofs.Math.Decide.{ℕ_discrete}
use Rattle.std.proofs.Math.Nat.{mul-le-mul_left}
use native.Mathlib.Omega.{arith}
use Rattle.bisimulation.specs.definitions.Choice.{if_same, if_true}
use Rattle.bisimulation.proofs.argument.ChoiceLaws.{same, not_same, either_same, either_true, of_same}
use Rattle.bisimulation.specs.definitions.Sum.{sum}
use Rattle.bisimulation.proofs.argument.SumLaws.{sum_cong, sum_zero, sum_add}
use Rattle.bisimulation.specs.definitions.Automaton.{Automaton}
use Rattle.bisimulation.specs.definitions.Pairs.{Pairs}
use Rattle.rules.specs.definitions.Limits.{Limits}
use Rattle.rules.specs.definitions.Model.{Model, automaton_of}
use Rattle.rules.specs.definitions.Certificate.{same_block}
use Rattle.rules.specs.definitions.Judging.{Question, questions_of_pair, questions_of_state, questions_from, questions}
use Rattle.rules.specs.definitions.Encoding.{FlowRecord, Certificate}
use Rattle.rules.specs.definitions.Accepted.{RuleSays, GoodFlows, KeepsRules}
use Rattle.rules.specs.definitions.JudgedBy.{JudgedBy, plain_pairs, stored_pairs, AcceptedBy}
use Rattle.rules.specs.definitions.Demands.{KeepsRulesOn}
use Rattle.rules.proofs.argument.QuestionsLaws.{questions-only}
use Rattle.rules.proofs.argument.AnyRule.{PairRules, pairs_of}
use Rattle.rules.proofs.argument.AcceptedExactly.{accepted-exactly}
use Rattle.rules.proofs.argument.PlainRules.{plain_rules, stored_rules}
use Rattle.largest_pair.specs.definitions.FewFlows.{FewFlows}

-- a number is one of those below n at most once
once : (n x : ℕ) → (sum n (λ v. if_same x v 1 0) ≤ 1) × (n ≤ x → sum n (λ v. if_same x v 1 0) ≡ 0)
unfolding sum
once zero x = (omega arith, λ l. refl)
once (suc n) x = go (once n x) (ℕ_discrete x n)
  where
    go : (sum n (λ v. if_same x v 1 0) ≤ 1) × (n ≤ x → sum n (λ v. if_same x v 1 0) ≡ 0) → Dec (x ≡ n) → (sum n (λ v. if_same x v 1 0) + if_same x n 1 0 ≤ 1) × (suc n ≤ x → sum n (λ v. if_same x v 1 0) + if_same x n 1 0 ≡ 0)
    go h (yes e) = (omega (arith, h.1 (omega arith), same {X = ℕ} {z = 1} 0 e refl), λ l. absurd (omega arith))
    go h (no e) = let z = not_same {X = ℕ} {z = 0} 1 e refl in (omega (arith, h.0, z), λ l. omega (arith, h.1 (omega arith), z))

module _ (A : Automaton) where
  -- how many of the transitions left from r on leave s
  leaving_from : (s left r : ℕ) → ℕ
  leaving_from s zero r = 0
  leaving_from s (suc left) r = if_same (A.source r) s 1 0 + leaving_from s left (r + 1)

  abbrev leaving : ℕ → ℕ
  leaving s = leaving_from s A.transitions 0

  -- each leaves one state at most
  leaving-all : (left r : ℕ) → sum A.states (λ v. leaving_from v left r) ≤ left
  unfolding leaving_from
  leaving-all zero r = omega (arith, sum_zero A.states (λ v. leaving_from v 0 r) (λ v l. refl))
  leaving-all (suc left) r =
      omega (arith, sum_add A.states (λ v. if_same (A.source r) v 1 0) (λ v. leaving_from v left (r + 1)), (once A.states (A.source r)).0, leaving-all left (r + 1))

  pair-count : (s t left r : ℕ) → length (questions_of_pair A s t left r) ≡ leaving_from s left r
  unfolding questions_of_pair leaving_from
  pair-count s t zero r = refl
  pair-count s t (suc left) r =
      length-append (if_same (A.source r) s (record { challenger = r; defender = t } ∷ []) []) (questions_of_pair A s t left (r + 1))
      ∙ ap₂ ◌+◌ (of_same length (A.source r) s (record { challenger = r; defender = t } ∷ []) []) (pair-count s t left (r + 1))

  module _ (blocks : List ℕ) where
    -- the questions of the pair (s,t)
    abbrev part : (s t : ℕ) → List Question
    part s t = if_same s t [] (if_true (same_block blocks s t) (questions_of_pair A s t A.transitions 0) [])

    part-most : (s t : ℕ) → length (part s t) ≤ leaving s
    part-most s t =
        either_same (λ (l : List Question). length l ≤ leaving s) s t (omega arith)
        (either_true (λ (l : List Question). length l ≤ leaving s) (same_block blocks s t) (omega (arith, pair-count s t A.transitions 0)) (omega arith))

    part-own : (s t : ℕ) → s ≡ t → length (part s t) ≡ 0
    part-own s t e = ap length (sym (same (if_true (same_block blocks s t) (questions_of_pair A s t A.transitions 0) []) e refl))

    state-most : (s left t : ℕ) → length (questions_of_state A blocks s left t) ≤ left * leaving s
    unfolding questions_of_state
    state-most s zero t = omega arith
    state-most s (suc left) t = omega (arith, length-append (part s t) (questions_of_state A blocks s left (t + 1)), part-most s t, state-most s left (t + 1))

    -- a state is not asked by its own transitions
    state-less : (s left t : ℕ) → t ≤ s → s < t + left → length (questions_of_state A blocks s left t) + leaving s ≤ left * leaving s
    unfolding questions_of_state
    state-less s zero t low high = absurd (omega arith)
    state-less s (suc left) t low high = go (state-less s left (t + 1)) (ℕ_discrete s t)
      where
        go : (t + 1 ≤ s → s < t + 1 + left → length (questions_of_state A blocks s left (t + 1)) + leaving s ≤ left * leaving s) → Dec (s ≡ t) → length (part s t ++ questions_of_state A blocks s left (t + 1)) + leaving s ≤ suc left * leaving s
        go h (yes e) = omega (arith, length-append (part s t) (questions_of_state A blocks s left (t + 1)), part-own s t e, state-most s left (t + 1))
        go h (no n) = omega (arith, length-append (part s t) (questions_of_state A blocks s left (t + 1)), part-most s t, h (omega arith) (omega arith))

    from-most : (left s : ℕ) → s + left ≤ A.states → length (questions_from A blocks left s) + (A.states - 1) * sum s leaving ≤ (A.states - 1) * sum (s + left) leaving
    unfolding questions_from sum
    from-most zero s h = let e : s + 0 ≡ s = omega arith in omega (arith, ap (λ (k : ℕ). (A.states - 1) * sum k leaving) e)
    from-most (suc left) s h =
        let e : suc s ≡ s + 1 = omega arith in
        let f : s + 1 + left ≡ s + suc left = omega arith in
        let n : A.states ≡ 1 + (A.states - 1) = omega arith in
        omega (
          arith,
          length-append (questions_of_state A blocks s A.states 0) (questions_from A blocks left (s + 1)),
          state-less s A.states 0 (omega arith) (omega arith),
          ap (λ (k : ℕ). k * leaving s) n,
          from-most left (s + 1) (omega arith),
          ap (λ (k : ℕ). (A.states - 1) * sum k leaving) e,
          ap (λ (k : ℕ). (A.states - 1) * sum k leaving) f,
        )

    -- no more than T times (n-1) questions are asked, whatever the blocks
    pub few-questions : length (questions A blocks) ≤ A.transitions * (A.states - 1)
    unfolding questions sum
    few-questions =
        let e : 0 + A.states ≡ A.states = omega arith in
        omega (
          arith,
          from-most A.states 0 (omega arith),
          ap (λ (k : ℕ). (A.states - 1) * sum k leaving) e,
          mul-le-mul_left (A.states - 1) (leaving-all A.transitions 0),
        )

-- a flow for each question
flows-asked : {says : RuleSays} {A : Automaton} {R : Pairs} (xs : List Question) (fs : List FlowRecord) → GoodFlows says A R xs fs → length fs ≡ length xs
flows-asked xs fs GoodFlows.done = refl
flows-asked xs fs (GoodFlows.flow {xs = more} {fs = rest} g gs) = ap suc (flows-asked more rest gs)

-- K13, of certificates that keep every rule for an automaton of any size, whatever the step rule
pub few-kept : (L : Limits) (says : RuleSays) (A : Automaton) (K : Certificate) → KeepsRules L says A K → length K.flows ≤ A.transitions * (A.states - 1)
few-kept L says A K k =
    omega (arith, flows-asked k.asked K.flows k.flows, ap length (questions-only A K.blocks k.asked k.is_asked), few-questions A K.blocks)

-- of all files, whatever they are judged by
pub few-flows : (by : PairRules) → FewFlows (pairs_of by)
unfolding automaton_of
few-flows by =
    record {
      keeps = λ model certificate blocks b c a.
          let k = (accepted-exactly by model certificate blocks b c).0 a in
          (k.M, record { file = k.file; kept = k.kept });
      few = λ model certificate blocks M k. few-kept by.limits (by.rule model).says (automaton_of M) k.kept.certificate k.kept.keeps;
    }

-- as the calls judge them, and with whatever terms
pub plain-few-flows : FewFlows plain_pairs
plain-few-flows = few-flows plain_rules

pub stored-few-flows : FewFlows stored_pairs
stored-few-flows = few-flows stored_rules
