-- What is known before each flow record, and where judging stops.
use Rattle.std.specs.Prelude.{ℕ, ◌+◌, ◌-◌, ◌≤◌, ◌<◌, ◌≡◌, List, [], ◌∷◌, ◌++◌, length, take, drop, ℤ, Ok, Err}
use Rattle.std.proofs.Math.Path.{refl, ap}
use Rattle.std.proofs.Common.{sym, ◌∙◌, arith}
use Rattle.bisimulation.proofs.argument.ChoiceLaws.{less, not_less}
use Rattle.bisimulation.specs.definitions.Pairs.{Pairs}
use Rattle.rules.specs.definitions.Limits.{limits}
use Rattle.rules.specs.definitions.Certificate.{FileRule}
use Rattle.rules.specs.definitions.Faults as rules
use Rattle.rules.specs.definitions.Faults.{fault}
use Rattle.rules.specs.definitions.Judging.{Judgement, refused_in, Question, questions, questions_of_state, questions_from, judge_flows}
use Rattle.rules.proofs.argument.JudgingLaws.{record-stops, record-passes}
use Rattle.field.specs.declared.Cursor.{Cursor}
use Rattle.fault.specs.declared.Fault.{Fault}
use Rattle.fault.specs.Faults.{fault_of, PlacedAt}
use Rattle.fault.specs.FaultsLaws.{refuses}
use Rattle.pairs.specs.Rows.{HoldsPairs}
use Rattle.transition.specs.Known.{automaton_in}
use Rattle.remainders.specs.Remainders.{AllZero}
use Rattle.flow.specs.FlowJudged.{FlowJudged}
use Rattle.flows.specs.FlowsJudged.{JudgesFlows}
use Rattle.runs.specs.Runs.{run_questions}

-- the blocks are those at a place of the certificate C
module _ (rule : FileRule) (s C : List ℕ) (n : ℕ) (rows : List ℕ) (blocks : ℕ) where
  abbrev pub blocks_in : List ℕ
  blocks_in = take n (drop blocks C)

  abbrev pub judged_from : Pairs → List Question → ℕ → Judgement
  judged_from R asked at = judge_flows limits rule (automaton_in s) C R blocks_in asked at

  -- the questions of the states left, of one of them against the states from t on, and of its run from r on
  abbrev pub left_states : ℕ → List Question
  left_states state = questions_from (automaton_in s) blocks_in (n - state) state

  abbrev pub left_defenders : (state t : ℕ) → List Question
  left_defenders state t = questions_of_state (automaton_in s) blocks_in state (n - t) t ++ left_states (state + 1)

  abbrev pub left_run : (state t r end : ℕ) → List Question
  left_run state t r end = run_questions t (end - r) r ++ left_defenders state (t + 1)

  -- before the flow of the first of the questions left, at a place
  pub record Going (asked : List Question) (remainders target : List ℤ) (at : ℕ) : Type 0 where
    pub judged : (R : Pairs) → HoldsPairs n R rows → judged_from R asked at ≡ judged_from R (questions (automaton_in s) blocks_in) (blocks + n)
    pub inside : at ≤ length C
    pub moves : AllZero remainders
    pub targets : AllZero target

  module _ {remainders target : List ℤ} where
    -- the same questions, whatever pairs the rows hold
    pub going-held : {xs ys : List Question} {at : ℕ} → ((R : Pairs) → HoldsPairs n R rows → xs ≡ ys) → Going xs remainders target at → Going ys remainders target at
    going-held {xs} {ys} {at} e g =
        record {
          judged = λ R h. ap (λ (l : List Question). judged_from R l at) (sym (e R h)) ∙ g.judged R h;
          inside = g.inside;
          moves = g.moves;
          targets = g.targets;
        }

    pub going-list : {xs ys : List Question} {at : ℕ} → xs ≡ ys → Going xs remainders target at → Going ys remainders target at
    going-list e g = going-held (λ R h. e) g

    pub going_start : {xs : List Question} {at : ℕ} → questions (automaton_in s) blocks_in ≡ xs → at ≡ blocks + n → blocks + n ≤ length C → AllZero remainders → AllZero target → Going xs remainders target at
    going_start {xs} {at} e place whole a b =
        record {
          judged = λ R h. ap (judged_from R xs) place ∙ ap (λ (l : List Question). judged_from R l (blocks + n)) (sym e);
          inside = omega arith;
          moves = a;
          targets = b;
        }

    module _ {q t at : ℕ} {xs : List Question} (g : Going (record { challenger = q; defender = t } ∷ xs) remainders target at) {remainders' target' : List ℤ} where
      -- a flow that is refused
      pub going-stops : (f : Fault) → FlowJudged rule s C n rows q t at remainders' target' (Err f) → JudgesFlows rule s C n rows blocks (Err f)
      unfolding judge_flows
      going-stops f j =
          record {
            answer = λ R h. ap (refused_in (fault_of f) 2) j.place ∙ record-stops (fault_of f) at _ (j.is R h) (refuses f.refusal) ∙ g.judged R h;
            inside = omega (arith, j.place, g.inside);
          }

      -- one that is not
      pub going-passes : {past : Cursor} → FlowJudged rule s C n rows q t at remainders' target' (Ok past) → Going xs remainders' target' past.at
      unfolding judge_flows
      going-passes j =
          record {
            judged = λ R h. record-passes at (j.is R h) refl (ap (judged_from R xs) j.passed.next) ∙ g.judged R h;
            inside = omega (arith, j.passed.next, j.passed.inside);
            moves = j.passed.zeros.0;
            targets = j.passed.zeros.1;
          }

    -- after the last flow: 22, or acceptance
    pub going-left : {at : ℕ} {z : rules.Fault} (x : Fault) → Going [] remainders target at → at < length C → z ≡ fault 22 → PlacedAt z at x → JudgesFlows rule s C n rows blocks (Err x)
    unfolding judge_flows
    going-left {at} x g l e p =
        record {
          answer = λ R h. ap (refused_in (fault_of x) 2) p.at ∙ ap (λ (y : rules.Fault). refused_in y 2 at) (p.is ∙ e) ∙ less _ l refl ∙ g.judged R h;
          inside = omega (arith, p.at, g.inside);
        }

    pub going-ends : {at : ℕ} → Going [] remainders target at → blocks + n ≤ length C → length C ≤ at → JudgesFlows rule s C n rows blocks (Ok blocks)
    unfolding judge_flows
    going-ends {at} g whole l = record { answer = λ R h. not_less _ l refl ∙ g.judged R h; inside = (refl, whole) }
