-- Document 02, K2, of the strong rule: its equations break in the order of their kinds, and its price conditions answer neither 20 nor 21.
use Rattle.std.specs.Prelude.{ℕ, ◌<◌, ◌≡◌, List, [], ◌∷◌, ℤ}
use Rattle.std.proofs.Math.Path.{refl, ap, subst}
use Rattle.std.proofs.Common.{sym, ◌∙◌, arith}
use Rattle.std.proofs.Math.IntN.{sub_ℕ}
use Rattle.bisimulation.specs.definitions.Choice.{if_same, unless_same}
use Rattle.bisimulation.proofs.argument.ChoiceLaws.{same, not_same, either_true}
use Rattle.bisimulation.specs.definitions.Automaton.{Automaton}
use Rattle.bisimulation.specs.definitions.StepRule.{Sides, Holds, Flow, at_target}
use Rattle.bisimulation.specs.definitions.Pairs.{Pairs}
use Rattle.bisimulation.specs.definitions.Prices.{price_of_targets}
use Rattle.rules.specs.definitions.Faults.{Fault, fault_by, no_fault, first_of}
use Rattle.rules.specs.definitions.PlainRule.{first_break}
use Rattle.rules.specs.definitions.Answers.{Follows}
use Rattle.rules.specs.definitions.Demands.{outcome_by}
use Rattle.rules.proofs.argument.PairOutcome.{FollowsLaws}
use Rattle.rules.proofs.argument.BreakLaws.{break-alone}
use Rattle.rules.proofs.argument.BreakOrder.{Kind, kind, InOrder, last-kind, kind-before}
use Rattle.rules.proofs.argument.BreakJudged.{Unbroken, TellsBreaks, AnswerBreaks, price-unbroken, last-unbroken, whole-break-answered}
use Rattle.strong.specs.definitions.StrongStepRule.{strong_total, strong_move}
use Rattle.strong_files.specs.definitions.StrongFile.{strong_prices_fault, total_fault, strong_equations_fault, strong_file}
use Rattle.strong_files.specs.definitions.StrongPairs.{strong_pairs}
use Rattle.strong_files.proofs.argument.StrongCertificates.{strong_certificates}
use Rattle.strong_files.proofs.argument.StrongRules.{strong_rules}

-- an equation of one state
unfoldable pub only_at : (t : ℕ) → Sides → ℕ → Sides
only_at t s v = if_same v t s (record { left = 0; right = 0 })

module _ (A : Automaton) (q t : ℕ) where
  -- K14's equations by their kinds: 'the D equation first, with t as its state'
  unfoldable pub strong_kinds : Flow → List Kind
  strong_kinds f = kind 20 (only_at t (strong_total A f)) ∷ kind 20 (strong_move A f) ∷ kind 21 (at_target A f q) ∷ []

  total_first : (f : Flow) → t < A.states → first_break A 20 (only_at t (strong_total A f)) ≡ total_fault A t f
  unfolding first_break total_fault only_at
  total_first f l =
      break-alone 20 (only_at t (strong_total A f)) A.states 0 t (omega arith) (omega arith) (λ v n. subst Holds (not_same (strong_total A f) n refl) (record { equal = refl }))
      ∙ ap (λ (s : Sides). unless_same s.left s.right (fault_by 20 t (sub_ℕ s.left s.right)) no_fault) (sym (same _ refl refl))

  pub strong-order : (f : Flow) → t < A.states → InOrder A.states (strong_kinds f) (strong_equations_fault A q t f)
  unfolding strong_kinds strong_equations_fault
  strong-order f l =
      let rest = first_of (first_break A 20 (strong_move A f)) (first_break A 21 (at_target A f q)) in
      subst (λ (z : Fault). InOrder A.states (strong_kinds f) (first_of z rest)) (total_first f l)
      (kind-before A 20 (only_at t (strong_total A f)) (λ e. omega arith) _ rest
      (kind-before A 20 (strong_move A f) (λ e. omega arith) _ _ (last-kind A 21 (at_target A f q) (λ e. omega arith))))

  pub strong-unbroken : (R : Pairs) (p : ℕ → ℤ) → Unbroken (strong_prices_fault A R q t p)
  unfolding strong_prices_fault
  strong-unbroken R p = either_true Unbroken _ (either_true Unbroken _ (last-unbroken A (price_of_targets A) _ _ q t) price-unbroken) price-unbroken

pub strong-breaks : TellsBreaks strong_kinds strong_file
strong-breaks = record { prices = λ A R q t. strong-unbroken A q t R; equations = λ A q t x l b. strong-order A q t x l }

-- a call that judges by the strong rule
pub strong-break-answered : (M C : List ℕ) (follows : Follows) → FollowsLaws strong_rules follows → (before : List (List ℕ)) → AnswerBreaks strong_rules strong_kinds M C (outcome_by strong_pairs follows M C before).answer
strong-break-answered = whole-break-answered strong_rules.limits strong_rules.widths strong_rules.refutations strong_certificates strong_kinds strong-breaks
