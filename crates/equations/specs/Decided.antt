-- The sums over a flow's entries decide the equations of each step rule, by its kind.
use Rattle.std.specs.Prelude.{ℕ, ◌+◌, ◌<◌, ◌≡◌, refl, ◌≢◌, Bool, true, false, List, []}
use Rattle.std.proofs.Common.{sym, ◌∙◌, ap, ap₂, arith}
use Rattle.bisimulation.proofs.argument.ChoiceLaws.{false-not}
use Rattle.bisimulation.specs.definitions.Automaton.{Automaton}
use Rattle.rules.specs.definitions.Certificate.{FileRule, k_count_at, k_of, flow_at, k_fault}
use Rattle.rules.specs.definitions.Faults.{Fault, first_of, Passes}
use Rattle.rules.specs.definitions.PlainRule.{external_equations_fault}
use Rattle.rules.specs.definitions.PlainSays.{InPlainQuestion}
use Rattle.rules.proofs.argument.PlainDecides.{six-cases}
use Rattle.cost_files.specs.definitions.CostFile.{cost_equations_fault}
use Rattle.strong.specs.definitions.StrongStepRule.{strong_total, strong_move}
use Rattle.strong_files.specs.definitions.StrongFile.{strong_file, total_fault, strong_equations_fault}
use Rattle.rule_kind.specs.declared.Kind.{Kind}
use Rattle.rule_kind.specs.declared.Kind.TheVariants.{Plain, Costs, Strong}
use Rattle.rule_kind.specs.Kinds.{is_strong, rule_of, cost_in}
use Rattle.rule_kind.specs.Steps.{in_question_by, has_move}
use Rattle.rule_kind.specs.StepsLaws.{tests-of, strong-asked, moves-external, stays-internal}
use Rattle.equations.specs.Differences.{before_break, after_break, target_break, DecidesEquations}
use Rattle.equations.specs.RuleEquations.{Layered, first-again, plain-decided, cost-decided, free-targets, moved, absent-k}
use Rattle.equations.specs.LayerOne.{one-step}

-- the layers of document 01's entries
module _ {challenger layer action : ℕ} where
  three : InPlainQuestion challenger layer action → layer < 3
  three (InPlainQuestion.before z b) = omega arith
  three (InPlainQuestion.move n o b) = omega arith
  three (InPlainQuestion.after n w b) = omega arith

  first : InPlainQuestion challenger layer action → challenger ≡ 0 → layer ≡ 0
  first (InPlainQuestion.before z b) i = z
  first (InPlainQuestion.move n o b) i = absurd (n i)
  first (InPlainQuestion.after n w b) i = absurd (n i)

weak-layers : (kind : Kind) → is_strong kind ≡ false → (rule : FileRule) → ((A : Automaton) (q t layer r : ℕ) → rule.in_question A q t layer r ≡ true → InPlainQuestion (A.action q) layer (A.action r)) → Layered rule (has_move kind)
weak-layers kind w rule asked =
    record {
      layers = λ A q t layer r e. three (asked A q t layer r e);
      still = λ A q t layer r e m. first (asked A q t layer r e) (stays-internal kind w (A.action q) m);
    }

layered : (kind : Kind) (s : List ℕ) → Layered (rule_of kind s) (has_move kind)
unfolding has_move in_question_by
layered Plain s = weak-layers Plain refl (rule_of Plain s) (λ A q t layer r e. (six-cases _ _ _).0 e)
layered Costs s = weak-layers Costs refl (rule_of Costs s) (λ A q t layer r e. (six-cases _ _ _).0 e)
layered Strong s =
    record {
      layers = λ A q t layer r e. omega (arith, (strong-asked _ _ _ _ _ ((tests-of Strong s).is A q t layer r ∙ e)).0);
      still = λ A q t layer r e m. absurd (false-not (sym m));
    }

-- what the strong rule allows stands in layer 1, and is t's own
module _ (A : Automaton) (C : List ℕ) (q t at : ℕ) (no_k : Passes (k_fault strong_file A C q t (k_count_at C at) (at + 8) 0)) where
  alone : (layer r : ℕ) → layer ≢ 1 → k_of C (k_count_at C at) (at + 8) layer r ≡ 0
  unfolding in_question_by
  alone layer r n = absent-k strong_file A C q t layer r (λ e. n (strong-asked _ _ _ _ _ ((tests-of Strong []).is A q t layer r ∙ e)).0) (k_count_at C at) (at + 8) 0 no_k

  own : (r : ℕ) → A.source r ≢ t → k_of C (k_count_at C at) (at + 8) 1 r ≡ 0
  unfolding in_question_by
  own r n = absent-k strong_file A C q t 1 r (λ e. n (strong-asked _ _ _ _ _ ((tests-of Strong []).is A q t 1 r ∙ e)).1) (k_count_at C at) (at + 8) 0 no_k

  strong-step : t < A.states → external_equations_fault A q t (flow_at C at) ≡ strong_equations_fault A q t (flow_at C at)
  unfolding strong_equations_fault total_fault strong_total strong_move flow_at
  strong-step h = one-step A (flow_at C at) t alone own q h

-- for each step rule
pub decided : (kind : Kind) (s : List ℕ) → DecidesEquations (rule_of kind s) (cost_in kind s) (has_move kind)
unfolding cost_equations_fault has_move
decided Plain s A C R q t at below no_k no_w =
    record {
      is =
          ap (λ (f : Fault). first_of (before_break A C q t at (has_move Plain (A.action q))) (first_of (after_break A C q t at (has_move Plain (A.action q))) f)) (free-targets (layered Plain s) A C R q t at no_k no_w)
          ∙ plain-decided (layered Plain s) A C R q t at no_k no_w (moves-external Plain refl (A.action q)) (stays-internal Plain refl (A.action q));
    }
decided Costs s A C R q t at below no_k no_w =
    let cost = cost_in Costs s in
    let moves = has_move Costs (A.action q) in
    let external = moves-external Costs refl (A.action q) in
    let internal = stays-internal Costs refl (A.action q) in
    record {
      is =
          ap (first_of (before_break A C q t at moves)) (first-again (after_break A C q t at moves) (target_break A C q t at) _)
          ∙ first-again (before_break A C q t at moves) _ _
          ∙ ap₂ first_of (plain-decided (layered Costs s) A C R q t at no_k no_w external internal) (cost-decided (layered Costs s) A C R q t at no_k no_w external internal cost);
    }
decided Strong s A C R q t at below no_k no_w =
    record {
      is =
          ap (λ (f : Fault). first_of (before_break A C q t at true) (first_of (after_break A C q t at true) f)) (free-targets (layered Strong s) A C R q t at no_k no_w)
          ∙ moved (layered Strong s) A C R q t at no_k no_w
          ∙ strong-step A C q t at no_k below;
    }
