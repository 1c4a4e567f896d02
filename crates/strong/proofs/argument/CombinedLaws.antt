-- The strong step rule says what source document 000's problem says.
use Prim.Native.Nat.{ℕ, ◌*◌, ◌/◌}
use Rattle.std.proofs.Math.Path.{sym, ap}
use Rattle.std.proofs.Common.{◌∙◌, arith}
use Rattle.std.specs.Prelude.{◌↔◌}
use Rattle.std.proofs.Math.Nat.{mul-pos, div-mul_cancel}
use Rattle.bisimulation.specs.definitions.Automaton.{Automaton, SoundAutomaton}
use Rattle.bisimulation.specs.definitions.StepRule.{arriving, over_targets, over_sources, at_target}
use Rattle.bisimulation.proofs.argument.SumLaws.{sum_cong, sum_times, sum_times_right}
use Rattle.bisimulation.proofs.argument.ProductLaws.{product_positive, factor_divides}
use Rattle.bisimulation.proofs.argument.MovesLaws.{used_times}
use Rattle.bisimulation.proofs.argument.Respelled.{multiple}
use Rattle.strong.specs.definitions.StrongStepRule.{strong_total, strong_move, StrongMet}
use Rattle.strong.specs.definitions.CombinedStep.{CommonMultiple, CombinedStep}

-- the product of all denominators is one
product_multiple : (A : Automaton) → SoundAutomaton A → CommonMultiple A (multiple A) (λ r. multiple A / A.denominator r)
unfolding SoundAutomaton multiple
product_multiple A sound =
    record {
      positive = product_positive A.transitions A.denominator (λ r l. (sound r l).positive);
      each = λ r l. div-mul_cancel (A.denominator r) (factor_divides A.transitions A.denominator r l);
    }

module _ (A : Automaton) (W : ℕ → ℕ → Type 0) (q t : ℕ) where
  -- D for N, k times d for c, w for f
  to_combined : SoundAutomaton A → StrongMet A W q t → CombinedStep A W q t
  unfolding strong_total strong_move at_target arriving over_targets over_sources
  to_combined sound m =
      let k = m.flow.k 1 in
      let common = product_multiple A sound in
      record {
        N = m.flow.D;
        c = λ r. k r * A.denominator r;
        f = m.flow.w;
        at_least_one = m.at_least_one;
        enabled = λ r l u. m.layer1 r l (used_times (k r) (A.denominator r) u);
        related = m.related;
        whole = sym m.total.equal;
        challenger = λ u l. (m.target u l).equal;
        M = multiple A;
        cofactor = λ r. multiple A / A.denominator r;
        common = common;
        combined = λ v l.
            ap (λ (z : ℕ). multiple A * z) (sym (m.move v l).equal)
            ∙ sym (sum_times A.transitions (multiple A) (λ r. k r * A.weight r v))
            ∙ sum_cong A.transitions _ _ (λ r i. omega (arith, ap (λ (z : ℕ). k r * A.weight r v * z) (common.each r i)));
      }

  -- N times M for D, c times its cofactor for k, f times M for w
  from_combined : CombinedStep A W q t → StrongMet A W q t
  unfolding strong_total strong_move at_target arriving over_targets over_sources
  from_combined s =
      let k : ℕ → ℕ = λ r. s.c r * s.cofactor r in
      record {
        flow = record { D = s.N * s.M; k = λ i. k; w = λ v u. s.f v u * s.M };
        at_least_one = mul-pos s.at_least_one s.common.positive;
        layer1 = λ r l u. s.enabled r l (used_times (s.c r) (s.cofactor r) u);
        related = λ v u i j z. s.related v u i j (used_times (s.f v u) s.M z);
        total = record {
          equal = sym
              (sum_cong A.transitions _ (λ r. s.c r * s.M) (λ r l. omega (arith, ap (λ (z : ℕ). s.c r * z) (s.common.each r l)))
              ∙ sum_times_right A.transitions s.M s.c
              ∙ ap (λ (z : ℕ). z * s.M) s.whole);
        };
        move = λ v l. record {
          equal =
              sum_cong A.transitions _ _ (λ r i. omega arith)
              ∙ sym (s.combined v l)
              ∙ omega (arith, sum_times_right A.states s.M (s.f v));
        };
        target = λ u l. record {
          equal =
              ap (λ (z : ℕ). A.denominator q * z) (sum_times_right A.states s.M (λ v. s.f v u))
              ∙ omega (arith, ap (λ (z : ℕ). z * s.M) (s.challenger u l));
        };
      }

-- 'judged .. by the strong combined step of source document 000, section 7.2.3'
pub combined_step : (A : Automaton) → SoundAutomaton A → (W : ℕ → ℕ → Type 0) (q t : ℕ) → StrongMet A W q t ↔ CombinedStep A W q t
combined_step A sound W q t = (to_combined A W q t sound, from_combined A W q t)
