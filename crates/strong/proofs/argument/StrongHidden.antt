-- Hiding keeps strong bisimulations: transitions with one action have one action after it.
use Rattle.std.specs.Prelude.{ℕ, ◌*◌, ◌<◌, Bool}
use Rattle.std.proofs.Math.Path.{sym, ap}
use Rattle.std.proofs.Common.{◌∙◌}
use Rattle.bisimulation.specs.definitions.Sum.{sum}
use Rattle.bisimulation.specs.definitions.Automaton.{Automaton}
use Rattle.bisimulation.specs.definitions.Largest.{Bisimulation}
use Rattle.bisimulation.specs.definitions.Hidden.{hidden_action, IsHidden}
use Rattle.bisimulation.proofs.argument.SumLaws.{sum_cong}
use Rattle.bisimulation.proofs.argument.OneLayer.{moves_one, through_one}
use Rattle.bisimulation.proofs.argument.HiddenLaws.{through_hidden, hidden_by, bisimulation_hidden}
use Rattle.strong.specs.definitions.StrongStepRule.{strong_total, StrongMet}
use Rattle.strong.proofs.argument.StrongMoves.{strong_by}

module _ (chosen : ℕ → Bool) (A H : Automaton) (hidden : IsHidden chosen A H) (W : ℕ → ℕ → Type 0) where
  -- the same flow
  strong_hidden : (q t : ℕ) → q < A.transitions → StrongMet A W q t → StrongMet H W q t
  unfolding strong_total
  strong_hidden q t l m =
      let o = strong_by.to A W q t m in
      let k = o.flow.k 0 in
      strong_by.from H W q t
      (hidden_by chosen A H hidden W q t l {k = o.flow.k} o
      (moves_one (through_hidden chosen A H hidden (λ s b h. (h.0, ap (hidden_action chosen) h.1 ∙ sym (hidden.action q l))) (λ s. s) (through_one o.moves)))
      (record {
        equal =
            o.more.equal
            ∙ sym (ap (λ (n : ℕ). sum n (λ r. k r * H.denominator r)) hidden.transitions ∙ sum_cong A.transitions _ _ (λ r i. ap (λ (z : ℕ). k r * z) (hidden.denominator r i)));
      }))

  pub strong_hidden_bisimulation : Bisimulation StrongMet A W → Bisimulation StrongMet H W
  strong_hidden_bisimulation = bisimulation_hidden hidden strong_hidden
