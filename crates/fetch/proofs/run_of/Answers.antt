-- `run_of` meets its contract: the two searches find the run's ends, whose places are in the table.
-- the two searches find the run's ends, which are transitions of the model or its end
use Rattle.transition.specs.Known.{Known}
use Rattle.transition.specs.KnownLaws.{few-transitions}
use Rattle.rules.proofs.argument.AnswerLaws.{run-most}
use Rattle.rules.specs.definitions.Reading.{count_of, place_of, first_not_below, run_first, run_past, run_start, run_end}
use Prim.Native.Nat.{ℕ, ◌+◌, ◌-◌, ◌≤◌}
use mathlib.Core.List.{List}
use mathlib.Core.Path.{◌≡◌, ◌∙◌, ap}
use native.Mathlib.Omega.{arith}
use Rattle.fetch.proofs.run_of.Goals as goal

module _ (s table : List ℕ) (state count : ℕ) {n : ℕ} (w : Known s n count table) where
  first-is : (first : ℕ) → first ≡ first_not_below s state (count - 0) 0 → first ≡ run_first s state
  unfolding run_first
  first-is first e = let z : count - 0 ≡ count_of s = omega (arith, w.transitions) in e ∙ ap (λ (k : ℕ). first_not_below s state k 0) z

  first-most : (first : ℕ) → first ≡ first_not_below s state (count - 0) 0 → first ≤ count
  first-most first e = omega (arith, w.transitions, first-is first e, run-most s state)

  past_is : (first past next : ℕ) → first ≡ run_first s state → past ≡ first_not_below s next (count - first) first → next ≡ state + 1 → past ≡ run_past s state
  unfolding run_past
  past_is first past next e f g = let z = w.transitions in cc

  past-most : (first past next : ℕ) → first ≡ run_first s state → past ≡ first_not_below s next (count - first) first → next ≡ state + 1 → past ≤ count
  past-most first past next e f g = omega (arith, w.transitions, past_is first past next e f g, run-most s state)

pub first_not_below-past-requires : goal.first_not_below-past-requires
first_not_below-past-requires c = first-most _ _ _ _ c.args.model.known _ c.first_not_below-first.ensures

pub offset_bounds-model-first : goal.offset_bounds-model-first
offset_bounds-model-first c = omega (arith, first-most _ _ _ _ c.args.model.known _ c.first_not_below-first.ensures, few-transitions c.args.model.known, c.args.model.known.size)

pub bounds-model-first : goal.bounds-model-first
bounds-model-first c = omega (arith, first-most _ _ _ _ c.args.model.known _ c.first_not_below-first.ensures, few-transitions c.args.model.known, c.args.model.known.size)

pub offset_bounds-model-past : goal.offset_bounds-model-past
offset_bounds-model-past c = omega (arith, past-most _ _ _ _ c.args.model.known _ _ _ (first-is _ _ _ _ c.args.model.known _ c.first_not_below-first.ensures) c.first_not_below-past.ensures (omega arith), few-transitions c.args.model.known, c.args.model.known.size)

pub bounds-model-past : goal.bounds-model-past
bounds-model-past c = omega (arith, past-most _ _ _ _ c.args.model.known _ _ _ (first-is _ _ _ _ c.args.model.known _ c.first_not_below-first.ensures) c.first_not_below-past.ensures (omega arith), few-transitions c.args.model.known, c.args.model.known.size)

pub returns : goal.returns
unfolding run_start run_end
returns c =
    let w = c.args.model.known in
    let s = c.args.model.file.now in
    record {
      start = w.places.held _ (omega (arith, first-most _ _ _ _ c.args.model.known _ c.first_not_below-first.ensures)) ∙ ap (place_of s) (first-is _ _ _ _ c.args.model.known _ c.first_not_below-first.ensures);
      end = w.places.held _ (omega (arith, past-most _ _ _ _ c.args.model.known _ _ _ (first-is _ _ _ _ c.args.model.known _ c.first_not_below-first.ensures) c.first_not_below-past.ensures (omega arith))) ∙ ap (place_of s) (past_is _ _ _ _ c.args.model.known _ _ _ (first-is _ _ _ _ c.args.model.known _ c.first_not_below-first.ensures) c.first_not_below-past.ensures (omega arith));
    }
