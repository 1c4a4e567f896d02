-- `first_not_below` meets its contract. The invariant: the search from here on finds what the whole search finds.
use Prim.Native.Nat.{ℕ, ◌+◌, ◌-◌}
use mathlib.Core.Path.{◌≡◌, refl, ◌∙◌, ap}
use native.Mathlib.Omega.{arith}
use Rattle.bisimulation.proofs.argument.ChoiceLaws.{via, less, not_less}
use Rattle.rules.specs.definitions.Reading.{first_not_below}
use Rattle.rules.proofs.argument.ModelAutomaton.{automaton-source}
use Rattle.rules.proofs.argument.ReadingLaws.{first_not_below-turn, first_not_below-end}
use Rattle.fetch.proofs.first_not_below.Goals as goal

pub loop-at-init : goal.loop-at-init
loop-at-init c = refl

pub returns-then-state-source : goal.returns-then-state-source
returns-then-state-source c =
    let at = c.loop-at.at in
    let s = c.args.model.file.now in
    let source = automaton-source s at (omega (arith, c.args.model.known.transitions)) in
    via (first_not_below-turn s _ (c.args.model.transitions - at) at (omega arith)) (not_less _ (omega (arith, source, c.fields-source.ensures.source)) refl) ∙ c.loop-at.invariant

pub loop-at-preserved : goal.loop-at-preserved
loop-at-preserved c =
    let at = c.loop-at.at in
    let s = c.args.model.file.now in
    let source = automaton-source s at (omega (arith, c.args.model.known.transitions)) in
    let left : c.args.model.transitions - (at + 1) ≡ c.args.model.transitions - at - 1 = omega arith in
    via (first_not_below-turn s _ (c.args.model.transitions - at) at (omega arith))
    (less _ (omega (arith, source, c.fields-source.ensures.source)) (ap (λ (k : ℕ). first_not_below s c.args.state k (at + 1)) left))
    ∙ c.loop-at.invariant

pub returns : goal.returns
returns c =
    let end : c.loop-at.at ≡ c.args.model.transitions = omega arith in
    via (first_not_below-end _ _ (c.args.model.transitions - c.loop-at.at) c.loop-at.at (omega arith)) (omega (arith, end)) ∙ c.loop-at.invariant
