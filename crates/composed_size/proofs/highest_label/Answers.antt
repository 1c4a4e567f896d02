-- `highest_label` meets its contract. The invariant: the highest of the labels so far.
use Rattle.std.proofs.Common.{ℕ, ◌<◌, ◌≡◌, refl, ap, ◌∙◌, arith}
use Rattle.bisimulation.specs.definitions.Composed.{highest}
use Rattle.rules.proofs.argument.ModelAutomaton.{automaton-states}
use Rattle.transition.specs.Known.{automaton_in}
use Rattle.composed_size.specs.CountedLaws.{highest-more, label-item}
use Rattle.composed_size.proofs.highest_label.Goals as goal

pub loop-label-init : goal.loop-label-init
unfolding highest
loop-label-init c = refl

pub loop-label-preserved : goal.loop-label-preserved
loop-label-preserved c =
    let s = c.args.s.now in
    let l = c.loop-label in
    let i : l.label-index < c.args.n = omega arith in
    highest-more _ l.label-index (omega (arith, i, c.requires.0)) l.invariant
    (label-item s c.args.n l.label-index i) c.max-most.ensures

pub returns : goal.returns
returns c =
    let s = c.args.s.now in
    let e : c.loop-label.label-index ≡ (automaton_in s).states = omega (arith, c.requires, automaton-states s (omega (arith, c.requires))) in
    c.loop-label.invariant ∙ ap (λ (k : ℕ). highest k (automaton_in s).label) e
