-- `pair_fault` meets its contract: each test in its order.
use native.Mathlib.Omega.{arith}
use mathlib.Core.Path.{refl, ◌∙◌}
use Rattle.bisimulation.proofs.argument.ChoiceLaws.{less, not_less, same, not_same, is_true, is_false}
use Rattle.rules.specs.definitions.Certificate.{pair_fault}
use Rattle.transition.specs.KnownLaws.{known-states, known-transitions, few-states}
use Rattle.refutation.specs.RefutationLaws.{pair-refused, pair-bit}
use Rattle.refutation.proofs.pair_fault.Goals as goal

pub returns-then-model-q : goal.returns-then-model-q
unfolding pair_fault
returns-then-model-q c = pair-refused c.fault.ensures (λ R held. not_less _ (omega (arith, known-transitions c.args.model.known)) refl)

pub returns-then-model-t : goal.returns-then-model-t
unfolding pair_fault
returns-then-model-t c =
    let k = c.args.model.known in
    pair-refused c.fault-then-model-t.ensures (λ R held.
    less _ (omega (arith, known-transitions k))
    (not_less _ (omega (arith, known-states k)) refl))

pub returns-then-t-source : goal.returns-then-t-source
unfolding pair_fault
returns-then-t-source c =
    let k = c.args.model.known in
    pair-refused c.fault-then-t-source.ensures (λ R held.
    less _ (omega (arith, known-transitions k))
    (less _ (omega (arith, known-states k))
    (same _ (omega arith) refl)))

pub related-requires : goal.related-requires
related-requires c =
    let k = c.args.model.known in
    (omega (arith, k.states, few-states k), omega (arith, few-states k))

pub returns-then-not-related : goal.returns-then-not-related
unfolding pair_fault
returns-then-not-related c =
    let k = c.args.model.known in
    let fields = c.fields-source.ensures in
    pair-refused c.fault-then-not-related.ensures (λ R held.
    less _ (omega (arith, known-transitions k))
    (less _ (omega (arith, known-states k))
    (not_same _ (λ e. omega arith)
    (is_false _ (pair-bit held fields.source c.related.ensures (omega (arith, k.states)) (omega arith) ∙ c.if-not-related.true) refl))))

pub returns : goal.returns
unfolding pair_fault
returns c =
    let k = c.args.model.known in
    let fields = c.fields-source.ensures in
    record {
      fault = record {
        number = λ R held.
            less _ (omega (arith, known-transitions k))
            (less _ (omega (arith, known-states k))
            (not_same _ (λ e. omega arith)
            (is_true _ (pair-bit held fields.source c.related.ensures (omega (arith, k.states)) (omega arith) ∙ c.if-not-related.false) refl)));
      };
      challenger = omega arith;
      defender = omega arith;
    }
