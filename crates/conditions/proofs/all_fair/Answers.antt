-- `all_fair` meets its contract: each transition passes, or one does not.
use Rattle.std.proofs.Common.{rules, ◌≡◌, ◌∙◌, ℕ, Bool, true, false, refl, arith}
use Rattle.std.proofs.lemmas.Iterator.{cases_from_all, YieldsList-from_range}
use borrow.Author.Tests.{tests}
use Rattle.rule_kind.specs.Kinds.{cost_in}
use Rattle.transition.specs.Known.{automaton_in}
use Rattle.prices.specs.Prices.{price_in}
use Rattle.conditions.specs.Conditions.{fair_to}
use Rattle.conditions.specs.ConditionsLaws.{all-told, all-of-count}
use Rattle.conditions.proofs.all_fair.Goals as goal

pub returns : goal.returns
returns c =
    let a = c.args in
    let passes : ℕ → Bool = fair_to (cost_in a.kind a.model.file.now) (automaton_in a.model.file.now) a.l a.kind a.a a.t (price_in a.x.now) (price_in a.y.now) in
    all-told a.model.transitions passes
    (cases_from_all _ _ _ (λ r. true ≡ passes r) (λ r. false ≡ passes r) c.all.ensures.ran
    (YieldsList-from_range 0 a.model.transitions a.model.transitions refl (omega arith)) (λ x q k. search (rules, tests)) (λ x q k. search (rules, tests)))
    ∙ all-of-count a.model.known _ _ _ _ _ _ _
