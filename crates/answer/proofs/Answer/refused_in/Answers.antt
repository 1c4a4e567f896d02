-- `Answer::refused_in` meets its contract: that of the fault by its number.
use native.Mathlib.Omega.{arith}
use Rattle.std.specs.Prelude.{ℕ}
use mathlib.Core.Path.{refl, ap₂, ◌∙◌}
use Rattle.rules.specs.definitions.Faults as rules
use Rattle.rules.specs.definitions.Answers.{refusal_in}
use Rattle.answer.proofs.Answer.refused_in.Goals as goal

pub refusal_in-requires : goal.refusal_in-requires
refusal_in-requires c = omega (arith, c.requires, c.of.ensures.at)

pub returns : goal.returns
returns c =
    let said = c.refusal_in.ensures in
    let same = c.of.ensures in
    record { answer = said.answer ∙ ap₂ (λ (f : rules.Fault) (place : ℕ). refusal_in f c.args.file place c.args.size) same.is same.at; wrote = said.wrote }
