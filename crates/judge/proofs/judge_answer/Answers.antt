-- `judge_answer` meets its contract: the head is refused, or the rest of the pair is judged.
use native.Mathlib.Omega.{arith}
use Rattle.rules.specs.definitions.Bytes.{byte_at}
use Rattle.rules.specs.definitions.SoundModel.{Bytes}
use Rattle.judge.specs.JudgeLaws.{pair-refused}
use Rattle.rule_kind.specs.declared.Kind.TheVariants.{Plain}
use Rattle.judge.proofs.judge_answer.Goals as goal

pub returns-in-Err : goal.returns-in-Err
unfolding Bytes byte_at
returns-in-Err c =
    let a = c.args in
    pair-refused Plain (λ i h. omega (arith, c.shared_slice_known-1.given i)) (λ i h. omega (arith, c.shared_slice_known-2-1.given i))
    a.blocks.now (c.in-Err.ensures.refused Plain _ _ _)
