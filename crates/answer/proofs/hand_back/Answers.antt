-- `hand_back` meets its contract: the answer's stretch lies in its file, and is the part handed back.
use native.Mathlib.Omega.{arith}
use Rattle.answer.specs.HandingLaws.{in-second, names-first, in-first, from_second, from_first, off-as}
use borrow.Author.Rules.{rules}
use Rattle.answer.proofs.hand_back.Goals as goal

pub overflow_add-result : goal.overflow_add-result
overflow_add-result c = omega (arith, in-second c.requires (omega (arith, c.if-answer-eq2.true)), c.well_formed.1.0.0)

pub slice_bounds-result-end : goal.slice_bounds-result-end
slice_bounds-result-end c = omega (arith, in-second c.requires (omega (arith, c.if-answer-eq2.true)))

pub returns-then-answer-eq2 : goal.returns-then-answer-eq2
returns-then-answer-eq2 c = off-as (from_second _ _ _ _ _ (omega (arith, c.if-answer-eq2.true))) (search rules)

pub overflow_add-result-2 : goal.overflow_add-result-2
overflow_add-result-2 c = let pre = c.requires in omega (arith, in-first pre (names-first pre (λ z. omega (arith, z, c.if-answer-eq2.false))), c.well_formed.0.0)

pub slice_bounds-result-end-2 : goal.slice_bounds-result-end-2
slice_bounds-result-end-2 c = let pre = c.requires in omega (arith, in-first pre (names-first pre (λ z. omega (arith, z, c.if-answer-eq2.false))))

pub returns : goal.returns
returns c =
    let first = names-first c.requires (λ z. omega (arith, z, c.if-answer-eq2.false)) in
    off-as (from_first _ _ _ _ _ first) (search rules)
