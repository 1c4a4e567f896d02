-- `price_count` meets its contract: A, B where there is a move, G, and L.
use mathlib.Core.Path.{sym, ◌∙◌}
use native.Mathlib.Omega.{arith}
use Rattle.rule_kind.specs.StepsLaws.{prices-with-move, prices-without-move, prices-most}
use Rattle.rule_kind.proofs.price_count.Goals as goal

pub overflow_add-result : goal.overflow_add-result
overflow_add-result c =
    let a = c.args in
    let all = prices-with-move a.kind a.n a.challenger (sym c.has_move.ensures ∙ c.if-has_move.true) in
    record { fits = omega (arith, c.first_prices-first.ensures, c.further_prices-further.ensures, all, prices-most a.kind a.n a.challenger) }

pub overflow_add-result-then-has_move : goal.overflow_add-result-then-has_move
overflow_add-result-then-has_move c =
    let a = c.args in
    let all = prices-with-move a.kind a.n a.challenger (sym c.has_move.ensures ∙ c.if-has_move.true) in
    record { fits = omega (arith, c.first_prices-first.ensures, c.further_prices-further.ensures, all, prices-most a.kind a.n a.challenger) }

pub returns-then-has_move : goal.returns-then-has_move
returns-then-has_move c =
    let a = c.args in
    omega (arith, c.first_prices-first.ensures, c.further_prices-further.ensures, prices-with-move a.kind a.n a.challenger (sym c.has_move.ensures ∙ c.if-has_move.true))

pub overflow_add-result-2 : goal.overflow_add-result-2
overflow_add-result-2 c =
    let a = c.args in
    let all = prices-without-move a.kind a.n a.challenger (sym c.has_move.ensures ∙ c.if-has_move.false) in
    record { fits = omega (arith, c.first_prices-first.ensures, c.further_prices-further.ensures, all, prices-most a.kind a.n a.challenger) }

pub overflow_add-result-3 : goal.overflow_add-result-3
overflow_add-result-3 c =
    let a = c.args in
    let all = prices-without-move a.kind a.n a.challenger (sym c.has_move.ensures ∙ c.if-has_move.false) in
    record { fits = omega (arith, c.first_prices-first.ensures, c.further_prices-further.ensures, all, prices-most a.kind a.n a.challenger) }

pub returns : goal.returns
returns c =
    let a = c.args in
    omega (arith, c.first_prices-first.ensures, c.further_prices-further.ensures, prices-without-move a.kind a.n a.challenger (sym c.has_move.ensures ∙ c.if-has_move.false))
