-- `first_large` meets its contract. The invariant is `Searching`.
use mathlib.Core.Path.{sym, ◌∙◌}
use native.Mathlib.Omega.{arith}
use Rattle.rewritten_flows.specs.FlowLoops.{search-start, search-inside, search-end, search-first, search-asks, search-behind, search-large, search-past, search-turn}
use Rattle.rewritten_flows.proofs.first_large.Goals as goal

pub loop-at-init : goal.loop-at-init
loop-at-init c = search-start c.requires

pub overflow_add-at : goal.overflow_add-at
overflow_add-at c = omega (arith, search-inside c.loop-at.invariant)

pub pair-ks-requires : goal.pair-ks-requires
pair-ks-requires c = omega (arith, c.new.ensures, search-first c.loop-at.invariant (omega arith))

pub large_ks-requires : goal.large_ks-requires
large_ks-requires c = search-asks c.loop-at.invariant (omega arith) c.pair-ks.ensures c.new.ensures

pub returns-then-large_ks : goal.returns-then-large_ks
returns-then-large_ks c =
    search-large c.loop-at.invariant (omega arith) c.pair-ks.ensures c.new.ensures (sym c.if-large_ks.true ∙ c.large_ks.ensures)

pub overflow_add-behind : goal.overflow_add-behind
overflow_add-behind c = omega (arith, search-first c.loop-at.invariant (omega arith))

pub overflow_mul-behind : goal.overflow_mul-behind
overflow_mul-behind c = omega (arith, c.pair-ks.ensures.small)

pub overflow_add-behind-in-loop-at : goal.overflow_add-behind-in-loop-at
overflow_add-behind-in-loop-at c =
    omega (arith, search-behind c.loop-at.invariant (omega arith) c.pair-ks.ensures c.new.ensures)

pub pair-ws-requires : goal.pair-ws-requires
pair-ws-requires c =
    omega (arith, c.new-in-loop-at.ensures, search-behind c.loop-at.invariant (omega arith) c.pair-ks.ensures c.new.ensures)

pub overflow_add-at-in-loop-at : goal.overflow_add-at-in-loop-at
overflow_add-at-in-loop-at c =
    omega (arith, search-behind c.loop-at.invariant (omega arith) c.pair-ks.ensures c.new.ensures)

pub overflow_mul-at : goal.overflow_mul-at
overflow_mul-at c = omega (arith, c.pair-ws.ensures.small)

pub overflow_add-at-in-loop-at-2 : goal.overflow_add-at-in-loop-at-2
overflow_add-at-in-loop-at-2 c =
    omega (arith, search-past c.loop-at.invariant (omega arith) c.pair-ks.ensures c.new.ensures c.pair-ws.ensures c.new-in-loop-at.ensures)

pub loop-at-smaller : goal.loop-at-smaller
loop-at-smaller c =
    omega (arith, search-past c.loop-at.invariant (omega arith) c.pair-ks.ensures c.new.ensures c.pair-ws.ensures c.new-in-loop-at.ensures)

pub loop-at-preserved : goal.loop-at-preserved
loop-at-preserved c =
    search-turn c.loop-at.invariant (omega arith) c.pair-ks.ensures c.new.ensures c.pair-ws.ensures c.new-in-loop-at.ensures (sym c.if-large_ks.false ∙ c.large_ks.ensures)

pub returns : goal.returns
returns c = search-end c.loop-at.invariant (omega arith)
