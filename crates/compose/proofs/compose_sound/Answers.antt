-- `compose_sound` meets its contract: 37 by states or labels, or what the moves say.
use mathlib.Core.Path.{sym, ◌∙◌}
use native.Mathlib.Omega.{arith}
use Rattle.compose.specs.ComposeLaws.{few-pairs, small-highest, small-label, many-pairs, states-within, limit-passed}
use Rattle.compose.proofs.compose_sound.Goals as goal

pub highest_label-own-requires : goal.highest_label-own-requires
highest_label-own-requires c =
    let known = c.requires.one.known.known in
    (known.states, known.labels)

pub highest_label-highest-requires : goal.highest_label-highest-requires
highest_label-highest-requires c =
    let known = c.requires.known in
    (known.states, known.labels)

pub overflow_mul-m : goal.overflow_mul-m
overflow_mul-m c = omega (arith, few-pairs c.requires)

pub overflow_add-highest : goal.overflow_add-highest
overflow_add-highest c =
    omega (arith, small-highest c.requires c.highest_label-own.ensures c.highest_label-highest.ensures)

pub overflow_mul-own : goal.overflow_mul-own
overflow_mul-own c =
    omega (arith, small-label c.requires c.highest_label-own.ensures c.highest_label-highest.ensures)

pub overflow_add-own : goal.overflow_add-own
overflow_add-own c =
    let own = c.highest_label-own.ensures in
    let highest = c.highest_label-highest.ensures in
    omega (arith, small-label c.requires own highest, small-highest c.requires own highest)

pub returns-then-passes_states : goal.returns-then-passes_states
returns-then-passes_states c =
    let over = sym c.if-passes_states.true ∙ c.passes_states.ensures in
    limit-passed _ (many-pairs c.requires c.highest_label-own.ensures c.highest_label-highest.ensures over)
    c.refused.ensures

pub overflow_add-highest-2 : goal.overflow_add-highest-2
overflow_add-highest-2 c =
    omega (arith, small-highest c.requires c.highest_label-own.ensures c.highest_label-highest.ensures)

pub compose_moves-requires : goal.compose_moves-requires
compose_moves-requires c =
    let within = sym c.if-passes_states.false ∙ c.passes_states.ensures in
    states-within c.requires c.highest_label-own.ensures c.highest_label-highest.ensures within
