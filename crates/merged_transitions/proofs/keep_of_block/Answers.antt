-- `keep_of_block` meets its contract: a repeated record is written over by the next.
use native.Mathlib.Omega.{arith}
use mathlib.Core.Path.{refl}
use Rattle.merged_transitions.specs.MergedTransitionsLaws.{can-merge, few-kept, stands, keep-repeated, keep-new}
use Rattle.merged_transitions.proofs.keep_of_block.Goals as goal

pub write_merged-next-requires : goal.write_merged-next-requires
write_merged-next-requires c = can-merge c.args.model.known c.requires

pub overflow_add-longer : goal.overflow_add-longer
overflow_add-longer c = omega (arith, few-kept c.args.model.known c.requires)

pub is_repeated-requires : goal.is_repeated-requires
is_repeated-requires c =
    record { next = _; states = _; actions = _; kept = _; last = _; stands = stands c.args.model.known c.requires c.write_merged-next.ensures }

pub returns-then-is_repeated : goal.returns-then-is_repeated
returns-then-is_repeated c =
    keep-repeated c.args.model.known c.requires c.write_merged-next.ensures c.if-is_repeated.true c.is_repeated.ensures

pub returns : goal.returns
returns c =
    keep-new c.args.model.known c.requires c.write_merged-next.ensures c.if-is_repeated.false c.is_repeated.ensures refl
