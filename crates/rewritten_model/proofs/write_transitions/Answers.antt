-- `write_transitions` meets its contract. The invariant is `Changing`.
use native.Mathlib.Omega.{arith}
use Rattle.rules.specs.definitions.LowestTerms.{in_lowest}
use Rattle.rules.proofs.argument.TermsLaws.{lowest-count}
use Rattle.writer.specs.ChangedRecords.{changing-start, changing-turn, changing-end}
use Rattle.rewritten_model.specs.WritingLaws.{record-asks}
use Rattle.rewritten_model.proofs.write_transitions.Goals as goal

pub loop-r-init : goal.loop-r-init
loop-r-init c = let a = c.requires in let k = c.args.model.known in changing-start in_lowest lowest-count k.transitions (omega (arith, a.place, k.labels, k.states, a.room))

pub offset_bounds-divisors-r : goal.offset_bounds-divisors-r
offset_bounds-divisors-r c = omega (arith, c.requires.held.few)

pub bounds-divisors-r : goal.bounds-divisors-r
bounds-divisors-r c = omega (arith, c.requires.held.few)

pub write_transition-next-requires : goal.write_transition-next-requires
write_transition-next-requires c = record-asks c.args.model.known c.requires c.loop-r.invariant (omega arith)

pub loop-r-preserved : goal.loop-r-preserved
loop-r-preserved c =
    changing-turn in_lowest lowest-count c.loop-r.invariant (omega arith) c.write_transition-next.ensures

pub shape_of-out : goal.shape_of-out
shape_of-out c = c.loop-r.invariant.ahead.size

pub returns : goal.returns
returns c = changing-end in_lowest lowest-count c.loop-r.invariant (omega arith)
