-- `write_model` meets its contract: the head, the labels and the transitions, each behind the one before it.
use native.Mathlib.Omega.{arith}
use Rattle.rules.specs.definitions.Bytes.{two_bytes}
use Rattle.largest_pair.proofs.argument.LargestLaws.{length-zeros}
use Rattle.largest.specs.LargestLaws.{model-written}
use Rattle.largest.proofs.write_model.Goals as goal

pub write_zeros-records-requires : goal.write_zeros-records-requires
unfolding two_bytes
write_zeros-records-requires c =
    omega (arith, c.head-labels.ensures.place, c.head-labels.ensures.size)

pub write_repeated-requires : goal.write_repeated-requires
unfolding two_bytes
write_repeated-requires c =
    omega (arith, c.head-labels.ensures.place, c.head-labels.ensures.size, c.write_zeros-records.ensures.place, c.write_zeros-records.ensures.size, length-zeros c.args.n)

pub returns : goal.returns
returns c =
    model-written _ _ c.head-labels.ensures c.write_zeros-records.ensures c.write_repeated.ensures
