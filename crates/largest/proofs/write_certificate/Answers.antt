-- `write_certificate` meets its contract: the head, the blocks and the flows, each behind the one before it.
use native.Mathlib.Omega.{arith}
use Rattle.largest_pair.proofs.argument.LargestLaws.{length-zeros}
use Rattle.largest.specs.LargestLaws.{certificate-written}
use Rattle.largest.proofs.write_certificate.Goals as goal

pub write_flows-requires : goal.write_flows-requires
write_flows-requires c =
    (c.requires.0, c.requires.1, omega (arith, c.requires.2, c.part-blocks.ensures.place, c.part-blocks.ensures.size, c.write_zeros-flows.ensures.place, c.write_zeros-flows.ensures.size, length-zeros c.args.n))

pub returns : goal.returns
returns c =
    certificate-written _ _ c.part-blocks.ensures c.write_zeros-flows.ensures c.write_flows.ensures
