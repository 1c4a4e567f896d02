-- `write_choice` meets its contract: the fixed fields, and then the entries.
use native.Mathlib.Omega.{arith}
use Rattle.rules.specs.definitions.Bytes.{two_bytes}
use Rattle.prism_choice.specs.TargetsLaws.{choice-written}
use Rattle.prism_choice.proofs.write_choice.Goals as goal

pub write_targets-requires : goal.write_targets-requires
unfolding two_bytes
write_targets-requires c =
    let h = c.requires in
    let f = c.fixed-entries.ensures in
    (h.targets, h.divides, omega (arith, h.room, f.place, f.size))

pub returns : goal.returns
returns c =
    choice-written _ _ _ _ _ c.fixed-entries.ensures c.write_targets.ensures
