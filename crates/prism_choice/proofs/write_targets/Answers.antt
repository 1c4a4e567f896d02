-- `write_targets` meets its contract. The invariant: the entries of the targets before this one are appended.
use native.Mathlib.Omega.{arith}
use Prim.Native.Nat.{◌<◌}
use Rattle.rules.specs.definitions.Bytes.{two_bytes}
use Rattle.std.proofs.lemmas.List.{get_or-take}
use Rattle.prism_choice.specs.TargetsLaws.{divided-none, divided-more}
use Rattle.prism_choice.proofs.write_targets.Goals as goal

pub loop-target-init : goal.loop-target-init
loop-target-init c = (omega arith, divided-none _ _ (omega (arith, c.requires)))

pub loop-target-preserved : goal.loop-target-preserved
unfolding two_bytes
loop-target-preserved c =
    let l = c.loop-target in
    let e = c.entry-next.ensures in
    let less : l.target-index < c.args.count = omega arith in
    (omega (arith, e.place, l.invariant.0), divided-more _ _ l.target-index l.invariant.1 (rw get_or-take at e))
