-- `large_ks` meets its contract. The invariant is `Looking`.
use native.Mathlib.Omega.{arith}
use Rattle.rewritten_flows.specs.KsLaws.{ks-entry, looking-start, looking-large, looking-turn, looking-end}
use Rattle.rewritten_flows.proofs.large_ks.Goals as goal

pub loop-init : goal.loop-init
loop-init c = looking-start (omega arith) c.requires

pub multiplied-k-requires : goal.multiplied-k-requires
multiplied-k-requires c = ks-entry _ c.loop.invariant.ready (omega arith)

pub returns-then-k-gt-HIGHEST_K : goal.returns-then-k-gt-HIGHEST_K
returns-then-k-gt-HIGHEST_K c =
    looking-large _ c.loop.invariant (omega arith) c.multiplied-k.ensures (omega arith)

pub loop-preserved : goal.loop-preserved
loop-preserved c =
    looking-turn c.loop.invariant (omega arith) c.multiplied-k.ensures (omega arith)

pub returns : goal.returns
returns c = looking-end _ c.loop.invariant (omega arith)
