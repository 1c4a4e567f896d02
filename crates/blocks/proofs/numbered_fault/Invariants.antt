-- `numbered_fault` meets its contract. The invariant: the blocks left have the fault of all.
use Prim.Native.Nat.{◌+◌, ◌-◌, ◌≤◌}
use mathlib.Core.Path.{◌≡◌}
use Rattle.rules.specs.definitions.Certificate.{numbered_fault}
use Rattle.blocks.proofs.numbered_fault.Given as goal

abbrev pub invariant-loop-byte : goal.invariant-loop-byte
invariant-loop-byte l =
    (l.seen ≤ l.byte-index) × (numbered_fault l.cert (l.n - l.byte-index) (l.at + l.byte-index) l.seen ≡ numbered_fault l.cert l.n l.at 0)
