-- `members_of` meets its contract. The invariant is `FillsMembers`.
use mathlib.Core.Path.{refl}
use native.Mathlib.Omega.{arith}
use Rattle.hide.specs.MembersLaws.{members-start, members-turn, members-end}
use Rattle.hide.proofs.members_of.Goals as goal

pub loop-byte-init : goal.loop-byte-init
loop-byte-init c = members-start _

pub loop-byte-preserved : goal.loop-byte-preserved
loop-byte-preserved c = members-turn c.loop-byte.invariant (omega arith) (omega (arith, c.type_inv.set c.loop-byte.byte-index)) refl

pub returns : goal.returns
returns c = members-end c.loop-byte.invariant (omega arith)
