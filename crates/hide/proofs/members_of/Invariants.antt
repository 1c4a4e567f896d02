-- `members_of` meets its contract. The invariant is `FillsMembers`.
use Rattle.hide.specs.MembersLaws.{FillsMembers}
use Rattle.hide.proofs.members_of.Given as goal

abbrev pub invariant-loop-byte : goal.invariant-loop-byte
invariant-loop-byte l = FillsMembers l.set l.byte-index l.members
