-- `action_of` meets its contract. The invariant: the name is new to the names before i.
use Rattle.prism_names.specs.Names.{between}
use Rattle.prism_names.specs.NamesLaws.{NewTo}
use Rattle.prism_names.proofs.action_of.Given as goal

abbrev pub invariant-loop-i : goal.invariant-loop-i
invariant-loop-i l = NewTo l.text l.names (between l.text l.from l.to) l.i
