-- `write_transitions` meets its contract. The invariant is `Changing`.
use Rattle.rules.specs.definitions.LowestTerms.{in_lowest}
use Rattle.rules.proofs.argument.TermsLaws.{lowest-count}
use Rattle.writer.specs.ChangedRecords.{Changing}
use Rattle.rewritten_model.proofs.write_transitions.Given as goal

abbrev pub invariant-loop-r : goal.invariant-loop-r
invariant-loop-r l = Changing in_lowest lowest-count l.model.file.now l.model.transitions l.at l.initial.out l.r l.out l.next
