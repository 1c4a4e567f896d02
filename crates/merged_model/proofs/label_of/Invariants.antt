-- `label_of` meets its contract. The invariant: the states left have the label of all.
use mathlib.Core.Path.{◌≡◌}
use lib.ListN.{drop}
use Rattle.quotient.specs.definitions.Quotient.{label_of_block}
use Rattle.merged_model.proofs.label_of.Given as goal

abbrev pub invariant-loop-v : goal.invariant-loop-v
invariant-loop-v l = label_of_block (drop l.v l.blocks) (drop l.v l.labels) l.b ≡ label_of_block l.blocks l.labels l.b
