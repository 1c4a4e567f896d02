-- `write_labels` meets its contract. The invariant: the labels of the blocks before b are appended.
use native.Mathlib.Omega.{arith}
use Prim.Native.Nat.{ℕ}
use mathlib.Core.Path.{◌≡◌, subst}
use Rattle.quotient.specs.definitions.Quotient.{block_labels}
use Rattle.writer.specs.Appends.{Appends}
use Rattle.writer.specs.AppendsLaws.{append-none}
use Rattle.merged_model.specs.LabelsLaws.{labels_append}
use Rattle.merged_model.proofs.write_labels.Goals as goal

pub loop-b-init : goal.loop-b-init
unfolding block_labels
loop-b-init c = (omega arith, append-none _ _ (omega (arith, c.requires)))

pub byte-next-requires : goal.byte-next-requires
byte-next-requires c =
    let l = c.loop-b in
    (omega (arith, c.requires, l.invariant.1.size, l.invariant.0), c.label_of.ensures.1)

pub loop-b-preserved : goal.loop-b-preserved
loop-b-preserved c =
    let l = c.loop-b in
    let b = c.byte-next.ensures in
    (omega (arith, b.place, l.invariant.0), labels_append _ _ l.b l.invariant.1 b c.label_of.ensures.0)

pub returns : goal.returns
returns c =
    let l = c.loop-b in
    let a = c.args in
    let e : l.b ≡ a.k = omega arith in
    subst (λ (x : ℕ). Appends (block_labels a.blocks.now a.labels.now x 0) a.at a.out.now l.out l.next) e l.invariant.1
