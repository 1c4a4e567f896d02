-- `compare` meets its contract: 27, or yes or no by the blocks.
use mathlib.Core.Path.{refl, sym, ◌∙◌}
use Rattle.fault.specs.FaultsLaws.{refuses}
use Rattle.answer.specs.AnsweredLaws.{without-as}
use Rattle.alike.specs.Alike.{named}
use Rattle.alike.specs.AlikeLaws.{states-inside}
use Rattle.alike.proofs.compare.Goals as goal

pub same_block-requires : goal.same_block-requires
same_block-requires c = let a = c.args in states-inside a.blocks.now (named a.first_count a.first a.second) (sym c.in-Ok.ensures)

pub returns-in-Ok : goal.returns-in-Ok
returns-in-Ok c =
    record {
      answer = without-as _ 0 c.written.ensures c.in-Ok.ensures refl;
      parted = λ n. absurd (n (sym c.in-Ok.ensures));
      said = λ z. c.same_block.ensures;
    }

pub returns-in-Err : goal.returns-in-Err
returns-in-Err c =
    let e = c.in-Err.ensures in
    rw c.unsaid.ensures (
    record {
      answer = without-as _ 0 c.refused.ensures e refl;
      parted = λ n. refl;
      said = λ z. absurd (refuses _ (e ∙ z));
    }
    )
