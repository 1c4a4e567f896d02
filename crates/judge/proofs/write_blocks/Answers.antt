-- `write_blocks` meets its contract: the blocks are copied.
use Rattle.std.specs.Prelude.{List, ◌++◌, length, drop, ℕ}
use Rattle.std.proofs.Common.{sym, ◌∙◌, ap, arith}
use lib.Seq.{take_all}
use Rattle.judge.specs.JudgeLaws.{copied}
use Rattle.judge.proofs.write_blocks.Goals as goal

pub returns : goal.returns
returns c =
    let blocks = c.args.blocks.now in
    copied _ _ _ (ap (λ (l : List ℕ). l ++ drop (length blocks) c.args.out.now) (c.copy_from_slice.ensures.after ∙ sym (take_all (length blocks) blocks (omega arith)))) c.written.ensures
