-- `write_sheet` meets its contract: the sheet was written, or there was no room for it.
use native.Mathlib.Omega.{arith}
use Rattle.answer.specs.AnsweredLaws.{gives-file}
use Rattle.sheet_blocks.specs.BlocksLaws.{small-blocks}
use Rattle.sheet.proofs.write_sheet.Goals as goal

pub start-requires : goal.start-requires
start-requires c =
    let blocks = c.requires in
    (omega (arith, blocks.few), omega arith, small-blocks _ blocks, c.no_rows-rows.ensures.whole)

pub returns : goal.returns
returns c = gives-file 28 _ _ c.write_sheet-size.ensures c.of_file.ensures
