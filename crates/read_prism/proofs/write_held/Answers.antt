-- `write_held` meets its contract: the last choice ends, and the file was written, or there was no room for it.
use Rattle.prism_step.specs.PartLaws.{can-end}
use Rattle.read_prism.specs.PrismLaws.{can-write-file, held-written}
use Rattle.read_prism.proofs.write_held.Goals as goal

pub end_choice-used-requires : goal.end_choice-used-requires
end_choice-used-requires c =
    let asked = c.requires in
    can-end asked.holds asked.most asked.room

pub write_file-size-requires : goal.write_file-size-requires
write_file-size-requires c =
    can-write-file c.requires c.end_choice-used.ensures

pub returns : goal.returns
returns c =
    held-written c.requires c.end_choice-used.ensures c.write_file-size.ensures c.of_file.ensures
