-- `write_records` meets its contract: the raised records stand behind the first's.
use Rattle.joined_file.specs.JoinedFileLaws.{records-written}
use Rattle.joined_file.proofs.write_records.Goals as goal

pub returns : goal.returns
returns c =
    let a = c.args in
    records-written a.first.now a.start c.part-next.ensures c.write_transitions.ensures
