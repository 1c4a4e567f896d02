-- `write_labels` meets its contract: the second's labels stand behind the first's.
use Rattle.joined_file.specs.JoinedFileLaws.{labels-written}
use Rattle.joined_file.proofs.write_labels.Goals as goal

pub returns : goal.returns
returns c =
    let a = c.args in
    labels-written a.first.now a.second.now a.k a.n c.part-next.ensures c.part.ensures
