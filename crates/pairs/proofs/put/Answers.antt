-- `put` meets its contract: the store puts the bit.
use Rattle.pairs.specs.RowsLaws.{put-stored}
use Rattle.pairs.proofs.put.Goals as goal
use Rattle.pairs.proofs.put.Goals.{then-related, else-related}

pub returns : goal.returns
returns c =
    put-stored _ _ _ _ c.word_of-at.ensures.0 c.bit_in-bit.ensures.0
    (elim c.if-related.branch [
      | then-related w ↦ rw (w.rows-is, w.if-related.true) w.with.ensures
      | else-related w ↦ rw (w.rows-is, w.if-related.false) w.without.ensures
    ])
