-- `take` meets its contract.
use Rattle.signed.specs.TermsLaws.{minus-back}
use Rattle.remainders.proofs.take.Goals as goal

pub add-requires : goal.add-requires
add-requires c = rw (minus-back c.minus.ensures c.requires.1) c.requires.0

pub returns : goal.returns
returns c = rw (minus-back c.minus.ensures c.requires.1) at c.add.ensures
