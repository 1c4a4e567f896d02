-- `give` meets its contract.
use Rattle.signed.specs.TermsLaws.{plus-back}
use Rattle.remainders.proofs.give.Goals as goal

pub add-requires : goal.add-requires
add-requires c = rw (plus-back c.requires.1) c.requires.0

pub returns : goal.returns
returns c = rw (plus-back c.requires.1) at c.add.ensures
