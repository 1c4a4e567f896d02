-- `take_k` meets its contract: the transition arrives, then leaves.
use Rattle.signed.specs.TermsLaws.{plus-back, minus-back}
use Rattle.entries_k.specs.KEntriesLaws.{can-arrive, can-leave, took-k}
use Rattle.entries_k.proofs.take_k.Goals as goal

pub arrive-arrived-requires : goal.arrive-arrived-requires
arrive-arrived-requires c =
    rw (plus-back c.requires.small, c.arrival.ensures) (can-arrive c.args.model.known c.requires c.args.layer)

pub leave-requires : goal.leave-requires
leave-requires c =
    let arrival = c.arrival in
    let b = rw (plus-back c.requires.small, arrival.ensures) at c.arrive-arrived.ensures in
    rw (minus-back c.minus.ensures c.requires.small, c.departure.ensures) (can-leave c.args.model.known c.requires c.args.layer b)

pub returns : goal.returns
returns c =
    let arrival = c.arrival in
    let b = rw (plus-back c.requires.small, arrival.ensures) at c.arrive-arrived.ensures in
    let e = rw (minus-back c.minus.ensures c.requires.small, c.departure.ensures) at c.leave.ensures in
    took-k c.args.model.known c.requires c.args.layer b e
