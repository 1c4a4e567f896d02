-- `judge_entries` meets its contract: each part is judged before the next is looked for.
use native.Mathlib.Omega.{arith}
use Rattle.std.proofs.Common.{Ok, Err}
use Rattle.std.proofs.lemmas.Result.{err_from_is_err_and}
use Rattle.fault.specs.FaultsLaws.{at-place}
use Rattle.transition.specs.KnownLaws.{few-states}
use Rattle.signed.specs.TermsLaws.{minus-back}
use Rattle.flow.specs.FlowJudgedLaws.{can-give, can-ask, can-take-ks, ks-taken, ks-stop, middle-inside, count_cut, count-read, ws-cut, targets-ask, can-take-ws, ws-stop, breaks, balances}
use Rattle.flow.proofs.judge_entries.Goals as goal

pub give-given-requires : goal.give-given-requires
give-given-requires c = (can-give c.args.model.known c.requires, c.requires.read.small)

pub take_ks-requires : goal.take_ks-requires
take_ks-requires c = can-take-ks c.args.model.known c.requires c.give-given.ensures

pub returns-in_default : goal.returns-in_default
returns-in_default c = ks-stop c.requires c.fields-challenger.ensures c.in_default.ensures c.fault.ensures c.at.ensures

pub overflow_sub-cert : goal.overflow_sub-cert
overflow_sub-cert c = middle-inside (ks-taken c.args.model.known c.requires c.fields-challenger.ensures c.give-given.ensures c.in-Some.ensures)

pub returns-then-cert-k-lt2 : goal.returns-then-cert-k-lt2
returns-then-cert-k-lt2 c =
    let ks = ks-taken c.args.model.known c.requires c.fields-challenger.ensures c.give-given.ensures c.in-Some.ensures in
    count_cut ks c.fault-then-cert-k-lt2.ensures c.at-then-cert-k-lt2.ensures (omega (arith, c.if-cert-k-lt2.true))

pub returns-then-cert-entries : goal.returns-then-cert-entries
returns-then-cert-entries c =
    let ks = ks-taken c.args.model.known c.requires c.fields-challenger.ensures c.give-given.ensures c.in-Some.ensures in
    let count = count-read ks c.pair-entries.ensures (omega (arith, c.if-cert-k-lt2.false, middle-inside ks)) in
    ws-cut count c.fault-then-cert-entries.ensures c.at-then-cert-entries.ensures (omega (arith, c.if-cert-entries.true))

pub arrive-asked-requires : goal.arrive-asked-requires
arrive-asked-requires c = rw (minus-back c.minus.ensures c.requires.read.small) (can-ask c.args.model.known c.requires)

pub take_ws-requires : goal.take_ws-requires
take_ws-requires c =
    let ks = ks-taken c.args.model.known c.requires c.fields-challenger.ensures c.give-given.ensures c.in-Some.ensures in
    let count = count-read ks c.pair-entries.ensures (omega (arith, c.if-cert-k-lt2.false, middle-inside ks)) in
    let asks = targets-ask count (omega (arith, c.if-cert-entries.false, c.pair-entries.ensures.next, middle-inside ks)) c.w_departure.ensures (rw (minus-back c.minus.ensures c.requires.read.small) at c.arrive-asked.ensures) in
    can-take-ws asks

pub returns-in_default-take_ws : goal.returns-in_default-take_ws
returns-in_default-take_ws c =
    let ks = ks-taken c.args.model.known c.requires c.fields-challenger.ensures c.give-given.ensures c.in-Some.ensures in
    let count = count-read ks c.pair-entries.ensures (omega (arith, c.if-cert-k-lt2.false, middle-inside ks)) in
    let asks = targets-ask count (omega (arith, c.if-cert-entries.false, c.pair-entries.ensures.next, middle-inside ks)) c.w_departure.ensures (rw (minus-back c.minus.ensures c.requires.read.small) at c.arrive-asked.ensures) in
    ws-stop asks c.in_default-take_ws.ensures c.fault-in_default-take_ws.ensures c.at-in_default-take_ws.ensures

pub verdict-judged-requires : goal.verdict-judged-requires
verdict-judged-requires c = omega (arith, few-states c.args.model.known)

pub returns-in_err-at_place : goal.returns-in_err-at_place
returns-in_err-at_place c =
    let ks = ks-taken c.args.model.known c.requires c.fields-challenger.ensures c.give-given.ensures c.in-Some.ensures in
    let count = count-read ks c.pair-entries.ensures (omega (arith, c.if-cert-k-lt2.false, middle-inside ks)) in
    let asks = targets-ask count (omega (arith, c.if-cert-entries.false, c.pair-entries.ensures.next, middle-inside ks)) c.w_departure.ensures (rw (minus-back c.minus.ensures c.requires.read.small) at c.arrive-asked.ensures) in
    let p = err_from_is_err_and c.from_residual.result c.from_residual.ensures.1 in
    rw (p.1, p.2) (breaks asks c.in-Some-take_ws.ensures c.cost_of.ensures (at-place c.verdict-judged.result (Err _) c.in_err-at_place.ensures c.verdict-judged.ensures))

pub returns : goal.returns
returns c =
    let ks = ks-taken c.args.model.known c.requires c.fields-challenger.ensures c.give-given.ensures c.in-Some.ensures in
    let count = count-read ks c.pair-entries.ensures (omega (arith, c.if-cert-k-lt2.false, middle-inside ks)) in
    let asks = targets-ask count (omega (arith, c.if-cert-entries.false, c.pair-entries.ensures.next, middle-inside ks)) c.w_departure.ensures (rw (minus-back c.minus.ensures c.requires.read.small) at c.arrive-asked.ensures) in
    balances asks c.in-Some-take_ws.ensures c.cost_of.ensures (at-place c.verdict-judged.result (Ok _) c.in_ok-at_place.ensures c.verdict-judged.ensures)
