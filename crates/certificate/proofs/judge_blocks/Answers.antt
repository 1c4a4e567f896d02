-- `judge_blocks` meets its contract.
use Rattle.std.proofs.lemmas.Result.{err_from_is_err_and}
use Rattle.transition.specs.KnownLaws.{few-states}
use Rattle.certificate.specs.Refuting.{blocks-stops, flows-asked, blocks-passes}
use Rattle.certificate.proofs.judge_blocks.Goals as goal

pub blocks_fault-requires : goal.blocks_fault-requires
blocks_fault-requires c = (c.requires.0, few-states c.args.model.known)

pub returns-in_err-blocks_fault : goal.returns-in_err-blocks_fault
returns-in_err-blocks_fault c =
    let p = err_from_is_err_and c.from_residual.result c.from_residual.ensures.1 in
    rw (p.1, p.2) (blocks-stops c.args.model.known _ c.in_err-blocks_fault.ensures c.requires.0)

pub judge_flows-requires : goal.judge_flows-requires
judge_flows-requires c = flows-asked c.args.model.known c.in_ok-blocks_fault.ensures c.requires.1 c.in-Plain.is

pub judge_flows-requires-in-Costs : goal.judge_flows-requires-in-Costs
judge_flows-requires-in-Costs c = flows-asked c.args.model.known c.in_ok-blocks_fault.ensures c.requires.1 c.in-Costs.is

pub judge_flows-requires-in-Strong : goal.judge_flows-requires-in-Strong
judge_flows-requires-in-Strong c = flows-asked c.args.model.known c.in_ok-blocks_fault.ensures c.requires.1 c.in-Strong.is

pub returns-in-Plain : goal.returns-in-Plain
returns-in-Plain c =
    rw c.in-Plain.is (blocks-passes c.args.model.known c.in_ok-blocks_fault.ensures _ c.judge_flows.ensures)

pub returns-in-Costs : goal.returns-in-Costs
returns-in-Costs c =
    rw c.in-Costs.is (blocks-passes c.args.model.known c.in_ok-blocks_fault.ensures _ c.judge_flows-in-Costs.ensures)

pub returns-in-Strong : goal.returns-in-Strong
returns-in-Strong c =
    rw c.in-Strong.is (blocks-passes c.args.model.known c.in_ok-blocks_fault.ensures _ c.judge_flows-in-Strong.ensures)
