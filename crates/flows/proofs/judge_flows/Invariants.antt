-- `judge_flows` meets its contract. Before each flow the questions left are judged as all are (`Going`); the loops go through the
-- questions of a state, of a state against t, and of the transitions of the run.
use Rattle.std.proofs.Common.{◌-◌, ◌≡◌, None}
use Rattle.rule_kind.specs.Kinds.{rule_of}
use Rattle.transition.specs.Known.{automaton_in}
use Rattle.runs.specs.Runs.{Splits}
use Rattle.flows.specs.Going.{left_states, left_defenders, left_run, Going}
use Rattle.flows.specs.GoingLaws.{Asked}
use Rattle.flows.proofs.judge_flows.Given as goal

abbrev pub invariant-loop-r : goal.invariant-loop-r
invariant-loop-r l =
    (l.refused ≡ None) × Going (rule_of l.kind l.model.file.now) l.model.file.now l.cert l.model.states l.rows l.blocks (left_run (rule_of l.kind l.model.file.now) l.model.file.now l.cert l.model.states l.rows l.blocks l.state l.t l.r l.past) l.remainders l.target l.place.at

abbrev pub invariant-loop-t : goal.invariant-loop-t
invariant-loop-t l =
    (l.refused ≡ None) × Asked l.rows l.model.states l.state l.t × Going (rule_of l.kind l.model.file.now) l.model.file.now l.cert l.model.states l.rows l.blocks (left_defenders (rule_of l.kind l.model.file.now) l.model.file.now l.cert l.model.states l.rows l.blocks l.state l.t) l.remainders l.target l.place.at

abbrev pub decreases-loop-t : goal.decreases-loop-t
decreases-loop-t l =
    l.model.states - l.t

abbrev pub invariant-flows : goal.invariant-flows
invariant-flows l =
    (l.refused ≡ None) × Splits (automaton_in l.model.file.now) l.model.transitions l.state l.first × Going (rule_of l.kind l.model.file.now) l.model.file.now l.cert l.model.states l.rows l.blocks (left_states (rule_of l.kind l.model.file.now) l.model.file.now l.cert l.model.states l.rows l.blocks l.state) l.remainders l.target l.place.at
