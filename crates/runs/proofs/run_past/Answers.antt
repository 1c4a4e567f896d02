-- `run_past` meets its contract. The invariant: the transitions passed leave the state.
use Rattle.std.proofs.Common.{◌≡◌, arith}
use Rattle.transition.specs.Known.{automaton_in}
use Rattle.transition.specs.KnownLaws.{known-transition}
use Rattle.runs.specs.RunsLaws.{leave-more}
use Rattle.runs.proofs.run_past.Goals as goal

pub fields_of-source-requires : goal.fields_of-source-requires
fields_of-source-requires c = known-transition c.requires.0 (omega arith)

pub returns-then-source-state : goal.returns-then-source-state
returns-then-source-state c =
    record {
      from = omega arith;
      most = omega arith;
      leave = c.loop-past.invariant;
      stops = λ h e. omega (arith, e, c.if-source-state.true, c.fields_of-source.ensures.source);
    }

pub loop-past-preserved : goal.loop-past-preserved
loop-past-preserved c =
    leave-more (automaton_in c.args.s.now) c.loop-past.invariant (omega (arith, c.if-source-state.false, c.fields_of-source.ensures.source))

pub returns : goal.returns
returns c =
    let e : c.loop-past.past ≡ c.args.count = omega arith in
    record { from = omega arith; most = omega arith; leave = rw e at c.loop-past.invariant; stops = λ h. absurd (omega arith) }
