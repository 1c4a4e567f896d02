-- Document 02, K1: 'Write both as one: the second's states and transitions follow the first's, its state numbers raised by the first's n, m
-- the larger, labels kept.' No sizes enter.
use Rattle.std.specs.Prelude.{ℕ, ◌+◌, List, ◌++◌, map, length}
use Rattle.bisimulation.specs.definitions.Joined.{larger}
use Rattle.rules.specs.definitions.Model.{Entry, Transition, Model, model_bytes}

-- 'its state numbers raised by the first's n'
unfoldable pub raised_entry : ℕ → Entry → Entry
raised_entry n e = record { state = n + e.state; weight = e.weight }

unfoldable pub raised_transition : ℕ → Transition → Transition
raised_transition n t =
    record { source = n + t.source; action = t.action; denominator = t.denominator; entries = map (raised_entry n) t.entries }

-- the joined model
unfoldable pub joined : Model → Model → Model
joined M N =
    record {
      actions = larger M.actions N.actions;
      labels = M.labels ++ N.labels;
      transitions = M.transitions ++ map (raised_transition (length M.labels)) N.transitions;
    }

-- its file
abbrev pub joined_file : Model → Model → List ℕ
joined_file M N = model_bytes (joined M N)
