-- A loop over the states of a model, with the transitions that leave each.
use Rattle.std.specs.Prelude.{ℕ, ◌+◌, ◌≤◌, ◌<◌, ◌≡◌, List, length}
use Rattle.std.proofs.Common.{ap, arith}
use Rattle.bisimulation.specs.definitions.Automaton.{Automaton}
use Rattle.rules.specs.definitions.Reading.{states_of}
use Rattle.transition.specs.Known.{automaton_in, Known}
use Rattle.transition.specs.KnownLaws.{known-states, known-transitions, known-own}
use Rattle.runs.specs.Runs.{IsPast, Splits}
use Rattle.runs.specs.RunsLaws.{splits-start, splits-next}
use Rattle.writer.specs.Appends.{Appends}
use Rattle.composition.specs.definitions.Composition.{gathered}
use Rattle.writer.specs.AppendsLaws.{appended-as}
use Rattle.composed_states.specs.Needs.{IsRun}
use Rattle.composed_states.specs.Gathering.{Gathering, gathering-start, gathering-room, gathering-turn, gathering-all}

-- the bytes f of the states below v are appended, and the transitions from `first` on leave v or later ones
pub record StateLoop (A : Automaton) (count : ℕ) (f : ℕ → List ℕ) (at : ℕ) (before : List ℕ) (first v : ℕ) (out : List ℕ) (next : ℕ) : Type 0 where
  pub splits : Splits A count v first
  pub gathering : Gathering f A.states at before v out next

module _ {s table : List ℕ} {n count : ℕ} (k : Known s n count table) {records : List ℕ} {f : ℕ → List ℕ} (whole : records ≡ gathered (automaton_in s).states f) {at : ℕ} where
  pub states-start : {out : List ℕ} → at + length records ≤ length out → StateLoop (automaton_in s) count f at out 0 0 out at
  states-start room = record { splits = splits-start k; gathering = gathering-start (omega (arith, room, ap length whole)) }

  module _ {before : List ℕ} {first v : ℕ} {out : List ℕ} {next : ℕ} (l : StateLoop (automaton_in s) count f at before first v out next) where
    -- what is asked to find its run
    pub states-ask : Known s (states_of s) count table × (first ≤ count)
    states-ask = (known-own k, l.splits.most)

    pub states-end : n ≤ v → Appends records at before out next
    states-end past = appended-as whole (gathering-all l.gathering (omega (arith, past, known-states k)))

    module _ (less : v < n) where
      below : v < (automaton_in s).states
      below = omega (arith, less, known-states k)

      pub states-room : next + length (f v) ≤ length out
      states-room = gathering-room l.gathering below

      module _ {past : ℕ} (p : IsPast (automaton_in s) count v first past) where
        pub states-run : IsRun (automaton_in s) (record { state = v; first = first; past = past })
        states-run =
            let later = splits-next k l.splits p in
            record {
              state = below;
              from = p.from;
              most = omega (arith, p.most, known-transitions k);
              leave = p.leave;
              before = λ i h e. omega (arith, l.splits.below i h, e);
              after = λ i h j e. omega (arith, later.above i h (omega (arith, known-transitions k)), e);
            }

        pub states-turn : {end : ℕ} {more : List ℕ} → Appends (f v) next out more end → StateLoop (automaton_in s) count f at before past (v + 1) more end
        states-turn a = record { splits = splits-next k l.splits p; gathering = gathering-turn l.gathering below a }
