-- A loop over the transitions that leave a state.
use Rattle.std.specs.Prelude.{ℕ, ◌+◌, ◌≤◌, ◌<◌, ◌≡◌, List, [], length}
use Rattle.std.proofs.Common.{ap, arith}
use Rattle.bisimulation.specs.definitions.Automaton.{Automaton}
use Rattle.writer.specs.Appends.{Appends}
use Rattle.composition.specs.definitions.Composition.{gathered}
use Rattle.writer.specs.AppendsLaws.{appended-as}
use Rattle.composed_states.specs.declared.Run.{Run}
use Rattle.composed_states.specs.Needs.{IsRun}
use Rattle.composed_states.specs.Gathering.{Gathering, gathering-from, gathering-room, gathering-turn, gathering-end}

-- records gathered from all transitions: g's of those that leave a state, and none of others
pub record OfRun (A : Automaton) (run : Run) (records : List ℕ) (f g : ℕ → List ℕ) : Type 0 where
  pub is : IsRun A run
  pub whole : records ≡ gathered A.transitions f
  pub leaving : (i : ℕ) → A.source i ≡ run.state → f i ≡ g i
  pub other : (i : ℕ) → (A.source i ≡ run.state → ⊥) → f i ≡ []

-- those below i are appended
pub record RunLoop (A : Automaton) (run : Run) (f : ℕ → List ℕ) (at : ℕ) (before : List ℕ) (i : ℕ) (out : List ℕ) (next : ℕ) : Type 0 where
  pub from : run.first ≤ i
  pub gathering : Gathering f A.transitions at before i out next

module _ {A : Automaton} {run : Run} {records : List ℕ} {f g : ℕ → List ℕ} (o : OfRun A run records f g) where
  pub run-start : {at : ℕ} {out : List ℕ} → at + length records ≤ length out → RunLoop A run f at out run.first out at
  run-start room =
      record {
        from = omega arith;
        gathering =
            gathering-from run.first (omega (arith, o.is.from, o.is.most)) (λ i l. o.other i (o.is.before i l))
            (omega (arith, room, ap length o.whole));
      }

  module _ {at : ℕ} {before : List ℕ} {i : ℕ} {out : List ℕ} {next : ℕ} (l : RunLoop A run f at before i out next) where
    pub run_room : i < run.past → next + length (g i) ≤ length out
    run_room less =
        omega
        (arith, gathering-room l.gathering (omega (arith, less, o.is.most)), ap length (o.leaving i (o.is.leave i l.from less)))

    pub run-turn : {past : ℕ} {more : List ℕ} → i < run.past → Appends (g i) next out more past → RunLoop A run f at before (i + 1) more past
    run-turn {past} {more} less a =
        record {
          from = omega (arith, l.from);
          gathering =
              gathering-turn l.gathering (omega (arith, less, o.is.most))
              (appended-as (o.leaving i (o.is.leave i l.from less)) a);
        }

    pub run_end : run.past ≤ i → Appends records at before out next
    run_end past = appended-as o.whole (gathering-end l.gathering (λ j p less. o.other j (o.is.after j (omega arith) less)))
