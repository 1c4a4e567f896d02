-- What the writers of the left's moves need of their callees, and what they get.
use Rattle.std.specs.Prelude.{ℕ, ◌<◌, ◌≡◌, refl, Bool, true, false, List, length}
use Rattle.std.proofs.Common.{sym, ◌∙◌, arith}
use Rattle.std.proofs.Math.Path.{ap}
use Rattle.transition_record.specs.declared.Fields.{Fields}
use Rattle.composed_size.specs.declared.Side.{Side}
use Rattle.composed_size.specs.Sides.{two-sides}
use Rattle.transition.specs.Known.{automaton_in, KnownTransition, FieldsOf}
use Rattle.transition.specs.KnownLaws.{known-states, known-transitions, known-transition}
use Rattle.writer.specs.Appends.{Appends}
use Rattle.writer.specs.AppendsLaws.{appended-as, append-none}
use Rattle.composition.specs.definitions.Composition.{shared_below, is_shared, moved}
use Rattle.composed_size.specs.CountedLaws.{shared-sides}
use Rattle.composed_moves.specs.MoveRecords.{left_record, together_record, CanWriteLeft, CanWriteTogether}
use Rattle.composed_states.specs.declared.Run.{Run}
use Rattle.composed_states.specs.Records.{partner_record, partner_records, left_move_records, left_records}
use Rattle.composed_states.specs.Needs.{IsRun, CanWriteMoves, CanWritePartner, CanWritePartners}
use Rattle.composed_states.specs.RunLoops.{RunLoop, run_room}
use Rattle.composed_states.specs.RecordsLaws.{partner-none, partner-one, partners-of-run, left_alone_lem, left-together, left-of-run}
use Rattle.composed_states.specs.ModelsLaws.{left-known, right-known, right-states, states-fit, together-fits}

-- one partner
module _ {left : Side} {q action : ℕ} {right : Side} {r : ℕ} {out : List ℕ} {at : ℕ} (p : CanWritePartner left q action right r out at) where
  pub partner-known : KnownTransition right.file.now right.places.now r
  partner-known = let k = right-known p.of.models in known-transition k (omega (arith, p.transition, known-transitions k))

  module _ {f : Fields} (t : FieldsOf right.file.now r f) where
    pub partner-other : (f.action ≡ action → ⊥) → Appends (partner_record left.file.now right.file.now q ((automaton_in right.file.now).source r) r) at out out at
    partner-other other =
        appended-as (partner-none left.file.now right.file.now q r (λ e. other (t.action ∙ e ∙ sym p.of.by))) (append-none out at (omega (arith, p.room)))

    is-together : f.action ≡ action → partner_record left.file.now right.file.now q ((automaton_in right.file.now).source r) r ≡ together_record left.file.now right.file.now right.model.states q r
    unfolding moved
    is-together e =
        partner-one left.file.now right.file.now q r (sym t.action ∙ e ∙ p.of.by)
        ∙ ap (λ (x : ℕ). together_record left.file.now right.file.now x q r) (sym (right-states p.of.models))

    pub together-asks : f.action ≡ action → CanWriteTogether left.file.now left.places.now q right.file.now right.places.now r right.model.states out at
    together-asks e =
        let c = p.of.models in
        record {
          first = known-transition (left-known c) p.of.transition;
          second = partner-known;
          all = (right-known c).states;
          states = states-fit c refl;
          denominator =
              together-fits c (omega (arith, p.of.transition, known-transitions (left-known c))) p.transition p.of.shared
              (sym t.action ∙ e ∙ p.of.by);
          room = omega (arith, p.room, ap length (is-together e));
        }

    pub partner-written : {after : List ℕ} {end : ℕ} → f.action ≡ action → Appends (together_record left.file.now right.file.now right.model.states q r) at out after end → Appends (partner_record left.file.now right.file.now q ((automaton_in right.file.now).source r) r) at out after end
    partner-written e = appended-as (is-together e)

-- the next partner that leaves a state
pub partners-ask : {left : Side} {q action : ℕ} {right : Side} {run : Run} {before : List ℕ} {at : ℕ} → CanWritePartners left q action right run before at → {r : ℕ} {out : List ℕ} {next : ℕ} → RunLoop (automaton_in right.file.now) run (partner_record left.file.now right.file.now q run.state) at before r out next → r < run.past → CanWritePartner left q action right r out next
partners-ask {left} {q = q} {right = right} p l less =
    record { of = p.of; transition = omega (arith, less, p.leaving.most); room = run_room (partners-of-run left.file.now right.file.now q p.leaving) l less }

-- one transition of the left
module _ {left right : Side} {out : List ℕ} {at q : ℕ} {run : Run} (p : CanWriteMoves left right (left_move_records left.file.now right.file.now ((automaton_in left.file.now).source q) run.state q) out at) (less : q < left.model.transitions) (is : IsRun (automaton_in right.file.now) run) {f : Fields} {shared : Bool} (t : FieldsOf left.file.now q f) (tested : shared ≡ shared_below left.model.actions right.model.actions f.action) where
  test : is_shared (automaton_in left.file.now) (automaton_in right.file.now) ((automaton_in left.file.now).action q) ≡ shared
  test = sym (tested ∙ shared-sides (two-sides left.known right.known) f.action ∙ ap (is_shared (automaton_in left.file.now) (automaton_in right.file.now)) t.action)

  module _ (e : shared ≡ true) where
    is-partners : left_move_records left.file.now right.file.now ((automaton_in left.file.now).source q) run.state q ≡ partner_records left.file.now right.file.now q run.state
    is-partners = left-together left.file.now right.file.now q run.state (test ∙ e)

    pub partners-called : CanWritePartners left q f.action right run out at
    partners-called =
        record {
          of = record { models = p.models; transition = less; by = t.action; shared = test ∙ e };
          leaving = is;
          room = omega (arith, p.room, ap length is-partners);
        }

    pub partners-written : {after : List ℕ} {end : ℕ} → Appends (partner_records left.file.now right.file.now q run.state) at out after end → Appends (left_move_records left.file.now right.file.now ((automaton_in left.file.now).source q) run.state q) at out after end
    partners-written = appended-as is-partners

  module _ (e : shared ≡ false) where
    is-alone : left_move_records left.file.now right.file.now ((automaton_in left.file.now).source q) run.state q ≡ left_record left.file.now right.model.states q run.state
    unfolding moved
    is-alone =
        left_alone_lem left.file.now right.file.now q run.state (test ∙ e) ∙ ap (λ (x : ℕ). left_record left.file.now x q run.state) (sym (right-states p.models))

    pub alone-called : CanWriteLeft left.file.now left.places.now q right.model.states run.state out at
    alone-called =
        record {
          transition = known-transition (left-known p.models) less;
          state = omega (arith, is.state, known-states (right-known p.models));
          states = states-fit p.models refl;
          room = omega (arith, p.room, ap length is-alone);
        }

    pub alone-written : {after : List ℕ} {end : ℕ} → Appends (left_record left.file.now right.model.states q run.state) at out after end → Appends (left_move_records left.file.now right.file.now ((automaton_in left.file.now).source q) run.state q) at out after end
    alone-written = appended-as is-alone

-- the next of the left that leaves a state
pub left-ask : {left right : Side} {before : List ℕ} {at : ℕ} {from run : Run} → CanWriteMoves left right (left_records left.file.now right.file.now from.state run.state) before at × IsRun (automaton_in left.file.now) from × IsRun (automaton_in right.file.now) run → {q : ℕ} {out : List ℕ} {next : ℕ} → RunLoop (automaton_in left.file.now) from (left_move_records left.file.now right.file.now from.state run.state) at before q out next → q < from.past → CanWriteMoves left right (left_move_records left.file.now right.file.now ((automaton_in left.file.now).source q) run.state q) out next × (q < left.model.transitions) × IsRun (automaton_in right.file.now) run
left-ask {left} {right = right} {run = run} p l less = (
  record { models = p.0.models; room = run_room (left-of-run left.file.now right.file.now run.state p.1) l less },
  omega (arith, less, p.1.most, known-transitions (left-known p.0.models)),
  p.2,
)
