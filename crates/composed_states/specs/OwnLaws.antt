-- Laws of the right's own moves: their records are those of the composition's moves of the right alone.
use Rattle.std.specs.Prelude.{ℕ, ◌<◌, ◌≡◌, true, false, length}
use Rattle.std.proofs.Math.Path.{refl, sym, ap₂}
use Rattle.std.proofs.Common.{◌∙◌, ap, arith}
use Rattle.std.proofs.Math.Bool.{Bool}
use mathlib.Core.List.{List, [], ◌∷◌}
use Rattle.bisimulation.specs.definitions.Choice.{if_same, if_true}
use Rattle.bisimulation.proofs.argument.ChoiceLaws.{same, not_same, is_true, is_false, of_same}
use Rattle.bisimulation.specs.definitions.Composed.{right_alone}
use Rattle.rules.specs.definitions.Reading.{states_of, model_at}
use Rattle.transition_record.specs.declared.Fields.{Fields}
use Rattle.composed_size.specs.declared.Side.{Side}
use Rattle.transition.specs.Known.{automaton_in, KnownTransition, FieldsOf}
use Rattle.transition.specs.KnownLaws.{known-transitions, known-transition}
use Rattle.writer.specs.Appends.{Appends}
use Rattle.writer.specs.AppendsLaws.{appended-as, append-none}
use Rattle.composition.specs.definitions.Composition.{gathered, is_shared, right_move, moved}
use Rattle.composition.proofs.argument.GatheredLaws.{gathered-cong}
use Rattle.composed_size.specs.Sides.{two-sides}
use Rattle.composed_size.specs.Composable.{CanCompose}
use Rattle.composition.specs.definitions.Composition.{shared_below}
use Rattle.composed_size.specs.CountedLaws.{shared-sides}
use Rattle.composed_moves.specs.MoveRecords.{right_record, CanWriteRight}
use Rattle.composed_states.specs.declared.Run.{Run}
use Rattle.composed_states.specs.Records.{records_of}
use Rattle.composed_states.specs.Needs.{IsRun}
use Rattle.composed_states.specs.Own.{own_record, own_record_from, own_records, CanWriteOwn, CanWriteOwns}
use Rattle.composed_states.specs.RunLoops.{OfRun, RunLoop, run_room}
use Rattle.composed_states.specs.RecordsLaws.{no-records, one-record, records-gathered}
use Rattle.composed_states.specs.ModelsLaws.{right-known, right-states}

pub own-of-run : (actions : ℕ) (right : List ℕ) (s : ℕ) {run : Run} → IsRun (automaton_in right) run → OfRun (automaton_in right) run (own_records actions right s run.state) (own_record_from actions right s run.state) (own_record actions right s)
own-of-run actions right s is = record { is = is; whole = refl; leaving = λ r e. sym (same [] e refl); other = λ r e. sym (not_same _ e refl) }

-- where it is its own, and where not
module _ (actions : ℕ) (right : List ℕ) (s r : ℕ) where
  own-none : shared_below actions (model_at right).actions ((automaton_in right).action r) ≡ true → own_record actions right s r ≡ []
  own-none t = sym (is_true _ t refl)

  own-one : shared_below actions (model_at right).actions ((automaton_in right).action r) ≡ false → own_record actions right s r ≡ right_record right (states_of right) s r
  own-one t = sym (is_false [] t refl)

-- what its writer needs and gets
module _ {actions s : ℕ} {right : Side} {r : ℕ} {out : List ℕ} {at : ℕ} (p : CanWriteOwn actions s right r out at) where
  pub own-known : KnownTransition right.file.now right.places.now r
  own-known = known-transition right.known.known p.transition

  module _ {f : Fields} {shared : Bool} (t : FieldsOf right.file.now r f) (is : shared ≡ shared_below actions right.model.actions f.action) where
    test : shared_below actions (model_at right.file.now).actions ((automaton_in right.file.now).action r) ≡ shared
    test = sym (is ∙ ap₂ (shared_below actions) right.known.actions t.action)

    pub own-skipped : shared ≡ true → Appends (own_record actions right.file.now s r) at out out at
    own-skipped e = appended-as (own-none actions right.file.now s r (test ∙ e)) (append-none out at (omega (arith, p.room)))

    module _ (e : shared ≡ false) where
      is-own : own_record actions right.file.now s r ≡ right_record right.file.now right.model.states s r
      is-own = own-one actions right.file.now s r (test ∙ e) ∙ ap (λ (n : ℕ). right_record right.file.now n s r) (sym right.known.known.states)

      pub own-called : CanWriteRight right.file.now right.places.now r right.model.states s out at
      own-called =
          record { transition = own-known; all = right.known.known.states; states = p.states; room = omega (arith, p.room, ap length is-own) }

      pub own-written : {after : List ℕ} {end : ℕ} → Appends (right_record right.file.now right.model.states s r) at out after end → Appends (own_record actions right.file.now s r) at out after end
      own-written = appended-as is-own

-- the next that leaves a state
pub owns-ask : {actions s : ℕ} {right : Side} {run : Run} {before : List ℕ} {at : ℕ} → CanWriteOwns actions s right run before at → {r : ℕ} {out : List ℕ} {next : ℕ} → RunLoop (automaton_in right.file.now) run (own_record_from actions right.file.now s run.state) at before r out next → r < run.past → CanWriteOwn actions s right r out next
owns-ask {actions} {s} {right} p l less =
    record {
      states = p.states;
      transition = omega (arith, less, p.leaving.most, known-transitions right.known.known);
      room = run_room (own-of-run actions right.file.now s p.leaving) l less;
    }

-- they are the composition's
module _ {left right : Side} (c : CanCompose left right) where
  own-move : (s r : ℕ) → own_record left.model.actions right.file.now s r ≡ records_of left.file.now right.file.now (if_true (is_shared (automaton_in left.file.now) (automaton_in right.file.now) ((automaton_in right.file.now).action r)) [] (right_alone s r ∷ []))
  unfolding moved
  own-move s r = go test refl
    where
      test : Bool
      test = is_shared (automaton_in left.file.now) (automaton_in right.file.now) ((automaton_in right.file.now).action r)

      is : shared_below left.model.actions (model_at right.file.now).actions ((automaton_in right.file.now).action r) ≡ test
      is =
          ap (λ (x : ℕ). shared_below left.model.actions x ((automaton_in right.file.now).action r)) (sym right.known.actions)
          ∙ shared-sides (two-sides left.known right.known) ((automaton_in right.file.now).action r)

      go : (t : Bool) → test ≡ t → own_record left.model.actions right.file.now s r ≡ records_of left.file.now right.file.now (if_true test [] (right_alone s r ∷ []))
      go true t = own-none left.model.actions right.file.now s r (is ∙ t) ∙ sym (no-records left.file.now right.file.now) ∙ ap (records_of left.file.now right.file.now) (is_true _ t refl)
      go false t =
          own-one left.model.actions right.file.now s r (is ∙ t)
          ∙ ap (λ (n : ℕ). right_record right.file.now n s r) (sym (right-known c).states ∙ right-states c)
          ∙ sym (one-record left.file.now right.file.now (right_alone s r))
          ∙ ap (records_of left.file.now right.file.now) (is_false [] t refl)

  pub own-records : (s e : ℕ) → own_records left.model.actions right.file.now s e ≡ records_of left.file.now right.file.now (gathered (automaton_in right.file.now).transitions (right_move (automaton_in left.file.now) (automaton_in right.file.now) s e))
  unfolding right_move
  own-records s e =
      gathered-cong (automaton_in right.file.now).transitions _ _ (λ r l.
      ap₂ (λ (xs ys : List ℕ). if_same ((automaton_in right.file.now).source r) e xs ys) (own-move s r) (sym (no-records left.file.now right.file.now))
      ∙ sym (of_same (records_of left.file.now right.file.now) ((automaton_in right.file.now).source r) e _ []))
      ∙ sym (records-gathered left.file.now right.file.now (automaton_in right.file.now).transitions (right_move (automaton_in left.file.now) (automaton_in right.file.now) s e))
