-- The records of a composition's moves, as they are written one after the other.
use Prim.Native.Nat.{ℕ, zero, suc}
use Rattle.std.specs.Prelude.{◌≡◌, true, false}
use Rattle.std.proofs.Math.Path.{refl, ap}
use Rattle.std.proofs.Common.{sym, ◌∙◌}
use mathlib.Core.List.{List, [], ◌∷◌, ◌++◌, map, map-append, append-nil}
use Rattle.bisimulation.proofs.argument.ChoiceLaws.{same, not_same, is_true, is_false}
use Rattle.bisimulation.specs.definitions.Automaton.{Automaton}
use Rattle.bisimulation.specs.definitions.Composed.{Move, left_alone, together}
use Rattle.rules.specs.definitions.Model.{transition_bytes, transitions_bytes}
use Rattle.rules.specs.definitions.Reading.{model_at}
use Rattle.transition.specs.Known.{automaton_in}
use Rattle.writer.specs.AppendsLaws.{transitions-append}
use Rattle.composition.specs.definitions.Composition.{gathered, is_shared, partner_move, left_move, right_move, moves_from, moved}
use Rattle.composed_states.specs.declared.Run.{Run}
use Rattle.composed_states.specs.Records.{records_of, partner_record, partner_records, left_move_records, left_records, state_records}
use Rattle.composed_states.specs.Needs.{IsRun}
use Rattle.composed_states.specs.RunLoops.{OfRun}

module _ (left right : List ℕ) where
  abbrev A : Automaton
  A = automaton_in left

  abbrev B : Automaton
  B = automaton_in right

  pub no-records : records_of left right [] ≡ []
  unfolding transitions_bytes
  no-records = refl

  pub one-record : (m : Move) → records_of left right (m ∷ []) ≡ transition_bytes (moved (model_at left) (model_at right) m)
  unfolding transitions_bytes
  one-record m = append-nil (transition_bytes (moved (model_at left) (model_at right) m))

  records-append : (xs ys : List Move) → records_of left right (xs ++ ys) ≡ records_of left right xs ++ records_of left right ys
  records-append xs ys =
      let f = moved (model_at left) (model_at right) in ap transitions_bytes (map-append f xs ys) ∙ transitions-append (map f xs) (map f ys)

  pub records-gathered : (n : ℕ) (f : ℕ → List Move) → records_of left right (gathered n f) ≡ gathered n (λ k. records_of left right (f k))
  unfolding gathered transitions_bytes
  records-gathered zero f = refl
  records-gathered (suc n) f =
      records-append (gathered n f) (f n) ∙ ap (λ (l : List ℕ). l ++ records_of left right (f n)) (records-gathered n f)

  -- the right's transition r beside the left's q, both leaving the state
  module _ (q r : ℕ) where
    pub partner-none : (B.action r ≡ A.action q → ⊥) → partner_record left right q (B.source r) r ≡ []
    unfolding partner_move
    partner-none other = ap (records_of left right) (sym (same [] refl (not_same _ other refl))) ∙ no-records

    pub partner-one : B.action r ≡ A.action q → partner_record left right q (B.source r) r ≡ transition_bytes (moved (model_at left) (model_at right) (together q r))
    unfolding partner_move
    partner-one e = ap (records_of left right) (sym (same [] refl (same [] e refl))) ∙ one-record (together q r)

  pub partners-of-run : (q : ℕ) {run : Run} → IsRun B run → OfRun B run (partner_records left right q run.state) (partner_record left right q run.state) (λ r. partner_record left right q (B.source r) r)
  unfolding partner_move
  partners-of-run q {run} is =
      record {
        is = is;
        whole = records-gathered B.transitions (partner_move A B q run.state);
        leaving = λ r e. ap (λ (x : ℕ). partner_record left right q x r) (sym e);
        other = λ r e. ap (records_of left right) (sym (not_same _ e refl)) ∙ no-records;
      }

  -- the left's transition q, leaving the state
  module _ (q e : ℕ) where
    pub left_alone_lem : is_shared A B (A.action q) ≡ false → left_move_records left right (A.source q) e q ≡ transition_bytes (moved (model_at left) (model_at right) (left_alone q e))
    unfolding left_move
    left_alone_lem t = ap (records_of left right) (sym (same [] refl (is_false _ t refl))) ∙ one-record (left_alone q e)

    pub left-together : is_shared A B (A.action q) ≡ true → left_move_records left right (A.source q) e q ≡ partner_records left right q e
    unfolding left_move
    left-together t = ap (records_of left right) (sym (same [] refl (is_true _ t refl)))

  pub left-of-run : (e : ℕ) {run : Run} → IsRun A run → OfRun A run (left_records left right run.state e) (left_move_records left right run.state e) (λ q. left_move_records left right (A.source q) e q)
  unfolding left_move
  left-of-run e {run} is =
      record {
        is = is;
        whole = records-gathered A.transitions (left_move A B run.state e);
        leaving = λ q from. ap (λ (x : ℕ). left_move_records left right x e q) (sym from);
        other = λ q from. ap (records_of left right) (sym (not_same _ from refl)) ∙ no-records;
      }

  -- from (s,e)
  pub state-parts : (s e : ℕ) → state_records left right s e ≡ left_records left right s e ++ records_of left right (gathered B.transitions (right_move A B s e))
  unfolding moves_from
  state-parts s e = records-append (gathered A.transitions (left_move A B s e)) (gathered B.transitions (right_move A B s e))
