-- The call that fetches keeps its demands.
use Rattle.std.specs.Prelude.{ℕ, ◌≤◌, ◌<◌, ◌≡◌, List}
use Rattle.std.proofs.Math.Path.{refl, ap}
use Rattle.std.proofs.Common.{sym, ◌∙◌, subst, ⊎_elim, arith}
use Rattle.std.proofs.Math.ListN.{length}
use Rattle.std.proofs.Math.Decide.{dec_lt}
use Rattle.bisimulation.proofs.argument.ChoiceLaws.{less, not_less, either_less}
use Rattle.rules.specs.definitions.Limits.{Limits}
use Rattle.rules.specs.definitions.Model.{Model, transitions_bytes}
use Rattle.rules.specs.definitions.Reading.{Reading, model, no_model, read_whole, leaving_state, run_start, run_end}
use Rattle.rules.specs.definitions.SoundModel.{Bytes, FitsWidths}
use Rattle.rules.specs.definitions.Accepted.{FileOf}
use Rattle.rules.specs.definitions.Answers.{Answer, refusal_in, answer_without_place, stretch_in, run_answer, fetch_reading, fetch_answer, FetchNumber}
use Rattle.rules.specs.definitions.FetchDemands.{FetchDemands}
use Rattle.rules.proofs.argument.ReadingLaws.{read_number}
use Rattle.rules.proofs.argument.AnswerLaws.{fetch-number}
use Rattle.rules.proofs.argument.FetchedRun.{fetched-run}
use Rattle.rules.proofs.argument.PlainRules.{ModelNumber, refusal-told, whole_files}

module _ (L : Limits) (fits : FitsWidths L) (s : List ℕ) (state : ℕ) (b : Bytes s) where
  abbrev answered : ℕ
  answered = (fetch_answer L s state).number

  reads : (M : Model) → FileOf L s M → read_whole L s ≡ model M (length s)
  reads M f = ((whole_files L fits).exactly s M b).1 f

  abbrev Found : Type 0
  Found = (M : Model) × FileOf L s M × (state < length M.labels)

  abbrev Absent : Type 0
  Absent = (M : Model) × FileOf L s M × (length M.labels ≤ state)

  answers-found : Found → answered ≡ 0
  unfolding fetch_answer fetch_reading run_answer answer_without_place
  answers-found x =
      ap (λ (r : Reading). (fetch_reading s state r).number) (reads x.0 x.1)
      ∙ ap (λ (a : Answer). a.number) (sym (less _ x.2 refl))
      ∙ either_less (λ (a : Answer). a.number ≡ 0) (run_start s state) (run_end s state) refl refl

  answers-absent : Absent → answered ≡ 24
  unfolding fetch_answer fetch_reading answer_without_place
  answers-absent x =
      ap (λ (r : Reading). (fetch_reading s state r).number) (reads x.0 x.1) ∙ ap (λ (a : Answer). a.number) (sym (not_less _ x.2 refl))

  -- a fetch finds the state, or not, or refuses the model, and not with 24
  data Way : Type 0 where
    finds : Found → Way
    lacks : Absent → Way
    refuses : 1 ≤ answered → (answered ≡ 24 → ⊥) → Way

  way : Way
  unfolding fetch_answer fetch_reading refusal_in ModelNumber
  way = go (read_whole L s) refl
    where
      by_state : (M : Model) → FileOf L s M → Dec (state < length M.labels) → Way
      by_state M f (yes l) = finds (M, f, l)
      by_state M f (no l) = lacks (M, f, omega arith)

      go : (r : Reading) → read_whole L s ≡ r → Way
      go (model M end) e =
          let f = ((whole_files L fits).exactly s M b).0 (e ∙ ap (model M) ((whole_files L fits).whole s M end b e)) in
          by_state M f (dec_lt state (length M.labels))
      go (no_model f place) e =
          let t = (refusal-told L s f place e).1 in
          let k = ap (λ (r : Reading). (fetch_reading s state r).number) e in
          refuses (omega (arith, t, k)) (λ z. ⊎_elim (λ x. omega (arith, x, k, z)) (λ x. omega (arith, x, k, z)) (read_number L.terms _ t.1))

  told-found : answered ≡ 0 → Found
  told-found z = go way
    where
      go : Way → Found
      go (finds x) = x
      go (lacks x) = absurd (omega (arith, z, answers-absent x))
      go (refuses l m) = absurd (omega (arith, z, l))

  told-absent : answered ≡ 24 → Absent
  told-absent z = go way
    where
      go : Way → Absent
      go (finds x) = absurd (omega (arith, z, answers-found x))
      go (lacks x) = x
      go (refuses l m) = absurd (m z)

  runs : answered ≡ 0 → (M : Model) → FileOf L s M → stretch_in s (fetch_answer L s state) ≡ transitions_bytes (leaving_state state M.transitions)
  runs z M f = go (dec_lt state (length M.labels))
    where
      go : Dec (state < length M.labels) → stretch_in s (fetch_answer L s state) ≡ transitions_bytes (leaving_state state M.transitions)
      go (yes l) = fetched-run L s state M (length s) b (reads M f) l
      go (no l) = absurd (omega (arith, z, answers-absent (M, f, omega arith)))

  pub fetch-demands : (number : ℕ) → number ≡ answered → FetchDemands L s state number
  fetch-demands number e =
      record {
        known = subst (FetchNumber L.terms) (sym e) (fetch-number L s state);
        found = (λ z. told-found (sym e ∙ z), λ x. e ∙ answers-found x);
        absent = (λ z. told-absent (sym e ∙ z), λ x. e ∙ answers-absent x);
        run = λ z. runs (sym e ∙ z);
      }
