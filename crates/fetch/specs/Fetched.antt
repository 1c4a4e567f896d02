-- What a fetch goes by, and document 01's answer for each of its cases.
use Rattle.std.specs.Prelude.{ℕ, ◌-◌, ◌≤◌, ◌≡◌, refl, ℤ, Option, None, Some, Result, Ok, Err}
use Rattle.std.proofs.Math.Path.{sym, ap}
use Rattle.std.proofs.Common.{◌∙◌, arith}
use mathlib.Core.List.{List, [], ◌∷◌}
use Rattle.std.proofs.Math.ListN.{length, get_or}
use Rattle.rules.specs.definitions.Limits.{current}
use Rattle.rules.specs.definitions.Reading.{run_start, run_end}
use Rattle.rules.specs.definitions.Answers.{Answer, refusal_in, answer_without_place, file_of, run_answer, fetch_answer, fetch_outcome}
use Rattle.rules.specs.definitions.SoundModel.{Bytes}
use Rattle.rules.specs.definitions.FetchDemands.{FetchDemands}
use Rattle.rules.proofs.argument.SoundModelLaws.{current-fit}
use Rattle.rules.proofs.argument.AnswerLaws.{fetch-file, fetch-inside}
use Rattle.rules.proofs.argument.FetchHolds.{fetch-demands}
use Rattle.fault.specs.Faults.{fault_of}
use Rattle.answer.specs.declared.Answer as declared
use Rattle.answer.specs.Answered.{Says, StretchInside, CallAnswered}
use Rattle.answer.specs.Handing.{HandsBack, CallHandedBack}
use Rattle.answer.specs.HandingLaws.{first_of, handed-none}
use Rattle.fetch.specs.declared.Run.{Run}
use Rattle.fault.specs.declared.Fault.{Fault}

-- where the run of a state starts and ends
pub record IsRun (s : List ℕ) (state : ℕ) (r : Run) : Type 0 where
  pub start : r.start ≡ run_start s state
  pub end : r.end ≡ run_end s state

-- a run; 24; a refusal of the model s
abbrev pub answer_of : List ℕ → Result (Option Run) Fault → Answer
answer_of s (Ok (Some run)) = run_answer run.start run.end
answer_of s (Ok None) = answer_without_place 24
answer_of s (Err f) = refusal_in (fault_of f) 1 f.place (length s)

-- the call promises what document 01 says of a fetch, and its demands; it lends no buffer
abbrev pub FetchAnswered : (model : List ℕ) (state : ℕ) → declared.Answer → Type 0
FetchAnswered model state r = CallAnswered (fetch_outcome current model state) (model ∷ []) [] (FetchDemands current model state) r

-- the same with the run or stretch as a part of the model. The slice is where the model lies, `lying` where the part does
abbrev pub FetchHandedBack : (model : List ℕ) (slice : ℕ × ℕ) (fetched : ℕ) (number file place state : ℕ) (remainder : ℤ) (part : List ℕ) (lying : ℕ × ℕ) → Type 0
FetchHandedBack model slice fetched number file place state remainder part lying =
    CallHandedBack (fetch_outcome current model fetched) (model ∷ []) (slice ∷ []) [] (FetchDemands current model fetched) number file place state remainder [] part lying

pub fetch-answered : (model : List ℕ) (state : ℕ) {r : declared.Answer} → Bytes model → Says (fetch_answer current model state) 0 r → FetchAnswered model state r
unfolding file_of
fetch-answered model state {r} b s =
    let e = s.answer in
    let name : r.file ≤ 1 = omega (arith, ap (λ (a : Answer). a.file) e, fetch-file current model state) in
    let here : r.file - 1 ≡ 0 = omega arith in
    record {
      outcome =
          record {
            gives = record { answer = e; buffers = refl; wrote = s.wrote };
            inside =
                record {
                  named = name;
                  fits = omega (arith, ap (λ (a : Answer). a.stretch_start) e, ap (λ (a : Answer). a.stretch_length) e, fetch-inside current model state, ap (λ (k : ℕ). length (get_or (model ∷ []) k [])) here);
                };
          };
      demands = fetch-demands current current-fit model state b r.number (ap (λ (a : Answer). a.number) e);
    }

-- a run or stretch lies in the model, and is handed back
module _ (s : List ℕ) (fetched : ℕ) {r : declared.Answer} (j : FetchAnswered s fetched r) where
  first : r.file - 1 ≡ 0
  first = omega (arith, j.outcome.inside.named)

  pub fetch-stretch : StretchInside (s ∷ s ∷ []) r
  unfolding file_of
  fetch-stretch =
      let i = j.outcome.inside in
      record {
        named = omega (arith, i.named);
        fits = omega (arith, i.fits, ap (λ (k : ℕ). length (get_or (s ∷ []) k [])) first, ap length (first_of s s [] r.file i.named));
      }

  pub fetch-handed : {m : ℕ × ℕ} {number file place state : ℕ} {remainder : ℤ} {part : List ℕ} {lying : ℕ × ℕ} → HandsBack (s ∷ s ∷ []) (m ∷ m ∷ []) r number file place state remainder part lying → FetchHandedBack s m fetched number file place state remainder part lying
  unfolding file_of
  fetch-handed {m} h =
      let i = j.outcome.inside in
      handed-none _ _ h
      (first_of s s [] r.file i.named ∙ sym (ap (λ (k : ℕ). get_or (s ∷ []) k []) first))
      (first_of m m (0, 0) r.file i.named ∙ sym (ap (λ (k : ℕ). get_or (m ∷ []) k (0, 0)) first)) j
