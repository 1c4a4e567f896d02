-- Laws of the call that hides: what each way out answers.
use Rattle.std.specs.Prelude.{ℕ, ◌≤◌, ◌≡◌, List, [], ◌∷◌, ◌++◌, length, drop, Result, Ok}
use Rattle.std.proofs.Common.{sym, ◌∙◌, ap, subst, arith}
use Rattle.rules.specs.definitions.Limits.{current}
use Rattle.rules.specs.definitions.Model.{model_bytes}
use Rattle.rules.specs.definitions.Reading.{model_at, scan_whole, read_whole, no_model}
use Rattle.rules.specs.definitions.SoundModel.{Bytes}
use Rattle.rules.specs.definitions.Answers as rules
use Rattle.rules.specs.definitions.Answers.{Outcome, refusal_in, file_of}
use Rattle.rules.proofs.argument.SoundModelLaws.{current-fit}
use Rattle.rules.proofs.argument.ReadSound.{read-whole-sound}
use Rattle.composition.specs.definitions.Hiding.{hidden_file}
use Rattle.composition.specs.definitions.HideAnswer.{hide_outcome}
use Rattle.composition.proofs.argument.HidingLaws.{hidden-length}
use Rattle.composition.proofs.argument.HideAnswerLaws.{hide-refused, hide-read, hide-demands}
use Rattle.limits.specs.TermsBy.{current_terms}
use Rattle.fault.specs.declared.Fault.{Fault}
use Rattle.fault.specs.Faults.{fault_of}
use Rattle.model.specs.declared.Model.{Model as Found}
use Rattle.model.specs.Scanned.{Scans}
use Rattle.transition.specs.Known.{Known}
use Rattle.transition.specs.ModelRead.{ReadsModel, sound-known}
use Rattle.answer.specs.declared.Answer.{Answer}
use Rattle.answer.specs.Answered.{Says, FileWritten, OutcomeIs}
use Rattle.answer.specs.AnsweredLaws.{written-whole, with-stretch}
use Rattle.hide.specs.Hide.{HideAnswered, HidesSound}

-- the file is as long as the model's
pub hidden-size : (set : List ℕ) {s : List ℕ} → s ≡ model_bytes (model_at s) → length s ≡ length (hidden_file set (model_at s))
hidden-size set {s} own = ap length own ∙ sym (hidden-length set (model_at s))

-- it is written where there is room
pub hidden-written : (set : List ℕ) {s before after : List ℕ} → s ≡ model_bytes (model_at s) → length s ≤ length before → after ≡ hidden_file set (model_at s) ++ drop (length s) before → FileWritten (hidden_file set (model_at s)) before after (length s)
hidden-written set {s} {before = before} own room e =
    let same = hidden-size set own in
    written-whole _ same room (e ∙ ap (λ (i : ℕ). hidden_file set (model_at s) ++ drop i before) same)

-- a file that the reader found sound
module _ {s table : List ℕ} {found : Result Found Fault} {m : Found} (g : Scans s (scan_whole current s) found table) (e : found ≡ Ok m) (b : Bytes s) where
  reads : ReadsModel current_terms s
  reads = (sound-known current_terms s g e b).1

  pub found-known : Known s m.states m.transitions table
  found-known = (sound-known current_terms s g e b).0

  pub found-whole : s ≡ model_bytes (model_at s)
  found-whole = (read-whole-sound current s (model_at s) reads.end b reads.reads).1

module _ (s set before : List ℕ) (b : Bytes s) where
  -- an outcome with its demands
  with-demands : {after : List ℕ} {r : Answer} → OutcomeIs (hide_outcome (read_whole current) s set before) (s ∷ []) (after ∷ []) r → HideAnswered s set before after r
  with-demands {after} {r} o =
      record {
        outcome = o;
        demands = hide-demands current current-fit s set before b after r.number (ap (λ (x : rules.Answer). x.number) o.gives.answer) o.gives.buffers;
      }

  pub model-hidden : {table after : List ℕ} {found : Result Found Fault} {m : Found} {r : Answer} → Scans s (scan_whole current s) found table → found ≡ Ok m → HidesSound s set before after r → HideAnswered s set before after r
  model-hidden {after = after} {r = r} g e o =
      with-demands
      (subst (λ (x : Outcome). OutcomeIs x (s ∷ []) (after ∷ []) r) (hide-read (read_whole current) s set before (reads g e b).reads) o)

  pub model-refused : (f : Fault) {r : Answer} → read_whole current s ≡ no_model (fault_of f) f.place → f.place ≤ length s → Says (refusal_in (fault_of f) 1 f.place (length s)) 0 r → HideAnswered s set before before r
  unfolding file_of
  model-refused f q h a =
      with-demands
      (with-stretch (s ∷ []) (before ∷ []) (fault_of f) 1 f.place a (hide-refused (read_whole current) s set before (fault_of f) f.place q) (omega arith) h)
