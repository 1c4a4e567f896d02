-- What each way out of reading two models tells.
use Rattle.std.specs.Prelude.{ℕ, ◌≤◌, ◌≡◌, List, length, Result, Ok, Err}
use Rattle.std.proofs.Common.{subst, arith}
use Rattle.rules.specs.definitions.Limits.{current}
use Rattle.rules.specs.definitions.Model.{automaton_of}
use Rattle.rules.specs.definitions.Reading.{scan_whole, model_at, read_whole, no_model}
use Rattle.rules.specs.definitions.SoundModel.{Bytes}
use Rattle.rules.specs.definitions.Answers.{refusal_in, file_of}
use Rattle.rules.specs.definitions.Made.{two_files}
use Rattle.rules.proofs.argument.ReadSound.{read-whole-sound}
use Rattle.rules.proofs.argument.MadeLaws.{first-refused, second-refused}
use Rattle.limits.specs.TermsBy.{current_terms}
use Rattle.fault.specs.declared.Fault.{Fault}
use Rattle.fault.specs.Faults.{fault_of}
use Rattle.model.specs.declared.Model.{Model as Found}
use Rattle.model.specs.Scanned.{Scans}
use Rattle.transition.specs.KnownLaws.{known-states, known-transitions}
use Rattle.transition.specs.ModelRead.{sound-known, sound-actions}
use Rattle.answer.specs.declared.Answer.{Answer}
use Rattle.answer.specs.Answered.{Says}
use Rattle.answer.specs.AnsweredLaws.{with-stretch}
use Rattle.two_models.specs.TwoModels.{SoundFile, BothSound, RefusesTwo, TwoReadIs}

-- a file that the reader found sound
pub sound-file : (s : List ℕ) {table : List ℕ} {r : Result Found Fault} → Scans s (scan_whole current s) r table → {m : Found} → r ≡ Ok m → Bytes s → SoundFile s m
unfolding automaton_of
sound-file s {table} g e b =
    let k = sound-known current_terms s g e b in
    let whole = read-whole-sound current s (model_at s) k.1.end b k.1.reads in
    record {
      model = k.1;
      known = record { table = table; known = k.0 };
      sound = whole.0;
      bytes = whole.1;
      head = k.0.states;
      states = known-states k.0;
      actions = sound-actions current_terms s g e;
      transitions = known-transitions k.0;
    }

pub both-sound : (first second : List ℕ) {table : List ℕ} {m n : Found} {r : Result Found Fault} → SoundFile first m → Scans second (scan_whole current second) r table → r ≡ Ok n → Bytes second → BothSound first m second n table
both-sound first second f g e b = record { one = f; other = sound-file second g e b; known = (sound-known current_terms second g e b).0 }

-- a file is refused
pub refused-first : (first second : List ℕ) (f : Fault) {r : Answer} → read_whole current first ≡ no_model (fault_of f) f.place → f.place ≤ length first → Says (refusal_in (fault_of f) 1 f.place (length first)) 0 r → RefusesTwo first second r
unfolding file_of
refused-first first second f q h a =
    record { refuses = λ made before. with-stretch (two_files first second) before (fault_of f) 1 f.place a (first-refused (read_whole current) made first second before (fault_of f) f.place q) (omega arith) h }

pub refused-second : (first second : List ℕ) (f : Fault) {m : Found} {r : Answer} → SoundFile first m → read_whole current second ≡ no_model (fault_of f) f.place → f.place ≤ length second → Says (refusal_in (fault_of f) 3 f.place (length second)) 0 r → RefusesTwo first second r
unfolding file_of
refused-second first second f s q h a =
    record { refuses = λ made before. with-stretch (two_files first second) before (fault_of f) 3 f.place a (second-refused (read_whole current) made first second before (fault_of f) f.place s.model.reads q) (omega arith) h }
