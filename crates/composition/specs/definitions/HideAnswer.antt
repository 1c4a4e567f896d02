-- Document 02, K11: what the call that hides actions answers, and what it leaves in the lent buffer.
use Rattle.std.specs.Prelude.{ℕ, ◌≤◌, ◌<◌, ◌≡◌, ◌↔◌, ◌⊎◌, List, [], ◌∷◌, ◌++◌, length, take, drop}
use Rattle.bisimulation.specs.definitions.StepRule.{Met}
use Rattle.bisimulation.specs.definitions.Pairs.{Pairs}
use Rattle.bisimulation.specs.definitions.Largest.{Bisimulation, Links}
use Rattle.rules.specs.definitions.Limits.{Terms, Limits}
use Rattle.rules.specs.definitions.Model.{Model, automaton_of}
use Rattle.rules.specs.definitions.Reading.{ReadNumber, Reading, model, no_model}
use Rattle.rules.specs.definitions.Judging.{Reader}
use Rattle.rules.specs.definitions.Accepted.{IsFile}
use Rattle.rules.specs.definitions.Answers.{Outcome, refusal_in, unwritten, first_written, files_outcome}
use Rattle.composition.specs.definitions.Hiding.{hidden, hidden_file}

-- '38, buffer too short, last in either call'; else the file is written, for what reading the model gave
unfoldable pub hide_reading : (bytes set : List ℕ) → (before : List (List ℕ)) → Reading → Outcome
hide_reading bytes set before (model M end) = files_outcome 38 (hidden_file set M ∷ []) before
hide_reading bytes set before (no_model f place) = unwritten (refusal_in f 1 place (length bytes)) before

unfoldable pub hide_outcome : Reader → (bytes set buffer : List ℕ) → Outcome
hide_outcome read bytes set buffer = hide_reading bytes set (buffer ∷ []) (read bytes)

-- its numbers
unfoldable pub HideNumber : Terms → ℕ → Type 0
HideNumber terms k = ReadNumber terms k ⊎ (k ≡ 38)

-- its demands, with these bytes in the lent buffer before and after it
pub record HideDemands (L : Limits) (read : Reader) (is_file : IsFile) (bytes set before after : List ℕ) (number : ℕ) : Type 0 where
  -- demand 1: the number is one of the call's
  pub known : HideNumber L.terms number
  -- it is 0 exactly when the bytes are the file of a sound model and the buffer is long enough, and 38 exactly when it is shorter
  pub hides : (number ≡ 0) ↔ ((M : Model) × is_file bytes M × (length (hidden_file set M) ≤ length before))
  pub short : (number ≡ 38) ↔ ((M : Model) × is_file bytes M × (length before < length (hidden_file set M)))
  -- then its file is written, later bytes stay, and it is the file of that model, which reading it gives
  pub written : number ≡ 0 → (M : Model) → is_file bytes M → after ≡ hidden_file set M ++ drop (length (hidden_file set M)) before
  pub holds : (M : Model) → is_file bytes M → is_file (hidden_file set M) (hidden set M)
  pub reads : (M : Model) → is_file bytes M → read (hidden_file set M) ≡ model (hidden set M) (length (hidden_file set M))
  -- '.. and the relation itself does so after hiding', of the bytes that it wrote; for sets of pairs, as a contract can say it
  -- (`hidden-bisimulation` has it for relations of any kind, `hidden_bisimulation` of automata)
  pub links : number ≡ 0 → (M H : Model) → is_file bytes M → is_file (take (first_written (hide_outcome read bytes set before)) after) H → (W : Pairs) → Bisimulation (Met) (automaton_of M) (Links W) → Bisimulation (Met) (automaton_of H) (Links W)
  -- demand 1: a refusal leaves the buffer as it was
  pub unwritten : (number ≡ 0 → ⊥) → after ≡ before
