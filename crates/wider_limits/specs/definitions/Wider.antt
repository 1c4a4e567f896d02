-- Document 02, K7: 'Stored files are read as they are, and a pair accepted before is accepted with the same blocks. An older part meets a
-- larger sound model with 3 or 8.' What is said of two sets of limits.
use Rattle.std.specs.Prelude.{ℕ, suc, ◌≤◌, ◌<◌, ◌≡◌, refl, ◌⊎◌, List, length, take}
use Rattle.std.proofs.Common.{arith}
use Rattle.rules.specs.definitions.Limits.{Limits, limits, older_limits}
use Rattle.rules.specs.definitions.Model.{Transition, Model}
use Rattle.rules.specs.definitions.SoundModel.{sum_over, entry_count}
use Rattle.rules.specs.definitions.Faults.{fault}
use Rattle.rules.specs.definitions.Reading.{model, no_model, place_of}
use Rattle.rules.specs.definitions.Judging.{Reader}
use Rattle.rules.specs.definitions.JudgedBy.{JudgedBy}
use Rattle.rules.specs.definitions.Answers.{Outcome, refusal_in, unwritten}

-- each limit of L is at most that of W, and the terms are the same
pub record Within (L W : Limits) : Type 0 where
  pub states : L.states ≤ W.states
  pub actions : L.actions ≤ W.actions
  pub transitions : L.transitions ≤ W.transitions
  pub entries : L.entries ≤ W.entries
  pub refutations : L.refutations ≤ W.refutations
  pub label : L.label ≤ W.label
  pub terms : L.terms ≡ W.terms

pub within-older : Within older_limits limits
within-older =
    record {
      states = omega arith;
      actions = omega arith;
      transitions = omega arith;
      entries = omega arith;
      refutations = omega arith;
      label = omega arith;
      terms = refl;
    }

-- 'The limits become 128 states, 2,048 entries and 8,128 refutations; transitions stay at 256': the other limits are the same
pub record OthersStay (L W : Limits) : Type 0 where
  pub actions : L.actions ≡ W.actions
  pub transitions : L.transitions ≡ W.transitions
  pub label : L.label ≡ W.label

pub others-stay : OthersStay older_limits limits
others-stay = omega arith

-- 'Stored files are read as they are': what the older reader reads, the newer reads the same
pub record ReadsOn (older newer : Reader) : Type 0 where
  pub reads : (s : List ℕ) (M : Model) (end : ℕ) → older s ≡ model M end → newer s ≡ model M end

-- the newer pairs are judged as the older, within wider limits
pub record Widens (older newer : JudgedBy) : Type 0 where
  pub limits : Within older.limits newer.limits
  pub read : ReadsOn older.read newer.read
  pub file : (model : List ℕ) → newer.file model ≡ older.file model

-- how many entries the transitions before r have
unfoldable pub entries_before : Model → (r : ℕ) → ℕ
entries_before M r = sum_over (λ (t : Transition). length t.entries) (take r M.transitions)

-- 8, 'entries so far pass' the limit: a transition r with which they do, the entries before it being within it
pub record PassedAt (L : Limits) (M : Model) (r : ℕ) : Type 0 where
  pub transition : r < length M.transitions
  pub before : entries_before M r ≤ L.entries
  pub with : L.entries < entries_before M (suc r)

-- 'An older part meets a larger sound model with 3 or 8': what a part with the limits L reads in the file of the model M
pub record Meets (L : Limits) (read : Reader) (file : List ℕ) (M : Model) : Type 0 where
  -- 3, at the head, where the model has more states
  pub states : L.states < length M.labels → read file ≡ no_model (fault 3) 0
  -- else 8, at the transition with which the entries pass the limit, where it has more entries
  pub entries : length M.labels ≤ L.states → L.entries < entry_count M → (r : ℕ) × PassedAt L M r × (read file ≡ no_model (fault 8) (place_of file r))
  -- else it is read
  pub reads : length M.labels ≤ L.states → entry_count M ≤ L.entries → read file ≡ model M (length file)

-- 'a larger sound model': it has more states or entries than the limits allow
unfoldable pub Larger : Limits → Model → Type 0
Larger L M = (L.states < length M.labels) ⊎ (L.entries < entry_count M)

-- 3 or 8, at a place
pub record ThreeOrEight (read : Reader) (file : List ℕ) : Type 0 where
  pub number : ℕ
  pub place : ℕ
  pub either : (number ≡ 3) ⊎ (number ≡ 8)
  pub refused : read file ≡ no_model (fault number) place

-- what a call answers that meets a larger model so: it refuses the file, 1 or 3 by its number, with 3 or 8, and leaves the lent buffers as they were
pub record RefusesLarger (which : ℕ) (file : List ℕ) (before : List (List ℕ)) (o : Outcome) : Type 0 where
  pub number : ℕ
  pub place : ℕ
  pub either : (number ≡ 3) ⊎ (number ≡ 8)
  pub refuses : o ≡ unwritten (refusal_in (fault number) which place (length file)) before
