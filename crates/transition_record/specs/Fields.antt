-- A transition record: its fixed fields, and the whole.
use Rattle.std.specs.Prelude.{ℕ, ◌+◌, ◌<◌, ◌≡◌, List, Result, IfOk}
use Rattle.rules.specs.definitions.Reading.{source_at, action_at, denominator_at, entry_count_at, after_transition, transition_fault}
use Rattle.limits.specs.TermsBy.{limits_by}
use Rattle.limits.specs.declared.Terms.{Terms}
use Rattle.fault.specs.Faults.{Placed}
use Rattle.fault.specs.declared.Fault.{Fault}
use Rattle.transition_record.specs.declared.Transition.{Transition}
use Rattle.transition_record.specs.declared.Fields.{Fields}

-- the fixed fields of the transition record at a place, and where its entries begin
pub record FieldsAt (s : List ℕ) (at : ℕ) (r : Fields) : Type 0 where
  pub source : r.source ≡ source_at s at
  pub action : r.action ≡ action_at s at
  pub denominator : r.denominator ≡ denominator_at s at
  pub count : r.count ≡ entry_count_at s at
  pub fits : r.denominator < 65536
  pub small : r.count < 256
  pub entries : r.entries.at ≡ at + 7

-- what is handed up of a sound one: its source and entry count, and the cursor past it
pub record TransitionTaken (s : List ℕ) (at : ℕ) (t : Transition) : Type 0 where
  pub source : t.source ≡ source_at s at
  pub count : t.count ≡ entry_count_at s at
  pub next : t.next.at ≡ after_transition s at

-- a transition record in these terms: its fault, at its place; or what is handed up of it
pub record TransitionRead (terms : Terms) (s : List ℕ) (n m last entries at : ℕ) (r : Result Transition Fault) : Type 0 where
  pub fault : Placed (transition_fault (limits_by terms) s n m last entries at) at r
  pub taken : IfOk r (TransitionTaken s at)
