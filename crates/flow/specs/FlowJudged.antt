-- The parts of a flow's judgement, and what it hands up.
use Rattle.std.specs.Prelude.{ℕ, ◌+◌, ◌*◌, ◌^◌, ◌≤◌, ◌<◌, ◌≡◌, List, length, ℤ, Result, IfOk}
use Rattle.bisimulation.specs.definitions.Pairs.{Pairs}
use Rattle.rules.specs.definitions.Bytes.{four_at}
use Rattle.rules.specs.definitions.Certificate.{FileRule, k_count_at, after_k, after_flow, flow_fault}
use Rattle.rules.specs.definitions.Faults.{Fault, Passes, certificate_record, open_fault}
use Rattle.fault.specs.Faults.{fault_in, IsAt}
use Rattle.fault.specs.declared.Fault as found
use Rattle.field.specs.declared.Cursor.{Cursor}
use Rattle.pairs.specs.Rows.{HoldsPairs}
use Rattle.transition.specs.Known.{automaton_in}
use Rattle.rule_kind.specs.declared.Kind.{Kind}
use Rattle.rule_kind.specs.Kinds.{KindStands}
use Rattle.remainders.specs.Remainders.{AllZero}
use Rattle.entries_k.specs.Taking.{most_ks}
use Rattle.entries_w.specs.Matching.{most_ws}
use Rattle.flow.specs.declared.Head.{Head}

-- a flow record opened: its mark, D and the k count
abbrev pub flow_opens : List ℕ → ℕ → Fault
flow_opens C at = open_fault certificate_record 0x464C 8 C at

-- D and the k count, and where the entries begin
pub record HeadAt (C : List ℕ) (at : ℕ) (r : Head) : Type 0 where
  pub d : r.d ≡ four_at C (at + 2)
  pub small : r.d < 2 ^ 32
  pub entries : r.entries ≡ k_count_at C at
  pub few : r.entries < 65536
  pub first : r.first.at ≡ at + 8

-- the record is opened, D is not 0, and the k entries are whole
pub record FlowStands (C : List ℕ) (at : ℕ) : Type 0 where
  pub opens : Passes (flow_opens C at)
  pub some : four_at C (at + 2) ≡ 0 → ⊥
  pub whole : after_k C at ≤ length C

-- a flow changes a remainder at most so often: once by D, and by each k entry twice, and by each w entry
abbrev pub flow_changes : ℕ
flow_changes = 1 + 2 * most_ks + most_ws

-- a flow whose entries can be judged
pub record CanJudge (kind : Kind) (s C : List ℕ) (n count q t at : ℕ) (head : Head) (remainders target : List ℤ) : Type 0 where
  pub rule : KindStands kind s
  pub challenger : q < count
  pub defender : t < n
  pub stands : FlowStands C at
  pub read : HeadAt C at head
  pub zeros : AllZero remainders
  pub target_zeros : AllZero target

-- the record lies in the file, the cursor is past it, and the remainders are zero again
pub record FlowPassed (C : List ℕ) (at : ℕ) (remainders target : List ℤ) (past : Cursor) : Type 0 where
  pub next : past.at ≡ after_flow C at
  pub inside : after_flow C at ≤ length C
  pub zeros : AllZero remainders × AllZero target

-- the fault is the rule's for the pairs that the rows hold, at its place; where there is none the record is passed
pub record FlowJudged (rule : FileRule) (s C : List ℕ) (n : ℕ) (rows : List ℕ) (q t at : ℕ) (remainders target : List ℤ) (r : Result Cursor found.Fault) : Type 0 where
  pub is : (R : Pairs) → HoldsPairs n R rows → fault_in r ≡ flow_fault rule (automaton_in s) C R q t at
  pub place : IsAt at r
  pub passed : IfOk r (λ (past : Cursor). FlowPassed C at remainders target past)
