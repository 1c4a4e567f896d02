-- Flows with their k multiplied by a table of divisors: what the code needs, finds and writes.
use Rattle.std.specs.Prelude.{ℕ, ◌+◌, ◌*◌, ◌≤◌, ◌<◌, ◌≡◌, false, List, ◌++◌, map, length, take, drop, get_or}
use Rattle.std.specs.Prelude.{Option, Some, None}
use Rattle.rules.specs.definitions.Limits.{limits}
use Rattle.rules.specs.definitions.Model.{Model}
use Rattle.rules.specs.definitions.SoundModel.{Each}
use Rattle.rules.specs.definitions.Faults.{fault}
use Rattle.rules.specs.definitions.Certificate.{k_count_at}
use Rattle.rules.specs.definitions.Encoding.{KEntry, FlowRecord, list_bytes, k_bytes, flow_bytes}
use Rattle.rules.specs.definitions.CertificateAt.{entries_from, k_at, flow_record_at, flows_from}
use Rattle.rules.specs.definitions.Answers.{Outcome, refusal_in, unwritten}
use Rattle.rules.proofs.argument.Standing.{Stands}
use Rattle.rules.proofs.argument.CertificateStands.{FlowsFill}
use Rattle.rewriting.specs.definitions.Rewritten.{divisor_at}
use Rattle.rewriting.specs.definitions.RewriteAnswer.{passes_k, refuse_large}

-- a k multiplied by what the table has for its transition
unfoldable pub multiplied_k : (table : List ℕ) → KEntry → KEntry
multiplied_k table e = record { layer = e.layer; transition = e.transition; k = e.k * get_or table e.transition 0 }

-- that of the entry at a place
unfoldable pub multiplied_at : (table C : List ℕ) → (at : ℕ) → ℕ
multiplied_at table C at = (multiplied_k table (k_at C at)).k

-- so many k entries from a place on
abbrev pub multiplied_ks : (table C : List ℕ) → (ks at : ℕ) → List KEntry
multiplied_ks table C ks at = map (multiplied_k table) (entries_from 7 (k_at C) ks at)

-- a flow
unfoldable pub multiplied_flow : (table : List ℕ) → FlowRecord → FlowRecord
multiplied_flow table f = record { D = f.D; ks = map (multiplied_k table) f.ks; ws = f.ws }

-- the transitions of k entries have a place in the table
abbrev pub Listed : List KEntry → Type 0
Listed ks = Each (λ (e : KEntry). e.transition < limits.transitions) ks

-- a table of divisors
pub record IsTable (table : List ℕ) : Type 0 where
  pub size : length table ≡ limits.transitions
  pub small : (r : ℕ) → get_or table r 0 ≤ 65535

-- a k entry lies in the file
pub record EntryReady (C table : List ℕ) (at : ℕ) : Type 0 where
  pub divisors : IsTable table
  pub inside : at + 7 ≤ length C
  pub listed : (k_at C at).transition < limits.transitions

-- so many from a place on
pub record KsReady (C table : List ℕ) (ks at : ℕ) : Type 0 where
  pub divisors : IsTable table
  pub inside : at + 7 * ks ≤ length C
  pub listed : Listed (entries_from 7 (k_at C) ks at)

-- their bytes stand there, and they fit their fields, once they are multiplied
pub record KsFit (C table : List ℕ) (ks at : ℕ) : Type 0 where
  pub ready : KsReady C table ks at
  pub stand : Stands C at (list_bytes k_bytes (entries_from 7 (k_at C) ks at))
  pub fit : passes_k (multiplied_ks table C ks at) ≡ false

-- a flow record that does
pub record FlowFits (C table : List ℕ) (at : ℕ) : Type 0 where
  pub stand : Stands C at (flow_bytes (flow_record_at C at))
  pub ks : KsFit C table (k_count_at C at) (at + 8)

-- so many flows from a place on fill the file
pub record FlowsLeft (C : List ℕ) (left at : ℕ) : Type 0 where
  pub fill : FlowsFill C left at
  pub stand : Stands C at (list_bytes flow_bytes (flows_from C left at))
  pub listed : Each (λ (f : FlowRecord). Listed f.ks) (flows_from C left at)

-- some number of them does
pub record FlowsStand (C table : List ℕ) (at : ℕ) : Type 0 where
  pub divisors : IsTable table
  pub left : ℕ
  pub flows : FlowsLeft C left at

-- the table has the divisors of a model's transitions, and the flows name these alone
pub record TableOf (N : Model) (C table : List ℕ) (left at : ℕ) : Type 0 where
  pub count : ℕ
  pub held : (r : ℕ) → r < count → get_or table r 0 ≡ divisor_at N r
  pub named : Each (λ (f : FlowRecord). Each (λ (e : KEntry). e.transition < count) f.ks) (flows_from C left at)

-- the first flow that has a k too large is the one at a place, where as many as fill the file are looked at
pub record LargeAt (table C : List ℕ) (at r : ℕ) : Type 0 where
  pub inside : r < length C
  pub large : (left : ℕ) → FlowsLeft C left at → (N : Model) → TableOf N C table left at → (before : List (List ℕ)) (next : Outcome) → refuse_large N C before left at next ≡ unwritten (refusal_in (fault 35) 2 r (length C)) before

-- or none has one
pub record NoneLarge (table C : List ℕ) (at : ℕ) : Type 0 where
  pub none : (left : ℕ) → FlowsLeft C left at → (N : Model) → TableOf N C table left at → (before : List (List ℕ)) (next : Outcome) → refuse_large N C before left at next ≡ next
  pub fit : (left : ℕ) → FlowsLeft C left at → Each (λ (f : FlowRecord). passes_k (multiplied_flow table f).ks ≡ false) (flows_from C left at)

abbrev pub FirstLarge : (table C : List ℕ) (at : ℕ) → Option ℕ → Type 0
FirstLarge table C at (Some r) = LargeAt table C at r
FirstLarge table C at None = NoneLarge table C at

-- some number of flows fills the file, and each k fits once it is multiplied
pub record FlowsFit (C table : List ℕ) (at : ℕ) : Type 0 where
  pub stand : FlowsStand C table at
  pub fit : Each (λ (f : FlowRecord). passes_k (multiplied_flow table f).ks ≡ false) (flows_from C stand.left at)

-- the file with its flows multiplied, so many from a place on: what stands before them stays
abbrev pub flows_file : (table C : List ℕ) → (left at : ℕ) → List ℕ
flows_file table C left at = take at C ++ list_bytes flow_bytes (map (multiplied_flow table) (flows_from C left at))

-- which is written, whatever the number is that fills the file
pub record FlowsWritten (table C : List ℕ) (at : ℕ) (before after : List ℕ) : Type 0 where
  pub file : (left : ℕ) → FlowsLeft C left at → after ≡ flows_file table C left at ++ drop (length C) before
