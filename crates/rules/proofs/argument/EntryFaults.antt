-- What the judgement of a flow's entries tells of an entry without fault.
use Rattle.std.specs.Prelude.{ℕ, suc, ◌+◌, ◌≤◌, ◌<◌, ◌≡◌, true, List}
use Rattle.std.proofs.Common.{arith}
use Rattle.bisimulation.specs.definitions.Automaton.{Automaton}
use Rattle.bisimulation.specs.definitions.Pairs.{Pairs}
use Rattle.rules.specs.definitions.Bytes.{byte_at, two_at, three_at, four_at}
use Rattle.rules.specs.definitions.Certificate.{FileRule, k_fault, w_fault}
use Rattle.rules.specs.definitions.Faults.{Passes}
use Rattle.rules.proofs.argument.FaultLaws.{pass-if_less, pass-unless_less, pass-unless_true}

-- of a k entry
pub record PassedK (rule : FileRule) (A : Automaton) (C : List ℕ) (q t left at lowest : ℕ) : Type 0 where
  pub order : lowest ≤ three_at C at
  pub transition : two_at C (at + 1) < A.transitions
  pub allowed : rule.in_question A q t (byte_at C at) (two_at C (at + 1)) ≡ true
  pub some : 0 < four_at C (at + 3)
  pub rest : Passes (k_fault rule A C q t left (at + 7) (three_at C at + 1))

pub passed-k : (rule : FileRule) (A : Automaton) (C : List ℕ) (q t left at lowest : ℕ) → Passes (k_fault rule A C q t (suc left) at lowest) → PassedK rule A C q t left at lowest
unfolding k_fault
passed-k rule A C q t left at lowest e =
    let a = pass-if_less _ _ _ _ e (omega arith) in
    let b = pass-unless_less _ _ _ _ a.1 (omega arith) in
    let c = pass-unless_true _ _ _ b.1 (omega arith) in
    let d = pass-unless_less _ _ _ _ c.1 (omega arith) in
    record { order = a.0; transition = b.0; allowed = c.0; some = d.0; rest = d.1 }

-- of a w entry
pub record PassedW (A : Automaton) (C : List ℕ) (R : Pairs) (left at lowest : ℕ) : Type 0 where
  pub order : lowest ≤ two_at C at
  pub from : byte_at C at < A.states
  pub to : byte_at C (at + 1) < A.states
  pub related : R (byte_at C at) (byte_at C (at + 1)) ≡ true
  pub some : 0 < four_at C (at + 2)
  pub rest : Passes (w_fault A C R left (at + 6) (two_at C at + 1))

pub passed-w : (A : Automaton) (C : List ℕ) (R : Pairs) (left at lowest : ℕ) → Passes (w_fault A C R (suc left) at lowest) → PassedW A C R left at lowest
unfolding w_fault
passed-w A C R left at lowest e =
    let a = pass-if_less _ _ _ _ e (omega arith) in
    let b = pass-unless_less _ _ _ _ a.1 (omega arith) in
    let c = pass-unless_less _ _ _ _ b.1 (omega arith) in
    let d = pass-unless_true _ _ _ c.1 (omega arith) in
    let f = pass-unless_less _ _ _ _ d.1 (omega arith) in
    record { order = a.0; from = b.0; to = c.0; related = d.0; some = f.0; rest = f.1 }
