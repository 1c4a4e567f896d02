-- A flow record's ways out.
use Rattle.std.specs.Prelude.{ℕ, ◌+◌, ◌*◌, ◌≤◌, ◌<◌, ◌≡◌, refl, List, length, ℤ, Err}
use Rattle.std.proofs.Common.{◌∙◌, arith}
use Rattle.bisimulation.specs.definitions.Choice.{if_less}
use Rattle.bisimulation.proofs.argument.ChoiceLaws.{less, not_less, same, not_same}
use Rattle.bisimulation.specs.definitions.Automaton.{Automaton}
use Rattle.bisimulation.specs.definitions.Pairs.{Pairs}
use Rattle.rules.specs.definitions.Bytes.{four_at}
use Rattle.rules.specs.definitions.Certificate.{FileRule, k_count_at, w_count_at, after_k, after_flow, k_fault, w_fault, flow_at, flow_fault}
use Rattle.rules.specs.definitions.Faults as rules
use Rattle.rules.specs.definitions.Faults.{fault, Passes, certificate_record, first_of}
use Rattle.rules.proofs.argument.FaultLaws.{first_stops, first-none, certificate-refuses, opened}
use Rattle.fault.specs.Faults.{PlacedAt, Placed}
use Rattle.fault.specs.FaultsLaws.{first-found}
use Rattle.fault.specs.declared.Fault.{Fault}
use Rattle.field.specs.declared.Cursor.{Cursor}
use Rattle.pairs.specs.Rows.{HoldsPairs}
use Rattle.transition.specs.Known.{automaton_in}
use Rattle.flow.specs.FlowJudged.{flow_opens, HeadAt, FlowStands, FlowJudged}
use Rattle.flow.specs.declared.Head.{Head}

-- a record that is opened has D and the k count
pub head-whole : (C : List ℕ) (at : ℕ) → Passes (flow_opens C at) → at + 8 ≤ length C
head-whole C at opens = (opened certificate_record 0x464C 8 C at certificate-refuses opens).whole

-- where its k entries end
pub head-ends : {C : List ℕ} {at : ℕ} {r : Head} → HeadAt C at r → r.first.at + 7 * r.entries ≡ after_k C at
unfolding after_k
head-ends h = omega (arith, h.first, h.entries)

-- the flow's fault, past its head, past the k entries, and past the w entries
module _ (rule : FileRule) (A : Automaton) (C : List ℕ) (R : Pairs) (q t at : ℕ) (opens : Passes (flow_opens C at)) where
  pub d-missing : four_at C (at + 2) ≡ 0 → fault 19 ≡ flow_fault rule A C R q t at
  unfolding flow_fault
  d-missing z = first-none _ _ opens (same _ z refl)

  pub ks-missing : (four_at C (at + 2) ≡ 0 → ⊥) → length C < after_k C at → fault 11 ≡ flow_fault rule A C R q t at
  unfolding flow_fault
  ks-missing n l = first-none _ _ opens (not_same _ n (less _ l refl))

module _ (rule : FileRule) (A : Automaton) {C : List ℕ} (R : Pairs) (q t : ℕ) {at : ℕ} (h : FlowStands C at) where
  past_head : {z : rules.Fault} → z ≡ first_of (k_fault rule A C q t (k_count_at C at) (at + 8) 0) (if_less (length C) (after_k C at + 2) (fault 11) (if_less (length C) (after_flow C at) (fault 11) (first_of (w_fault A C R (w_count_at C at) (after_k C at + 2) 0) (rule.equations_fault A q t (flow_at C at))))) → z ≡ flow_fault rule A C R q t at
  unfolding flow_fault
  past_head e = first-none _ _ h.opens (not_same _ h.some (not_less _ h.whole e))

  pub k-refused : {m : ℕ} → fault m ≡ k_fault rule A C q t (k_count_at C at) (at + 8) 0 → (m ≡ 0 → ⊥) → fault m ≡ flow_fault rule A C R q t at
  k-refused e o = past_head (first_stops _ _ e o)

  module _ (ks : Passes (k_fault rule A C q t (k_count_at C at) (at + 8) 0)) where
    pub count-missing : length C < after_k C at + 2 → fault 11 ≡ flow_fault rule A C R q t at
    count-missing l = past_head (first-none _ _ ks (less _ l refl))

    pub ws-missing : after_k C at + 2 ≤ length C → length C < after_flow C at → fault 11 ≡ flow_fault rule A C R q t at
    ws-missing l k = past_head (first-none _ _ ks (not_less _ l (less _ k refl)))

    module _ (l : after_k C at + 2 ≤ length C) (k : after_flow C at ≤ length C) where
      pub w-refused : {m : ℕ} → fault m ≡ w_fault A C R (w_count_at C at) (after_k C at + 2) 0 → (m ≡ 0 → ⊥) → fault m ≡ flow_fault rule A C R q t at
      w-refused e o = past_head (first-none _ _ ks (not_less _ l (not_less _ k (first_stops _ _ e o))))

      pub past-ws : {z : rules.Fault} → Passes (w_fault A C R (w_count_at C at) (after_k C at + 2) 0) → z ≡ rule.equations_fault A q t (flow_at C at) → z ≡ flow_fault rule A C R q t at
      past-ws ws e = past_head (first-none _ _ ks (not_less _ l (not_less _ k (first-none _ _ ws e))))

-- a refusal says nothing of the remainders, nor of what follows
module _ {rule : FileRule} {s C : List ℕ} {n : ℕ} {rows : List ℕ} {q t at : ℕ} {remainders target : List ℤ} where
  pub not_opened : {T : Type 0} {f : Fault} → Placed {T = T} (flow_opens C at) at (Err f) → FlowJudged rule s C n rows q t at remainders target (Err f)
  unfolding flow_fault
  not_opened p = record { is = λ R h. (first-found {U = Cursor} _ p).is; place = p.at; passed = tt }

  pub refused : {x z : rules.Fault} {g : Fault} → z ≡ x → PlacedAt z at g → ((R : Pairs) → HoldsPairs n R rows → x ≡ flow_fault rule (automaton_in s) C R q t at) → FlowJudged rule s C n rows q t at remainders target (Err g)
  refused e p h = record { is = λ R held. p.is ∙ e ∙ h R held; place = p.at; passed = tt }
