-- Laws of the blocks record.
use Rattle.std.specs.Prelude.{ℕ, zero, suc, ◌+◌, ◌-◌, ◌≤◌, ◌<◌, ◌≡◌, refl, Bool, List, length, take, drop, Err}
use Rattle.std.proofs.Common.{sym, ◌∙◌, ap, subst, get_or-take, get_or-drop, arith}
use Rattle.bisimulation.specs.definitions.Choice.{if_less, if_same, if_true}
use Rattle.bisimulation.proofs.argument.ChoiceLaws.{either_same, via}
use Rattle.bisimulation.specs.definitions.Automaton.{Automaton}
use Rattle.bisimulation.specs.definitions.Pairs.{Pairs}
use Rattle.rules.specs.definitions.Limits.{limits}
use Rattle.rules.specs.definitions.Bytes.{byte_at}
use Rattle.rules.specs.definitions.Certificate.{numbered_fault, pairs_fault, blocks_at, blocks_fault}
use Rattle.rules.specs.definitions.Faults as rules
use Rattle.rules.specs.definitions.Faults.{fault, no_fault, Passes, certificate_record, open_fault}
use Rattle.rules.proofs.argument.FaultLaws.{pass_on, first_stops, first_passes, certificate-refuses, opened, pass-if_less}
use Rattle.fault.specs.declared.Fault.{Fault}
use Rattle.fault.specs.Faults.{Placed}
use Rattle.fault.specs.FaultsLaws.{refuses}
use Rattle.pairs.specs.Rows.{HoldsPairs}
use Rattle.classes.specs.Classes.{SmallBytes, shared_as_related, Agrees}
use Rattle.blocks.specs.Blocks.{BlocksJudged}

pub numbered-end : (C : List ℕ) (left at seen : ℕ) → left ≤ 0 → numbered_fault C left at seen ≡ no_fault
unfolding numbered_fault
numbered-end C zero at seen h = refl
numbered-end C (suc left) at seen h = absurd (omega arith)

pub numbered-turn : (C : List ℕ) (left at seen : ℕ) → 0 < left → numbered_fault C left at seen ≡ if_less seen (byte_at C at) (fault 17) (numbered_fault C (left - 1) (at + 1) (if_same (byte_at C at) seen (seen + 1) seen))
unfolding numbered_fault
numbered-turn C zero at seen h = absurd (omega arith)
numbered-turn C (suc left) at seen h =
    let e : left ≡ suc left - 1 = omega arith in
    ap (λ (k : ℕ). if_less seen (byte_at C at) (fault 17) (numbered_fault C k (at + 1) (if_same (byte_at C at) seen (seen + 1) seen))) e

-- of an automaton with so many states
pub numbered_of : {x : rules.Fault} (A : Automaton) (C : List ℕ) (n at : ℕ) → A.states ≡ n → x ≡ numbered_fault C n at 0 → x ≡ numbered_fault C A.states at 0
numbered_of A C n at e h = h ∙ ap (λ (k : ℕ). numbered_fault C k at 0) (sym e)

-- blocks numbered by first appearance are small
pub numbered-small : (C : List ℕ) (left at seen : ℕ) → Passes (numbered_fault C left at seen) → (i : ℕ) → i < left → byte_at C (at + i) ≤ seen + i
unfolding numbered_fault
numbered-small C zero at seen e i h = absurd (omega arith)
numbered-small C (suc left) at seen e i h =
    let a = pass-if_less _ _ _ _ e (omega arith) in
    go a.0 (λ k l. numbered-small C left (at + 1) (if_same (byte_at C at) seen (seen + 1) seen) a.1 k l) i h
  where
    most : if_same (byte_at C at) seen (seen + 1) seen ≤ seen + 1
    most = either_same (λ (k : ℕ). k ≤ seen + 1) (byte_at C at) seen (omega arith) (omega arith)

    go : byte_at C at ≤ seen → ((k : ℕ) → k < left → byte_at C (at + 1 + k) ≤ if_same (byte_at C at) seen (seen + 1) seen + k) → (i : ℕ) → i < suc left → byte_at C (at + i) ≤ seen + i
    go first later zero h = let place : at ≡ at + 0 = omega arith in omega (arith, first, ap (byte_at C) place)
    go first later (suc i) h =
        let place : at + 1 + i ≡ at + suc i = omega arith in
        omega (arith, most, ap (byte_at C) place, later i (omega arith))

-- so they are numbers of rows, as a part of the file
pub small-part : (C : List ℕ) (at n m k : ℕ) → n ≤ limits.states → m ≤ n → k ≡ n → Passes (numbered_fault C n at 0) → SmallBytes m (take k (drop at C))
unfolding byte_at
small-part C at n m k few most e f =
    record {
      small = λ u h.
          omega (arith, get_or-take k (drop at C) u 0 (omega arith), get_or-drop at C u 0, numbered-small C n at 0 f u (omega arith));
    }

-- 18, by what the comparison of the rows with the blocks says
pub pairs-fault : (A : Automaton) (R : Pairs) (C : List ℕ) (at n k m : ℕ) (rows : List ℕ) (answer : Bool) → A.states ≡ n → k ≡ n → m ≡ n → HoldsPairs n R rows → Agrees (take k (drop (at + 2) C)) m rows answer → pairs_fault A R (blocks_at A C at) ≡ if_true answer no_fault (fault 18)
unfolding pairs_fault blocks_at
pairs-fault A R C at n k m rows answer states e all held agrees =
    let same : k ≡ A.states = e ∙ sym states in
    ap (λ (b : Bool). if_true b no_fault (fault 18))
    (sym ((subst (λ (x : ℕ). Agrees (take k (drop (at + 2) C)) x rows answer) all agrees).tells R held ∙ subst (λ (x : ℕ). shared_as_related n (take k (drop (at + 2) C)) R ≡ shared_as_related x (take x (drop (at + 2) C)) R) same
    (ap (λ (x : ℕ). shared_as_related x (take k (drop (at + 2) C)) R) (sym e))))

-- the record opened, of an automaton with so many states
opens_of : {x : rules.Fault} (A : Automaton) (C : List ℕ) (n at : ℕ) → A.states ≡ n → x ≡ open_fault certificate_record 0x424B (2 + n) C at → x ≡ open_fault certificate_record 0x424B (2 + A.states) C at
opens_of A C n at e h = h ∙ ap (λ (k : ℕ). open_fault certificate_record 0x424B (2 + k) C at) (sym e)

-- the record's ways out
module _ (C : List ℕ) (at n : ℕ) where
  pub not_opened : {T U : Type 0} {rows : List ℕ} {f : Fault} → Placed {T = T} (open_fault certificate_record 0x424B (2 + n) C at) at (Err f) → BlocksJudged {T = U} C at n rows (Err f)
  unfolding blocks_fault
  not_opened {f = f} p =
      record { is = λ A e R h. first_stops _ _ (opens_of A C n at e p.is) (refuses f.refusal); place = p.at; inside = tt }

  module _ (opens : no_fault ≡ open_fault certificate_record 0x424B (2 + n) C at) where
    pub whole : at + 2 + n ≤ length C
    whole = omega (arith, (opened certificate_record 0x424B (2 + n) C at certificate-refuses (pass_on opens refl)).whole)

    pub not-numbered : {U V : Type 0} {rows : List ℕ} {f : Fault} → Placed {T = U} (numbered_fault C n (at + 2) 0) at (Err f) → BlocksJudged {T = V} C at n rows (Err f)
    unfolding blocks_fault
    not-numbered {f = f} p =
        record {
          is = λ A e R h. first_passes _ _ (opens_of A C n at e opens) refl (first_stops _ _ (numbered_of A C n (at + 2) e p.is) (refuses f.refusal));
          place = p.at;
          inside = tt;
        }

    -- 18 or none, as the comparison says
    pub compared : no_fault ≡ numbered_fault C n (at + 2) 0 → {rows : List ℕ} {k m : ℕ} {answer : Bool} → Agrees (take k (drop (at + 2) C)) m rows answer → k ≡ n → m ≡ n → {f : rules.Fault} → f ≡ if_true answer no_fault (fault 18) → (A : Automaton) → A.states ≡ n → (R : Pairs) → HoldsPairs n R rows → f ≡ blocks_fault A C R at
    unfolding blocks_fault
    compared numbered {rows} {k} {m} {answer} agrees part all found A e R h =
        first_passes _ _ (opens_of A C n at e opens) refl
        (first_passes _ _ (numbered_of A C n (at + 2) e numbered) refl
        (via (pairs-fault A R C at n k m rows answer e part all h agrees) found))
