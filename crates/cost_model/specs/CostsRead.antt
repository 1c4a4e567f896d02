-- What the loop over the costs keeps.
use Prim.Native.Nat.{ℕ, zero, suc, ◌+◌, ◌-◌, ◌≤◌, ◌<◌}
use Rattle.std.specs.Prelude.{◌≡◌, List, length, Result, Ok, Err}
use Rattle.std.proofs.Math.Path.{refl, ap, subst}
use Rattle.std.proofs.Common.{sym, ◌∙◌}
use native.Mathlib.Omega.{arith}
use Rattle.bisimulation.proofs.argument.ChoiceLaws.{less, not_less}
use Rattle.rules.specs.definitions.Bytes.{byte_at}
use Rattle.rules.specs.definitions.Faults as rules
use Rattle.rules.specs.definitions.Faults.{model_record, open_fault, Passes}
use Rattle.rules.specs.definitions.Reading.{Scan, sound, refused, scan_model, refuse_bytes_left}
use Rattle.rules.proofs.argument.ReadingLaws.{refuse-stops, refuse-passes, refuse-cases, Sound, Tells, scan-tells}
use Rattle.rules.specs.definitions.Limits.{Limits}
use Rattle.fault.specs.declared.Fault.{Fault}
use Rattle.model.specs.Scanned.{scan_of, PlacesHeld, PlacesOf, Scans, scans, left-held}
use Rattle.model.specs.declared.Model.{Model}
use Rattle.cost_files.specs.definitions.CostModel.{highest_cost}
use Rattle.cost_files.specs.definitions.CostReading.{cost_fault, scan_costs, scan_cost_record, scan_cost_model}

-- before each cost: those left, from a place on, are judged as all of them
pub record CostsLeft (s : List ℕ) (count start left at : ℕ) : Type 0 where
  pub ends : at + left ≡ start + count
  pub inside : start + count ≤ length s
  pub judged : (next : Scan) → scan_costs s left at next ≡ scan_costs s count start next

pub costs-start : {s : List ℕ} {count start at : ℕ} → start + count ≤ length s → at ≡ start → CostsLeft s count start count at
costs-start {s} {count} h e = record { ends = omega arith; inside = h; judged = λ next. ap (λ (p : ℕ). scan_costs s count p next) e }

module _ {s : List ℕ} {count start : ℕ} where
  -- a cost above the highest
  pub costs-refused : (left : ℕ) {at cost : ℕ} → CostsLeft s count start left at → 0 < left → cost ≡ byte_at s at → highest_cost < cost → (next : Scan) → refused (rules.fault 29) at ≡ scan_costs s count start next
  unfolding scan_costs cost_fault
  costs-refused zero h some e high next = absurd (omega arith)
  costs-refused (suc left) {at} h some e high next = refuse-stops _ at _ (less _ (omega (arith, e)) refl) (λ z. omega (arith, z)) ∙ h.judged next

  -- one that is not
  pub costs-turn : (left : ℕ) {at cost next : ℕ} → CostsLeft s count start left at → 0 < left → cost ≡ byte_at s at → cost ≤ highest_cost → next ≡ at + 1 → CostsLeft s count start (left - 1) next
  unfolding scan_costs cost_fault
  costs-turn zero h some e low n = absurd (omega arith)
  costs-turn (suc left) {at} {next = next} h some e low n =
      let one : suc left - 1 ≡ left = omega arith in
      record {
        ends = omega (arith, h.ends);
        inside = h.inside;
        judged = λ scan. ap (λ (k : ℕ). scan_costs s k next scan) one ∙ ap (λ (p : ℕ). scan_costs s left p scan) n ∙ refuse-passes at (not_less _ (omega (arith, e)) refl) refl refl ∙ h.judged scan;
      }

  pub costs-end : (left : ℕ) {at : ℕ} → CostsLeft s count start left at → left ≤ 0 → (next : Scan) → next ≡ scan_costs s count start next
  unfolding scan_costs
  costs-end zero h none next = h.judged next
  costs-end (suc left) h none next = absurd (omega arith)

-- the ways out of the cost record that begins where the transitions end
module _ (s : List ℕ) (n m count end : ℕ) where
  -- it is not opened
  pub record-stops : {x : rules.Fault} → x ≡ open_fault model_record 0x434F (2 + count) s end → (x.number ≡ 0 → ⊥) → refused x end ≡ refuse_bytes_left s (scan_cost_record s (sound n m count end))
  unfolding scan_cost_record refuse_bytes_left
  record-stops {x} e some = subst (λ (scan : Scan). refused x end ≡ refuse_bytes_left s scan) (refuse-stops _ end _ e some) refl

  module _ {x : rules.Fault} (e : x ≡ open_fault model_record 0x434F (2 + count) s end) (none : x.number ≡ 0) where
    -- its costs decide
    record-goes : {scan : Scan} → scan ≡ scan_costs s count (end + 2) (sound n m count (end + 2 + count)) → refuse_bytes_left s scan ≡ refuse_bytes_left s (scan_cost_record s (sound n m count end))
    unfolding scan_cost_record
    record-goes h = ap (refuse_bytes_left s) (refuse-passes end e none h)

    pub record-high : {f : rules.Fault} {at : ℕ} → ((next : Scan) → refused f at ≡ scan_costs s count (end + 2) next) → refused f at ≡ refuse_bytes_left s (scan_cost_record s (sound n m count end))
    unfolding refuse_bytes_left
    record-high h = record-goes (h _)

    pub record-whole : {last : ℕ} → last ≡ end + 2 + count → ((next : Scan) → next ≡ scan_costs s count (end + 2) next) → refuse_bytes_left s (sound n m count last) ≡ refuse_bytes_left s (scan_cost_record s (sound n m count end))
    record-whole q h = record-goes (ap (sound n m count) q ∙ h _)

-- the table of places stays that of the model
module _ (s table : List ℕ) where
  costs-held : (left at : ℕ) (next : Scan) → PlacesOf s table next → PlacesOf s table (scan_costs s left at next)
  unfolding scan_costs
  costs-held zero at next h = h
  costs-held (suc left) at next h = refuse-cases (PlacesOf s table) _ at _ (λ n. tt) (λ p. costs-held left (at + 1) next h)

  record-held : (scan : Scan) → PlacesOf s table scan → PlacesOf s table (scan_cost_record s scan)
  unfolding scan_cost_record
  record-held (sound n m count end) h = refuse-cases (PlacesOf s table) _ end _ (λ n. tt) (λ p. costs-held count (end + 2) _ h)
  record-held (refused f place) h = tt

-- the model read, and what its costs make of it
module _ (L : Limits) {s table : List ℕ} where
  module _ {m : Model} (g : Scans s (scan_model L s) (Ok m) table) where
    pub sound-fits : (m.end ≤ length s) × (m.transitions ≤ L.transitions)
    sound-fits =
        let told : Sound L s m.states m.actions m.transitions m.end = subst (Tells L s) (sym g.answer) (scan-tells L s) in
        (told.inside, omega (arith, told.transitions, told.head.transitions))

    pub cost-scans : (x : Result Model Fault) → scan_of x ≡ refuse_bytes_left s (scan_cost_record s (scan_of (Ok m))) → Scans s (scan_cost_model L s) x table
    unfolding scan_cost_model
    cost-scans x q =
        scans x (q ∙ ap (λ (k : Scan). refuse_bytes_left s (scan_cost_record s k)) g.answer)
        (subst (PlacesOf s table) (sym q) (left-held s table _ (record-held s table (scan_of (Ok m)) g.places)))
        g.size

  pub cost-refused : {f : Fault} → Scans s (scan_model L s) (Err f) table → Scans s (scan_cost_model L s) (Err f) table
  unfolding scan_cost_model scan_cost_record refuse_bytes_left
  cost-refused {f} g = scans (Err f) (ap (λ (k : Scan). refuse_bytes_left s (scan_cost_record s k)) g.answer) tt g.size
