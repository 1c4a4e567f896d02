-- Laws of a refutation that is judged: the pair, and the record's ways out.
use Rattle.std.specs.Prelude.{ℕ, ◌+◌, ◌*◌, ◌≤◌, ◌<◌, ◌≡◌, refl, Bool, List, length, Result, Ok, Err, ℤ}
use Rattle.std.proofs.Common.{sym, ◌∙◌, subst, arith}
use Rattle.std.proofs.Math.Path.{ap, ap₂}
use Rattle.bisimulation.proofs.argument.ChoiceLaws.{less, not_less}
use Rattle.bisimulation.specs.definitions.Pairs.{Pairs}
use Rattle.rules.specs.definitions.Bytes.{signed_at}
use Rattle.rules.specs.definitions.Faults as rules
use Rattle.rules.specs.definitions.Faults.{certificate_record, open_fault}
use Rattle.rules.specs.definitions.Certificate.{FileRule, challenger_at, defender_at, prices_at, after_refutation, pair_fault, refutation_fault}
use Rattle.rules.proofs.argument.FaultLaws.{pass_on, first_stops, first_passes, certificate-refuses, opened}
use Rattle.fault.specs.declared.Fault.{Fault}
use Rattle.fault.specs.Faults.{fault_of, fault_in, PlacedAt, Placed, AtPlace}
use Rattle.fault.specs.FaultsLaws.{refuses, nothing-is, at-place, value-found}
use Rattle.transition_record.specs.declared.Fields.{Fields}
use Rattle.pairs.specs.Rows.{row_bit, HoldsPairs}
use Rattle.transition.specs.Known.{automaton_in, FieldsOf}
use Rattle.refutation.specs.declared.Head.{Head}
use Rattle.refutation.specs.declared.Refuted.{Refuted}
use Rattle.refutation_prices.specs.PricesJudged.{Tables, PricesJudged}
use Rattle.refutation.specs.RefutationJudged.{HeadAt, PairJudged, RefutationJudged}

-- the bit of a pair, whose first state is known by another name
pub pair-bit : {n v w t : ℕ} {R : Pairs} {rows : List ℕ} {b : Bool} → HoldsPairs n R rows → v ≡ w → b ≡ row_bit rows v t → v < n → t < n → R w t ≡ b
pair-bit {v = v} {t = t} {R = R} held e bit less below = ap (λ (u : ℕ). R u t) (sym e) ∙ sym (held.bits v t less below) ∙ sym bit

-- a pair that is refused
pub pair-refused : {T : Type 0} {s rows : List ℕ} {n count q t : ℕ} {f : Fault} → fault_of f ≡ rules.fault 14 → ((R : Pairs) → HoldsPairs n R rows → rules.fault 14 ≡ pair_fault (automaton_in s) R q t) → PairJudged {T = T} s n count rows q t (Err f)
pair-refused e is = record { fault = record { number = λ R held. e ∙ is R held }; challenger = tt; defender = tt }

-- what passed is known where it was placed
pub pair-passed : {T : Type 0} {s rows : List ℕ} {n count q t : ℕ} {v : T} (r : Result T Fault) (at : ℕ) → AtPlace r at (Ok v) → PairJudged s n count rows q t r → PairJudged s n count rows q t (Ok v)
pair-passed {s = s} {rows} {n} {count} {q} {t} {v} r at placed p =
    subst (λ (x : Result _ Fault). PairJudged s n count rows q t x) (value-found r (Ok v) at placed refl) p

-- a record that is opened has its fixed fields
pub fixed-whole : (C : List ℕ) (at : ℕ) → rules.no_fault ≡ open_fault certificate_record 0x5058 5 C at → at + 5 ≤ length C
fixed-whole C at opens = (opened certificate_record 0x5058 5 C at certificate-refuses (pass_on opens refl)).whole

module _ (rule : FileRule) (s C : List ℕ) (n : ℕ) (rows : List ℕ) (at : ℕ) where
  -- a refusal says nothing of the pair
  refused : {x y g : List ℤ} → Tables x y g → {f : Fault} → f.place ≡ at → ((R : Pairs) → HoldsPairs n R rows → fault_of f ≡ refutation_fault rule (automaton_in s) C R at) → RefutationJudged rule s C n rows at x y g (Err f)
  refused tables place e = record { is = e; place = place; refutes = tt; tables = tables }

  pub not_opened : {x y g : List ℤ} → Tables x y g → {T : Type 0} {f : Fault} → Placed {T = T} (open_fault certificate_record 0x5058 5 C at) at (Err f) → RefutationJudged rule s C n rows at x y g (Err f)
  unfolding refutation_fault
  not_opened tables {f = f} p = refused tables p.at (λ R held. first_stops _ _ p.is (refuses f.refusal))

  module _ (opens : rules.no_fault ≡ open_fault certificate_record 0x5058 5 C at) (h : Head) (read : HeadAt C at h) (count : ℕ) {T : Type 0} where
    pair_is : {P : Result T Fault} → PairJudged s n count rows h.challenger h.defender P → (R : Pairs) → HoldsPairs n R rows → fault_in P ≡ pair_fault (automaton_in s) R (challenger_at C at) (defender_at C at)
    pair_is pair R held = pair.fault.number R held ∙ ap₂ (pair_fault (automaton_in s) R) read.challenger read.defender

    pub not-related : (P : Result T Fault) → PairJudged s n count rows h.challenger h.defender P → {x y g : List ℤ} → Tables x y g → {f : Fault} → AtPlace P at (Err f) → RefutationJudged rule s C n rows at x y g (Err f)
    unfolding refutation_fault
    not-related P pair tables {f} placed =
        let p = at-place P (Err f) placed refl in
        refused tables p.at (λ R held. first_passes _ _ opens refl (first_stops _ _ (p.is ∙ pair_is pair R held) (refuses f.refusal)))

    module _ {v : T} (pair : PairJudged s n count rows h.challenger h.defender (Ok v)) (k : ℕ) (prices : k ≡ rule.price_count (automaton_in s) h.challenger) where
      after_is : h.prices.at + 4 * k ≡ after_refutation rule (automaton_in s) C at
      unfolding after_refutation
      after_is = omega (arith, prices ∙ ap (rule.price_count (automaton_in s)) read.challenger, read.prices)

      pub cut : {x y g : List ℤ} → Tables x y g → {f : Fault} → PlacedAt (rules.fault 11) at f → length C < h.prices.at + 4 * k → RefutationJudged rule s C n rows at x y g (Err f)
      unfolding refutation_fault
      cut tables p short =
          refused tables p.at (λ R held. first_passes _ _ opens refl (first_passes _ _ (pair_is pair R held) refl (less _ (omega (arith, after_is)) p.is)))

      module _ {x y g : List ℤ} {V : Type 0} (E : Result V Fault) (judged : PricesJudged rule s C n rows h.challenger h.defender h.prices.at x y g E) (whole : h.prices.at + 4 * k ≤ length C) where
        priced_is : (R : Pairs) → HoldsPairs n R rows → fault_in E ≡ refutation_fault rule (automaton_in s) C R at
        unfolding refutation_fault prices_at
        priced_is R held =
            first_passes _ _ opens refl
            (first_passes _ _ (pair_is pair R held) refl
            (not_less _ (omega (arith, after_is)) (judged.fault.number R held ∙ prices-are)))
          where
            prices-are : rule.prices_fault (automaton_in s) R h.challenger h.defender (λ i. signed_at C (h.prices.at + 4 * i)) ≡ rule.prices_fault (automaton_in s) R (challenger_at C at) (defender_at C at) (λ i. signed_at C (at + 5 + 4 * i))
            prices-are =
                ap (λ (m : ℕ). rule.prices_fault (automaton_in s) R h.challenger h.defender (λ i. signed_at C (m + 4 * i))) read.prices
                ∙ ap₂ (λ (q t : ℕ). rule.prices_fault (automaton_in s) R q t (λ i. signed_at C (at + 5 + 4 * i))) read.challenger read.defender

        pub priced : {f : Fault} → AtPlace E at (Err f) → RefutationJudged rule s C n rows at x y g (Err f)
        priced {f} placed =
            let p = at-place E (Err f) placed refl in
            refused judged.tables p.at (λ R held. p.is ∙ priced_is R held)

        pub stands : {e : V} → E ≡ Ok e → (r : Refuted) → {v : Fields} → FieldsOf s h.challenger v → r.source ≡ v.source → r.source < n → r.defender ≡ h.defender → r.next.at ≡ h.prices.at + 4 * k → RefutationJudged rule s C n rows at x y g (Ok r)
        stands fair r fields source first defender next =
            record {
              is = λ R held. sym (nothing-is fair) ∙ priced_is R held;
              place = tt;
              refutes = record {
                source = source ∙ fields.source ∙ ap (automaton_in s).source read.challenger;
                defender = defender ∙ read.defender;
                first = first;
                second = omega (arith, defender, pair.defender);
                next = next ∙ after_is;
                inside = omega (arith, next, whole);
              };
              tables = judged.tables;
            }
