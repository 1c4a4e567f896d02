-- What the scan of a model file tells, by the kind of its pair.
use Rattle.std.specs.Prelude.{ℕ, ◌+◌, ◌≤◌, ◌≡◌, true, false, List, length, Result, Ok, Err}
use Rattle.std.proofs.Math.Path.{refl, sym, ap, subst}
use Rattle.std.proofs.Common.{◌∙◌, arith}
use Rattle.bisimulation.proofs.argument.ChoiceLaws.{false-not}
use Rattle.rules.specs.definitions.Limits.{limits}
use Rattle.rules.specs.definitions.Bytes.{byte_at}
use Rattle.rules.specs.definitions.SoundModel.{Bytes}
use Rattle.rules.specs.definitions.Reading.{refused, model_at, head_fault, scan_whole, read_whole, reading_of, no_model, count_of, place_of}
use Rattle.rules.proofs.argument.ReadingLaws.{head-terms, head-stops, Tells, whole_tells}
use Rattle.rules.proofs.argument.SoundModelLaws.{sound-any}
use Rattle.limits.specs.TermsBy.{terms_of, limits_by}
use Rattle.limits.specs.declared.Terms.{Terms}
use Rattle.fault.specs.Faults.{fault_of, Placed}
use Rattle.fault.specs.FaultsLaws.{refuses}
use Rattle.fault.specs.declared.Fault.{Fault}
use Rattle.model.specs.Scanned.{scan_of, Scans}
use Rattle.model.specs.declared.Model.{Model}
use Rattle.transition.specs.Known.{Known}
use Rattle.transition.specs.ModelRead.{sound-known}
use Rattle.transition.specs.KnownLaws.{known-told}
use Rattle.cost_files.specs.definitions.CostModel.{highest_cost, transitions_end}
use Rattle.cost_files.specs.definitions.CostReading.{scan_cost_model, read_costs}
use Rattle.cost_files.proofs.argument.CostReadingLaws.{cost-scan, scan-told, scan-sound, scan-low, cost-refusal-told, cost-head-stops}
use Rattle.rule_kind.specs.Kinds.{has_costs, pairs_by, CostsThere}
use Rattle.rule_kind.specs.declared.Kind.{Kind}
use Rattle.rule_kind.specs.declared.Kind.TheVariants.{Plain, Costs, Strong}
use Rattle.judgement.specs.Verdicts.{scan_by, ReadsBy}

-- reading is what the scan says
read_by : (kind : Kind) (terms : Terms) (M : List ℕ) → reading_of M (scan_by kind terms M) ≡ (pairs_by kind terms).read M
unfolding read_whole read_costs
read_by Plain terms M = refl
read_by Costs terms M = refl
read_by Strong terms M = refl

-- the scan of a kind, with costs and without
pub scans-costs : (kind : Kind) (terms : Terms) {M table : List ℕ} {r : Result Model Fault} → has_costs kind ≡ true → Scans M (scan_cost_model (limits_by terms) M) r table → Scans M (scan_by kind terms M) r table
scans-costs Plain terms e h = absurd (false-not e)
scans-costs Costs terms e h = h
scans-costs Strong terms e h = absurd (false-not e)

pub scans-whole : (kind : Kind) (terms : Terms) {M table : List ℕ} {r : Result Model Fault} → has_costs kind ≡ false → Scans M (scan_whole (limits_by terms) M) r table → Scans M (scan_by kind terms M) r table
scans-whole Plain terms e h = h
scans-whole Costs terms e h = absurd (false-not (sym e))
scans-whole Strong terms e h = h

-- a sound model
module _ (terms : Terms) (M : List ℕ) {table : List ℕ} {m : Model} where
  costs-known : Bytes M → Scans M (scan_cost_model (limits_by terms) M) (Ok m) table → Known M m.states m.transitions table × CostsThere M
  unfolding transitions_end
  costs-known b told =
      let c = cost-scan (limits_by terms) M m.states m.actions m.transitions m.end told.answer in
      let t = scan-told (limits_by terms) M c in
      let end : c.end ≡ place_of M (count_of M) = t.last ∙ ap (place_of M) t.transitions in (
        known-told (limits_by terms) t (sound-any (limits_by terms) (model_at M) (scan-sound (limits_by terms) M c b).rules) told.places told.size,
        record {
          inside = omega (arith, c.after, c.whole, end, t.transitions);
          low = λ r l. subst (λ (p : ℕ). byte_at M (p + 2 + r) ≤ highest_cost) end (scan-low (limits_by terms) M c r (omega (arith, l, t.transitions)));
        },
      )

  pub sound-by : (kind : Kind) {r : Result Model Fault} → Scans M (scan_by kind terms M) r table → r ≡ Ok m → Bytes M → Known M m.states m.transitions table × ReadsBy kind terms M
  unfolding reading_of
  sound-by kind {r} g e b =
      let told = subst (λ (x : Result Model Fault). Scans M (scan_by kind terms M) x table) e g in
      go kind told (sym (read_by kind terms M) ∙ ap (reading_of M) (sym told.answer))
    where
      go : (k : Kind) → Scans M (scan_by k terms M) (Ok m) table → (pairs_by k terms).read M ≡ reading_of M (scan_of (Ok m)) → Known M m.states m.transitions table × ReadsBy k terms M
      go Plain told q = ((sound-known terms M told refl b).0, record { end = m.end; reads = q; stands = tt })
      go Costs told q = let k = costs-known b told in (k.0, record { end = m.end; reads = q; stands = k.1 })
      go Strong told q = ((sound-known terms M told refl b).0, record { end = m.end; reads = q; stands = tt })

-- a model refused, at a place of the file
module _ (terms : Terms) (M : List ℕ) (f : Fault) where
  inside-by : (kind : Kind) → (pairs_by kind terms).read M ≡ no_model (fault_of f) f.place → refused (fault_of f) f.place ≡ scan_by kind terms M → f.place ≤ length M
  inside-by Plain q e = (subst (Tells (limits_by terms) M) (sym e) (whole_tells (limits_by terms) M)).inside
  inside-by Strong q e = (subst (Tells (limits_by terms) M) (sym e) (whole_tells (limits_by terms) M)).inside
  inside-by Costs q e = (cost-refusal-told (limits_by terms) M (fault_of f) f.place q).2

  scan-told-by : (kind : Kind) → refused (fault_of f) f.place ≡ scan_by kind terms M → ((pairs_by kind terms).read M ≡ no_model (fault_of f) f.place) × (f.place ≤ length M)
  unfolding reading_of
  scan-told-by kind e =
      let q = sym (read_by kind terms M) ∙ ap (reading_of M) (sym e) in
      (q, inside-by kind q e)

  pub refused-by : (kind : Kind) {r : Result Model Fault} {table : List ℕ} → Scans M (scan_by kind terms M) r table → r ≡ Err f → ((pairs_by kind terms).read M ≡ no_model (fault_of f) f.place) × (f.place ≤ length M)
  refused-by kind {table = table} g e = scan-told-by kind (subst (λ (x : Result Model Fault). Scans M (scan_by kind terms M) x table) e g).answer

  -- and by the fault of its head
  pub head-by : (kind : Kind) → Placed {T = Unit {0}} (head_fault limits M) 0 (Err f) → ((pairs_by kind terms).read M ≡ no_model (fault_of f) f.place) × (f.place ≤ length M)
  head-by kind p = scan-told-by kind (ap (refused (fault_of f)) p.at ∙ go kind)
    where
      headed : fault_of f ≡ head_fault (limits_by terms) M
      headed = p.is ∙ sym (head-terms (terms_of terms) limits M)

      go : (k : Kind) → refused (fault_of f) 0 ≡ scan_by k terms M
      go Plain = head-stops (limits_by terms) M headed (refuses f.refusal)
      go Costs = cost-head-stops (limits_by terms) M headed (refuses f.refusal)
      go Strong = head-stops (limits_by terms) M headed (refuses f.refusal)
