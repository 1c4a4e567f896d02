-- Laws of a part's fault.
use Rattle.std.specs.Prelude.{ℕ, ◌≡◌, Result, Ok, Err}
use Rattle.std.proofs.Common.{sym, ◌∙◌, ap, arith}
use Rattle.std.proofs.Math.Path.{subst}
use Rattle.rules.specs.definitions.Faults as rules
use Rattle.rules.proofs.argument.FaultLaws.{pass_on, first_stops, first_passes}
use Rattle.fault.specs.declared.Refusal.{Refusal}
use Rattle.fault.specs.declared.Refusal.TheVariants.{ModelEnds, ModelMark, ModelHead, Label, TransitionFields, TransitionEntries, WeightSum, EntryCount, ModelBytesLeft, BlockRoom, CertificateEnds, CertificateMark, RefutationCount, RefutationPair, PriceCondition, LastCondition, BlockNumbers, BlockPairs, FlowEntry, FlowBalance, FlowTarget, CertificateBytesLeft, MergedRoom, NoState, JoinedLimits, JoinedRoom, NotInPart, SheetRoom, Cost, FlowCost, TextLine, TextSum, TextRoom, Terms, LargeK, RewrittenRoom, ComposedLimits, ComposedRoom, SentenceRoom, LargestLimits, LargestRoom}
use Rattle.fault.specs.declared.Fault.{Fault}
use Rattle.fault.specs.Faults.{number_of, fault_of, fault_in, PlacedAt, Placed, AtPlace}

-- no refusal has the number 0
pub refuses : (x : Refusal) → number_of x ≡ 0 → ⊥
refuses ModelEnds z = absurd (omega (arith, z))
refuses ModelMark z = absurd (omega (arith, z))
refuses ModelHead z = absurd (omega (arith, z))
refuses Label z = absurd (omega (arith, z))
refuses TransitionFields z = absurd (omega (arith, z))
refuses TransitionEntries z = absurd (omega (arith, z))
refuses WeightSum z = absurd (omega (arith, z))
refuses EntryCount z = absurd (omega (arith, z))
refuses ModelBytesLeft z = absurd (omega (arith, z))
refuses BlockRoom z = absurd (omega (arith, z))
refuses CertificateEnds z = absurd (omega (arith, z))
refuses CertificateMark z = absurd (omega (arith, z))
refuses RefutationCount z = absurd (omega (arith, z))
refuses RefutationPair z = absurd (omega (arith, z))
refuses PriceCondition z = absurd (omega (arith, z))
refuses LastCondition z = absurd (omega (arith, z))
refuses BlockNumbers z = absurd (omega (arith, z))
refuses BlockPairs z = absurd (omega (arith, z))
refuses FlowEntry z = absurd (omega (arith, z))
refuses FlowBalance z = absurd (omega (arith, z))
refuses FlowTarget z = absurd (omega (arith, z))
refuses CertificateBytesLeft z = absurd (omega (arith, z))
refuses MergedRoom z = absurd (omega (arith, z))
refuses NoState z = absurd (omega (arith, z))
refuses JoinedLimits z = absurd (omega (arith, z))
refuses JoinedRoom z = absurd (omega (arith, z))
refuses NotInPart z = absurd (omega (arith, z))
refuses SheetRoom z = absurd (omega (arith, z))
refuses Cost z = absurd (omega (arith, z))
refuses FlowCost z = absurd (omega (arith, z))
refuses TextLine z = absurd (omega (arith, z))
refuses TextSum z = absurd (omega (arith, z))
refuses TextRoom z = absurd (omega (arith, z))
refuses Terms z = absurd (omega (arith, z))
refuses LargeK z = absurd (omega (arith, z))
refuses RewrittenRoom z = absurd (omega (arith, z))
refuses ComposedLimits z = absurd (omega (arith, z))
refuses ComposedRoom z = absurd (omega (arith, z))
refuses SentenceRoom z = absurd (omega (arith, z))
refuses LargestLimits z = absurd (omega (arith, z))
refuses LargestRoom z = absurd (omega (arith, z))

-- nothing wrong was found
pub nothing : {T : Type 0} {r : Result T Fault} {x : T} → r ≡ Ok x → (fault_in r).number ≡ 0
nothing o = ap (λ (y : Result _ Fault). (fault_in y).number) o

pub nothing-is : {T : Type 0} {r : Result T Fault} {x : T} → r ≡ Ok x → fault_in r ≡ rules.no_fault
nothing-is o = ap fault_in o

pub found_passes : {T : Type 0} {r : Result T Fault} {x : T} {f : rules.Fault} → fault_in r ≡ f → r ≡ Ok x → rules.Passes f
found_passes e o = pass_on e (nothing o)

-- it is known by another definition
pub placed-as : {T : Type 0} {f g : rules.Fault} {place : ℕ} {r : Result T Fault} → Placed f place r → f ≡ g → Placed g place r
placed-as p e = record { is = p.is ∙ e; at = p.at }

-- what was found at a place, as the record's judge hands it up
pub at-place : {T : Type 0} (r s : Result T Fault) {place : ℕ} {f : rules.Fault} → AtPlace r place s → fault_in r ≡ f → Placed f place s
at-place (Ok x) s {place} {f} h e = subst (λ (y : Result _ Fault). Placed f place y) (sym h) (record { is = e; at = tt })
at-place (Err g) (Ok x) h e = absurd h
at-place (Err g) (Err k) h e = record { is = h.is ∙ e; at = h.at }

-- the first of two: a fault that was found is it
pub first-found : {T U : Type 0} {f : Fault} {x : rules.Fault} {place : ℕ} (next : rules.Fault) → Placed {T = T} x place (Err f) → Placed {T = U} (rules.first_of x next) place (Err f)
first-found {f = f} next p = record { is = first_stops _ next p.is (refuses f.refusal); at = p.at }

-- past nothing wrong it is the next
pub past-found : {T : Type 0} {r : Result T Fault} {v : T} {x next z : rules.Fault} → fault_in r ≡ x → r ≡ Ok v → z ≡ next → z ≡ rules.first_of x next
past-found e o h = first_passes _ _ e (nothing o) h

pub past-placed : {T U : Type 0} {r : Result T Fault} {z : Result U Fault} {v : T} {x next : rules.Fault} {place : ℕ} → fault_in r ≡ x → r ≡ Ok v → Placed next place z → Placed (rules.first_of x next) place z
past-placed e o p = record { is = past-found e o p.is; at = p.at }

-- the value is the one that was found
pub value-found : {T : Type 0} (r s : Result T Fault) (place : ℕ) {v : T} → AtPlace r place s → s ≡ Ok v → r ≡ Ok v
value-found (Ok x) s place h e = sym h ∙ e
value-found (Err f) (Ok x) place h e = absurd h
value-found (Err f) (Err g) place h e = cc
