-- A part's fault as document 01's.
use Rattle.std.specs.Prelude.{ℕ, ◌≡◌, Result, Ok, Err, MatchResult, IfErr}
use Rattle.rules.specs.definitions.Faults as rules
use Rattle.fault.specs.declared.Refusal.{Refusal}
use Rattle.fault.specs.declared.Refusal.TheVariants.{ModelEnds, ModelMark, ModelHead, Label, TransitionFields, TransitionEntries, WeightSum, EntryCount, ModelBytesLeft, BlockRoom, CertificateEnds, CertificateMark, RefutationCount, RefutationPair, PriceCondition, LastCondition, BlockNumbers, BlockPairs, FlowEntry, FlowBalance, FlowTarget, CertificateBytesLeft, MergedRoom, NoState, JoinedLimits, JoinedRoom, NotInPart, SheetRoom, Cost, FlowCost, TextLine, TextSum, TextRoom, Terms, LargeK, RewrittenRoom, ComposedLimits, ComposedRoom, SentenceRoom, LargestLimits, LargestRoom}
use Rattle.fault.specs.declared.Fault.{Fault}

-- the papers' number of a refusal
abbrev pub number_of : Refusal → ℕ
number_of ModelEnds = 1
number_of ModelMark = 2
number_of ModelHead = 3
number_of Label = 4
number_of TransitionFields = 5
number_of TransitionEntries = 6
number_of WeightSum = 7
number_of EntryCount = 8
number_of ModelBytesLeft = 9
number_of BlockRoom = 10
number_of CertificateEnds = 11
number_of CertificateMark = 12
number_of RefutationCount = 13
number_of RefutationPair = 14
number_of PriceCondition = 15
number_of LastCondition = 16
number_of BlockNumbers = 17
number_of BlockPairs = 18
number_of FlowEntry = 19
number_of FlowBalance = 20
number_of FlowTarget = 21
number_of CertificateBytesLeft = 22
number_of MergedRoom = 23
number_of NoState = 24
number_of JoinedLimits = 25
number_of JoinedRoom = 26
number_of NotInPart = 27
number_of SheetRoom = 28
number_of Cost = 29
number_of FlowCost = 30
number_of TextLine = 31
number_of TextSum = 32
number_of TextRoom = 33
number_of Terms = 34
number_of LargeK = 35
number_of RewrittenRoom = 36
number_of ComposedLimits = 37
number_of ComposedRoom = 38
number_of SentenceRoom = 39
number_of LargestLimits = 40
number_of LargestRoom = 41

-- the number of the refusal, with its state and remainder
abbrev pub fault_of : Fault → rules.Fault
fault_of f = rules.fault_by (number_of f.refusal) f.state f.remainder

-- what was found: nothing wrong, or a fault
abbrev pub fault_in : {T : Type 0} → Result T Fault → rules.Fault
fault_in (Ok x) = rules.no_fault
fault_in (Err f) = fault_of f

-- the place of its fault
abbrev pub IsAt : {T : Type 0} → ℕ → Result T Fault → Type 0
IsAt place r = IfErr r (λ (f : Fault). f.place ≡ place)

-- it is this fault, of the record that begins at a place
pub record PlacedAt (f : rules.Fault) (place : ℕ) (r : Fault) : Type 0 where
  pub is : fault_of r ≡ f
  pub at : r.place ≡ place

-- what was found is this fault, or nothing where that is none; of the record that begins at a place
pub record Placed {T : Type 0} (f : rules.Fault) (place : ℕ) (r : Result T Fault) : Type 0 where
  pub is : fault_in r ≡ f
  pub at : IsAt place r

-- the same value was found, or the same fault, which has its place
abbrev pub AtPlace : {T : Type 0} → Result T Fault → ℕ → Result T Fault → Type 0
AtPlace (Ok x) place r = r ≡ Ok x
AtPlace (Err f) place r = MatchResult r (λ _. ⊥) (λ (g : Fault). PlacedAt (fault_of f) place g)
