-- What document 01 judges a pair of files by.
use Rattle.std.specs.Prelude.{ℕ, ◌≤◌, ◌<◌, ◌≡◌, refl, ◌⊎◌, Bool, List, length, ℤ}
use Rattle.std.proofs.Common.{sym, ◌∙◌, ap, subst, inl, inr, ⊎_elim, arith}
use Rattle.bisimulation.specs.definitions.Choice.{if_true}
use Rattle.bisimulation.proofs.argument.ChoiceLaws.{either_same, either_true}
use Rattle.bisimulation.specs.definitions.Automaton.{Automaton}
use Rattle.bisimulation.specs.definitions.StepRule.{Flow, Sides, before_move, after_move, internal_move, at_target}
use Rattle.bisimulation.specs.definitions.Prices.{Side, price_at, price_of_targets}
use Rattle.bisimulation.specs.definitions.Pairs.{Pairs}
use Rattle.bisimulation.proofs.argument.Plain.{plain}
use Rattle.rules.specs.definitions.Limits.{Terms, any_terms, Limits, limits, with_terms, current}
use Rattle.rules.specs.definitions.Model.{HoldOneAutomaton}
use Rattle.rules.specs.definitions.SoundModel.{FitsWidths}
use Rattle.rules.proofs.argument.SoundModelLaws.{limits-fit, current-fit, with-fits, sound-any}
use Rattle.rules.specs.definitions.Faults.{Fault, fault, no_fault}
use Rattle.rules.proofs.argument.FaultLaws.{Told, told-fault, either_first}
use Rattle.rules.specs.definitions.Reading.{ReadNumber, Scan, sound, refused, scan_whole, no_model, reading_of, read_whole}
use Rattle.rules.proofs.argument.ReadingLaws.{Tells, whole_tells}
use Rattle.rules.proofs.argument.ReadSound.{read-whole-exactly, read-whole-ends}
use Rattle.rules.specs.definitions.PlainRule.{by_kind, below, last_fault, break_from, first_break, internal_prices_fault, external_prices_fault, plain_prices_fault, internal_equations_fault, external_equations_fault, plain_equations_fault, plain_rule}
use Rattle.rules.specs.definitions.PlainSays.{plain_says}
use Rattle.rules.specs.definitions.Accepted.{FileOf}
use Rattle.rules.proofs.argument.AnyRule.{NoneOr, AnswersOnly, CertificateRule, ModelFiles, PairRules}
use Rattle.rules.proofs.argument.BreakLaws.{difference-zero, not-below, by-test, break-cases}
use Rattle.rules.proofs.argument.PlainDecides.{plain-decides}
use Rattle.rules.proofs.argument.LargestBlocks.{plain-covers}

-- the numbers of document 01's own rule: 15 and 16, 20 and 21
unfoldable pub PlainNumber : ℕ → Type 0
PlainNumber k = ((15 ≤ k) × (k ≤ 16)) ⊎ ((20 ≤ k) × (k ≤ 21))

abbrev pub Own : Fault → Type 0
Own f = NoneOr PlainNumber f

pub none : Own no_fault
none = record { number = inl refl; told = told-fault 0 (omega arith) }

pub price : Own (fault 15)
unfolding PlainNumber
price = record { number = inr (inl (omega arith, omega arith)); told = told-fault 15 (omega arith) }

or_true : (b : Bool) {x y : Fault} → Own x → Own y → Own (if_true b x y)
or_true b p q = either_true Own b p q

-- the last condition, whatever the side of the targets
pub last : (A : Automaton) (side : Side) (X G : ℕ → ℤ) (q t : ℕ) → Own (last_fault A side X G q t)
unfolding last_fault below PlainNumber
last A side X G q t =
    by-test Own _ (λ e. none)
    (λ e.
    record {
      number = inr (inl (omega arith, omega arith));
      told =
          record {
            last = λ z. not-below (price_at A X q t) (side G q) e;
            broken = λ z. absurd (⊎_elim (λ x. omega arith) (λ x. omega arith) z);
            otherwise = λ o. absurd (o.not16 refl);
          };
    })

-- the price conditions
module _ (A : Automaton) (side : Side) (R : Pairs) (q t : ℕ) where
  pub internal-prices : (X G : ℕ → ℤ) → Own (internal_prices_fault A side R q t X G)
  unfolding internal_prices_fault
  internal-prices X G = or_true _ (or_true _ (last A side X G q t) price) price

  pub external-prices : (X Y G : ℕ → ℤ) → Own (external_prices_fault A side R q t X Y G)
  unfolding external_prices_fault
  external-prices X Y G = or_true _ (or_true _ (or_true _ (or_true _ (last A side X G q t) price) price) price) price

prices : (A : Automaton) (R : Pairs) (q t : ℕ) (p : ℕ → ℤ) → Own (plain_prices_fault A R q t p)
unfolding plain_prices_fault by_kind
prices A R q t p = either_same Own _ _ (internal-prices A (price_of_targets A) R q t _ _) (external-prices A (price_of_targets A) R q t _ _ _)

-- a break tells by how much the sides differ, among however many states
pub first-break : (number : ℕ) (e : ℕ → Sides) → (number ≡ 20) ⊎ (number ≡ 21) → (left v : ℕ) → Own (break_from number e left v)
unfolding PlainNumber
first-break number e is left v =
    break-cases number e Own left v none
    (λ f b.
    record {
      number = inr (inr (⊎_elim (λ z. (omega (arith, b.numbered), omega (arith, b.numbered))) (λ z. (omega (arith, b.numbered), omega (arith, b.numbered))) is));
      told =
          record {
            last = λ z. absurd (⊎_elim (λ x. omega (arith, b.numbered)) (λ x. omega (arith, b.numbered)) is);
            broken = λ k z. b.breaks (record { equal = difference-zero _ _ (sym b.remainder ∙ z) });
            otherwise = λ o. absurd (⊎_elim (λ x. o.not20 (b.numbered ∙ x)) (λ x. o.not21 (b.numbered ∙ x)) is);
          };
    })

equations : (A : Automaton) (q t : ℕ) (f : Flow) → Own (plain_equations_fault A q t f)
unfolding plain_equations_fault by_kind internal_equations_fault external_equations_fault first_break
equations A q t f =
    let target = first-break 21 (at_target A f q) (inr refl) A.states 0 in
    either_same Own _ _ (either_first Own _ _ (first-break 20 (internal_move A f t) (inl refl) A.states 0) target)
    (either_first Own _ _ (first-break 20 (before_move A f t) (inl refl) A.states 0) (either_first Own _ _ (first-break 20 (after_move A f) (inl refl) A.states 0) target))

pub plain-answers : AnswersOnly PlainNumber plain_rule
plain-answers = record { prices = prices; equations = equations }

-- document 01's step rule
abbrev pub plain_certificates : CertificateRule PlainNumber
plain_certificates =
    record {
      file = plain_rule;
      mark = omega arith;
      says = plain_says;
      theory = plain;
      decides = plain-decides;
      covers = plain-covers;
      answers = plain-answers;
    }

-- the refusals of reading a model: 1 to 9, and 34 where terms are to be lowest
unfoldable pub ModelNumber : Terms → ℕ → Type 0
ModelNumber terms k = (1 ≤ k) × ReadNumber terms k

pub refusal-told : (L : Limits) (bytes : List ℕ) (f : Fault) (place : ℕ) → read_whole L bytes ≡ no_model f place → (f.number ≡ 0 → ⊥) × ModelNumber L.terms f.number × (place ≤ length bytes) × Told f
unfolding read_whole reading_of ModelNumber
refusal-told L bytes f place e = go (scan_whole L bytes) (whole_tells L bytes) e
  where
    go : (scan : Scan) → Tells L bytes scan → reading_of bytes scan ≡ no_model f place → (f.number ≡ 0 → ⊥) × ((1 ≤ f.number) × ReadNumber L.terms f.number) × (place ≤ length bytes) × Told f
    go (sound n m count end) t q = let z : ◌≡◌ {A = ℕ} 0 1 = cc in absurd (omega arith)
    go (refused g at) t q =
        let same : g ≡ f = cc in
        let there : at ≡ place = cc in
        let number = ap (λ (x : Fault). x.number) same in
        (λ z. omega (arith, t.some), (omega (arith, t.some), subst (ReadNumber L.terms) number t.known), omega (arith, t.inside), subst Told same t.told)

-- a file that holds a model and nothing else, within the limits
abbrev pub whole_files : (L : Limits) → FitsWidths L → ModelFiles L
whole_files L widths =
    record {
      read = read_whole L;
      is_file = FileOf L;
      exactly = λ bytes M b.
          let e = read-whole-exactly L bytes M widths b in
          (λ r. let s = e.0 r in record { sound = s.0; encoded = s.1 }, λ f. e.1 (f.sound, f.encoded));
      whole = λ bytes M end b r. read-whole-ends L bytes M end r;
      sound = λ bytes M f. f.sound;
      numbers = ModelNumber L.terms;
      answers = refusal-told L;
    }

-- such files, judged by one step rule
abbrev pub whole_rules : (L : Limits) → FitsWidths L → L.refutations < 65536 → {numbers : ℕ → Type 0} → CertificateRule numbers → PairRules
whole_rules L widths few {numbers} rule =
    record {
      limits = L;
      widths = widths;
      refutations = few;
      models = whole_files L widths;
      spelled = whole_files (with_terms any_terms L) (with-fits any_terms L widths);
      among = λ bytes M f. record { sound = sound-any L M f.sound; encoded = f.encoded };
      numbers = numbers;
      rule = λ model. rule;
      one_automaton = λ model other. HoldOneAutomaton;
      hold_one = λ model other M N one. one;
      one_rule = λ model other M N one. refl;
    }

-- document 01's model files and step rule, within given limits
abbrev pub plain_rules_at : (L : Limits) → FitsWidths L → L.refutations < 65536 → PairRules
plain_rules_at L widths few = whole_rules L widths few plain_certificates

-- as the calls judge them
abbrev pub plain_rules : PairRules
plain_rules = plain_rules_at current current-fit (omega arith)

-- with whatever terms
abbrev pub stored_rules : PairRules
stored_rules = plain_rules_at limits limits-fit (omega arith)
