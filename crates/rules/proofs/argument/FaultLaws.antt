-- Laws of faults: the first of two, and a record that is opened.
use Rattle.std.specs.Prelude.{ℕ, ◌+◌, ◌≤◌, ◌<◌, ◌≡◌, ◌⊎◌, Bool, true, false, cond, List, eqb, length, pos, ◌≤ℤ◌}
use Rattle.std.proofs.Math.Path.{refl}
use Rattle.std.proofs.Common.{sym, ◌∙◌, ap, ⊎_elim, eqb-true, arith}
use Rattle.std.proofs.lemmas.Bool.{eqb-false}
use Rattle.bisimulation.specs.definitions.Choice.{if_less, if_same, unless_less, unless_same, unless_true}
use Rattle.bisimulation.proofs.argument.ChoiceLaws.{less, not_less, same, not_same, past_less, kept_less, past_same, kept_same, kept_true, either_less, either_same}
use Rattle.rules.specs.definitions.Bytes.{two_at}
use Rattle.rules.specs.definitions.Faults.{Fault, fault, no_fault, Passes, first_of, AnyRecord, model_record, certificate_record, open_fault}

-- a number other than the three that have a state
pub record Otherwise (number : ℕ) : Type 0 where
  pub not16 : number ≡ 16 → ⊥
  pub not20 : number ≡ 20 → ⊥
  pub not21 : number ≡ 21 → ⊥

-- document 02, K2: what the state and the remainder of a fault tell
pub record Told (f : Fault) : Type 0 where
  -- 16: the left side is not below the right
  pub last : f.number ≡ 16 → pos 0 ≤ℤ f.remainder
  -- 20 and 21: the sides differ
  pub broken : (f.number ≡ 20) ⊎ (f.number ≡ 21) → f.remainder ≡ pos 0 → ⊥
  -- 'Otherwise both are 0'
  pub otherwise : Otherwise f.number → (f.state ≡ 0) × (f.remainder ≡ pos 0)

pub told-fault : (k : ℕ) → Otherwise k → Told (fault k)
told-fault k o =
    record { last = λ e. absurd (o.not16 e); broken = λ e. absurd (⊎_elim o.not20 o.not21 e); otherwise = λ o. (refl, refl) }

-- what a fault that passes is, passes
pub pass_on : {f z : Fault} → z ≡ f → Passes z → Passes f
pass_on e p = ap (λ (g : Fault). g.number) (sym e) ∙ p

-- a choice that passes went past the refusal r
pub pass-if_less : (r y : Fault) (a b : ℕ) → Passes (if_less a b r y) → (Passes r → ⊥) → (b ≤ a) × Passes y
pass-if_less r y a b p n = let k = past_less r y a b (λ e. n (pass_on e p)) refl in (k.0, pass_on k.1 p)

pub pass-unless_less : (r x : Fault) (a b : ℕ) → Passes (unless_less a b r x) → (Passes r → ⊥) → (a < b) × Passes x
pass-unless_less r x a b p n = let k = kept_less x r a b (λ e. n (pass_on e p)) refl in (k.0, pass_on k.1 p)

pub pass-if_same : (r y : Fault) (a b : ℕ) → Passes (if_same a b r y) → (Passes r → ⊥) → (a ≡ b → ⊥) × Passes y
pass-if_same r y a b p n = let k = past_same r y a b (λ e. n (pass_on e p)) refl in (k.0, pass_on k.1 p)

pub pass-unless_same : (r x : Fault) (a b : ℕ) → Passes (unless_same a b r x) → (Passes r → ⊥) → (a ≡ b) × Passes x
pass-unless_same r x a b p n = let k = kept_same x r a b (λ e. n (pass_on e p)) refl in (k.0, pass_on k.1 p)

pub pass-unless_true : (r x : Fault) (b : Bool) → Passes (unless_true b r x) → (Passes r → ⊥) → (b ≡ true) × Passes x
pass-unless_true r x b p n = let k = kept_true x r b (λ e. n (pass_on e p)) refl in (k.0, pass_on k.1 p)

-- the first of two passes: both do
pub none_first : (f next : Fault) → Passes (first_of f next) → Passes f × Passes next
unfolding first_of if_same
none_first f next = go (eqb f.number 0) refl
  where
    go : (t : Bool) → eqb f.number 0 ≡ t → Passes (cond t next f) → Passes f × Passes next
    go true q p = (eqb-true f.number 0 q, p)
    go false q p = absurd (eqb-false f.number 0 q p)

-- z is the first fault x where that is one, else the next
pub first_stops : {x : Fault} (f next : Fault) → x ≡ f → (x.number ≡ 0 → ⊥) → x ≡ first_of f next
unfolding first_of
first_stops {x} f next e n = not_same next (λ z. n (ap (λ (g : Fault). g.number) e ∙ z)) e

pub first-none : {z : Fault} (f next : Fault) → Passes f → z ≡ next → z ≡ first_of f next
unfolding first_of
first-none f next p h = same f p h

pub first_passes : {x z : Fault} (f next : Fault) → x ≡ f → x.number ≡ 0 → z ≡ next → z ≡ first_of f next
first_passes f next e n h = first-none f next (pass_on e n) h

-- a property of both is one of the first
pub either_first {κ} : (P : Fault → Type κ) (f next : Fault) → P f → P next → P (first_of f next)
unfolding first_of
either_first P f next p q = either_same P f.number 0 q p

-- the numbers of any record are refusals
pub record Refuses (any : AnyRecord) : Type 0 where
  pub ends : 0 < any.ends
  pub mark : 0 < any.mark

pub model-refuses : Refuses model_record
model-refuses = record { ends = omega arith; mark = omega arith }

pub certificate-refuses : Refuses certificate_record
certificate-refuses = record { ends = omega arith; mark = omega arith }

module _ (any : AnyRecord) (mark size : ℕ) (s : List ℕ) (at : ℕ) where
  -- what a record that is opened without fault tells
  pub record Opened : Type 0 where
    pub marked : two_at s at ≡ mark
    pub whole : at + size ≤ length s

  pub opened : Refuses any → Passes (open_fault any mark size s at) → Opened
  unfolding open_fault
  opened refuses p =
      let a = pass-if_less _ _ _ _ p (omega (arith, refuses.ends)) in
      let b = pass-unless_same _ _ _ _ a.1 (omega (arith, refuses.mark)) in
      let c = pass-if_less _ _ _ _ b.1 (omega (arith, refuses.ends)) in
      record { marked = b.0; whole = c.0 }

  -- and the other way round, for a fixed part that begins with the mark
  pub opens : 2 ≤ size → two_at s at ≡ mark → at + size ≤ length s → Passes (open_fault any mark size s at)
  unfolding open_fault
  opens h e whole = pass_on (not_less _ (omega arith) (same _ e (not_less _ whole refl))) refl

  -- each way out: two bytes are not there, the mark is another, the fixed part is cut
  pub open-ends : {z : Fault} → length s < at + 2 → z ≡ fault any.ends → z ≡ open_fault any mark size s at
  unfolding open_fault
  open-ends h e = less _ h e

  pub open-mark : {z : Fault} → at + 2 ≤ length s → (two_at s at ≡ mark → ⊥) → z ≡ fault any.mark → z ≡ open_fault any mark size s at
  unfolding open_fault
  open-mark h n e = not_less _ h (not_same _ n e)

  pub open-cut : {z : Fault} → at + 2 ≤ length s → two_at s at ≡ mark → length s < at + size → z ≡ fault any.ends → z ≡ open_fault any mark size s at
  unfolding open_fault
  open-cut h e l q = not_less _ h (same _ e (less _ l q))

  pub open-whole : {z : Fault} → at + 2 ≤ length s → two_at s at ≡ mark → at + size ≤ length s → z ≡ no_fault → z ≡ open_fault any mark size s at
  unfolding open_fault
  open-whole h e l q = not_less _ h (same _ e (not_less _ l q))

  -- a property of the two refusals and of no fault is one of an opening
  pub either-open {κ} : (P : Fault → Type κ) → P (fault any.ends) → P (fault any.mark) → P no_fault → P (open_fault any mark size s at)
  unfolding open_fault
  either-open P ends wrong none = either_less P _ _ ends (either_same P _ _ (either_less P _ _ ends none) wrong)
