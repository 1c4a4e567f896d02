-- Entries of two numbers and a value, judged one after the other in ascending order: what is looked up among them, summed over one of the
-- numbers, is a sum over the entries. Both lists of a flow are such entries: k by layer and transition, w by v and u.
use Rattle.std.specs.Prelude.{ℕ, zero, suc, ◌+◌, ◌≤◌, ◌<◌, ◌≡◌, refl}
use Rattle.std.proofs.Common.{sym, ◌∙◌, ap, ap₂, arith}
use Rattle.std.proofs.Math.Decide.{ℕ_discrete}
use Rattle.bisimulation.specs.definitions.Choice.{if_same}
use Rattle.bisimulation.proofs.argument.ChoiceLaws.{same, not_same}
use Rattle.bisimulation.specs.definitions.Sum.{sum}
use Rattle.bisimulation.proofs.argument.SumLaws.{sum_cong, sum_zero}
use Rattle.rules.specs.definitions.Faults.{Fault, Passes}
use Rattle.rules.proofs.argument.SoundModelLaws.{sum-with}

pub record Entries : Type 1 where
  -- the fields of the entry at a place, and its size
  pub first : ℕ → ℕ
  pub second : ℕ → ℕ
  pub value : ℕ → ℕ
  pub size : ℕ
  -- the number by which entries ascend, and what else is known of an entry without fault
  pub number : ℕ → ℕ → ℕ
  pub Good : ℕ → Type 0
  -- the fault, the lookup and the sum of the entries left at a place
  pub judged : (left at lowest : ℕ) → Fault
  pub look : (left at a b : ℕ) → ℕ
  pub total : (ℕ → ℕ → ℕ → ℕ) → (left at : ℕ) → ℕ
  -- by the first of the entries left
  pub turn : (left at lowest : ℕ) → Passes (judged (suc left) at lowest) → (lowest ≤ number (first at) (second at)) × Good at × Passes (judged left (at + size) (number (first at) (second at) + 1))
  pub absent : (at a b : ℕ) → look 0 at a b ≡ 0
  pub found : (left at a b : ℕ) → first at ≡ a → second at ≡ b → look (suc left) at a b ≡ value at
  pub passed : (left at a b : ℕ) → (first at ≡ a → second at ≡ b → ⊥) → look (suc left) at a b ≡ look left (at + size) a b
  pub no_total : (f : ℕ → ℕ → ℕ → ℕ) (at : ℕ) → total f 0 at ≡ 0
  pub one_more : (f : ℕ → ℕ → ℕ → ℕ) (left at : ℕ) → total f (suc left) at ≡ f (first at) (second at) (value at) + total f left (at + size)

-- the two numbers change places
abbrev pub turned : Entries → Entries
turned E =
    record {
      first = E.second;
      second = E.first;
      value = E.value;
      size = E.size;
      number = λ b a. E.number a b;
      Good = E.Good;
      judged = E.judged;
      look = λ left at b a. E.look left at a b;
      total = λ f. E.total (λ a b c. f b a c);
      turn = E.turn;
      absent = λ at b a. E.absent at a b;
      found = λ left at b a p q. E.found left at a b q p;
      passed = λ left at b a n. E.passed left at a b (λ p q. n q p);
      no_total = λ f. E.no_total (λ a b c. f b a c);
      one_more = λ f. E.one_more (λ a b c. f b a c);
    }

module _ (E : Entries) where
  -- numbers that would stand before the entries left are absent
  before : (left at lowest a b : ℕ) → Passes (E.judged left at lowest) → E.number a b < lowest → E.look left at a b ≡ 0
  before zero at lowest a b e h = E.absent at a b
  before (suc left) at lowest a b e h =
      let t = E.turn left at lowest e in
      let low : lowest ≤ E.number (E.first at) (E.second at) = t.0 in
      E.passed left at a b (λ p q. let n = ap₂ E.number p q in omega arith)
      ∙ before left (at + E.size) _ a b t.2 (omega arith)

  -- terms that add up, or are 0, at each good entry
  module _ (f g h : ℕ → ℕ → ℕ → ℕ) (one : (at : ℕ) → E.Good at → f (E.first at) (E.second at) (E.value at) + g (E.first at) (E.second at) (E.value at) ≡ h (E.first at) (E.second at) (E.value at)) where
    pub added : (left at lowest : ℕ) → Passes (E.judged left at lowest) → E.total f left at + E.total g left at ≡ E.total h left at
    added zero at lowest e = omega (arith, E.no_total f at, E.no_total g at, E.no_total h at)
    added (suc left) at lowest e =
        let t = E.turn left at lowest e in
        omega (arith, E.one_more f left at, E.one_more g left at, E.one_more h left at, one at t.1, added left (at + E.size) _ t.2)

  module _ (f : ℕ → ℕ → ℕ → ℕ) (one : (at : ℕ) → E.Good at → f (E.first at) (E.second at) (E.value at) ≡ 0) where
    pub nothing : (left at lowest : ℕ) → Passes (E.judged left at lowest) → E.total f left at ≡ 0
    nothing zero at lowest e = E.no_total f at
    nothing (suc left) at lowest e =
        let t = E.turn left at lowest e in
        omega (arith, E.one_more f left at, one at t.1, nothing left (at + E.size) _ t.2)

  -- a sum over the second number, where the first is a, of a term that is 0 for what is absent
  module _ (n : ℕ) (below : (at : ℕ) → E.Good at → E.second at < n) (g : ℕ → ℕ → ℕ) (none : (b : ℕ) → g b 0 ≡ 0) (a : ℕ) where
    pub over_second : (left at lowest : ℕ) → Passes (E.judged left at lowest) → sum n (λ b. g b (E.look left at a b)) ≡ E.total (λ x b c. if_same x a (g b c) 0) left at
    over_second zero at lowest e =
        sum_zero n _ (λ b l. ap (g b) (E.absent at a b) ∙ none b) ∙ sym (E.no_total _ at)
    over_second (suc left) at lowest e = go (E.turn left at lowest e) (over_second left (at + E.size)) (ℕ_discrete (E.first at) a)
      where
        rest : ℕ → ℕ
        rest b = g b (E.look left (at + E.size) a b)

        here : ℕ
        here = g (E.second at) (E.value at)

        term : E.first at ≡ a → (b : ℕ) → Dec (E.second at ≡ b) → g b (E.look (suc left) at a b) ≡ if_same (E.second at) b here (rest b)
        term p b (yes q) = same (rest b) q (ap₂ g (sym q) (E.found left at a b p q))
        term p b (no q) = not_same here q (ap (g b) (E.passed left at a b (λ x y. q y)))

        go : (lowest ≤ E.number (E.first at) (E.second at)) × E.Good at × Passes (E.judged left (at + E.size) (E.number (E.first at) (E.second at) + 1)) → ((low : ℕ) → Passes (E.judged left (at + E.size) low) → sum n rest ≡ E.total (λ x b c. if_same x a (g b c) 0) left (at + E.size)) → Dec (E.first at ≡ a) → sum n (λ b. g b (E.look (suc left) at a b)) ≡ E.total (λ x b c. if_same x a (g b c) 0) (suc left) at
        go t ih (yes p) =
            let alone : rest (E.second at) ≡ 0 = ap (g (E.second at)) (before left (at + E.size) _ a (E.second at) t.2 (let m = ap (λ (x : ℕ). E.number x (E.second at)) p in omega arith)) ∙ none (E.second at) in
            let shared = sum_cong n _ (λ b. if_same (E.second at) b here (rest b)) (λ b l. term p b (ℕ_discrete (E.second at) b)) in
            let with_it = sum-with (E.second at) here rest alone n (below at t.1) in
            let head : here ≡ if_same (E.first at) a here 0 = same 0 p refl in
            omega (arith, shared, with_it, head, ih _ t.2, E.one_more (λ x b c. if_same x a (g b c) 0) left at)
        go t ih (no p) =
            let shared = sum_cong n _ rest (λ b l. ap (g b) (E.passed left at a b (λ x y. p x))) in
            let head : 0 ≡ if_same (E.first at) a here 0 = not_same here p refl in
            omega (arith, shared, head, ih _ t.2, E.one_more (λ x b c. if_same x a (g b c) 0) left at)
