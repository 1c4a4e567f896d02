-- A table of pairs, a pair in two cells that follow each other: one more pair is set.
use Rattle.std.specs.Prelude.{ℕ, zero, suc, ◌+◌, ◌*◌, ◌≤◌, ◌<◌, ◌≡◌, List, [], ◌∷◌, ◌++◌, length, get_or, set}
use Rattle.std.proofs.Common.{sym, ◌∙◌, ap, ap₂, subst, length-set, length-append, get_or-set_same, get_or-set_other, add-one, arith}
use Rattle.std.proofs.Math.Decide.{ℕ_discrete}

-- the pair with this number is set, the ones before it stay
pub record PairSet (before after : List ℕ) (count first second : ℕ) : Type 0 where
  pub size : length after ≡ length before
  pub first_kept : (i : ℕ) → i < count → get_or after (2 * i) 0 ≡ get_or before (2 * i) 0
  pub second_kept : (i : ℕ) → i < count → get_or after (2 * i + 1) 0 ≡ get_or before (2 * i + 1) 0
  pub first_set : get_or after (2 * count) 0 ≡ first
  pub second_set : get_or after (2 * count + 1) 0 ≡ second

-- two cells that are set are a pair
pub pair_set : (table : List ℕ) (count first second : ℕ) → 2 * count + 1 < length table → PairSet table (set (set table (2 * count) first) (2 * count + 1) second) count first second
pair_set table count first second h =
    record {
      size = length-set one (2 * count + 1) second ∙ length-set table (2 * count) first;
      first_kept = λ i less. other (2 * i) (λ e. absurd (omega arith)) ∙ before (2 * i) (λ e. absurd (omega arith));
      second_kept = λ i less. other (2 * i + 1) (λ e. absurd (omega arith)) ∙ before (2 * i + 1) (λ e. absurd (omega arith));
      first_set = other (2 * count) (λ e. absurd (omega arith)) ∙ get_or-set_same table (2 * count) first 0 (omega arith);
      second_set = get_or-set_same one (2 * count + 1) second 0 (omega (arith, length-set table (2 * count) first));
    }
  where
    one : List ℕ
    one = set table (2 * count) first

    before : (j : ℕ) → (j ≡ 2 * count → ⊥) → get_or one j 0 ≡ get_or table j 0
    before j n = get_or-set_other table (2 * count) j first 0 n

    other : (j : ℕ) → (j ≡ 2 * count + 1 → ⊥) → get_or (set one (2 * count + 1) second) j 0 ≡ get_or one j 0
    other j n = get_or-set_other one (2 * count + 1) j second 0 n

-- what holds of the pairs before it and of this one holds of all
pub each_more : {before after : List ℕ} {count first second : ℕ} → PairSet before after count first second → (P : ℕ → ℕ → Type 0) → ((i : ℕ) → i < count → P (get_or before (2 * i) 0) (get_or before (2 * i + 1) 0)) → P first second → (i : ℕ) → i < count + 1 → P (get_or after (2 * i) 0) (get_or after (2 * i + 1) 0)
each_more {after = after} {count} p P each this i less = go (ℕ_discrete i count)
  where
    with-same : {a b c d : ℕ} → c ≡ a → d ≡ b → P a b → P c d
    with-same {a} {d = d} e f h = subst (λ (x : ℕ). P x d) (sym e) (subst (λ (y : ℕ). P a y) (sym f) h)

    go : Dec (i ≡ count) → P (get_or after (2 * i) 0) (get_or after (2 * i + 1) 0)
    go (yes e) =
        with-same (ap (λ (k : ℕ). get_or after (2 * k) 0) e ∙ p.first_set) (ap (λ (k : ℕ). get_or after (2 * k + 1) 0) e ∙ p.second_set) this
    go (no n) = let l : i < count = omega arith in with-same (p.first_kept i l) (p.second_kept i l) (each i l)

-- a list with an element for each pair, made of its two numbers
pub record Paired {A : Type 0} (made : ℕ → ℕ → A) (listed : (table : List ℕ) (count : ℕ) → List A) : Type 0 where
  pub none : (table : List ℕ) → listed table 0 ≡ []
  pub next : (table : List ℕ) (i : ℕ) → listed table (suc i) ≡ listed table i ++ (made (get_or table (2 * i) 0) (get_or table (2 * i + 1) 0) ∷ [])

module _ {A : Type 0} {made : ℕ → ℕ → A} {listed : (table : List ℕ) (count : ℕ) → List A} (l : Paired made listed) where
  -- it has as many elements as there are pairs
  pub paired-length : (table : List ℕ) (count : ℕ) → length (listed table count) ≡ count
  paired-length table zero = ap length (l.none table)
  paired-length table (suc i) =
      ap length (l.next table i) ∙ length-append (listed table i) _ ∙ omega (arith, paired-length table i)

  -- one more
  pub paired-next : (table : List ℕ) (i : ℕ) → listed table (i + 1) ≡ listed table i ++ (made (get_or table (2 * i) 0) (get_or table (2 * i + 1) 0) ∷ [])
  paired-next table i = ap (listed table) (add-one i) ∙ l.next table i

  module _ {before after : List ℕ} {count first second : ℕ} (p : PairSet before after count first second) where
    paired-kept : (n : ℕ) → n ≤ count → listed after n ≡ listed before n
    paired-kept zero h = l.none after ∙ sym (l.none before)
    paired-kept (suc i) h =
        l.next after i
        ∙ ap₂ (λ (xs : List A) (x : A). xs ++ (x ∷ [])) (paired-kept i (omega arith)) (ap₂ made (p.first_kept i (omega arith)) (p.second_kept i (omega arith)))
        ∙ sym (l.next before i)

    -- one more that is set: those before it stay, and it follows them
    pub paired-more : listed after (count + 1) ≡ listed before count ++ (made first second ∷ [])
    paired-more =
        paired-next after count
        ∙ ap₂ (λ (xs : List A) (x : A). xs ++ (x ∷ [])) (paired-kept count (omega arith)) (ap₂ made p.first_set p.second_set)
