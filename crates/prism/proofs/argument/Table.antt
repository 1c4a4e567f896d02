-- A table, of which the first elements count: one more is set.
use Rattle.std.specs.Prelude.{ℕ, zero, suc, ◌+◌, ◌≤◌, ◌<◌, ◌≡◌, List, [], ◌∷◌, ◌++◌, length, get_or, set}
use Rattle.std.proofs.Common.{sym, ◌∙◌, ap, ap₂, subst, length-append, get_or-set_same, get_or-set_other, add-one, arith}
use Rattle.std.proofs.Math.Decide.{ℕ_discrete}

module _ {A : Type 0} (d : A) (table : List A) (count : ℕ) (x : A) (room : count < length table) where
  -- those before it stay
  set-kept : (i : ℕ) → i < count → get_or (set table count x) i d ≡ get_or table i d
  set-kept i less = get_or-set_other table count i x d (λ e. omega arith)

  set-here : get_or (set table count x) count d ≡ x
  set-here = get_or-set_same table count x d room

  -- what holds of those before it and of this one holds of all
  pub each_more : (P : A → Type 0) → ((i : ℕ) → i < count → P (get_or table i d)) → P x → (i : ℕ) → i < count + 1 → P (get_or (set table count x) i d)
  each_more P each this i less = go (ℕ_discrete i count)
    where
      go : Dec (i ≡ count) → P (get_or (set table count x) i d)
      go (yes e) = subst P (sym (ap (λ (k : ℕ). get_or (set table count x) k d) e ∙ set-here)) this
      go (no n) = let l : i < count = omega arith in subst P (sym (set-kept i l)) (each i l)

-- a list with an element for each that counts
pub record Listed {A B : Type 0} (d : A) (made : A → B) (listed : (table : List A) (count : ℕ) → List B) : Type 0 where
  pub none : (table : List A) → listed table 0 ≡ []
  pub next : (table : List A) (i : ℕ) → listed table (suc i) ≡ listed table i ++ (made (get_or table i d) ∷ [])

module _ {A B : Type 0} {d : A} {made : A → B} {listed : (table : List A) (count : ℕ) → List B} (l : Listed d made listed) where
  -- it has as many elements
  pub listed-length : (table : List A) (count : ℕ) → length (listed table count) ≡ count
  listed-length table zero = ap length (l.none table)
  listed-length table (suc i) =
      ap length (l.next table i) ∙ length-append (listed table i) _ ∙ omega (arith, listed-length table i)

  -- one more
  pub listed-next : (table : List A) (i : ℕ) → listed table (i + 1) ≡ listed table i ++ (made (get_or table i d) ∷ [])
  listed-next table i = ap (listed table) (add-one i) ∙ l.next table i

  module _ (table : List A) (count : ℕ) (x : A) (room : count < length table) where
    listed-kept : (n : ℕ) → n ≤ count → listed (set table count x) n ≡ listed table n
    listed-kept zero h = l.none _ ∙ sym (l.none table)
    listed-kept (suc i) h =
        l.next _ i
        ∙ ap₂ (λ (xs : List B) (y : A). xs ++ (made y ∷ [])) (listed-kept i (omega arith)) (set-kept d table count x room i (omega arith))
        ∙ sym (l.next table i)

    -- one more that is set: those before it stay, and it follows them
    pub listed-more : listed (set table count x) (count + 1) ≡ listed table count ++ (made x ∷ [])
    listed-more =
        listed-next _ count
        ∙ ap₂ (λ (xs : List B) (y : A). xs ++ (made y ∷ [])) (listed-kept count (omega arith)) (set-here d table count x room)
