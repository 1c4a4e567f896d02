-- Laws of the merged transitions, one more at a time.
use Rattle.std.specs.Prelude.{ℕ, zero, suc, ◌+◌, ◌<◌, ◌≡◌, Bool, length, get_or, take}
use Rattle.std.proofs.Math.Path.{refl, sym, ap}
use Rattle.std.proofs.Common.{◌∙◌, take-suc, arith}
use Rattle.std.proofs.Math.Bool.{true, false, cond}
use mathlib.Core.List.{List, [], ◌∷◌, ◌++◌, append_assoc, append-nil}
use Rattle.bisimulation.specs.definitions.Choice.{if_same, if_true}
use Rattle.bisimulation.proofs.argument.ChoiceLaws.{false-not}
use Rattle.rules.specs.definitions.Model.{Transition, no_transition}
use Rattle.rules.specs.definitions.BlockCount.{block_count}
use Rattle.quotient.specs.definitions.Quotient.{merged_transition, from_block, same_transition, is_among, distinct, by_block}
use Rattle.rules.specs.definitions.SoundModel.{Each}
use Rattle.quotient.proofs.argument.SameTransitions.{Positive, same-tells, tells-same, same-through}

-- one of two tests holds
or : Bool → Bool → Bool
or a b = cond a true b

-- what was passed, the last first
passed : List Transition → List Transition → List Transition
passed [] before = before
passed (x ∷ xs) before = passed xs (x ∷ before)

module _ (k : ℕ) where
  -- what is the same as one that is among others is among them
  among_same : (t x : Transition) (us : List Transition) → Positive x → same_transition k t x ≡ true → is_among k x us ≡ true → is_among k t us ≡ true
  unfolding is_among if_true
  among_same t x [] some p q = absurd (false-not q)
  among_same t x (u ∷ us) some p q = go (same_transition k x u) refl (among_same t x us some p) q
    where
      go : (b : Bool) → same_transition k x u ≡ b → (is_among k x us ≡ true → is_among k t us ≡ true) → cond b true (is_among k x us) ≡ true → cond (same_transition k t u) true (is_among k t us) ≡ true
      go true e ih q =
          ap (λ (y : Bool). cond y true (is_among k t us)) (tells-same k (same-through k some (same-tells k t x p) (same-tells k x u e)))
      go false e ih q = either (same_transition k t u) (ih q)
        where
          either : (y : Bool) → is_among k t us ≡ true → cond y true (is_among k t us) ≡ true
          either true h = refl
          either false h = h

  among-append : (t : Transition) (xs ys : List Transition) → is_among k t (xs ++ ys) ≡ or (is_among k t xs) (is_among k t ys)
  unfolding is_among if_true or
  among-append t [] ys = refl
  among-append t (x ∷ xs) ys = go (same_transition k t x) (among-append t xs ys)
    where
      go : (b : Bool) → is_among k t (xs ++ ys) ≡ cond (is_among k t xs) true (is_among k t ys) → cond b true (is_among k t (xs ++ ys)) ≡ cond (cond b true (is_among k t xs)) true (is_among k t ys)
      go true ih = refl
      go false ih = ih

  -- a transition is the same as one of those passed exactly when it is the same as one that was kept, or as one before
  among-passed : (t : Transition) (xs before : List Transition) → Each Positive xs → is_among k t (passed xs before) ≡ or (is_among k t (distinct k before xs)) (is_among k t before)
  unfolding passed distinct is_among if_true or Each
  among-passed t [] before h = refl
  among-passed t (x ∷ xs) before h =
      among-passed t xs (x ∷ before) h.1
      ∙ go (is_among k x before) refl (is_among k t (distinct k (x ∷ before) xs)) (same_transition k t x) refl (is_among k t before) refl
      ∙ ap (λ (b : Bool). cond b true (is_among k t before)) (sym (among-append t (cond (is_among k x before) [] (x ∷ [])) (distinct k (x ∷ before) xs) ∙ first (is_among k x before)))
    where
      first : (b : Bool) → cond (is_among k t (cond b [] (x ∷ []))) true (is_among k t (distinct k (x ∷ before) xs)) ≡ cond (cond b false (same_transition k t x)) true (is_among k t (distinct k (x ∷ before) xs))
      first true = refl
      first false = either (same_transition k t x)
        where
          either : (y : Bool) → cond (cond y true false) true (is_among k t (distinct k (x ∷ before) xs)) ≡ cond y true (is_among k t (distinct k (x ∷ before) xs))
          either true = refl
          either false = refl

      go : (b : Bool) → is_among k x before ≡ b → (kept : Bool) (same : Bool) → same_transition k t x ≡ same → (there : Bool) → is_among k t before ≡ there → cond kept true (cond same true there) ≡ cond (cond (cond b false same) true kept) true there
      go true e true same f there g = refl
      go true e false true f there g = sym (sym g ∙ among_same t x before h.0 f e)
      go true e false false f there g = refl
      go false e true true f there g = refl
      go false e true false f there g = refl
      go false e false true f there g = refl
      go false e false false f there g = refl

  -- one more at the end
  distinct-end : (xs before : List Transition) (t : Transition) → distinct k before (xs ++ (t ∷ [])) ≡ distinct k before xs ++ if_true (is_among k t (passed xs before)) [] (t ∷ [])
  unfolding distinct passed
  distinct-end [] before t = append-nil (if_true (is_among k t before) [] (t ∷ []))
  distinct-end (x ∷ xs) before t =
      ap (λ (l : List Transition). if_true (is_among k x before) [] (x ∷ []) ++ l) (distinct-end xs (x ∷ before) t)
      ∙ sym (append_assoc (if_true (is_among k x before) [] (x ∷ [])) (distinct k (x ∷ before) xs) (if_true (is_among k t (passed xs (x ∷ before))) [] (t ∷ [])))

  pub distinct_more : (xs : List Transition) (t : Transition) → Each Positive xs → distinct k [] (xs ++ (t ∷ [])) ≡ distinct k [] xs ++ if_true (is_among k t (distinct k [] xs)) [] (t ∷ [])
  distinct_more xs t h = distinct-end xs [] t ∙ ap (λ (b : Bool). distinct k [] xs ++ if_true b [] (t ∷ [])) (among-passed t xs [] h ∙ none (is_among k t (distinct k [] xs)))
    where
      none : (b : Bool) → or b (is_among k t []) ≡ b
      none true = unfold or in refl
      none false = unfold or is_among in refl

-- the transitions of a block, one more
from-append : (blocks : List ℕ) (b : ℕ) (xs ys : List Transition) → from_block blocks (xs ++ ys) b ≡ from_block blocks xs b ++ from_block blocks ys b
unfolding from_block
from-append blocks b [] ys = refl
from-append blocks b (x ∷ xs) ys =
    ap (λ (l : List Transition). if_same (get_or blocks x.source 0) b (merged_transition blocks x ∷ []) [] ++ l) (from-append blocks b xs ys)
    ∙ sym (append_assoc (if_same (get_or blocks x.source 0) b (merged_transition blocks x ∷ []) []) (from_block blocks xs b) (from_block blocks ys b))

pub from_more : (blocks : List ℕ) (b : ℕ) (ts : List Transition) (r : ℕ) → r < length ts → from_block blocks (take (r + 1) ts) b ≡ from_block blocks (take r ts) b ++ if_same (get_or blocks (get_or ts r no_transition).source 0) b (merged_transition blocks (get_or ts r no_transition) ∷ []) []
unfolding from_block
from_more blocks b ts r h =
    let one : r + 1 ≡ suc r = omega arith in
    ap (λ (k : ℕ). from_block blocks (take k ts) b) one
    ∙ ap (λ (l : List Transition). from_block blocks l b) (take-suc ts r no_transition h)
    ∙ from-append blocks b (take r ts) (get_or ts r no_transition ∷ [])
    ∙ ap (λ (l : List Transition). from_block blocks (take r ts) b ++ l) (append-nil _)

-- the blocks before b and b
pub by-block-more : (blocks : List ℕ) (ts : List Transition) (left b : ℕ) → by_block blocks ts (left + 1) b ≡ by_block blocks ts left b ++ distinct (block_count blocks) [] (from_block blocks ts (b + left))
unfolding by_block
by-block-more blocks ts zero b =
    let e : b ≡ b + 0 = omega arith in
    append-nil (distinct (block_count blocks) [] (from_block blocks ts b)) ∙ ap (λ (k : ℕ). distinct (block_count blocks) [] (from_block blocks ts k)) e
by-block-more blocks ts (suc left) b =
    let e : b + 1 + left ≡ b + suc left = omega arith in
    let f : suc left + 1 ≡ suc (left + 1) = omega arith in
    ap (λ (k : ℕ). by_block blocks ts k b) f
    ∙ ap (λ (l : List Transition). distinct (block_count blocks) [] (from_block blocks ts b) ++ l) (by-block-more blocks ts left (b + 1) ∙ ap (λ (k : ℕ). by_block blocks ts left (b + 1) ++ distinct (block_count blocks) [] (from_block blocks ts k)) e)
    ∙ sym (append_assoc (distinct (block_count blocks) [] (from_block blocks ts b)) (by_block blocks ts left (b + 1)) (distinct (block_count blocks) [] (from_block blocks ts (b + suc left))))
