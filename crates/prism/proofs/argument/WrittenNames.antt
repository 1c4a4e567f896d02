-- Actions written as names, their numbers in decimal: read by first sight they are the actions again.
use Prim.Native.Nat.{ℕ, zero, suc, ◌+◌, ◌≤◌, ◌<◌, max}
use Rattle.std.specs.Prelude.{◌≡◌, refl, Bool, true, false, length}
use Rattle.std.proofs.Math.Path.{sym, ap}
use Rattle.std.proofs.Common.{◌∙◌, length-append}
use mathlib.Core.List.{List, [], ◌∷◌, ◌++◌}
use Rattle.std.proofs.Math.Decide.{ℕ_discrete}
use native.Mathlib.Omega.{arith}
use Rattle.bisimulation.specs.definitions.Choice.{if_less, if_same}
use Rattle.bisimulation.proofs.argument.ChoiceLaws.{less, not_less, same, not_same, is_false, either_same, false-not}
use Rattle.numbers.specs.definitions.Decimal.{value_of, is_number, decimal}
use Rattle.numbers.proofs.argument.DecimalLaws.{value-decimal, number-decimal, decimal-digits}
use Rattle.rules.specs.definitions.Model.{Transition}
use Rattle.rules.specs.definitions.SoundModel.{Each}
use Rattle.rules.proofs.argument.SoundModelLaws.{each_map, each_append}
use Rattle.prism.specs.definitions.Reading.{same_bytes, place_among, action_of, with_name}
use Rattle.prism.specs.definitions.AllowedText.{names_from}
use Rattle.prism.specs.definitions.WrittenText.{name_of, choice_of, choices_from, BySight}
use Rattle.prism.proofs.argument.PieceLaws.{Digit, all_digits_lem}
use Rattle.prism.proofs.argument.LineLaws.{Shown}
use Rattle.prism.proofs.argument.NameLaws.{bytes_same, place-stays, place-next, action-place}

-- a number has a digit
number-some : (bs : List ℕ) → is_number bs ≡ true → 1 ≤ length bs
unfolding is_number
number-some [] e = absurd (false-not e)
number-some (b ∷ bs) e = omega arith

decimal-some : (n : ℕ) → 1 ≤ length (decimal n)
decimal-some n = number-some (decimal n) (number-decimal n)

-- its digits are bytes that a name may have
decimal-shown : (n : ℕ) → Shown (decimal n)
decimal-shown n = each_map Digit _ (λ b h. omega arith) (decimal n) (all_digits_lem (decimal n) (decimal-digits n))

-- different numbers are written differently
decimal-other : (j k : ℕ) → (j ≡ k → ⊥) → same_bytes (decimal j) (decimal k) ≡ false
decimal-other j k n = go (same_bytes (decimal j) (decimal k)) refl
  where
    go : (t : Bool) → same_bytes (decimal j) (decimal k) ≡ t → t ≡ false
    go true e = absurd (n (sym (value-decimal j) ∙ ap value_of (bytes_same (decimal j) (decimal k) e) ∙ value-decimal k))
    go false e = refl

-- a name whose bytes no name seen has is new
unseen : (names : List (List ℕ)) (name : List ℕ) → Each (λ (x : List ℕ). same_bytes x name ≡ false) names → place_among names name ≡ length names + 1
unfolding place_among Each
unseen [] name h = refl
unseen (x ∷ xs) name h = sym (is_false 1 h.0 refl) ∙ omega (arith, unseen xs name h.1)

-- the names of the actions 1 to s
unfoldable pub names_to : ℕ → List (List ℕ)
names_to zero = []
names_to (suc s) = names_to s ++ (decimal (suc s) ∷ [])

-- there are s of them
pub count-names : (s : ℕ) → length (names_to s) ≡ s
unfolding names_to
count-names zero = refl
count-names (suc s) = omega (arith, length-append (names_to s) (decimal (suc s) ∷ []), count-names s)

others : (s k : ℕ) → s < k → Each (λ (x : List ℕ). same_bytes x (decimal k) ≡ false) (names_to s)
unfolding names_to Each
others zero k h = tt
others (suc s) k h =
    each_append _ (names_to s) (decimal (suc s) ∷ []) (others s k (omega arith)) (decimal-other (suc s) k (omega arith), tt)

new-place : (s k : ℕ) → s < k → place_among (names_to s) (decimal k) ≡ s + 1
new-place s k h = unseen (names_to s) (decimal k) (others s k h) ∙ ap (λ (z : ℕ). z + 1) (count-names s)

old-place : (s k : ℕ) → 1 ≤ k → k ≤ s → place_among (names_to s) (decimal k) ≡ k
unfolding names_to
old-place zero k some most = absurd (omega arith)
old-place (suc s) k some most = go (ℕ_discrete k (suc s)) (old-place s k some)
  where
    go : Dec (k ≡ suc s) → (k ≤ s → place_among (names_to s) (decimal k) ≡ k) → place_among (names_to s ++ (decimal (suc s) ∷ [])) (decimal k) ≡ k
    go (yes e) ih =
        ap (λ (j : ℕ). place_among (names_to s ++ (decimal (suc s) ∷ [])) (decimal j)) e
        ∙ place-next (names_to s) (decimal (suc s)) (omega (arith, new-place s (suc s) (omega arith), count-names s))
        ∙ omega (arith, count-names s)
    go (no n) ih =
        let is = ih (omega arith) in
        place-stays (names_to s) (decimal (suc s) ∷ []) (decimal k) (omega (arith, count-names s)) ∙ is

-- an action up to s is read back; the next one is new
pub action-seen : (s a : ℕ) → a ≤ s → action_of (names_to s) (name_of a) ≡ a
unfolding name_of
action-seen s a h = go (ℕ_discrete a 0)
  where
    go : Dec (a ≡ 0) → action_of (names_to s) (if_same a 0 [] (decimal a)) ≡ a
    go (yes e) = ap (action_of (names_to s)) (sym (same _ e refl)) ∙ (unfold action_of in sym e)
    go (no n) =
        ap (action_of (names_to s)) (sym (not_same [] n refl)) ∙ action-place (names_to s) (decimal a) (decimal-some a) ∙ old-place s a (omega arith) h

action-new : (s : ℕ) → action_of (names_to s) (name_of (s + 1)) ≡ s + 1
unfolding name_of
action-new s =
    ap (action_of (names_to s)) (sym (not_same [] (omega arith) refl))
    ∙ action-place (names_to s) (decimal (s + 1)) (decimal-some (s + 1))
    ∙ new-place s (s + 1) (omega arith)

next-names : (s a : ℕ) → a ≤ s + 1 → with_name (names_to s) (name_of a) ≡ names_to (max s a)
unfolding with_name names_to
next-names s a h = go (ℕ_discrete a (s + 1))
  where
    go : Dec (a ≡ s + 1) → if_less (length (names_to s)) (action_of (names_to s) (name_of a)) (names_to s ++ (name_of a ∷ [])) (names_to s) ≡ names_to (max s a)
    go (yes e) =
        let is : action_of (names_to s) (name_of a) ≡ s + 1 = ap (λ (k : ℕ). action_of (names_to s) (name_of k)) e ∙ action-new s in
        let written : name_of a ≡ decimal (suc s) = (unfold name_of in sym (not_same [] (omega arith) (ap decimal (omega arith)))) in
        let last : suc s ≡ max s a = omega arith in
        sym (less _ (omega (arith, count-names s)) refl)
        ∙ ap (λ (x : List ℕ). names_to s ++ (x ∷ [])) written
        ∙ ap names_to last
    go (no n) =
        let is = action-seen s a (omega arith) in
        let last : s ≡ max s a = omega arith in
        sym (not_less _ (omega (arith, count-names s)) refl) ∙ ap names_to last

-- actions numbered by first sight have the names of 1 to s
pub names-written : (s m : ℕ) → m ≡ s + 1 → (ts : List Transition) (last next seen : ℕ) → BySight seen m ts → names_from (names_to seen) (choices_from last next ts) ≡ names_to s
unfolding BySight choices_from names_from choice_of
names-written s m e [] last next seen h = ap names_to (omega arith)
names-written s m e (t ∷ ts) last next seen h =
    ap (λ (names : List (List ℕ)). names_from names (choices_from t.source (if_same t.source last next 0 + 1) ts)) (next-names seen t.action h.0)
    ∙ names-written s m e ts t.source (if_same t.source last next 0 + 1) (max seen t.action) h.1

-- a name's bytes are shown
pub name-shown : (a : ℕ) → Shown (name_of a)
unfolding name_of
name-shown a = either_same Shown a 0 (unfold Each in tt) (decimal-shown a)
