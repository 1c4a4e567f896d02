-- What is known of a sound model has one proof at most, so that a ghost field may say it.
use Rattle.std.specs.Prelude.{ℕ, List, [], ◌∷◌}
use Rattle.std.specs.Coded.{×_prop, Unit-prop}
use Rattle.std.proofs.Props.{props}
use Rattle.rules.specs.definitions.Limits.{Terms, any_terms, lowest_terms}
use Rattle.rules.specs.definitions.Model.{Transition}
use Rattle.rules.specs.definitions.SoundModel.{Each, Along, HasTerms, LowestTerms}
use Rattle.transition.specs.Known.{Known}

each-prop : {A : Type 0} {P : A → Type 0} → ((x : A) → IsProp (P x)) → (xs : List A) → IsProp (Each P xs)
unfolding Each
each-prop p [] = Unit-prop
each-prop p (x ∷ xs) = ×_prop (p x) (each-prop p xs)

along-prop : {A : Type 0} {R : A → A → Type 0} → ((x y : A) → IsProp (R x y)) → (xs : List A) → IsProp (Along R xs)
unfolding Along
along-prop p [] = Unit-prop
along-prop p (x ∷ []) = Unit-prop
along-prop p (x ∷ y ∷ xs) = ×_prop (p x y) (along-prop p (y ∷ xs))

terms-prop : (l : Terms) (t : Transition) → IsProp (HasTerms l t)
unfolding HasTerms LowestTerms
terms-prop any_terms t = Unit-prop
terms-prop lowest_terms t = Prim.hlevel props

pub known-prop : (s : List ℕ) (n count : ℕ) (table : List ℕ) → IsProp (Known s n count table)
known-prop s n count table = Prim.hlevel (props, each-prop, along-prop, terms-prop)
