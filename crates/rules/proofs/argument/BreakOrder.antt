-- Document 02, K2: where the equations of a record are refused, the one at the named state breaks, and no earlier one does: of its kind at an
-- earlier state, or of an earlier kind at any state.
use Rattle.std.specs.Prelude.{ℕ, ◌<◌, ◌≡◌, ◌⊎◌, Bool, cond, List, [], ◌∷◌, eqb}
use Rattle.std.proofs.Math.Path.{refl, subst}
use Rattle.std.proofs.Math.Logic.{inl, inr}
use Rattle.std.proofs.Math.Bool.{true, false}
use Rattle.std.proofs.Common.{arith}
use Rattle.std.proofs.Math.Decide.{ℕ_discrete}
use Rattle.bisimulation.specs.definitions.Choice.{if_same}
use Rattle.bisimulation.specs.definitions.Automaton.{Automaton}
use Rattle.bisimulation.specs.definitions.StepRule.{Sides, Holds, Flow, internal_move, before_move, after_move, at_target}
use Rattle.rules.specs.definitions.Faults.{Fault, Passes, first_of}
use Rattle.rules.specs.definitions.PlainRule.{by_kind, first_break, internal_equations_fault, external_equations_fault, plain_equations_fault}
use Rattle.rules.proofs.argument.FaultLaws.{first_stops, first-none}
use Rattle.rules.proofs.argument.BreakLaws.{FirstBreak, break-first}
use Rattle.rules.proofs.argument.PlainDecides.{all_hold}

-- equations of one kind, and the number that refuses them
pub record Kind : Type 0 where
  pub number : ℕ
  pub sides : ℕ → Sides

abbrev pub kind : ℕ → (ℕ → Sides) → Kind
kind number sides = record { number = number; sides = sides }

-- the equations of a rule by their kinds, for a challenger, a defender and a flow
abbrev pub Kinds : Type 0
Kinds = Automaton → (q t : ℕ) → Flow → List Kind

-- a fault is the first break of the first kind that has one, for kinds in their order; it is none where all of them hold
unfoldable pub InOrder : (states : ℕ) → List Kind → Fault → Type 0
InOrder states [] f = Passes f
InOrder states (k ∷ ks) f =
    FirstBreak k.number k.sides states 0 f ⊎ (((u : ℕ) → u < states → Holds (k.sides u)) × InOrder states ks f)

module _ (A : Automaton) where
  module _ (number : ℕ) (sides : ℕ → Sides) (some : number ≡ 0 → ⊥) where
    abbrev here : Fault
    here = first_break A number sides

    breaks : (Passes here → ⊥) → FirstBreak number sides A.states 0 here
    unfolding first_break
    breaks n = break-first number sides A.states 0 n

    -- the last kind
    pub last-kind : InOrder A.states (kind number sides ∷ []) here
    unfolding InOrder
    last-kind = go (ℕ_discrete here.number 0)
      where
        go : Dec (Passes here) → InOrder A.states (kind number sides ∷ []) here
        go (yes p) = inr (all_hold A number sides some p, p)
        go (no n) = inl (breaks n)

    -- a kind before others
    pub kind-before : (ks : List Kind) (next : Fault) → InOrder A.states ks next → InOrder A.states (kind number sides ∷ ks) (first_of here next)
    unfolding InOrder
    kind-before ks next h = go (ℕ_discrete here.number 0)
      where
        go : Dec (Passes here) → InOrder A.states (kind number sides ∷ ks) (first_of here next)
        go (yes p) = inr (all_hold A number sides some p, subst (InOrder A.states ks) (first-none here next p refl) h)
        go (no n) = inl (subst (FirstBreak number sides A.states 0) (first_stops here next refl n) (breaks n))

  -- an internal challenger: 20, then 21
  pub internal-order : (q t : ℕ) (f : Flow) → InOrder A.states (kind 20 (internal_move A f t) ∷ kind 21 (at_target A f q) ∷ []) (internal_equations_fault A q t f)
  unfolding internal_equations_fault
  internal-order q t f = kind-before 20 (internal_move A f t) (λ e. omega arith) _ _ (last-kind 21 (at_target A f q) (λ e. omega arith))

  -- an external one: 20 before the move, 20 after it, then 21
  pub external-order : (q t : ℕ) (f : Flow) → InOrder A.states (kind 20 (before_move A f t) ∷ kind 20 (after_move A f) ∷ kind 21 (at_target A f q) ∷ []) (external_equations_fault A q t f)
  unfolding external_equations_fault
  external-order q t f =
      kind-before 20 (before_move A f t) (λ e. omega arith) _ _
      (kind-before 20 (after_move A f) (λ e. omega arith) _ _
      (last-kind 21 (at_target A f q) (λ e. omega arith)))

  -- document 01's equations by their kinds; K2: 'the equations before the move first'
  unfoldable pub equation_kinds : (q t : ℕ) → Flow → List Kind
  equation_kinds q t f =
      by_kind A q
      (kind 20 (internal_move A f t) ∷ kind 21 (at_target A f q) ∷ [])
      (kind 20 (before_move A f t) ∷ kind 20 (after_move A f) ∷ kind 21 (at_target A f q) ∷ [])

  pub plain-order : (q t : ℕ) (f : Flow) → InOrder A.states (equation_kinds q t f) (plain_equations_fault A q t f)
  unfolding equation_kinds plain_equations_fault by_kind if_same
  plain-order q t f = go (eqb (A.action q) 0)
    where
      go : (b : Bool) → InOrder A.states (cond b (kind 20 (internal_move A f t) ∷ kind 21 (at_target A f q) ∷ []) (kind 20 (before_move A f t) ∷ kind 20 (after_move A f) ∷ kind 21 (at_target A f q) ∷ [])) (cond b (internal_equations_fault A q t f) (external_equations_fault A q t f))
      go true = internal-order q t f
      go false = external-order q t f
