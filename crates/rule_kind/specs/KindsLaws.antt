-- Laws of the step rules by their kind.
use Rattle.std.specs.Prelude.{ℕ, ◌+◌, ◌<◌, ◌≡◌, refl, List, length, get_or}
use Rattle.std.proofs.Common.{sym, ◌∙◌, subst, arith}
use Rattle.std.proofs.Math.Path.{ap}
use Rattle.rules.specs.definitions.Bytes.{byte_at}
use Rattle.rules.specs.definitions.Reading.{count_of}
use Rattle.cost_files.specs.definitions.CostModel.{transitions_end}
use Rattle.cost_files.proofs.argument.CostReadingLaws.{cost-at}
use Rattle.transition.specs.KnownLaws.{few-transitions}
use Rattle.rule_kind.specs.declared.Kind.{Kind}
use Rattle.rule_kind.specs.declared.Kind.TheVariants.{Plain, Costs, Strong}
use Rattle.rule_kind.specs.Kinds.{rule_of, mark_of, cost_in, KindStands, CostsThere, CostAsked, CostIs}

-- the rule's mark
pub mark-of : (kind : Kind) (s : List ℕ) → mark_of kind ≡ (rule_of kind s).mark
mark-of Plain s = refl
mark-of Costs s = refl
mark-of Strong s = refl

-- what an answer of a function by kinds is
pub by-kind : {X : Type 0} (f : Kind → X) {kind other : Kind} {x : X} → kind ≡ other → x ≡ f other → x ≡ f kind
by-kind f e h = h ∙ ap f (sym e)

-- a rule without costs
pub no-cost : (other : Kind) {kind : Kind} {s : List ℕ} {r cost : ℕ} → ((s : List ℕ) (r : ℕ) → cost_in other s r ≡ 0) → kind ≡ other → cost ≡ 0 → CostIs kind s r cost
no-cost other {s = s} {r} none e z = record { is = by-kind (λ (k : Kind). cost_in k s r) e (z ∙ sym (none s r)); low = omega arith }

-- the byte of a cost
module _ {kind : Kind} {s places : List ℕ} {count r : ℕ} (a : CostAsked kind s count places r) (e : kind ≡ Costs) where
  there : CostsThere s
  there = subst (λ (k : Kind). KindStands k s) e a.stands

  pub end-in-table : count < length places
  end-in-table = omega (arith, a.known.size, few-transitions a.known)

  pub end_is : get_or places count 0 ≡ transitions_end s
  unfolding transitions_end
  end_is = a.known.places.held count (omega arith) ∙ ap (λ (c : ℕ). Rattle.rules.specs.definitions.Reading.place_of s c) a.known.transitions

  pub cost-inside : get_or places count 0 + 2 + r < length s
  cost-inside = omega (arith, end_is, there.inside, a.below, a.known.transitions)

  pub cost-is : {cost : ℕ} → cost ≡ byte_at s (get_or places count 0 + 2 + r) → CostIs kind s r cost
  cost-is {cost} h =
      let below : r < count_of s = omega (arith, a.below, a.known.transitions) in
      let here : cost ≡ byte_at s (transitions_end s + 2 + r) = h ∙ ap (λ (p : ℕ). byte_at s (p + 2 + r)) end_is in
      record { is = by-kind (λ (k : Kind). cost_in k s r) e (here ∙ sym (cost-at s r below)); low = omega (arith, here, there.low r below) }
