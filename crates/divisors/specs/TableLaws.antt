-- Laws of the table of divisors.
use Rattle.std.specs.Prelude.{ℕ, zero, suc, ◌+◌, ◌≤◌, ◌<◌, ◌≡◌, refl, List, length, get_or, set, replicate}
use Rattle.std.proofs.Common.{sym, ◌∙◌, subst, length-set, get_or-set_same, get_or-set_other, arith}
use Rattle.std.proofs.Math.Path.{ap}
use Rattle.std.proofs.lemmas.List.{length-replicate}
use Rattle.std.proofs.Math.Decide.{ℕ_discrete}
use Rattle.numbers.proofs.argument.DivisorLaws.{divides-most}
use Rattle.rules.specs.definitions.Limits.{limits}
use Rattle.rules.specs.definitions.Model.{no_transition, automaton_of}
use Rattle.rules.specs.definitions.SoundModel.{TransitionRules}
use Rattle.rules.specs.definitions.LowestTerms.{divisor_in}
use Rattle.rules.specs.definitions.Reading.{entry_count_at, transition_at, model_at, place_of}
use Rattle.rules.proofs.argument.SoundModelLaws.{each_at}
use Rattle.rules.proofs.argument.ModelAutomaton.{transition-is}
use Rattle.rules.proofs.argument.TermsLaws.{divisor-some, divisor-denominator}
use Rattle.rewriting.specs.definitions.Rewritten.{divisor_at}
use Rattle.transition_record.specs.declared.Fields.{Fields}
use Rattle.transition_terms.specs.Divisors as read
use Rattle.transition.specs.Known.{Known, FieldsOf}
use Rattle.transition.specs.KnownLaws.{known-transitions}
use Rattle.divisors.specs.Table.{HoldsDivisors}

-- a divisor that the table may hold of a transition
pub record DivisorOf (s : List ℕ) (r g : ℕ) : Type 0 where
  pub is : g ≡ divisor_at (model_at s) r
  pub some : 1 ≤ g
  pub small : g ≤ 65535

-- the divisor of a sound model's transition is at least 1, and at most d
module _ {s table : List ℕ} {n count : ℕ} (k : Known s n count table) {r : ℕ} (less : r < count) where
  rules-of : TransitionRules (length (model_at s).labels) (model_at s).actions (get_or (model_at s).transitions r no_transition)
  unfolding automaton_of
  rules-of = each_at _ (model_at s).transitions r no_transition k.sound.transitions (omega (arith, known-transitions k, less))

  known-divisor : DivisorOf s r (divisor_at (model_at s) r)
  unfolding divisor_at
  known-divisor =
      record {
        is = refl;
        some = divisor-some _ rules-of;
        small = omega (arith, divides-most (divisor-denominator _ rules-of) rules-of.positive, rules-of.fits);
      }

  -- it is what is found from the transition's entries
  is_divisor : read.divisor_at s (entry_count_at s (place_of s r)) (place_of s r + 7) ≡ divisor_at (model_at s) r
  unfolding divisor_at divisor_in transition_at
  is_divisor = ap divisor_in (sym (transition-is s r (omega (arith, k.transitions, less))))

  pub divisor-found : {f : Fields} {g : ℕ} → FieldsOf s r f → g ≡ read.divisor_at s f.count f.entries.at → DivisorOf s r g
  divisor-found {f} {g} t e =
      let same : divisor_at (model_at s) r ≡ g =
      sym (e ∙ ap (λ (c : ℕ). read.divisor_at s c f.entries.at) t.count ∙ ap (read.divisor_at s (entry_count_at s (place_of s r))) t.entries ∙ is_divisor) in
      subst (DivisorOf s r) same known-divisor

-- before the first transition the table is zeros
zeros : (n i : ℕ) → ◌≡◌ {A = ℕ} (get_or (replicate n 0) i 0) 0
zeros zero i = refl
zeros (suc n) zero = refl
zeros (suc n) (suc i) = zeros n i

pub none-held : (s : List ℕ) → HoldsDivisors s 0 (replicate limits.transitions 0)
none-held s =
    record {
      size = length-replicate {A = ℕ} limits.transitions 0;
      few = omega arith;
      held = λ r h. absurd (omega arith);
      some = λ r h. absurd (omega arith);
      small = λ r. omega (arith, zeros limits.transitions r);
    }

-- one more divisor
module _ {s : List ℕ} {count : ℕ} {table : List ℕ} (h : HoldsDivisors s count table) {g : ℕ} (room : count < limits.transitions) (d : DivisorOf s count g) where
  -- what holds of it, and of each other number of the table, holds of each
  with-one : (P : ℕ → ℕ → Type 0) → P count g → (r : ℕ) → ((r ≡ count → ⊥) → P r (get_or table r 0)) → P r (get_or (set table count g) r 0)
  with-one P p r f = go (ℕ_discrete r count)
    where
      go : Dec (r ≡ count) → P r (get_or (set table count g) r 0)
      go (yes e) = subst (λ (i : ℕ). P i (get_or (set table count g) i 0)) (sym e) (subst (P count) (sym (get_or-set_same table count g 0 (omega (arith, h.size, room)))) p)
      go (no n) = subst (P r) (sym (get_or-set_other table count r g 0 n)) (f n)

  pub one-more-held : HoldsDivisors s (count + 1) (set table count g)
  one-more-held =
      record {
        size = length-set table count g ∙ h.size;
        few = omega (arith, room);
        held = λ r less. with-one (λ (i x : ℕ). x ≡ divisor_at (model_at s) i) d.is r (λ n. h.held r (omega arith));
        some = λ r less. with-one (λ (i x : ℕ). 1 ≤ x) d.some r (λ n. h.some r (omega arith));
        small = λ r. with-one (λ (i x : ℕ). x ≤ 65535) d.small r (λ n. h.small r);
      }
