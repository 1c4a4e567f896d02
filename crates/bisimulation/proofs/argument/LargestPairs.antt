-- The largest relation is the largest set of pairs too, where it is one, for any step rule.
use Rattle.std.specs.Prelude.{ℕ, ◌<◌, ◌≡◌, ◌↔◌, ltb, eqb}
use Rattle.std.proofs.Common.{lt-ltb, ltb-true, eq-eqb, eqb-true}
use Rattle.bisimulation.specs.definitions.Choice.{both}
use Rattle.bisimulation.proofs.argument.ChoiceLaws.{both_true, true-both}
use Rattle.bisimulation.specs.definitions.Automaton.{Automaton}
use Rattle.bisimulation.specs.definitions.Rule.{Rule}
use Rattle.bisimulation.specs.definitions.Pairs.{Pairs}
use Rattle.bisimulation.specs.definitions.Largest.{Bisimulation, LargestBisimulation, Links, LargestPairs}

-- two numbers below n at which f is the same, as a set of pairs
abbrev pub shared : (n : ℕ) → (f : ℕ → ℕ) → Pairs
shared n f s t = both (both (ltb s n) (ltb t n)) (eqb (f s) (f t))

pub shared-links : (n : ℕ) (f : ℕ → ℕ) (s t : ℕ) → Links (shared n f) s t ↔ ((s < n) × (t < n) × (f s ≡ f t))
shared-links n f s t = (
  λ h.
      let a = both_true _ _ h.linked in
      let b = both_true _ _ a.0 in
      (ltb-true s n b.0, ltb-true t n b.1, eqb-true _ _ a.1),
  λ h. record { linked = true-both (true-both (lt-ltb s n h.0) (lt-ltb t n h.1)) (eq-eqb _ _ h.2) },
)

module _ (rule : Rule) {A : Automaton} {Same : ℕ → ℕ → Type 0} (P : Pairs) (pairs : (s t : ℕ) → Links P s t ↔ Same s t) where
  pub as-pairs : Bisimulation rule.met A Same → Bisimulation rule.met A (Links P)
  as-pairs b =
      record {
        on_states = λ s t h. b.on_states s t ((pairs s t).0 h);
        symmetric = λ s t h. (pairs t s).1 (b.symmetric s t ((pairs s t).0 h));
        keeps_labels = λ s t h. b.keeps_labels s t ((pairs s t).0 h);
        meets = record { met = λ s t h q less e. rule.wider A Same (Links P) (λ v u x. (pairs v u).1 x) q t (b.meets.met s t ((pairs s t).0 h) q less e) };
      }

  pub largest-pairs : LargestBisimulation rule.met A Same → LargestPairs rule.met A Same
  largest-pairs l =
      record {
        itself = l.itself;
        largest = λ W b s t h. l.largest (Links W) b s t h;
        exactly = λ s t. (
          λ x. record { W = P; bisimulation = as-pairs l.itself; linked = (pairs s t).1 x },
          λ x. l.largest (Links x.W) x.bisimulation s t x.linked,
        );
      }
