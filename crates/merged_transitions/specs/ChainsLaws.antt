-- Laws of the chains, one more transition at a time.
use Rattle.std.specs.Prelude.{ℕ, ◌+◌, ◌≤◌, ◌<◌, ◌≡◌, List, length, get_or, set, replicate}
use Rattle.std.proofs.Common.{sym, ◌∙◌, ap, subst, length-set, get_or-set_same, get_or-set_other, arith}
use Rattle.std.proofs.lemmas.List.{length-replicate, get_or-replicate}
use Rattle.std.proofs.Math.Decide.{ℕ_discrete}
use Rattle.rules.specs.definitions.Limits.{limits}
use Rattle.rules.specs.definitions.Model.{automaton_of}
use Rattle.transition_record.specs.declared.Fields.{Fields}
use Rattle.transition.specs.Known.{Known, FieldsOf}
use Rattle.merged_transition.specs.MergedTransition.{BlocksBelow}
use Rattle.merged_transitions.specs.MergedTransitions.{block_of_source, IsFirst, Chained}

-- no transition yet
pub none-chained : (s blocks : List ℕ) (count : ℕ) → Chained s blocks count count (replicate limits.states count) (replicate limits.transitions 0)
none-chained s blocks count =
    record {
      heads-size = length-replicate {A = ℕ} limits.states count;
      chain-size = length-replicate {A = ℕ} limits.transitions 0;
      first = λ b h. subst (IsFirst s blocks count b count) (sym (get_or-replicate {A = ℕ} limits.states b count 0 h)) at-end;
      next = λ j h l. absurd (omega arith);
    }
  where
    at-end : {b : ℕ} → IsFirst s blocks count b count count
    at-end = record { from = omega arith; to = omega arith; none = λ i h l e. absurd (omega arith); of = λ l. absurd (omega arith) }

-- in a table with one number changed: what holds of that number, and of each other one
in-changed : (P : ℕ → ℕ → Type 0) (table : List ℕ) (at x : ℕ) → at < length table → P at x → (i : ℕ) → ((i ≡ at → ⊥) → P i (get_or table i 0)) → P i (get_or (set table at x) i 0)
in-changed P table at x inside p i f = go (ℕ_discrete i at)
  where
    go : Dec (i ≡ at) → P i (get_or (set table at x) i 0)
    go (yes e) = subst (λ (j : ℕ). P j (get_or (set table at x) j 0)) (sym e) (subst (P at) (sym (get_or-set_same table at x 0 inside)) p)
    go (no n) = subst (P i) (sym (get_or-set_other table at i x 0 n)) (f n)

-- the transition r before those behind it: the first of its block, and of no other
pub one-more-chained : {s blocks : List ℕ} {count r b : ℕ} {heads chain : List ℕ} → Chained s blocks count (r + 1) heads chain → r < count → count ≤ limits.transitions → b < limits.states → b ≡ block_of_source s blocks r → Chained s blocks count r (set heads b r) (set chain r (get_or heads b 0))
one-more-chained {s} {blocks} {count} {r} {b} {heads} {chain} c less few some e =
    record {
      heads-size = length-set heads b r ∙ c.heads-size;
      chain-size = length-set chain r (get_or heads b 0) ∙ c.chain-size;
      first = λ d h. in-changed (λ (i x : ℕ). IsFirst s blocks count i r x) heads b r (omega (arith, c.heads-size, some)) own d (λ n. other d n _ (c.first d h));
      next =
          λ j from l.
          in-changed (λ (i x : ℕ). IsFirst s blocks count (block_of_source s blocks i) (i + 1) x) chain r (get_or heads b 0) (omega (arith, c.chain-size, less, few)) (subst (λ (d : ℕ). IsFirst s blocks count d (r + 1) (get_or heads b 0)) e (c.first b some)) j
          (λ n. c.next j (omega arith) l);
    }
  where
    own : IsFirst s blocks count b r r
    own = record { from = omega arith; to = omega arith; none = λ i h l f. absurd (omega arith); of = λ l. sym e }

    other : (d : ℕ) → (d ≡ b → ⊥) → (x : ℕ) → IsFirst s blocks count d (r + 1) x → IsFirst s blocks count d r x
    other d n x f = record { from = omega (arith, f.from); to = f.to; none = λ i h l g. go i h l g (ℕ_discrete i r); of = f.of }
      where
        go : (i : ℕ) → r ≤ i → i < x → block_of_source s blocks i ≡ d → Dec (i ≡ r) → ⊥
        go i h l g (yes p) = n (sym g ∙ ap (block_of_source s blocks) p ∙ sym e)
        go i h l g (no p) = f.none i (omega arith) l g

-- from a number that is the same
pub chained-at : {s blocks : List ℕ} {count r q : ℕ} {heads chain : List ℕ} → Chained s blocks count r heads chain → r ≡ q → Chained s blocks count q heads chain
chained-at {s} {blocks} {count} {heads = heads} {chain} c e = subst (λ (x : ℕ). Chained s blocks count x heads chain) e c

-- behind a transition of the block b, the next of b
pub behind : {s blocks : List ℕ} {count r b : ℕ} {heads chain : List ℕ} → Chained s blocks count 0 heads chain → r < count → block_of_source s blocks r ≡ b → IsFirst s blocks count b (r + 1) (get_or chain r 0)
behind {s} {blocks} {count} {r} {chain = chain} c less e = subst (λ (d : ℕ). IsFirst s blocks count d (r + 1) (get_or chain r 0)) e (c.next r (omega arith) less)

-- the block of a transition's source, found by its fields
pub block-found : {s : List ℕ} (blocks : List ℕ) {r : ℕ} {f : Fields} {x : ℕ} → FieldsOf s r f → x ≡ get_or blocks f.source 0 → x ≡ block_of_source s blocks r
unfolding automaton_of
block-found blocks t e = e ∙ ap (λ (v : ℕ). get_or blocks v 0) t.source

pub block-known : {s places : List ℕ} {n count r k : ℕ} {f : Fields} {blocks : List ℕ} → Known s n count places → BlocksBelow n k blocks → FieldsOf s r f → f.source < length blocks
block-known k b f = omega (arith, f.from, k.states, b.whole)

pub block-few : {s places : List ℕ} {n count r k : ℕ} {f : Fields} {blocks : List ℕ} {x : ℕ} → Known s n count places → BlocksBelow n k blocks → FieldsOf s r f → x ≡ get_or blocks f.source 0 → x < limits.states
block-few {f = f} known below t e = omega (arith, e, below.below f.source (omega (arith, t.from, known.states)), below.few)
