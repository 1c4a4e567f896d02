-- Laws of what is counted.
use Rattle.std.specs.Prelude.{◌-◌, get_or, take, drop, cond, max, ◌⊎◌, nat_lt, ℕ, ◌+◌, ◌*◌, ◌≤◌, ◌<◌, ◌≡◌, refl, Bool, true, false, List}
use Rattle.std.proofs.Math.Path.{sym, ap, ap₂, subst}
use Rattle.std.proofs.Common.{get_or-take, get_or-drop, ◌∙◌, inl, inr, mul-le-mul, add-one, arith}
use Rattle.std.proofs.Math.Decide.{dec_lt}
use Rattle.std.proofs.Math.ListN.{length}
use Rattle.bisimulation.specs.definitions.Choice.{if_less, if_same, if_true}
use Rattle.bisimulation.proofs.argument.ChoiceLaws.{less, not_less, same, not_same, is_true, is_false, either_less}
use Rattle.bisimulation.specs.definitions.Sum.{sum}
use Rattle.bisimulation.proofs.argument.SumLaws.{sum_cong}
use Rattle.bisimulation.specs.definitions.Automaton.{Automaton}
use Rattle.bisimulation.specs.definitions.Joined.{larger}
use Rattle.bisimulation.specs.definitions.Composed.{highest, Shared}
use Rattle.rules.specs.definitions.Bytes.{byte_at}
use Rattle.rules.specs.definitions.Model.{Transition, automaton_of}
use Rattle.rules.specs.definitions.Reading.{states_of, transition_at, model_at}
use Rattle.rules.proofs.argument.ModelAutomaton.{automaton-transitions, automaton-label, transition-is}
use Rattle.rules.proofs.argument.FetchedRun.{length-entries_at}
use Rattle.model.specs.declared.Model.{Model as Found}
use Rattle.transition_record.specs.declared.Fields.{Fields}
use Rattle.transition.specs.Known.{automaton_in, KnownTransition, FieldsOf}
use Rattle.transition.specs.KnownLaws.{known-states, known-transitions, few-transitions, fields-small}
use Rattle.composition.specs.definitions.Composition.{shared_below, is_shared, transition_of}
use Rattle.composition.proofs.argument.SharedLaws.{test-shared, test-alone}
use Rattle.composition.proofs.argument.PairCounts.{left_count, right_count, pair_count, left-shared, left_alone_lem, pairs-same}
use Rattle.composition.proofs.argument.ComposedCounts.{longer, composed-transitions, composed-entries, composed-long}
use Rattle.composed_size.specs.declared.Sizes.{Sizes}
use Rattle.composed_size.specs.Sides.{Side, Sides}
use Rattle.composed_size.specs.Counted.{SizesAre, Added, AtMost, pair_most, move_most, all_most, Counted, CountedAt, SumsCounted}
use Rattle.composed_size.specs.Counted.{SmallFields, PairCounted, entry_count_of, of_partner, PartnersCounted}
use Rattle.composed_size.specs.Counted.{LeftCounted, of_own, RightCounted, MovesCounted}

-- what is chosen by an order, of either answer of its test
pub chosen {ℓ} : {X : Type ℓ} (f : Bool → X) (a b : ℕ) → f (nat_lt a b) ≡ if_less a b (f true) (f false)
unfolding if_less
chosen f a b = go (nat_lt a b)
  where
    go : (t : Bool) → f t ≡ cond t (f true) (f false)
    go true = refl
    go false = refl

-- the internal action, or one past the left's, is not shared
pub not-shared : {l a : ℕ} (r : ℕ) {b : Bool} → b ≡ false → ((a ≡ 0 → ⊥) × l ≤ a) ⊎ (a ≡ 0) → b ≡ shared_below l r a
unfolding shared_below
not-shared r e (inl p) = less _ (omega (arith, p.0)) (not_less _ p.1 e)
not-shared r e (inr z) = not_less _ (omega (arith, z)) e

-- nothing, and one number more
pub none-counted : {most : ℕ} {f g h : ℕ → ℕ} {x : Sizes} → Counted 0 0 0 0 x → SumsCounted 0 most f g h x
unfolding sum
none-counted c = record { are = c.are; few = omega (arith, c.few) }

module _ {n most : ℕ} {f g h : ℕ → ℕ} {x y : Sizes} (c : SumsCounted n most f g h x) (d : CountedAt n most f g h y) where
  pub may_add : n * most ≤ all_most → most ≤ all_most → AtMost all_most x × AtMost all_most y
  may_add k l = (omega (arith, c.few, k), omega (arith, d.few, l))

  pub one_more : {z : Sizes} → Added x y z → SumsCounted (n + 1) most f g h z
  unfolding sum
  one_more {z} a =
      subst (λ (k : ℕ). SumsCounted k most f g h z) (sym (add-one n))
      (record { are = omega (arith, a, c.are, d.are); few = omega (arith, a, c.few, d.few) })

-- more may be counted
pub wider : {a b : ℕ} {x : Sizes} → AtMost a x → a ≤ b → AtMost b x
wider m l = omega (arith, m, l)

-- the test of an action is that of two automata with so many actions, as two files have them
pub shared-below : (A B : Automaton) (a : ℕ) → shared_below A.actions B.actions a ≡ is_shared A B a
unfolding is_shared
shared-below A B a = refl

pub shared-sides : {left right left_table right_table : List ℕ} {m k : Found} → Sides left m left_table right k right_table → (a : ℕ) → shared_below m.actions k.actions a ≡ is_shared (automaton_in left) (automaton_in right) a
unfolding automaton_of
shared-sides {left} {right} s a =
    ap₂ (λ (x y : ℕ). shared_below x y a) s.first.actions s.second.actions ∙ shared-below (automaton_in left) (automaton_in right) a

-- a transition's own fields are within their bytes, and so are products of them
pub small-fields : {s table : List ℕ} {r : ℕ} {t : Fields} → KnownTransition s table r → FieldsOf s r t → SmallFields t
small-fields k f = record { count = (fields-small k f).1; denominator = f.small }

pub small-products : {t u : Fields} → SmallFields t → SmallFields u → (t.count * u.count ≤ 256 * 256) × (t.denominator * u.denominator ≤ 65536 * 65536)
small-products a b = (
  mul-le-mul {n₂ = 256} {m₂ = 256} (omega (arith, a.count)) (omega (arith, b.count)),
  mul-le-mul {n₂ = 65536} {m₂ = 65536} (omega (arith, a.denominator)) (omega (arith, b.denominator)),
)

longer-most : (d : ℕ) → longer d ≤ 1
longer-most d = either_less (λ (k : ℕ). k ≤ 1) 65535 d (omega arith) (omega arith)

-- two transitions of different actions, or of one
module _ {t u : Fields} where
  pub no-pair : {x : Sizes} → (u.action ≡ t.action → ⊥) → Counted 0 0 0 0 x → PairCounted t u x
  no-pair n c =
      record {
        are = record { transitions = not_same _ n c.are.transitions; entries = not_same _ n c.are.entries; long = not_same _ n c.are.long };
        few = wider c.few (omega arith);
      }

  pub one-pair : SmallFields t → SmallFields u → u.action ≡ t.action → {x : Sizes} → SizesAre 1 (t.count * u.count) (longer (t.denominator * u.denominator)) x → PairCounted t u x
  one-pair small other e {x} c =
      record {
        are = record { transitions = same _ e c.transitions; entries = same _ e c.entries; long = same _ e c.long };
        few =
            record {
              transitions = omega (arith, c.transitions);
              entries = omega (arith, c.entries, (small-products small other).0);
              long = omega (arith, c.long, longer-most (t.denominator * u.denominator));
            };
      }

-- a transition with the one that has these fields
pub partner-counted : {t u : Fields} {right : List ℕ} {r : ℕ} {x : Sizes} → FieldsOf right r u → PairCounted t u x → PartnersCounted t right (CountedAt r pair_most) x
partner-counted {t} f c =
    record {
      are =
          record {
            transitions = c.are.transitions ∙ ap (λ (a : ℕ). if_same a t.action 1 0) f.action;
            entries = c.are.entries ∙ ap₂ (λ (a n : ℕ). if_same a t.action (t.count * n) 0) f.action f.count;
            long = c.are.long ∙ ap₂ (λ (a d : ℕ). if_same a t.action (longer (t.denominator * d)) 0) f.action f.denominator;
          };
      few = c.few;
    }

-- a transition of the left: with its partners, or alone
module _ {left left_table right right_table : List ℕ} {m k : Found} (s : Sides left m left_table right k right_table) {q : ℕ} {t : Fields} (f : FieldsOf left q t) {b : Bool} (e : b ≡ shared_below m.actions k.actions t.action) where
  abbrev A : Automaton
  A = automaton_in left

  abbrev B : Automaton
  B = automaton_in right

  tested : b ≡ is_shared A B (A.action q)
  tested = e ∙ shared-sides s t.action ∙ ap (is_shared A B) f.action

  pub left-together : {x : Sizes} → b ≡ true → PartnersCounted t right (SumsCounted k.transitions pair_most) x → LeftCounted left right (CountedAt q move_most) x
  left-together {x} on c =
      record {
        are =
            record {
              transitions = c.are.transitions ∙ of _ _ _ (λ r. refl);
              entries = c.are.entries ∙ of _ _ _ (λ r. ap (λ (n : ℕ). n * entry_count_of right r) f.count);
              long = c.are.long ∙ of _ _ _ (λ r. ap (λ (d : ℕ). longer (d * B.denominator r)) f.denominator);
            };
        few = wider c.few (omega (arith, few-transitions s.second.known));
      }
    where
      of : (alone : ℕ → ℕ) (pair : ℕ → ℕ → ℕ) (g : ℕ → ℕ) → ((r : ℕ) → g r ≡ pair q r) → sum k.transitions (of_partner t right g) ≡ left_count A B alone pair q
      of alone pair g p =
          ap (λ (n : ℕ). sum n (of_partner t right g)) (sym (known-transitions s.second.known))
          ∙ sum_cong B.transitions _ _ (λ r l. ap₂ (λ (a v : ℕ). if_same (B.action r) a v 0) f.action (p r))
          ∙ sym (left-shared A B alone pair q (test-shared A B (A.action q) (sym tested ∙ on)))

  pub left-own : {x : Sizes} → b ≡ false → Counted pair_most k.states (k.states * t.count) 0 x → LeftCounted left right (CountedAt q move_most) x
  unfolding automaton_of
  left-own {x} off c =
      let states = known-states s.second.known in
      record {
        are =
            record {
              transitions = c.are.transitions ∙ sym states ∙ sym (left_alone_lem A B _ _ q alone);
              entries = c.are.entries ∙ ap₂ (λ (x y : ℕ). x * y) (sym states) f.count ∙ sym (left_alone_lem A B _ _ q alone);
              long = c.are.long ∙ sym (left_alone_lem A B _ _ q alone);
            };
        few = wider c.few (omega arith);
      }
    where
      alone : Shared A B (A.action q) → ⊥
      alone = test-alone A B (A.action q) (sym tested ∙ off)

-- a transition of the right: with no partner left, or its own
module _ (m : Found) {right table : List ℕ} {k : Found} (s : Side right k table) {r : ℕ} {u : Fields} (f : FieldsOf right r u) {b : Bool} (e : b ≡ shared_below m.actions k.actions u.action) where
  own : shared_below m.actions (model_at right).actions ((automaton_in right).action r) ≡ b
  own = sym (e ∙ ap₂ (λ (x a : ℕ). shared_below m.actions x a) s.actions f.action)

  pub right-shared : {x : Sizes} → b ≡ true → Counted 0 0 0 0 x → RightCounted m.actions m.states right (CountedAt r pair_most) x
  right-shared on c =
      record {
        are =
            record {
              transitions = is_true _ (own ∙ on) c.are.transitions;
              entries = is_true _ (own ∙ on) c.are.entries;
              long = is_true _ (own ∙ on) c.are.long;
            };
        few = wider c.few (omega arith);
      }

  pub right-own : {x : Sizes} → b ≡ false → Counted pair_most m.states (m.states * u.count) 0 x → RightCounted m.actions m.states right (CountedAt r pair_most) x
  right-own off c =
      record {
        are =
            record {
              transitions = is_false _ (own ∙ off) c.are.transitions;
              entries = is_false _ (own ∙ off) (c.are.entries ∙ ap (λ (n : ℕ). m.states * n) f.count);
              long = is_false _ (own ∙ off) c.are.long;
            };
        few = c.few;
      }

-- all moves: the left's and the right's own
entries-are : (s : List ℕ) (r : ℕ) → r < (automaton_in s).transitions → entry_count_of s r ≡ length (transition_of (model_at s) r).entries
unfolding transition_at
entries-are s r l =
    let t = transition-is s r (omega (arith, l, automaton-transitions s)) in
    sym (ap (λ (t : Transition). length t.entries) t ∙ length-entries_at s _ _)

module _ {left left_table right right_table : List ℕ} {m k : Found} (s : Sides left m left_table right k right_table) where
  abbrev L : Automaton
  L = automaton_in left

  abbrev R : Automaton
  R = automaton_in right

  own-test : (a : ℕ) → shared_below m.actions (model_at right).actions a ≡ is_shared L R a
  unfolding automaton_of
  own-test a = ap (λ (x : ℕ). shared_below x (model_at right).actions a) s.first.actions ∙ shared-below L R a

  both_sums : (alone : ℕ → ℕ) (pair : ℕ → ℕ → ℕ) (mine theirs : ℕ → ℕ) → ((r : ℕ) → mine r ≡ theirs r) → {x y z : ℕ} → z ≡ x + y → x ≡ sum m.transitions (left_count L R alone pair) → y ≡ sum k.transitions (of_own m.actions right mine) → z ≡ pair_count L R alone pair theirs
  unfolding pair_count right_count
  both_sums alone pair mine theirs p e f g =
      e
      ∙ ap₂ (λ (i j : ℕ). i + j)
      (f ∙ ap (λ (n : ℕ). sum n (left_count L R alone pair)) (sym (known-transitions s.first.known)))
      (g
      ∙ ap (λ (n : ℕ). sum n (of_own m.actions right mine)) (sym (known-transitions s.second.known))
      ∙ sum_cong R.transitions _ _ (λ r l. ap₂ (λ (b : Bool) (v : ℕ). if_true b 0 v) (own-test (R.action r)) (p r)))

  pub moves-counted : {x y z : Sizes} → LeftCounted left right (SumsCounted m.transitions move_most) x → RightCounted m.actions m.states right (SumsCounted k.transitions pair_most) y → Added x y z → MovesCounted left right z
  unfolding automaton_of
  moves-counted c d a =
      let M = model_at left in
      let N = model_at right in
      let f = s.first.known.sound.transitions in
      let g = s.second.known.sound.transitions in
      let states = sym (known-states s.first.known) in
      record {
        transitions =
            both_sums _ _ _ _ (λ r. states) a.transitions c.are.transitions d.are.transitions ∙ sym (composed-transitions M N f g);
        entries =
            both_sums _ _ _ _ (λ r. ap (λ (n : ℕ). n * entry_count_of right r) states) a.entries c.are.entries d.are.entries
            ∙ pairs-same L R _ _ _ _ _ _
            (λ q l. ap (λ (n : ℕ). length N.labels * n) (entries-are left q l))
            (λ q r l h. ap₂ (λ (i j : ℕ). i * j) (entries-are left q l) (entries-are right r h))
            (λ r h. ap (λ (n : ℕ). length M.labels * n) (entries-are right r h))
            ∙ sym (composed-entries M N f g);
        long = both_sums _ _ _ _ (λ r. refl) a.long c.are.long d.are.long ∙ sym (composed-long M N f g);
      }

-- the labels are the bytes of a file from its eighth on
pub label-item : (s : List ℕ) (n i : ℕ) → i < n → get_or (take (8 + n - 8) (drop 8 s)) i 0 ≡ byte_at s (8 + i)
unfolding byte_at
label-item s n i l = get_or-take (8 + n - 8) (drop 8 s) i 0 (omega arith) ∙ get_or-drop 8 s i 0

-- the highest label, with one label more
larger-max : (a b : ℕ) → max a b ≡ larger a b
unfolding larger
larger-max a b = go (dec_lt a b)
  where
    go : Dec (a < b) → max a b ≡ if_less a b b a
    go (yes l) = less a l (omega arith)
    go (no n) = not_less b (omega arith) (omega arith)

pub highest-more : (s : List ℕ) (v : ℕ) {most byte r : ℕ} → v < states_of s → most ≡ highest v (automaton_in s).label → byte ≡ byte_at s (8 + v) → r ≡ max most byte → r ≡ highest (v + 1) (automaton_in s).label
unfolding highest
highest-more s v {most} {byte} l e b h =
    h ∙ larger-max most byte ∙ ap₂ larger e (b ∙ sym (automaton-label s v l)) ∙ ap (λ (k : ℕ). highest k (automaton_in s).label) (sym (add-one v))
