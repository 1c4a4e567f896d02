-- Laws of the highest price among related states.
use Rattle.std.specs.Prelude.{ℕ, ◌+◌, ◌-◌, ◌^◌, ◌≤◌, ◌<◌, ◌≡◌, ◌⊎◌, Bool, not, Option, None, Some, List, ℤ, pos, negsuc, ◌≤ℤ◌, ◌<ℤ◌}
use Rattle.std.proofs.Math.Path.{refl, sym, ap}
use Rattle.std.proofs.Common.{◌∙◌, subst, inl, inr, le→leb, below_more, arith}
use Rattle.std.proofs.Math.Bool.{true, false}
use Rattle.std.specs.Int.Signed.{mag, le_z, lt_z, le_z_yes, lt_z_yes, lt_z_no, clash_ℤ}
use mir.Syntax.{w64}
use mir.Val.{to_z, of_z}
use Rattle.std.proofs.Math.Decide.{ℕ_discrete, dec_lt}
use Rattle.bisimulation.specs.definitions.Choice.{if_true}
use Rattle.bisimulation.proofs.argument.ChoiceLaws.{is_true, all-below, below_all, false-not}
use Rattle.bisimulation.specs.definitions.Automaton.{Automaton}
use Rattle.bisimulation.specs.definitions.Pairs.{Pairs}
use Rattle.rules.specs.definitions.Limits.{limits}
use Rattle.rules.specs.definitions.PlainRule.{all_related}
use Rattle.rules.proofs.argument.PlainDecides.{holds-T, T-holds}
use Rattle.word.specs.Bits.{word_bits, bit_of, clear_bit, AreSame, IsNextBelow}
use Rattle.word.specs.BitsLaws.{bit_of-put, bit_of-other}
use Rattle.pairs.specs.Rows.{row_bits, row_bit, IsPart, HoldsPairs}
use Rattle.prices.specs.Prices.{price_in, IsPrice, SmallPrices}
use Rattle.prices.specs.PricesLaws.{price-back, price-read}
use Rattle.signed.specs.Larger.{IsLarger}
use Rattle.signed.specs.LargerLaws.{≤ℤ-trans}
use Rattle.related_prices.specs.Highest.{Inside, Bounds, HighestBelow, IsHighest, IsKnown, AboveAll, AreRelated}

-- what is known before each related state of a word of a row: the bits left are those from m on, u is the first of them, and the highest price
-- below m
pub record Seeking (rows : List ℕ) (v from rest u : ℕ) (table : List ℤ) (most : ℤ) : Type 0 where
  pub m : ℕ
  pub near : m ≤ word_bits
  pub later : (i : ℕ) → m ≤ i → i < word_bits → bit_of rest i ≡ row_bit rows v (from + i)
  pub gone : (i : ℕ) → i < m → bit_of rest i ≡ false
  pub next : IsNextBelow word_bits (bit_of rest) 0 u
  pub highest : HighestBelow rows v (from + m) table most

-- the price that is below every other
lowest : (x : ℤ) → mag x < 2 ^ 31 → negsuc (2 ^ 31 - 1) ≤ℤ x
lowest (pos a) h = le_z_yes tt
lowest (negsuc a) h = le_z_yes (le→leb a (2 ^ 31 - 1) (omega arith))

-- the larger of two numbers of four bytes is one
larger-small : {a b z : ℤ} → IsLarger a b z → mag a < 2 ^ 31 → mag b < 2 ^ 31 → mag z < 2 ^ 31
larger-small {a} {b} {z} l first second = go l.one
  where
    go : (z ≡ a) ⊎ (z ≡ b) → mag z < 2 ^ 31
    go (inl e) = subst (λ (y : ℤ). mag y < 2 ^ 31) (sym e) first
    go (inr e) = subst (λ (y : ℤ). mag y < 2 ^ 31) (sym e) second

module _ {rows : List ℕ} {v : ℕ} {table : List ℤ} where
  pub highest-none : HighestBelow rows v 0 table (negsuc (2 ^ 31 - 1))
  highest-none =
      record {
        bounds = λ n prices inside.
            record { above = λ u less e. absurd (omega arith); least = λ x fits all. lowest x fits; small = omega arith };
      }

  pub highest-back : {m : ℕ} {z : ℤ} → HighestBelow rows v m table z → HighestBelow rows v m table (to_z w64 (of_z w64 z))
  highest-back {m} {z} h =
      record { bounds = λ n small inside. let b = h.bounds n small inside in subst (Bounds rows v m table) (sym (price-back z b.small)) b }

  -- states that are not related change nothing
  highest-past : {m next : ℕ} {most : ℤ} → HighestBelow rows v m table most → ((i : ℕ) → m ≤ i → i < next → row_bit rows v i ≡ false) → HighestBelow rows v next table most
  highest-past {m} {next} {most} h none =
      record {
        bounds = λ n prices inside.
            let b = h.bounds n prices inside in
            record { above = λ i less e. go b i less e (dec_lt i m); least = b.least; small = b.small };
      }
    where
      go : Bounds rows v m table most → (i : ℕ) → i < next → row_bit rows v i ≡ true → Dec (i < m) → price_in table i ≤ℤ most
      go b i less e (yes q) = b.above i q e
      go b i less e (no q) = absurd (false-not (sym (none i (omega arith) less) ∙ e))

  -- one more related state, whose price the machine reads back from its bits
  highest-more : {u : ℕ} {most price z : ℤ} → HighestBelow rows v u table most → row_bit rows v u ≡ true → IsPrice table u price → IsLarger most (to_z w64 (of_z w64 price)) z → HighestBelow rows v (u + 1) table z
  highest-more {u} {most} {price} {z} h here p l = record { bounds = bounds }
    where
      bounds : (n : ℕ) → SmallPrices n table → Inside n rows v → Bounds rows v (u + 1) table z
      bounds n prices inside =
          record {
            above = λ i below e. from i below e (ℕ_discrete i u);
            least = λ x fits all. least x fits all l.one;
            small = larger-small l before.small (subst (λ (y : ℤ). mag y < 2 ^ 31) (sym back) fits-here);
          }
        where
          before : Bounds rows v u table most
          before = h.bounds n prices inside

          fits-here : mag (price_in table u) < 2 ^ 31
          fits-here = prices.small u (inside.inside u here)

          back : to_z w64 (of_z w64 price) ≡ price_in table u
          back = price-read p fits-here

          from : (i : ℕ) → i < u + 1 → row_bit rows v i ≡ true → Dec (i ≡ u) → price_in table i ≤ℤ z
          from i below e (yes q) = subst (λ (y : ℤ). y ≤ℤ z) (back ∙ ap (price_in table) (sym q)) l.second
          from i below e (no q) = ≤ℤ-trans (before.above i (omega arith) e) l.first

          least : (x : ℤ) → mag x < 2 ^ 31 → ((i : ℕ) → row_bit rows v i ≡ true → price_in table i ≤ℤ x) → (z ≡ most) ⊎ (z ≡ to_z w64 (of_z w64 price)) → z ≤ℤ x
          least x fits all (inl e) = subst (λ (y : ℤ). y ≤ℤ x) (sym e) (before.least x fits all)
          least x fits all (inr e) = subst (λ (y : ℤ). y ≤ℤ x) (sym (e ∙ back)) (all u here)

  -- a word of the row, bit by bit
  module _ {from : ℕ} where
    pub seek-start : {word u : ℕ} {known : ℤ} → IsPart rows v from word → IsNextBelow word_bits (bit_of word) 0 u → HighestBelow rows v from table known → Seeking rows v from word u table known
    seek-start {known = known} part next h =
        let start : from ≡ from + 0 = omega arith in
        record {
          m = 0;
          near = omega arith;
          later = λ i above less. part.bits i less;
          gone = λ i less. absurd (omega arith);
          next = next;
          highest = subst (λ (j : ℕ). HighestBelow rows v j table known) start h;
        }

    -- no state between is related
    between : {rest u : ℕ} {most : ℤ} (s : Seeking rows v from rest u table most) (stop : ℕ) → stop ≤ u → stop ≤ word_bits → (i : ℕ) → from + s.m ≤ i → i < from + stop → row_bit rows v i ≡ false
    between s stop before near i above less =
        let place : from + (i - from) ≡ i = omega arith in
        ap (row_bit rows v) (sym place) ∙ sym (s.later (i - from) (omega arith) (omega arith)) ∙ s.next.none (i - from) (omega arith) (omega arith)

    module _ {rest u later : ℕ} {most : ℤ} (s : Seeking rows v from rest u table most) (less : u < word_bits) (e : later ≡ clear_bit rest u) where
      cleared : (i : ℕ) → i < u + 1 → bit_of later i ≡ false
      cleared i below = ap (λ (x : ℕ). bit_of x i) e ∙ go (ℕ_discrete i u)
        where
          go : Dec (i ≡ u) → bit_of (clear_bit rest u) i ≡ false
          go (yes q) = rw q (bit_of-put 0 rest u (omega arith))
          go (no q) = bit_of-other 0 rest u i (omega arith) q ∙ s.next.none i (omega arith) (omega arith)

      -- the next one comes later
      pub seek-further : {next : ℕ} → IsNextBelow word_bits (bit_of later) 0 next → u < next
      seek-further {next} n = go (dec_lt u next)
        where
          go : Dec (u < next) → u < next
          go (yes q) = q
          go (no q) = absurd (false-not (sym (cleared next (omega arith)) ∙ n.some (omega arith)))

      pub seek-turn : {next : ℕ} {price z : ℤ} → IsPrice table (from + u) price → IsLarger most (to_z w64 (of_z w64 price)) z → IsNextBelow word_bits (bit_of later) 0 next → Seeking rows v from later next table (to_z w64 (of_z w64 z))
      seek-turn {z = z} p l n =
          let one : from + u + 1 ≡ from + (u + 1) = omega arith in
          record {
            m = u + 1;
            near = omega arith;
            later = λ i above below. ap (λ (x : ℕ). bit_of x i) e ∙ bit_of-other 0 rest u i (omega arith) (λ q. omega arith) ∙ s.later i (omega (arith, reached)) below;
            gone = cleared;
            next = n;
            highest = highest-back (subst (λ (j : ℕ). HighestBelow rows v j table z) one (highest-more (highest-past s.highest (between s u (omega arith) (omega arith))) here p l));
          }
        where
          reached : s.m ≤ u
          reached = go (dec_lt u s.m)
            where
              go : Dec (u < s.m) → s.m ≤ u
              go (yes q) = absurd (false-not (sym (s.gone u q) ∙ s.next.some less))
              go (no q) = omega arith

          here : row_bit rows v (from + u) ≡ true
          here = sym (s.later u reached less) ∙ s.next.some less

    pub seek-end : {rest u : ℕ} {most : ℤ} → Seeking rows v from rest u table most → word_bits ≤ u → HighestBelow rows v (from + word_bits) table most
    seek-end s past = highest-past s.highest (between s word_bits past (omega arith))

  -- states with equal rows have it in common
  pub highest-alike : {known : ℕ} {answer : Bool} {z : ℤ} → AreSame row_bits (row_bit rows v) (row_bit rows known) answer → answer ≡ true → IsHighest rows known table z → IsHighest rows v table z
  highest-alike {known} a holds h =
      record {
        bounds = λ n prices inside.
            let alike = a.alike holds in
            let b = h.bounds n prices (record { few = inside.few; inside = λ u e. inside.inside u (alike u ∙ e) }) in
            record {
              above = λ u less e. b.above u less (sym (alike u) ∙ e);
              least = λ x fits all. b.least x fits (λ u e. all u (alike u ∙ e));
              small = b.small;
            };
      }

-- a bound of the prices of all states
module _ {table : List ℤ} where
  pub all_none : AboveAll 0 table (negsuc (2 ^ 31 - 1))
  all_none = record { above = λ u less. absurd (omega arith); small = omega arith }

  pub all_back : {n : ℕ} {z : ℤ} → AboveAll n table z → AboveAll n table (to_z w64 (of_z w64 z))
  all_back {n} {z} h = subst (AboveAll n table) (sym (price-back z h.small)) h

  -- one more state, whose price the machine reads back from its bits
  pub all_more : {u : ℕ} {most price z : ℤ} → AboveAll u table most → mag (price_in table u) < 2 ^ 31 → IsPrice table u price → IsLarger most (to_z w64 (of_z w64 price)) z → AboveAll (u + 1) table (to_z w64 (of_z w64 z))
  all_more {u} {most} {price} {z} h fits p l =
      all_back (record {
        above = below_more (λ (i : ℕ). price_in table i ≤ℤ z) u (λ i less. ≤ℤ-trans (h.above i less) l.first) (subst (λ (y : ℤ). y ≤ℤ z) back l.second);
        small = larger-small l h.small (subst (λ (y : ℤ). mag y < 2 ^ 31) (sym back) fits);
      })
    where
      back : to_z w64 (of_z w64 price) ≡ price_in table u
      back = price-read p fits

-- the price of v in x is at least the price in g of each state that is related to v
pub record Covered (n : ℕ) (rows : List ℕ) (x g : List ℤ) (v : ℕ) : Type 0 where
  pub covers : Inside n rows v → (u : ℕ) → row_bit rows v u ≡ true → price_in g u ≤ℤ price_in x v

-- what is known before each state: those before it are covered, and the highest price of one of them, if it was asked for
pub record Covering (n : ℕ) (rows : List ℕ) (x g : List ℤ) (v : ℕ) (known : Option (ℕ × ℤ)) : Type 0 where
  pub before : IsKnown rows g v known
  pub covered : (w : ℕ) → w < v → Covered n rows x g w

-- what is known before v is known before the next state
known-later : (rows : List ℕ) (g : List ℤ) (v : ℕ) (known : Option (ℕ × ℤ)) → IsKnown rows g v known → IsKnown rows g (v + 1) known
known-later rows g v None h = tt
known-later rows g v (Some known) h = (omega (arith, h.0), h.1)

-- the rows hold no pair beyond the first n states
held-inside : {n : ℕ} {R : Pairs} {rows : List ℕ} → HoldsPairs n R rows → n ≤ limits.states → (v : ℕ) → v < n → Inside n rows v
held-inside {n} {rows = rows} h few v less = record { few = few; inside = λ u e. go u e (dec_lt u n) }
  where
    go : (u : ℕ) → row_bit rows v u ≡ true → Dec (u < n) → u < n
    go u e (yes l) = l
    go u e (no o) = absurd (false-not (sym (h.rest v u less (omega arith)) ∙ e))

-- the machine reads the price of one of the first n states back from its bits
price-here : {n v : ℕ} {x : List ℤ} {price : ℤ} → SmallPrices n x → v < n → IsPrice x v price → to_z w64 (of_z w64 price) ≡ price_in x v
price-here {v = v} first less p = price-read p (first.small v less)

module _ {rows : List ℕ} {x g : List ℤ} where
  pub cover-start : {n : ℕ} → Covering n rows x g 0 None
  cover-start = record { before = tt; covered = λ w less. absurd (omega arith) }

  module _ {n v : ℕ} {price : ℤ} (first : SmallPrices n x) (few : n ≤ limits.states) (less : v < n) (p : IsPrice x v price) where
    -- a price that is at least the highest of all covers every row
    pub cover-past : (known : Option (ℕ × ℤ)) {top : ℤ} → Covering n rows x g v known → AboveAll n g top → le_z (to_z w64 (of_z w64 top)) (to_z w64 (of_z w64 price)) ≡ true → Covering n rows x g (v + 1) known
    cover-past known {top = top} c a e =
        record {
          before = known-later rows g v known c.before;
          covered = below_more (Covered n rows x g) v c.covered (record {
            covers = λ inside u related.
                ≤ℤ-trans ((all_back a).above u (inside.inside u related))
                (subst (λ (y : ℤ). to_z w64 (of_z w64 top) ≤ℤ y) (price-here first less p) (le_z_yes (holds-T e)));
          });
        }

    pub cover-turn : {known : Option (ℕ × ℤ)} {z : ℤ} → IsHighest rows v g z → SmallPrices n g → Covering n rows x g v known → lt_z (to_z w64 (of_z w64 price)) (to_z w64 (of_z w64 z)) ≡ false → Covering n rows x g (v + 1) (Some (v, to_z w64 (of_z w64 z)))
    cover-turn {z = z} h second c e =
        record {
          before = (omega arith, highest-back h);
          covered = below_more (Covered n rows x g) v c.covered (record {
            covers = λ inside u related.
                ≤ℤ-trans (((highest-back h).bounds n second inside).above u (omega (arith, inside.few, inside.inside u related)) related)
                (subst (λ (y : ℤ). to_z w64 (of_z w64 z) ≤ℤ y) (price-here first less p) (lt_z_no (holds-T (ap not e))));
          });
        }

    pub cover-not : {z : ℤ} → IsHighest rows v g z → SmallPrices n g → lt_z (to_z w64 (of_z w64 price)) (to_z w64 (of_z w64 z)) ≡ true → AreRelated n rows x g false
    unfolding all_related
    cover-not {z} h second e = record { tells = λ A R states held. go A R states held (all_related A R (price_in x) (price_in g)) refl }
      where
        go : (A : Automaton) (R : Pairs) → A.states ≡ n → HoldsPairs n R rows → (t : Bool) → all_related A R (price_in x) (price_in g) ≡ t → false ≡ t
        go A R states held false q = refl
        go A R states held true q =
            clash_ℤ {a = price_in x v} (subst (λ (y : ℤ). y <ℤ to_z w64 (of_z w64 z)) (price-here first less p) (lt_z_yes (holds-T e)))
            (((highest-back h).bounds n second (held-inside held few v less)).least (price_in x v) (first.small v less)
            (λ u related.
            let below : u < n = (held-inside held few v less).inside u related in
            le_z_yes (holds-T (is_true true (sym (held.bits v u less below) ∙ related) refl ∙ all-below A.states _ (all-below A.states _ q v (omega arith)) u (omega arith)))))

  pub cover-end : {n : ℕ} → n ≤ limits.states → ((w : ℕ) → w < n → Covered n rows x g w) → AreRelated n rows x g true
  unfolding all_related
  cover-end {n} few all =
      record {
        tells = λ A R states held. sym (below_all A.states _ (λ v less. below_all A.states _ (λ u below.
            go R held v u (omega arith) (omega arith) (R v u) refl)));
      }
    where
      go : (R : Pairs) → HoldsPairs n R rows → (v u : ℕ) → v < n → u < n → (t : Bool) → R v u ≡ t → if_true (R v u) (le_z (price_in g u) (price_in x v)) true ≡ true
      go R held v u less below true e =
          sym (is_true true e (sym (T-holds _ ((all v less).covers (held-inside held few v less) u (held.bits v u less below ∙ e)).le)))
      go R held v u less below false e = ap (λ (t : Bool). if_true t (le_z (price_in g u) (price_in x v)) true) e ∙ not-asked
        where
          not-asked : if_true false (le_z (price_in g u) (price_in x v)) true ≡ true
          not-asked = unfold if_true in refl
