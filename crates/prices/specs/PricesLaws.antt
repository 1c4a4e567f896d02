-- Laws of the tables of prices and of the sums over entries.
use Prim.Native.Nat.{ℕ, zero, suc, ◌+◌, ◌*◌, ◌-◌, ◌^◌, ◌≤◌, ◌<◌}
use Rattle.std.specs.Prelude.{◌≡◌, Bool, true, false, not, List, [], ◌∷◌, ◌++◌, length, set, ℤ, negsuc, ◌+ℤ◌, ◌*ℤ◌, nat_abs, T, ltb}
use Rattle.std.proofs.Math.Path.{sym, ap, ap₂}
use Rattle.std.proofs.Common.{◌∙◌, subst, below_more, get_or-set_same, get_or-set_other, ltb→lt, nltb→le, to_z-of_z, arith}
use Rattle.std.proofs.Math.ListN.{get_or-append}
use Rattle.std.proofs.Math.IntN.{pos, +ℤ_assoc, +ℤ_idl, +ℤ_idr}
use Rattle.std.specs.Int.Signed.{mag}
use Rattle.std.specs.Int.{w32, w64}
use mir.Val.{SFits, to_z, of_z, sel}
use Rattle.bisimulation.specs.definitions.Prices.{price_of_targets}
use Rattle.rules.specs.definitions.Limits.{limits}
use Rattle.rules.specs.definitions.Bytes.{signed_at}
use Rattle.rules.specs.definitions.Model.{Entry}
use Rattle.rules.specs.definitions.Reading.{states_of, entries_at}
use Rattle.rules.specs.definitions.SoundModel.{Each, sum_over}
use Rattle.rules.proofs.argument.EntryPrices.{price_of_entries}
use Rattle.field.specs.declared.Price.{Price}
use Rattle.field.specs.Taken.{Priced}
use Rattle.transition_record.specs.declared.Fields.{Fields}
use Rattle.transition.specs.declared.Entry as read
use Rattle.transition.specs.Known.{automaton_in, KnownTransition, FieldsOf, entries_of, EntriesKnown}
use Rattle.transition.specs.KnownLaws.{few-states, entries-known, price-known}
use Rattle.transition.specs.Entries.{EntryTaken}
use Rattle.signed.specs.Terms.{Addable, WithTerm}
use Rattle.signed.specs.TermsLaws.{abs-add, abs-term, mag-abs, term_is, term_fits}
use Rattle.prices.specs.Prices.{HoldsPrices, SmallPrices, price_in, IsPrice, HasPrice, Summable, IsSum}
use Rattle.prices.specs.Adding.{Summing}

-- the first m of a list are prices of X, of four bytes each
pub record Filled (X : ℕ → ℤ) (m : ℕ) (items : List ℤ) : Type 0 where
  pub held : (i : ℕ) → i < m → price_in items i ≡ X i
  pub small : (i : ℕ) → i < m → mag (price_in items i) < 2 ^ 31

-- none at first
pub filled-none : (X : ℕ → ℤ) (items : List ℤ) → Filled X 0 items
filled-none X items = record { held = λ i h. absurd (omega arith); small = λ i h. absurd (omega arith) }

-- one more price
filled-more : {X : ℕ → ℤ} {m : ℕ} {items : List ℤ} (z : ℤ) → Filled X m items → m < length items → z ≡ X m → mag z < 2 ^ 31 → Filled X (m + 1) (set items m z)
filled-more {X} {m} {items} z f room e small =
    record { held = go (λ i y. y ≡ X i) e f.held; small = go (λ i y. mag y < 2 ^ 31) small f.small }
  where
    go : (P : ℕ → ℤ → Type 0) → P m z → ((i : ℕ) → i < m → P i (price_in items i)) → (i : ℕ) → i < m + 1 → P i (price_in (set items m z) i)
    go P here before =
        below_more (λ (i : ℕ). P i (price_in (set items m z) i)) m
        (λ i less. subst (P i) (sym (get_or-set_other items m i z (pos 0) (λ e. omega arith))) (before i less))
        (subst (P m) (sym (get_or-set_same items m z (pos 0) room)) here)

-- a table whose first n places are those
pub filled-holds : {X : ℕ → ℤ} {n : ℕ} {items : List ℤ} (rest : List ℤ) → Filled X n items → length items ≡ n → length (items ++ rest) ≡ limits.states → HoldsPrices n X (items ++ rest)
filled-holds {items = items} rest f size whole =
    record {
      size = whole;
      held = λ i less. get_or-append items rest (pos 0) i (omega arith) ∙ f.held i less;
      small = λ i less. subst (λ (z : ℤ). mag z < 2 ^ 31) (sym (get_or-append items rest (pos 0) i (omega arith))) (f.small i less);
    }

-- and its prices are small
pub prices-small : {n : ℕ} {X : ℕ → ℤ} {table : List ℤ} → HoldsPrices n X table → SmallPrices n table
prices-small h = record { size = h.size; small = h.small }

-- four bytes are a number that fits, whatever they are
four_bytes : (n : ℕ) (b : Bool) → (T b → n < 2 ^ 31) → (T (not b) → 2 ^ 31 ≤ n) → mag (sel b (pos n) (negsuc (2 ^ 32 - suc n))) < 2 ^ 31
four_bytes n true y o = y tt
four_bytes n false y o = omega (arith, o tt)

pub four-fit : (n : ℕ) → SFits w64 (to_z w32 n)
four-fit n = record { sfits = omega (arith, four_bytes n (ltb n (2 ^ 31)) (ltb→lt n (2 ^ 31)) (nltb→le n (2 ^ 31))) }

-- a price that the machine reads back from its bits
pub price-back : (z : ℤ) → mag z < 2 ^ 31 → to_z w64 (of_z w64 z) ≡ z
price-back z h = to_z-of_z {w = w64} (record { sfits = omega arith })

pub price-read : {table : List ℤ} {v : ℕ} {r : ℤ} → IsPrice table v r → mag (price_in table v) < 2 ^ 31 → to_z w64 (of_z w64 r) ≡ price_in table v
price-read p h = ap (λ (z : ℤ). to_z w64 (of_z w64 z)) (p.is h) ∙ price-back _ h

-- and so is a sum
pub sum_back : {es : List Entry} {table : List ℤ} {z : ℤ} → IsSum es table z → to_z w64 (of_z w64 z) ≡ z
sum_back {z = z} h = to_z-of_z {w = w64} (record { sfits = omega (arith, h.small, mag-abs z) })

-- a price that was read from a file, as it goes into a list
module _ {s : List ℕ} {at : ℕ} {p : Price} (read : Priced s at p) where
  pub read_fits : SFits w32 (to_z w64 (of_z w64 p.value))
  read_fits = rw (price-back p.value read.small) (record { sfits = omega (arith, read.small) })

  pub read_filled : {X : ℕ → ℤ} {m : ℕ} {items : List ℤ} → Filled X m items → m < length items → signed_at s at ≡ X m → Filled X (m + 1) (set items m (to_z w32 (of_z w32 (to_z w64 (of_z w64 p.value)))))
  read_filled f room e =
      rw (to_z-of_z read_fits, price-back p.value read.small) (filled-more p.value f room (read.value ∙ e) read.small)

-- d times a price, as the machine multiplies them, fits
module _ {table : List ℤ} {v : ℕ} {price : ℤ} (d : ℕ) (p : IsPrice table v price) (light : d < 65536) (small : mag (price_in table v) < 2 ^ 31) where
  product : Addable (pos 0) d (price_in table v)
  product = record { room = omega arith; small = omega (arith, small) }

  pub product_is : to_z w64 d *ℤ to_z w64 (of_z w64 price) ≡ pos d *ℤ price_in table v
  product_is = rw (price-read p small) (term_is product)

  pub product-fits : SFits w64 (to_z w64 d *ℤ to_z w64 (of_z w64 price))
  product-fits = rw product_is (term_fits product)

-- entries whose states are below n have prices in a table of n prices
have-prices : (n : ℕ) (table : List ℤ) → SmallPrices n table → n ≤ limits.states → (es : List Entry) → Each (λ (e : Entry). e.state < n) es → Each (HasPrice table) es
unfolding Each
have-prices n table h few [] known = tt
have-prices n table h few (e ∷ es) known =
    (record { state = omega (arith, known.0); small = h.small e.state known.0 }, have-prices n table h few es known.1)

-- and a small sum
entries-small : (table : List ℤ) (es : List Entry) → Each (HasPrice table) es → nat_abs (price_of_entries es (price_in table)) ≤ 2 ^ 31 * sum_over (λ (e : Entry). e.weight) es
unfolding Each sum_over price_of_entries
entries-small table [] h = omega arith
entries-small table (e ∷ es) h =
    let term = pos e.weight *ℤ price_in table e.state in
    omega (arith, abs-add term (price_of_entries es (price_in table)), abs-term e.weight (price_in table e.state) (2 ^ 31) h.0.small, entries-small table es h.1)

module _ {s : List ℕ} {table : List ℤ} where
  pub summing_start : {count at place : ℕ} → Summable s count at table → place ≡ at → Summing s table (entries_at s count at) count place (pos 0)
  summing_start {count} {at} h e =
      subst (λ (k : ℕ). Summing s table (entries_at s count at) count k (pos 0)) (sym e)
      (record { whole = h.whole; prices = h.prices; small = omega (arith, h.weights); makes_up = +ℤ_idl _ })

  module _ {all : List Entry} where
    -- a sum that the machine reads back from its bits
    pub summing-back : {left at : ℕ} {sum : ℤ} → Summing s table all left at sum → Summing s table all left at (to_z w64 (of_z w64 sum))
    summing-back {left} {at} {sum} h =
        let fits : SFits w64 sum = record { sfits = omega (arith, mag-abs sum, h.small) } in
        subst (λ (y : ℤ). Summing s table all left at y) (sym (to_z-of_z fits)) h

    -- the first entry left has a price
    pub summing-price : (left : ℕ) {at : ℕ} {sum : ℤ} {r : read.Entry} → Summing s table all left at sum → 0 < left → EntryTaken s at r → HasPrice table (record { state = r.state; weight = r.weight })
    unfolding Each entries_at
    summing-price zero h some t = absurd (omega arith)
    summing-price (suc left) h some t = rw (t.state, t.weight) h.prices.0

    -- and can be added, as the machine reads its price back from its bits
    pub summing-asks : (left : ℕ) {at : ℕ} {sum price : ℤ} {r : read.Entry} → Summing s table all left at sum → 0 < left → EntryTaken s at r → IsPrice table r.state price → Addable sum r.weight (to_z w64 (of_z w64 price))
    summing-asks left h some t p =
        let small = (summing-price left h some t).small in
        record { room = omega (arith, h.small, t.small); small = rw (price-read p small) (omega (arith, small)) }

    one-turn : (left at : ℕ) (sum : ℤ) → Summing s table all (suc left) at sum → (r : read.Entry) → EntryTaken s at r → mag (price_in table r.state) < 2 ^ 31 → (z : ℤ) → WithTerm sum r.weight (price_in table r.state) z → Summing s table all left (at + 3) z
    unfolding Each entries_at sum_over price_of_entries
    one-turn left at sum h r t light z w =
        record {
          whole = omega (arith, h.whole);
          prices = h.prices.1;
          small = omega (arith, h.small, w.small (2 ^ 31) light, t.weight);
          makes_up =
              ap (λ (y : ℤ). y +ℤ price_of_entries (entries_at s left (at + 3)) (price_in table))
              (w.value ∙ ap₂ (λ (k v : ℕ). sum +ℤ pos k *ℤ price_in table v) t.weight t.state)
              ∙ +ℤ_assoc sum _ _
              ∙ h.makes_up;
        }

    -- the next sum, which the machine reads back from its bits too
    pub summing-turn : (left : ℕ) {at : ℕ} {sum z price : ℤ} {r : read.Entry} → Summing s table all left at sum → 0 < left → EntryTaken s at r → IsPrice table r.state price → WithTerm sum r.weight (to_z w64 (of_z w64 price)) z → Summing s table all (left - 1) r.next.at (to_z w64 (of_z w64 z))
    summing-turn zero h some t p w = absurd (omega arith)
    summing-turn (suc left) {at} {sum} {z} {r = r} h some t p w =
        let one : left ≡ suc left - 1 = omega arith in
        let light = (summing-price _ h some t).small in
        let turned = one-turn left at sum h r t light z (subst (λ (y : ℤ). WithTerm sum r.weight y z) (price-read p light) w) in
        subst (λ (k : ℕ). Summing s table all k r.next.at (to_z w64 (of_z w64 z))) one
        (subst (λ (k : ℕ). Summing s table all left k (to_z w64 (of_z w64 z))) (sym t.next) (summing-back turned))

    pub summing-end : (left : ℕ) {at : ℕ} {sum : ℤ} → Summing s table all left at sum → left ≤ 0 → IsSum all table sum
    unfolding entries_at price_of_entries
    summing-end zero {sum = sum} h none = record { value = sym (+ℤ_idr sum) ∙ h.makes_up; small = omega (arith, h.small) }
    summing-end (suc left) h none = absurd (omega arith)

-- the sum over the targets of a known transition is small
pub targets-small : {s places : List ℕ} {r : ℕ} {table : List ℤ} → KnownTransition s places r → SmallPrices (states_of s) table → nat_abs (price_of_targets (automaton_in s) (price_in table) r) ≤ 2 ^ 31 * 65535
targets-small {s} {r = r} {table = table} k h =
    let known = entries-known k in
    let small = entries-small table (entries_of s r) (have-prices (states_of s) table h (few-states k.known) _ known.states) in
    omega (arith, ap nat_abs (price-known k (price_in table)), small, known.whole, known.light)

-- the entries of a known transition can be summed, and the sum is that over its targets
module _ {s places : List ℕ} {r : ℕ} (k : KnownTransition s places r) {f : Fields} (fields : FieldsOf s r f) {table : List ℤ} where
  pub summable : SmallPrices (states_of s) table → Summable s f.count f.entries.at table
  summable h =
      rw (fields.count, fields.entries)
      (record {
        whole = known.inside;
        prices = have-prices (states_of s) table h (few-states k.known) _ known.states;
        weights = omega (arith, known.whole, known.light);
      })
    where
      known : EntriesKnown s r
      known = entries-known k

  pub sum_is : {z : ℤ} → IsSum (entries_at s f.count f.entries.at) table z → z ≡ price_of_targets (automaton_in s) (price_in table) r
  sum_is h =
      h.value
      ∙ ap₂ (λ (c at : ℕ). price_of_entries (entries_at s c at) (price_in table)) fields.count fields.entries
      ∙ sym (price-known k (price_in table))
