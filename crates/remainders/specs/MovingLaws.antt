-- Laws of terms added to the remainders, and of a transition's weights that arrive there.
use Prim.Native.Nat.{ℕ, suc, ◌+◌, ◌*◌, ◌^◌, ◌≤◌, ◌<◌}
use Rattle.std.specs.Prelude.{◌≡◌, refl, length, set, ℤ, pos, ◌+ℤ◌, ◌*ℤ◌}
use Rattle.std.proofs.Common.{sym, ◌∙◌, length-set, get_or-set_same, get_or-set_other, SFits, arith}
use Rattle.std.proofs.Math.Path.{ap, ap₂, subst}
use mathlib.Core.List.{List, [], ◌∷◌}
use Rattle.std.proofs.Math.IntN.{nat_abs}
use Rattle.std.specs.Int.Signed.{mag}
use Rattle.std.specs.Int.{w64}
use Rattle.std.proofs.Math.Decide.{ℕ_discrete}
use Rattle.bisimulation.specs.definitions.Choice.{if_same}
use Rattle.bisimulation.proofs.argument.ChoiceLaws.{same, not_same}
use Rattle.bisimulation.proofs.argument.Raised.{Raised}
use Rattle.bisimulation.proofs.argument.RaisedLaws.{raised_add, raised_times}
use Rattle.rules.specs.definitions.Limits.{limits}
use Rattle.rules.specs.definitions.Model.{Entry, weight_of}
use Rattle.limits.specs.Sizes as sizes
use Rattle.rules.specs.definitions.Reading.{states_of, entries_at}
use Rattle.rules.specs.definitions.SoundModel.{Each, sum_over}
use Rattle.rules.proofs.argument.SoundModelLaws.{From, StatesFrom, no-weight}
use Rattle.transition_record.specs.declared.Fields.{Fields}
use Rattle.transition.specs.Known.{automaton_in, FieldsOf, entries_of}
use Rattle.transition.specs.KnownLaws.{few-states, entries-known}
use Rattle.signed.specs.Terms.{WithTerm}
use Rattle.signed.specs.TermsLaws.{abs-add, abs-term, mag-abs}
use Rattle.remainders.specs.Remainders.{remainder_at, AllZero}
use Rattle.remainders.specs.Nonzero.{is_nonzero, CanChange, Counted, Became}
use Rattle.remainders.specs.NonzeroLaws.{can-change, changed}
use Rattle.remainders.specs.Moving.{change, most_changes, added, arrived, departed, Room, CanAdd, CanMove}

-- the machine's remainder, its next value, and the table with it
module _ {remainders : List ℤ} {i weight : ℕ} {factor : ℤ} {nonzero : ℕ} (a : CanAdd remainders i weight factor nonzero) where
  pub remainder-fits : SFits w64 (remainder_at remainders i)
  remainder-fits = record { sfits = omega (arith, a.fits.room, mag-abs (remainder_at remainders i)) }

  pub remainder-changes : CanChange nonzero (remainder_at remainders i)
  remainder-changes = can-change a.table a.inside

  module _ {z : ℤ} (w : WithTerm (remainder_at remainders i) weight factor z) where
    pub next_fits : SFits w64 z
    next_fits = record { sfits = omega (arith, a.fits.room, mag-abs z, w.small (2 ^ 32) a.fits.small) }

    pub add_done : {now : ℕ} → now + is_nonzero (remainder_at remainders i) ≡ nonzero + is_nonzero z → Became (added remainders i weight factor) (set remainders i z) now
    unfolding added
    add_done {now} e =
        subst (λ (y : ℤ). Became (set remainders i y) (set remainders i z) now) w.value (changed a.table i z a.inside e)

-- a table with one more term keeps its size, and changes at one remainder
pub added-length : (remainders : List ℤ) (j weight : ℕ) (factor : ℤ) → length (added remainders j weight factor) ≡ length remainders
unfolding added
added-length remainders j weight factor = length-set remainders j (remainder_at remainders j +ℤ pos weight *ℤ factor)

added-at : (P : ℤ → Type 0) (remainders : List ℤ) (j weight : ℕ) (factor : ℤ) (i : ℕ) → i < length remainders → (j ≡ i → P (remainder_at remainders i +ℤ pos weight *ℤ factor)) → ((j ≡ i → ⊥) → P (remainder_at remainders i)) → P (remainder_at (added remainders j weight factor) i)
unfolding added
added-at P remainders j weight factor i h here other = go (ℕ_discrete j i)
  where
    new : ℕ → ℤ
    new k = remainder_at remainders k +ℤ pos weight *ℤ factor

    go : Dec (j ≡ i) → P (remainder_at (set remainders j (new j)) i)
    go (yes q) = subst (λ (k : ℕ). P (remainder_at (set remainders k (new k)) i)) (sym q) (subst P (sym (get_or-set_same remainders i (new i) (pos 0) h)) (here q))
    go (no q) = subst P (sym (get_or-set_other remainders j i (new j) (pos 0) (λ e. q (sym e)))) (other q)

added-small : (remainders : List ℤ) (j weight : ℕ) (factor : ℤ) (i : ℕ) → i < length remainders → mag factor < 2 ^ 32 → nat_abs (remainder_at (added remainders j weight factor) i) ≤ nat_abs (remainder_at remainders i) + weight * 2 ^ 32
added-small remainders j weight factor i h small =
    added-at (λ (z : ℤ). nat_abs z ≤ nat_abs (remainder_at remainders i) + weight * 2 ^ 32) remainders j weight factor i h
    (λ q. omega (arith, abs-add (remainder_at remainders i) (pos weight *ℤ factor), abs-term weight factor (2 ^ 32) small))
    (λ q. omega arith)

-- one term more, of a remainder and a factor that are differences
pub added-raised : {R L up down : ℕ} {factor : ℤ} (remainders : List ℤ) (j weight i : ℕ) → i < length remainders → Raised down up factor → Raised R L (remainder_at remainders i) → Raised (R + if_same j i weight 0 * down) (L + if_same j i weight 0 * up) (remainder_at (added remainders j weight factor) i)
added-raised {R} {L} {up} {down} {factor} remainders j weight i h f c =
    added-at (Raised (R + if_same j i weight 0 * down) (L + if_same j i weight 0 * up)) remainders j weight factor i h
    (λ q. subst (λ (w : ℕ). Raised (R + w * down) (L + w * up) (remainder_at remainders i +ℤ pos weight *ℤ factor)) (same 0 q refl) (raised_add c (raised_times weight f)))
    (λ q. subst (λ (w : ℕ). Raised (R + w * down) (L + w * up) (remainder_at remainders i)) (not_same weight q refl) (subst (λ (k : ℕ). Raised k (L + 0 * up) (remainder_at remainders i)) (none R down) (subst (λ (k : ℕ). Raised R k (remainder_at remainders i)) (none L up) c)))
  where
    none : (a b : ℕ) → a ≡ a + 0 * b
    none a b = omega arith

-- what entries bring to a remainder
unfoldable pub landed : List Entry → (first i : ℕ) → ℕ
landed [] first i = 0
landed (e ∷ es) first i = if_same (first + e.state) i e.weight 0 + landed es first i

pub arrived-length : (es : List Entry) (factor : ℤ) (first : ℕ) (remainders : List ℤ) → length (arrived es factor first remainders) ≡ length remainders
unfolding arrived
arrived-length [] factor first remainders = refl
arrived-length (e ∷ es) factor first remainders =
    arrived-length es factor first (added remainders (first + e.state) e.weight factor) ∙ added-length remainders (first + e.state) e.weight factor

pub arrived-raised : {up down : ℕ} {factor : ℤ} (es : List Entry) (first i : ℕ) (R L : ℕ) (remainders : List ℤ) → i < length remainders → Raised down up factor → Raised R L (remainder_at remainders i) → Raised (R + landed es first i * down) (L + landed es first i * up) (remainder_at (arrived es factor first remainders) i)
unfolding arrived landed
arrived-raised {up} {down} {factor} [] first i R L remainders h f c =
    let a : R ≡ R + 0 * down = omega arith in
    let b : L ≡ L + 0 * up = omega arith in
    subst (λ (k : ℕ). Raised k (L + 0 * up) (remainder_at remainders i)) a (subst (λ (k : ℕ). Raised R k (remainder_at remainders i)) b c)
arrived-raised {up} {down} {factor} (e ∷ es) first i R L remainders h f c =
    let w : ℕ = if_same (first + e.state) i e.weight 0 in
    let rest : ℕ = landed es first i in
    let next = added remainders (first + e.state) e.weight factor in
    let a : R + w * down + rest * down ≡ R + (w + rest) * down = omega arith in
    let b : L + w * up + rest * up ≡ L + (w + rest) * up = omega arith in
    subst (λ (k : ℕ). Raised k (L + (w + rest) * up) (remainder_at (arrived es factor first next) i)) a
    (subst (λ (k : ℕ). Raised (R + w * down + rest * down) k (remainder_at (arrived es factor first next) i)) b
    (arrived-raised es first i (R + w * down) (L + w * up) next (omega (arith, added-length remainders (first + e.state) e.weight factor)) f
    (added-raised remainders (first + e.state) e.weight i h f c)))

-- at the remainder of a state it is the state's weight, and elsewhere nothing
pub landed-weight : (es : List Entry) (lowest first v : ℕ) → StatesFrom lowest es → landed es first (first + v) ≡ weight_of es v
unfolding landed weight_of From
landed-weight [] lowest first v h = refl
landed-weight (e ∷ es) lowest first v h = go (landed-weight es (suc e.state) first v h.1) (ℕ_discrete e.state v)
  where
    go : landed es first (first + v) ≡ weight_of es v → Dec (e.state ≡ v) → if_same (first + e.state) (first + v) e.weight 0 + landed es first (first + v) ≡ if_same e.state v e.weight (weight_of es v)
    go ih (yes q) =
        let here : e.weight ≡ if_same (first + e.state) (first + v) e.weight 0 = same 0 (omega arith) refl in
        let whole : e.weight ≡ if_same e.state v e.weight (weight_of es v) = same _ q refl in
        let rest = no-weight es (suc e.state) v h.1 (omega arith) in
        omega arith
    go ih (no q) =
        let here : 0 ≡ if_same (first + e.state) (first + v) e.weight 0 = not_same _ (λ r. q (omega arith)) refl in
        let whole : weight_of es v ≡ if_same e.state v e.weight (weight_of es v) = not_same _ q refl in
        omega arith

pub landed_none : (n : ℕ) (es : List Entry) (first i : ℕ) → Each (λ (e : Entry). e.state < n) es → ((v : ℕ) → v < n → first + v ≡ i → ⊥) → landed es first i ≡ 0
unfolding landed Each
landed_none n [] first i known o = refl
landed_none n (e ∷ es) first i known o =
    let here : 0 ≡ if_same (first + e.state) i e.weight 0 = not_same e.weight (o e.state known.0) refl in
    omega (arith, landed_none n es first i known.1 o)

-- how large the remainders are at most then
pub arrived-small : (es : List Entry) (factor : ℤ) (first : ℕ) (remainders : List ℤ) (i : ℕ) → i < length remainders → mag factor < 2 ^ 32 → nat_abs (remainder_at (arrived es factor first remainders) i) ≤ nat_abs (remainder_at remainders i) + sum_over (λ (e : Entry). e.weight) es * 2 ^ 32
unfolding arrived sum_over
arrived-small [] factor first remainders i h small = omega arith
arrived-small (e ∷ es) factor first remainders i h small =
    let next = added remainders (first + e.state) e.weight factor in
    omega (
      arith,
      added-small remainders (first + e.state) e.weight factor i h small,
      arrived-small es factor first next i (omega (arith, added-length remainders (first + e.state) e.weight factor)) small,
    )

-- remainders that are zero have room, and each change takes one from it
pub room-zero : {remainders : List ℤ} {changes : ℕ} → AllZero remainders → changes ≤ most_changes → Room remainders changes
room-zero {remainders} {changes} z few =
    record { small = λ i h. subst (λ (y : ℤ). nat_abs y + changes * change ≤ most_changes * change) (sym (z.zero i h)) (omega arith) }

pub room-fewer : {remainders : List ℤ} {many few : ℕ} → few ≤ many → Room remainders many → Room remainders few
room-fewer {remainders} {many} {few} h room = record { small = λ i less. omega (arith, room.small i less) }

pub added-room : {remainders : List ℤ} {changes : ℕ} (j weight : ℕ) (factor : ℤ) → length remainders ≡ sizes.remainders → weight < 65536 → mag factor < 2 ^ 32 → Room remainders (suc changes) → Room (added remainders j weight factor) changes
added-room {remainders} {changes} j weight factor size light small room =
    record { small = λ i h. omega (arith, room.small i h, light, added-small remainders j weight factor i (omega (arith, size)) small) }

module _ {s places : List ℕ} {r : ℕ} {factor : ℤ} {first : ℕ} {remainders : List ℤ} {nonzero : ℕ} (m : CanMove s places r factor first remainders nonzero) where
  pub arrived-room : {changes : ℕ} → Room remainders (suc changes) → Room (arrived (entries_of s r) factor first remainders) changes
  arrived-room {changes} room =
      let k = entries-known m.known in
      record {
        small = λ i h. omega (arith, room.small i h, arrived-small (entries_of s r) factor first remainders i (omega (arith, m.table.size)) m.small, k.whole, k.light);
      }

  pub departed-room : {changes : ℕ} → Room remainders (suc changes) → Room (departed (automaton_in s) r factor first remainders) changes
  unfolding departed
  departed-room room = added-room _ _ factor m.table.size (omega (arith, (entries-known m.known).light)) m.small room

  pub leave-asks : {f : Fields} {i d : ℕ} → FieldsOf s r f → i ≡ first + f.source → d ≡ f.denominator → CanAdd remainders i d factor nonzero
  leave-asks {i = i} t place share =
      let inside : i < sizes.remainders = omega (arith, place, m.layer, t.from, few-states m.known.known) in
      record {
        table = m.table;
        inside = inside;
        fits = record { room = omega (arith, m.room.small i inside, share, t.small); small = m.small };
      }

  pub leave-done : {f : Fields} {i d : ℕ} {after : List ℤ} {now : ℕ} → FieldsOf s r f → Became (added remainders i d factor) after now → i ≡ first + f.source → d ≡ f.denominator → Became (departed (automaton_in s) r factor first remainders) after now
  unfolding departed
  leave-done {i = i} {after = after} {now = now} t b place share =
      subst (λ (x : ℕ). Became (added remainders x ((automaton_in s).denominator r) factor) after now) (place ∙ ap (λ (x : ℕ). first + x) t.source)
      (subst (λ (d : ℕ). Became (added remainders i d factor) after now) (share ∙ t.denominator) b)

-- what is known before each entry of a transition: the entries left still make of the remainders what all made
pub record Arriving (all : List Entry) (factor : ℤ) (first : ℕ) (before remainders : List ℤ) (es : List Entry) (nonzero : ℕ) : Type 0 where
  pub states : Each (λ (e : Entry). e.state < limits.states) es
  pub room : (i : ℕ) → i < sizes.remainders → nat_abs (remainder_at remainders i) + sum_over (λ (e : Entry). e.weight) es * 2 ^ 32 < 2 ^ 63
  pub small : mag factor < 2 ^ 32
  pub layer : first ≤ limits.states
  pub table : Counted remainders nonzero
  pub makes_up : arrived es factor first remainders ≡ arrived all factor first before

each-lower : (m n : ℕ) → m ≤ n → (es : List Entry) → Each (λ (e : Entry). e.state < m) es → Each (λ (e : Entry). e.state < n) es
unfolding Each
each-lower m n le [] h = tt
each-lower m n le (e ∷ es) h = (omega (arith, h.0), each-lower m n le es h.1)

module _ {s places : List ℕ} {r : ℕ} {factor : ℤ} {first : ℕ} {remainders : List ℤ} {nonzero : ℕ} (m : CanMove s places r factor first remainders nonzero) {f : Fields} (t : FieldsOf s r f) where
  -- the entries stand in the file
  pub entries-inside : f.entries.at + 3 * f.count ≤ length s
  entries-inside = omega (arith, (entries-known m.known).inside, t.count, t.entries)

  pub arriving-start : {es : List Entry} → es ≡ entries_at s f.count f.entries.at → Arriving (entries_of s r) factor first remainders remainders es nonzero
  arriving-start {es} e =
      let k = entries-known m.known in
      subst (λ (l : List Entry). Arriving (entries_of s r) factor first remainders remainders l nonzero) (sym (e ∙ ap₂ (entries_at s) t.count t.entries))
      (record {
        states = each-lower (states_of s) limits.states (few-states m.known.known) (entries_of s r) k.states;
        room = λ i h. omega (arith, m.room.small i h, k.whole, k.light);
        small = m.small;
        layer = m.layer;
        table = m.table;
        makes_up = refl;
      })

module _ {all : List Entry} {factor : ℤ} {first : ℕ} {before remainders : List ℤ} {es : List Entry} {nonzero : ℕ} (h : Arriving all factor first before remainders es nonzero) where
  module _ {e : Entry} {others : List Entry} (here : es ≡ e ∷ others) where
    next-arrives : Arriving all factor first before remainders (e ∷ others) nonzero
    next-arrives = subst (λ (l : List Entry). Arriving all factor first before remainders l nonzero) here h

    -- the first entry left can be added
    pub arriving-asks : CanAdd remainders (first + e.state) e.weight factor nonzero
    unfolding Each sum_over
    arriving-asks =
        let n = next-arrives in
        let inside : first + e.state < sizes.remainders = omega (arith, n.layer, n.states.0) in
        record {
          table = n.table;
          inside = inside;
          fits = record { room = omega (arith, n.room (first + e.state) inside); small = n.small };
        }

    pub arriving-turn : {after : List ℤ} {now : ℕ} → Became (added remainders (first + e.state) e.weight factor) after now → Arriving all factor first before after others now
    unfolding Each sum_over arrived
    arriving-turn b =
        let n = next-arrives in
        record {
          states = n.states.1;
          room = λ i less. subst (λ (x : List ℤ). nat_abs (remainder_at x i) + sum_over (λ (e : Entry). e.weight) others * 2 ^ 32 < 2 ^ 63) (sym b.same)
              (omega (arith, n.room i less, added-small remainders (first + e.state) e.weight factor i (omega (arith, n.table.size)) n.small));
          small = n.small;
          layer = n.layer;
          table = b.counted;
          makes_up = ap (arrived others factor first) b.same ∙ n.makes_up;
        }

  pub arriving-end : es ≡ [] → Became (arrived all factor first before) remainders nonzero
  unfolding arrived
  arriving-end none =
      record { same = ap (λ (l : List Entry). arrived l factor first remainders) (sym none) ∙ h.makes_up; counted = h.table }
