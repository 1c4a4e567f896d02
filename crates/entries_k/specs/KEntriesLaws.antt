-- Laws of the k entries taken into the remainders, and of what they cost.
use Rattle.std.specs.Prelude.{ℕ, zero, suc, ◌+◌, ◌*◌, ◌-◌, ◌^◌, ◌≤◌, ◌<◌, ◌≡◌, Bool, length, pos, neg_ℤ}
use Rattle.std.proofs.Math.Path.{refl, ap, subst}
use Rattle.std.proofs.Common.{sym, ◌∙◌, subst₂, mul-le-mul, arith}
use mathlib.Core.List.{List}
use Rattle.std.proofs.Math.IntN.{ℤ}
use Rattle.bisimulation.proofs.argument.ChoiceLaws.{less, not_less, is_true, is_false, either_less, either_true}
use Rattle.rules.specs.definitions.Bytes.{byte_at, two_at, three_at, four_at}
use Rattle.rules.specs.definitions.Certificate.{FileRule, k_fault}
use Rattle.rules.specs.definitions.Faults.{Fault, fault}
use Rattle.rules.proofs.argument.FaultLaws.{pass_on}
use Rattle.rules.specs.definitions.Limits.{limits}
use Rattle.field.specs.declared.Field.{Field}
use Rattle.field.specs.Taken as field
use Rattle.field.specs.Taken.{taken_at}
use Rattle.cost_files.specs.definitions.CostModel.{highest_cost}
use Rattle.rule_kind.specs.declared.Kind.{Kind}
use Rattle.rule_kind.specs.Kinds.{cost_in, KindStands, CostIs}
use Rattle.rule_kind.specs.Steps.{Tests, arrival_of, departure_of}
use Rattle.rule_kind.specs.StepsLaws.{arrival-most, departure-most}
use Rattle.transition_record.specs.declared.Fields.{Fields}
use Rattle.transition.specs.Known.{automaton_in, Known, FieldsOf, entries_of}
use Rattle.transition.specs.KnownLaws.{few-transitions, known-transition, known-transitions}
use Rattle.entries_k.specs.declared.Taken.{Taken}
use Rattle.remainders.specs.Nonzero.{nonzero_in, Counted, Became}
use Rattle.remainders.specs.Moving.{arrived, departed, Room, CanMove}
use Rattle.entries_k.specs.Taking.{WrongK, unordered, absent, unasked, nothing, RightK, took_k, took_ks, CanTake, k_sum, cost_of_k, most_cost_of_k, PayAsked, PaidIs, most_ks, CanTakeKs, GoodKs}
use Rattle.signed.specs.TermsLaws.{minus-small}
use Rattle.remainders.specs.MovingLaws.{room-fewer, arrived-length, arrived-room, departed-room}

-- a k entry's transition arrives, then leaves
module _ {s places : List ℕ} {n count r k : ℕ} {remainders : List ℤ} {nonzero : ℕ} (known : Known s n count places) (c : CanTake count r k remainders nonzero) (layer : ℕ) where
  pub can-arrive : CanMove s places r (pos k) (arrival_of layer) remainders nonzero
  can-arrive =
      record {
        known = known-transition known c.below;
        small = omega (arith, c.small);
        layer = arrival-most layer;
        table = c.table;
        room = room-fewer (omega arith) c.room;
      }

  pub can-leave : {after : List ℤ} {now : ℕ} → Became (arrived (entries_of s r) (pos k) (arrival_of layer) remainders) after now → CanMove s places r (neg_ℤ (pos k)) (departure_of layer) after now
  can-leave b =
      record {
        known = known-transition known c.below;
        small = minus-small k _ (omega (arith, c.small));
        layer = departure-most layer;
        table = b.counted;
        room = subst (λ (x : List ℤ). Room x 1) (sym b.same) (arrived-room can-arrive c.room);
      }

  pub took-k : {between after : List ℤ} {mid now : ℕ} → Became (arrived (entries_of s r) (pos k) (arrival_of layer) remainders) between mid → Became (departed (automaton_in s) r (neg_ℤ (pos k)) (departure_of layer) between) after now → Became (took_k s layer r k remainders) after now
  unfolding took_k
  took-k {after = after} {now = now} b e =
      subst (λ (x : List ℤ). Became (departed (automaton_in s) r (neg_ℤ (pos k)) (departure_of layer) x) after now) b.same e

  -- it takes two changes from the room
  pub took-room : {changes : ℕ} → Room remainders (suc (suc changes)) → Room (took_k s layer r k remainders) changes
  unfolding took_k
  took-room {changes} room =
      departed-room (can-leave {now = nonzero_in middle} (record { same = refl; counted = record { size = arrived-length (entries_of s r) (pos k) (arrival_of layer) remainders ∙ c.table.size; count = refl } }))
      (arrived-room can-arrive room)
    where
      middle : List ℤ
      middle = arrived (entries_of s r) (pos k) (arrival_of layer) remainders

-- what is paid with k of a transition, where its cost is 0 and where it is not
module _ {kind : Kind} {s : List ℕ} {r cost : ℕ} (c : CostIs kind s r cost) (k : ℕ) where
  pub pays-none : cost ≡ 0 → (paid : ℕ) → PaidIs (cost_in kind s) s r k paid paid
  pays-none z paid =
      let none = ap (λ (x : ℕ). k * (automaton_in s).denominator r * x) (sym c.is ∙ z) in
      record { is = λ layer. omega (arith, none); low = omega arith }

  module _ (small : k < 2 ^ 32) {f : Fields} (d : FieldsOf s r f) where
    pub k-times-d : k * f.denominator ≤ 4294967295 * 65535
    k-times-d = mul-le-mul {n₂ = 4294967295} {m₂ = 65535} (omega arith) (omega (arith, d.small))

    pub price-low : k * f.denominator * cost ≤ most_cost_of_k
    price-low = mul-le-mul {n₂ = 4294967295 * 65535} {m₂ = highest_cost} k-times-d c.low

    pub pays : (paid : ℕ) → PaidIs (cost_in kind s) s r k paid (paid + k * f.denominator * cost)
    pays paid =
        record {
          is = λ layer. ap (λ (x : ℕ). paid + k * x * cost) d.denominator ∙ ap (λ (x : ℕ). paid + k * (automaton_in s).denominator r * x) c.is;
          low = omega (arith, price-low);
        }

-- a k entry as it was read at a place
pub record KRead (C : List ℕ) (at layer r k : ℕ) : Type 0 where
  pub layer-is : layer ≡ byte_at C at
  pub transition-is : r ≡ two_at C (at + 1)
  pub k-is : k ≡ four_at C (at + 3)
  pub small : k < 2 ^ 32

pub k-read : {C : List ℕ} {at : ℕ} {a b c : Field} → field.Taken C byte_at at 1 256 a → field.Taken C two_at a.next.at 2 65536 b → field.Taken C four_at b.next.at 4 4294967296 c → KRead C at a.value b.value c.value
k-read x y z =
    record {
      layer-is = x.value;
      transition-is = taken_at y _ x.next;
      k-is = taken_at z _ (omega (arith, x.next, y.next));
      small = z.small;
    }

-- its turn in what is taken, and in what is paid
module _ (s C : List ℕ) (left : ℕ) {at layer r k : ℕ} (e : KRead C at layer r k) where
  took-next : (remainders : List ℤ) {after : List ℤ} → after ≡ took_k s layer r k remainders → took_ks s C left (at + 7) after ≡ took_ks s C (suc left) at remainders
  unfolding took_ks
  took-next remainders b =
      ap (took_ks s C left (at + 7))
      (b
      ∙ ap (λ (l : ℕ). took_k s l r k remainders) e.layer-is
      ∙ ap (λ (i : ℕ). took_k s (byte_at C at) i k remainders) e.transition-is
      ∙ ap (λ (m : ℕ). took_k s (byte_at C at) (two_at C (at + 1)) m remainders) e.k-is)

  paid-next : (cost : ℕ → ℕ) → cost_of_k cost (automaton_in s) layer r k + k_sum C (cost_of_k cost (automaton_in s)) left (at + 7) ≡ k_sum C (cost_of_k cost (automaton_in s)) (suc left) at
  unfolding k_sum
  paid-next cost =
      ap (λ (x : ℕ). x + k_sum C (cost_of_k cost (automaton_in s)) left (at + 7))
      (ap (λ (i : ℕ). cost_of_k cost (automaton_in s) layer i k) e.transition-is
      ∙ ap (cost_of_k cost (automaton_in s) layer (two_at C (at + 1))) e.k-is)

-- before each k entry: the keys before the lowest are those of at most `layer` layers and x transitions, so at most `ahead` entries follow
pub record TakingKs (rule : FileRule) (cost : ℕ → ℕ) (s C : List ℕ) (action t start entries : ℕ) (before remainders : List ℤ) (left at lowest nonzero paid : ℕ) : Type 0 where
  pub layer : ℕ
  pub x : ℕ
  pub ahead : ℕ
  pub key : lowest ≡ layer * 65536 + x
  pub low : layer ≤ 2
  pub few : x ≤ limits.transitions
  pub follow : ahead + layer * limits.transitions + x ≡ most_ks
  pub whole : at + 7 * left ≤ length C
  pub ends : at + 7 * left ≡ start + 7 * entries
  pub table : Counted remainders nonzero
  pub enough : Room before (2 * most_ks)
  pub room : (more : ℕ) → Room before (2 * most_ks + more) → Room remainders (2 * ahead + more)
  pub number : (q : ℕ) → action ≡ (automaton_in s).action q → k_fault rule (automaton_in s) C q t left at lowest ≡ k_fault rule (automaton_in s) C q t entries start 0
  pub makes_up : took_ks s C left at remainders ≡ took_ks s C entries start before
  pub pays : paid + k_sum C (cost_of_k cost (automaton_in s)) left at ≡ k_sum C (cost_of_k cost (automaton_in s)) entries start
  pub fits : paid + ahead * most_cost_of_k ≤ most_ks * most_cost_of_k

pub ks-start : {rule : FileRule} {cost : ℕ → ℕ} {kind : Kind} {s C : List ℕ} {at entries : ℕ} {remainders : List ℤ} {nonzero : ℕ} → CanTakeKs kind s C at entries remainders nonzero → (action t : ℕ) {left : ℕ} → entries ≡ left → TakingKs rule cost s C action t at entries remainders remainders left at 0 nonzero 0
ks-start {rule} {cost} {s = s} {C} {at = at} {entries} {remainders} {nonzero} c action t e =
    subst (λ (left : ℕ). TakingKs rule cost s C action t at entries remainders remainders left at 0 nonzero 0) e
    (record {
      layer = 0;
      x = 0;
      ahead = most_ks;
      key = refl;
      low = omega arith;
      few = omega arith;
      follow = refl;
      whole = c.whole;
      ends = refl;
      table = c.table;
      enough = c.room;
      room = λ more room. room;
      number = λ q a. refl;
      makes_up = refl;
      pays = omega arith;
      fits = omega arith;
    })

-- the tests of one entry
module _ {rule : FileRule} {test : ℕ → ℕ → ℕ → ℕ → ℕ → Bool} (tests : Tests test rule) (s C : List ℕ) {action count : ℕ} (left : ℕ) {at layer r k : ℕ} (known : (automaton_in s).transitions ≡ count) (e : KRead C at layer r k) (q t : ℕ) (same-action : action ≡ (automaton_in s).action q) where
  key-is : layer * 65536 + r ≡ three_at C at
  unfolding three_at
  key-is = omega (arith, e.layer-is, e.transition-is)

  asked-as : test action t layer ((automaton_in s).source r) ((automaton_in s).action r) ≡ rule.in_question (automaton_in s) q t (byte_at C at) (two_at C (at + 1))
  asked-as =
      ap (λ (a : ℕ). test a t layer ((automaton_in s).source r) ((automaton_in s).action r)) same-action
      ∙ tests.is (automaton_in s) q t layer r
      ∙ ap (λ (l : ℕ). rule.in_question (automaton_in s) q t l r) e.layer-is
      ∙ ap (rule.in_question (automaton_in s) q t (byte_at C at)) e.transition-is

  wrong-k : {lowest : ℕ} → WrongK count lowest layer r k (test action t layer ((automaton_in s).source r) ((automaton_in s).action r)) → fault 19 ≡ k_fault rule (automaton_in s) C q t (suc left) at lowest
  unfolding k_fault
  wrong-k (unordered l) = less _ (omega (arith, key-is)) refl
  wrong-k (absent l) = either_less (λ (f : Fault). fault 19 ≡ f) _ _ refl (not_less _ (omega (arith, known, e.transition-is)) refl)
  wrong-k (unasked n) =
      either_less (λ (f : Fault). fault 19 ≡ f) _ _ refl
      (either_less (λ (f : Fault). fault 19 ≡ f) _ _ (is_false _ (sym asked-as ∙ n) refl) refl)
  wrong-k (nothing n) =
      either_less (λ (f : Fault). fault 19 ≡ f) _ _ refl
      (either_less (λ (f : Fault). fault 19 ≡ f) _ _
      (either_true (λ (f : Fault). fault 19 ≡ f) _ (not_less _ (omega (arith, e.k-is)) refl) refl)
      refl)

  right-k : {lowest : ℕ} → RightK count lowest layer r k (test action t layer ((automaton_in s).source r) ((automaton_in s).action r)) → k_fault rule (automaton_in s) C q t left (at + 7) (layer * 65536 + r + 1) ≡ k_fault rule (automaton_in s) C q t (suc left) at lowest
  unfolding k_fault
  right-k w =
      not_less _ (omega (arith, key-is, w.ordered))
      (less _ (omega (arith, known, e.transition-is, w.present))
      (is_true _ (sym asked-as ∙ w.asked_is)
      (less _ (omega (arith, e.k-is, w.some))
      (ap (λ (key : ℕ). k_fault rule (automaton_in s) C q t left (at + 7) (key + 1)) key-is))))

-- the entries from one that is wrong on
module _ {rule : FileRule} {test : ℕ → ℕ → ℕ → ℕ → ℕ → Bool} (tests : Tests test rule) {cost : ℕ → ℕ} {s C : List ℕ} {action t start entries : ℕ} {before remainders : List ℤ} {count : ℕ} (known : (automaton_in s).transitions ≡ count) where
  pub ks-refused : (left : ℕ) {at lowest nonzero paid layer r k : ℕ} → TakingKs rule cost s C action t start entries before remainders left at lowest nonzero paid → 0 < left → KRead C at layer r k → WrongK count lowest layer r k (test action t layer ((automaton_in s).source r) ((automaton_in s).action r)) → (q : ℕ) → action ≡ (automaton_in s).action q → fault 19 ≡ k_fault rule (automaton_in s) C q t entries start 0
  ks-refused zero h some e w q a = absurd (omega arith)
  ks-refused (suc left) h some e w q a = wrong-k tests s C left known e q t a w ∙ h.number q a

-- an entry that is right, in its turn
pub record StandingK (test : ℕ → ℕ → ℕ → ℕ → ℕ → Bool) (rule : FileRule) (cost : ℕ → ℕ) (s C : List ℕ) (count : ℕ) (places : List ℕ) (action t start entries : ℕ) (before remainders : List ℤ) (left at lowest nonzero paid layer r k : ℕ) : Type 0 where
  pub tests : Tests test rule
  pub turn : TakingKs rule cost s C action t start entries before remainders left at lowest nonzero paid
  pub some : 0 < left
  pub read : KRead C at layer r k
  pub states : ℕ
  pub known : Known s states count places
  pub right : RightK count lowest layer r k (test action t layer ((automaton_in s).source r) ((automaton_in s).action r))

pub k-stands : {test : ℕ → ℕ → ℕ → ℕ → ℕ → Bool} {rule : FileRule} {cost : ℕ → ℕ} {s C : List ℕ} {n count : ℕ} {places : List ℕ} {action t start entries : ℕ} {before remainders : List ℤ} {left at lowest nonzero paid layer r k : ℕ} → Tests test rule → TakingKs rule cost s C action t start entries before remainders left at lowest nonzero paid → 0 < left → KRead C at layer r k → Known s n count places → RightK count lowest layer r k (test action t layer ((automaton_in s).source r) ((automaton_in s).action r)) → StandingK test rule cost s C count places action t start entries before remainders left at lowest nonzero paid layer r k
k-stands {n = n} tests turn some read known right =
    record { tests = tests; turn = turn; some = some; read = read; states = n; known = known; right = right }

module _ {test : ℕ → ℕ → ℕ → ℕ → ℕ → Bool} {rule : FileRule} {cost : ℕ → ℕ} {s C : List ℕ} {count : ℕ} {places : List ℕ} {action t start entries : ℕ} {before remainders : List ℤ} {left at lowest nonzero paid layer r k : ℕ} (g : StandingK test rule cost s C count places action t start entries before remainders left at lowest nonzero paid layer r k) where
  in-layers : layer ≤ 2
  in-layers = g.tests.layers action t layer ((automaton_in s).source r) ((automaton_in s).action r) g.right.asked_is

  -- how many can follow it
  abbrev following : ℕ
  following = most_ks - (layer * limits.transitions + (r + 1))

  one_fewer : following + 1 ≤ g.turn.ahead
  one_fewer =
      let h = g.turn in
      omega (arith, h.key, h.low, h.few, h.follow, g.right.ordered, g.right.present, few-transitions g.known, in-layers)

  -- it can be taken, and paid
  pub ks-asks : CanTake count r k remainders nonzero
  ks-asks =
      record {
        below = g.right.present;
        small = g.read.small;
        table = g.turn.table;
        room = room-fewer (omega (arith, one_fewer)) (g.turn.room 0 (room-fewer (omega arith) g.turn.enough));
      }

  pub ks-pays : (kind : Kind) → KindStands kind s → PayAsked kind s count r k paid
  ks-pays kind stands =
      record {
        stands = stands;
        below = g.right.present;
        small = g.read.small;
        fits = omega (arith, one_fewer, g.turn.fits);
      }

  pub ks-turn : (rest : ℕ) {next above paid' now : ℕ} {after : List ℤ} → left ≡ rest + 1 → Became (took_k s layer r k remainders) after now → PaidIs cost s r k paid paid' → next ≡ at + 7 → above ≡ layer * 65536 + r + 1 → TakingKs rule cost s C action t start entries before after rest next above now paid'
  ks-turn rest {next} {above} {paid'} {now} {after} here b p n o = go left g.turn here one_fewer
    where
      one-k : (left : ℕ) (h : TakingKs rule cost s C action t start entries before remainders (suc left) at lowest nonzero paid) → following + 1 ≤ h.ahead → TakingKs rule cost s C action t start entries before after left (at + 7) (layer * 65536 + r + 1) now paid'
      one-k left h fewer =
          record {
            layer = layer;
            x = r + 1;
            ahead = following;
            key = omega arith;
            low = in-layers;
            few = omega (arith, g.right.present, few-transitions g.known);
            follow = omega (arith, in-layers, g.right.present, few-transitions g.known);
            whole = omega (arith, h.whole);
            ends = omega (arith, h.ends);
            table = b.counted;
            enough = h.enough;
            room = λ more room. subst (λ (x : List ℤ). Room x (2 * following + more)) (sym b.same) (took-room g.known ks-asks layer (room-fewer (omega (arith, fewer)) (h.room more room)));
            number = λ q a. right-k g.tests s C left (known-transitions g.known) g.read q t a g.right ∙ h.number q a;
            makes_up = took-next s C left g.read remainders b.same ∙ h.makes_up;
            pays = omega (arith, paid-next s C left g.read cost, p.is layer, h.pays);
            fits = omega (arith, fewer, h.fits, p.low);
          }

      go : (left : ℕ) (h : TakingKs rule cost s C action t start entries before remainders left at lowest nonzero paid) → left ≡ rest + 1 → following + 1 ≤ h.ahead → TakingKs rule cost s C action t start entries before after rest next above now paid'
      go zero h here fewer = absurd (omega arith)
      go (suc left) h here fewer =
          let one : left ≡ rest = omega arith in
          subst (λ (j : ℕ). TakingKs rule cost s C action t start entries before after j next above now paid') one
          (subst₂ (λ (i l : ℕ). TakingKs rule cost s C action t start entries before after left i l now paid') (sym n) (sym o) (one-k left h fewer))

pub ks-end : {rule : FileRule} {cost : ℕ → ℕ} {s C : List ℕ} {action t start entries : ℕ} {before remainders : List ℤ} (left : ℕ) {at lowest nonzero paid : ℕ} {x : Taken} → TakingKs rule cost s C action t start entries before remainders left at lowest nonzero paid → left ≤ 0 → x.nonzero ≡ nonzero → x.paid ≡ paid → x.next.at ≡ at → GoodKs rule cost s C action t start entries before remainders x
unfolding k_fault took_ks k_sum
ks-end {s = s} {C} {action} {t} {start} {entries} {before} {remainders} zero {x = x} h none n o p =
    record {
      passed = λ q a. pass_on (h.number q a) refl;
      became = subst (λ (m : ℕ). Became (took_ks s C entries start before) remainders m) (sym n) (record { same = h.makes_up; counted = h.table });
      room = λ more room. room-fewer (omega arith) (h.room more room);
      paid = omega (arith, h.pays, o);
      next = omega (arith, h.ends);
    }
ks-end (suc left) h none n o p = absurd (omega arith)
