-- Laws of the w entries taken into the remainders.
use Prim.Native.Nat.{ℕ, zero, suc, ◌+◌, ◌*◌, ◌-◌, ◌^◌, ◌≤◌, ◌<◌}
use Rattle.std.specs.Prelude.{◌≡◌, length, ℤ, pos, neg_ℤ}
use Rattle.std.proofs.Math.Path.{refl, ap, subst}
use Rattle.std.proofs.Common.{sym, ◌∙◌, arith}
use mathlib.Core.List.{List}
use Rattle.bisimulation.proofs.argument.ChoiceLaws.{less, not_less, is_true, is_false, either_less, either_true}
use Rattle.bisimulation.specs.definitions.Automaton.{Automaton}
use Rattle.bisimulation.specs.definitions.Pairs.{Pairs}
use Rattle.rules.specs.definitions.Bytes.{byte_at, two_at, four_at}
use Rattle.rules.specs.definitions.Certificate.{w_fault}
use Rattle.rules.specs.definitions.Faults.{Fault, fault}
use Rattle.rules.proofs.argument.FaultLaws.{pass_on}
use Rattle.rules.specs.definitions.Limits.{limits}
use Rattle.field.specs.declared.Field.{Field}
use Rattle.field.specs.Taken as field
use Rattle.field.specs.Taken.{taken_at}
use Rattle.limits.specs.Sizes as sizes
use Rattle.pairs.specs.Rows.{row_bit, HoldsPairs}
use Rattle.entries_w.specs.declared.Matched.{Matched}
use Rattle.remainders.specs.Nonzero.{Counted, Became}
use Rattle.remainders.specs.Moving.{added, Room, CanAdd}
use Rattle.entries_w.specs.Matching.{WrongW, unordered, absent, other_absent, unrelated, nothing, RightW, took_ws, took_vs, took_us, most_ws, CanTakeWs, GoodWs}
use Rattle.signed.specs.TermsLaws.{minus-small}
use Rattle.remainders.specs.MovingLaws.{room-fewer, added-room}

-- a w entry as it was read at a place
pub record WRead (C : List ℕ) (at v u w : ℕ) : Type 0 where
  pub v-is : v ≡ byte_at C at
  pub u-is : u ≡ byte_at C (at + 1)
  pub w-is : w ≡ four_at C (at + 2)
  pub small : w < 2 ^ 32

pub w-read : {C : List ℕ} {at : ℕ} {a b c : Field} → field.Taken C byte_at at 1 256 a → field.Taken C byte_at a.next.at 1 256 b → field.Taken C four_at b.next.at 4 4294967296 c → WRead C at a.value b.value c.value
w-read x y z =
    record {
      v-is = x.value;
      u-is = taken_at y _ x.next;
      w-is = taken_at z _ (omega (arith, x.next, y.next));
      small = z.small;
    }

-- before each w entry: the keys before the lowest have at most v rows and x more, so at most `ahead` entries follow
pub record TakingWs (C : List ℕ) (start entries n : ℕ) (rows : List ℕ) (d first : ℕ) (before remainders target_before target : List ℤ) (left at lowest nonzero asked : ℕ) : Type 0 where
  pub v : ℕ
  pub x : ℕ
  pub ahead : ℕ
  pub key : lowest ≡ v * 256 + x
  pub low : v < limits.states
  pub short : x ≤ limits.states
  pub follow : ahead + v * limits.states + x ≡ most_ws
  pub whole : at + 6 * left ≤ length C
  pub ends : at + 6 * left ≡ start + 6 * entries
  pub few : n ≤ limits.states
  pub light : d < 65536
  pub layer : first ≤ limits.states
  pub table : Counted remainders nonzero
  pub room : Room remainders ahead
  pub target_table : Counted target asked
  pub target_room : Room target ahead
  pub number : (A : Automaton) (R : Pairs) → A.states ≡ n → HoldsPairs n R rows → w_fault A C R left at lowest ≡ w_fault A C R entries start 0
  pub makes_up : took_vs C first left at remainders ≡ took_vs C first entries start before
  pub target_makes_up : took_us C d left at target ≡ took_us C d entries start target_before

pub ws-start : {C : List ℕ} {at entries n d first : ℕ} {remainders : List ℤ} {nonzero : ℕ} {target : List ℤ} {asked : ℕ} → CanTakeWs C at entries n d first remainders nonzero target asked → (rows : List ℕ) {left : ℕ} → entries ≡ left → TakingWs C at entries n rows d first remainders remainders target target left at 0 nonzero asked
ws-start {C} {at} {entries} {n} {d} {first} {remainders} {nonzero} {target} {asked} c rows e =
    subst (λ (left : ℕ). TakingWs C at entries n rows d first remainders remainders target target left at 0 nonzero asked) e
    (record {
      v = 0;
      x = 0;
      ahead = most_ws;
      key = refl;
      low = omega arith;
      short = omega arith;
      follow = refl;
      whole = c.whole;
      ends = refl;
      few = c.few;
      light = c.light;
      layer = c.layer;
      table = c.table;
      room = c.room;
      target_table = c.target_table;
      target_room = c.target_room;
      number = λ A R s h. refl;
      makes_up = refl;
      target_makes_up = refl;
    })

-- the tests of one entry
module _ (A : Automaton) {C : List ℕ} (R : Pairs) {n : ℕ} {rows : List ℕ} (left : ℕ) {at v u w : ℕ} (known : A.states ≡ n) (h : HoldsPairs n R rows) (e : WRead C at v u w) where
  key-is : v * 256 + u ≡ two_at C at
  unfolding two_at
  key-is = omega (arith, e.v-is, e.u-is)

  related-as : v < n → u < n → row_bit rows v u ≡ R (byte_at C at) (byte_at C (at + 1))
  related-as l k = h.bits v u l k ∙ ap (λ (x : ℕ). R x u) e.v-is ∙ ap (R (byte_at C at)) e.u-is

  abbrev Is19 : Fault → Type 0
  Is19 f = fault 19 ≡ f

  wrong-w : {lowest : ℕ} → WrongW n rows lowest v u w → fault 19 ≡ w_fault A C R (suc left) at lowest
  unfolding w_fault
  wrong-w (unordered l) = less _ (omega (arith, key-is)) refl
  wrong-w (absent l) = either_less Is19 _ _ refl (not_less _ (omega (arith, known, e.v-is)) refl)
  wrong-w (other_absent l) =
      either_less Is19 _ _ refl (either_less Is19 _ _ (not_less _ (omega (arith, known, e.u-is)) refl) refl)
  wrong-w (unrelated l k o) =
      either_less Is19 _ _ refl
      (either_less Is19 _ _ (either_less Is19 _ _ (is_false _ (sym (related-as l k) ∙ o) refl) refl) refl)
  wrong-w (nothing z) =
      either_less Is19 _ _ refl
      (either_less Is19 _ _ (either_less Is19 _ _ (either_true Is19 _ (not_less _ (omega (arith, e.w-is)) refl) refl) refl) refl)

  right-w : {lowest : ℕ} → RightW n rows lowest v u w → w_fault A C R left (at + 6) (v * 256 + u + 1) ≡ w_fault A C R (suc left) at lowest
  unfolding w_fault
  right-w r =
      not_less _ (omega (arith, key-is, r.ordered))
      (less _ (omega (arith, known, e.v-is, r.present))
      (less _ (omega (arith, known, e.u-is, r.other_present))
      (is_true _ (sym (related-as r.present r.other_present) ∙ r.related)
      (less _ (omega (arith, e.w-is, r.some))
      (ap (λ (key : ℕ). w_fault A C R left (at + 6) (key + 1)) key-is)))))

module _ {C : List ℕ} {start entries n : ℕ} {rows : List ℕ} {d first : ℕ} {before remainders target_before target : List ℤ} where
  -- an entry is refused, or can be taken at v and at u
  pub ws-refused : (left : ℕ) {at lowest nonzero asked v u w : ℕ} → TakingWs C start entries n rows d first before remainders target_before target left at lowest nonzero asked → 0 < left → WRead C at v u w → WrongW n rows lowest v u w → (A : Automaton) (R : Pairs) → A.states ≡ n → HoldsPairs n R rows → fault 19 ≡ w_fault A C R entries start 0
  ws-refused zero h some e o A R s p = absurd (omega arith)
  ws-refused (suc left) h some e o A R s p = wrong-w A R left s p e o ∙ h.number A R s p

  module _ {left at lowest nonzero asked : ℕ} (h : TakingWs C start entries n rows d first before remainders target_before target left at lowest nonzero asked) {v u w : ℕ} (e : WRead C at v u w) (r : RightW n rows lowest v u w) where
    -- so many entries follow it
    rest : suc (most_ws - (v * limits.states + (u + 1))) ≤ h.ahead
    rest = omega (arith, h.key, h.low, h.short, h.follow, h.few, r.ordered, r.present, r.other_present)

    pub v-asks : CanAdd remainders (first + v) 1 (neg_ℤ (pos w)) nonzero
    v-asks =
        let inside : first + v < sizes.remainders = omega (arith, h.layer, h.few, r.present) in
        record {
          table = h.table;
          inside = inside;
          fits = record { room = omega (arith, h.room.small (first + v) inside, rest); small = minus-small w _ e.small };
        }

    pub u-asks : CanAdd target u d (pos w) asked
    u-asks =
        let inside : u < sizes.remainders = omega (arith, h.few, r.other_present) in
        record {
          table = h.target_table;
          inside = inside;
          fits = record { room = omega (arith, h.target_room.small u inside, h.light, rest); small = e.small };
        }

  one-w : (left : ℕ) {at lowest nonzero asked v u w now then : ℕ} {after target_after : List ℤ} → TakingWs C start entries n rows d first before remainders target_before target (suc left) at lowest nonzero asked → WRead C at v u w → RightW n rows lowest v u w → Became (added remainders (first + v) 1 (neg_ℤ (pos w))) after now → Became (added target u d (pos w)) target_after then → TakingWs C start entries n rows d first before after target_before target_after left (at + 6) (v * 256 + u + 1) now then
  unfolding took_ws
  one-w left {at} {v = v} {u = u} {w = w} h e r b t =
      let ahead : ℕ = most_ws - (v * limits.states + (u + 1)) in
      record {
        v = v;
        x = u + 1;
        ahead = ahead;
        key = omega arith;
        low = omega (arith, r.present, h.few);
        short = omega (arith, r.other_present, h.few);
        follow = omega (arith, r.present, r.other_present, h.few);
        whole = omega (arith, h.whole);
        ends = omega (arith, h.ends);
        few = h.few;
        light = h.light;
        layer = h.layer;
        table = b.counted;
        room = subst (λ (y : List ℤ). Room y ahead) (sym b.same) (added-room _ _ _ h.table.size (omega arith) (v-asks h e r).fits.small (room-fewer (rest h e r) h.room));
        target_table = t.counted;
        target_room = subst (λ (y : List ℤ). Room y ahead) (sym t.same) (added-room _ _ _ h.target_table.size h.light (u-asks h e r).fits.small (room-fewer (rest h e r) h.target_room));
        number = λ A R s p. right-w A R left s p e r ∙ h.number A R s p;
        makes_up =
            ap (took_vs C first left (at + 6))
            (b.same ∙ ap (λ (i : ℕ). added remainders (first + i) 1 (neg_ℤ (pos w))) e.v-is ∙ ap (λ (k : ℕ). added remainders (first + byte_at C at) 1 (neg_ℤ (pos k))) e.w-is)
            ∙ h.makes_up;
        target_makes_up =
            ap (took_us C d left (at + 6))
            (t.same ∙ ap (λ (i : ℕ). added target i d (pos w)) e.u-is ∙ ap (λ (k : ℕ). added target (byte_at C (at + 1)) d (pos k)) e.w-is)
            ∙ h.target_makes_up;
      }

  pub ws-turn : (left rest : ℕ) {at next lowest nonzero asked v u w now then : ℕ} {after target_after : List ℤ} → TakingWs C start entries n rows d first before remainders target_before target left at lowest nonzero asked → left ≡ rest + 1 → WRead C at v u w → RightW n rows lowest v u w → Became (added remainders (first + v) 1 (neg_ℤ (pos w))) after now → Became (added target u d (pos w)) target_after then → next ≡ at + 6 → TakingWs C start entries n rows d first before after target_before target_after rest next (v * 256 + u + 1) now then
  ws-turn zero rest h here e r b t p = absurd (omega arith)
  ws-turn (suc left) rest {next = next} {v = v} {u = u} {now = now} {then = then} {after = after} {target_after = target_after} h here e r b t p =
      let one : left ≡ rest = omega arith in
      subst (λ (j : ℕ). TakingWs C start entries n rows d first before after target_before target_after j next (v * 256 + u + 1) now then) one
      (subst (λ (i : ℕ). TakingWs C start entries n rows d first before after target_before target_after left i (v * 256 + u + 1) now then) (sym p) (one-w left h e r b t))

  pub ws-end : (left : ℕ) {at lowest nonzero asked : ℕ} {x : Matched} → TakingWs C start entries n rows d first before remainders target_before target left at lowest nonzero asked → left ≤ 0 → x.nonzero ≡ nonzero → x.target ≡ asked → x.next.at ≡ at → GoodWs C start entries n rows d first before remainders target_before target x
  unfolding w_fault took_ws
  ws-end zero h none i j p =
      record {
        passed = λ A R s p. pass_on (h.number A R s p) refl;
        became = subst (Became _ remainders) (sym i) (record { same = h.makes_up; counted = h.table });
        target_became = subst (Became _ target) (sym j) (record { same = h.target_makes_up; counted = h.target_table });
        next = omega (arith, h.ends);
      }
  ws-end (suc left) h none i j p = absurd (omega arith)
