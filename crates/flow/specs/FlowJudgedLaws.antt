-- What the parts of a flow ask, from its k entries on, and what they come to.
use Rattle.std.specs.Prelude.{ℕ, ◌+◌, ◌*◌, ◌≤◌, ◌<◌, ◌≡◌, refl, List, length, ℤ, pos, neg_ℤ, Ok, Err}
use Rattle.std.proofs.Common.{sym, ◌∙◌, subst, subst₂, arith}
use Rattle.std.proofs.Math.Path.{ap}
use Rattle.bisimulation.specs.definitions.Automaton.{Automaton}
use Rattle.bisimulation.specs.definitions.Pairs.{Pairs}
use Rattle.rules.specs.definitions.Bytes.{two_at, four_at}
use Rattle.rules.specs.definitions.Certificate.{k_count_at, w_count_at, after_k, after_flow, k_fault, w_fault, flow_fault}
use Rattle.rules.specs.definitions.Faults as rules
use Rattle.rules.specs.definitions.Faults.{fault, Passes}
use Rattle.rules.proofs.argument.FaultLaws.{pass_on}
use Rattle.fault.specs.Faults.{PlacedAt, Placed}
use Rattle.fault.specs.declared.Fault.{Fault}
use Rattle.field.specs.Taken as field
use Rattle.field.specs.Taken.{taken_at}
use Rattle.field.specs.declared.Field.{Field}
use Rattle.transition_record.specs.declared.Fields.{Fields}
use Rattle.limits.specs.Sizes as sizes
use Rattle.pairs.specs.Rows.{HoldsPairs}
use Rattle.transition.specs.Known.{automaton_in, Known, FieldsOf, entries_of}
use Rattle.transition.specs.KnownLaws.{few-states, known-states, known-transition}
use Rattle.rule_kind.specs.declared.Kind.{Kind}
use Rattle.rule_kind.specs.Kinds.{rule_of, cost_in, CostIs}
use Rattle.rule_kind.specs.Steps.{has_move, w_departure_of}
use Rattle.rule_kind.specs.StepsLaws.{w-departure-most}
use Rattle.signed.specs.TermsLaws.{minus-small}
use Rattle.remainders.specs.Remainders.{AllZero}
use Rattle.remainders.specs.Nonzero.{Became}
use Rattle.remainders.specs.NonzeroLaws.{counted-zero}
use Rattle.remainders.specs.Moving.{added, arrived, Room, CanAdd, CanMove}
use Rattle.remainders.specs.MovingLaws.{room-zero, room-fewer, added-room, arrived-room}
use Rattle.entries_k.specs.Taking.{took_ks, k_sum, cost_of_k, most_ks, CanTakeKs, GoodKs}
use Rattle.entries_k.specs.declared.Taken.{Taken}
use Rattle.entries_w.specs.Matching.{took_vs, took_us, most_ws, CanTakeWs, GoodWs}
use Rattle.entries_w.specs.declared.Matched.{Matched}
use Rattle.equations.specs.Differences.{cost_left, cost_right, verdict_of}
use Rattle.equations.specs.Decided.{decided}
use Rattle.equations.specs.EquationsLaws.{Ended, ended, verdict-is, verdict-zeros}
use Rattle.flow.specs.FlowJudged.{flow_changes, CanJudge, FlowJudged}
use Rattle.flow.specs.FlowLaws.{head-ends, k-refused, count-missing, ws-missing, w-refused, past-ws, refused}
use Rattle.flow.specs.declared.Head.{Head}

-- zero remainders have room for a flow
room-for-flow : {remainders : List ℤ} → AllZero remainders → Room remainders flow_changes
room-for-flow z = room-zero z (omega arith)

module _ {kind : Kind} {s C : List ℕ} {n count : ℕ} {places : List ℕ} {q t at : ℕ} {head : Head} {remainders target : List ℤ} (known : Known s n count places) (j : CanJudge kind s C n count q t at head remainders target) where
  pub can-give : CanAdd remainders t 1 (pos head.d) 0
  can-give =
      let inside : t < sizes.remainders = omega (arith, j.defender, few-states known) in
      record {
        table = counted-zero j.zeros;
        inside = inside;
        fits = record { room = omega (arith, (room-for-flow j.zeros).small t inside); small = j.read.small };
      }

  pub can-ask : CanMove s places q (neg_ℤ (pos head.d)) 0 target 0
  can-ask =
      record {
        known = known-transition known j.challenger;
        small = minus-small head.d _ j.read.small;
        layer = omega arith;
        table = counted-zero j.target_zeros;
        room = room-fewer (omega arith) (room-for-flow j.target_zeros);
      }

  module _ {given : List ℤ} {made : ℕ} (gave : Became (added remainders t 1 (pos head.d)) given made) where
    given-room : Room given (2 * most_ks + most_ws)
    given-room =
        subst (λ (x : List ℤ). Room x (2 * most_ks + most_ws)) (sym gave.same)
        (added-room _ _ _ j.zeros.size (omega arith) j.read.small (room-for-flow j.zeros))

    pub can-take-ks : CanTakeKs kind s C head.first.at head.entries given made
    can-take-ks =
        record {
          stands = j.rule;
          whole = omega (arith, head-ends j.read, j.stands.whole);
          table = gave.counted;
          room = room-fewer (omega arith) given-room;
        }

module _ {kind : Kind} {s C : List ℕ} {n count q t at : ℕ} {head : Head} {remainders target : List ℤ} (j : CanJudge kind s C n count q t at head remainders target) where
  all-ks : {z : rules.Fault} → z ≡ k_fault (rule_of kind s) (automaton_in s) C q t head.entries head.first.at 0 → z ≡ k_fault (rule_of kind s) (automaton_in s) C q t (k_count_at C at) (at + 8) 0
  all-ks e =
      e
      ∙ ap (λ (m : ℕ). k_fault (rule_of kind s) (automaton_in s) C q t m head.first.at 0) j.read.entries
      ∙ ap (λ (p : ℕ). k_fault (rule_of kind s) (automaton_in s) C q t (k_count_at C at) p 0) j.read.first

  -- a k entry is at fault
  pub ks-stop : {f : Fields} {rows : List ℕ} {rest aim : List ℤ} {z : rules.Fault} {y : Fault} → FieldsOf s q f → ((q : ℕ) → f.action ≡ (automaton_in s).action q → fault 19 ≡ k_fault (rule_of kind s) (automaton_in s) C q t head.entries head.first.at 0) → z ≡ fault 19 → PlacedAt z at y → FlowJudged (rule_of kind s) s C n rows q t at rest aim (Err y)
  ks-stop d bad e p =
      refused e p (λ R h. k-refused (rule_of kind s) (automaton_in s) R q t j.stands (all-ks (bad q d.action)) (λ z. omega arith))

-- what is known once the k entries are taken, for a challenger of these fields
pub record KsTaken (kind : Kind) (s C : List ℕ) (n q t at : ℕ) (head : Head) (target : List ℤ) (f : Fields) (after : List ℤ) (k : Taken) : Type 0 where
  pub count : ℕ
  pub places : List ℕ
  pub remainders : List ℤ
  pub known : Known s n count places
  pub can : CanJudge kind s C n count q t at head remainders target
  pub fields : FieldsOf s q f
  pub given : List ℤ
  pub made : ℕ
  pub gave : Became (added remainders t 1 (pos head.d)) given made
  pub took : GoodKs (rule_of kind s) (cost_in kind s) s C f.action t head.first.at head.entries given after k

pub ks-taken : {kind : Kind} {s C : List ℕ} {n count : ℕ} {places : List ℕ} {q t at : ℕ} {head : Head} {remainders target : List ℤ} {f : Fields} {given after : List ℤ} {made : ℕ} {k : Taken} → Known s n count places → CanJudge kind s C n count q t at head remainders target → FieldsOf s q f → Became (added remainders t 1 (pos head.d)) given made → GoodKs (rule_of kind s) (cost_in kind s) s C f.action t head.first.at head.entries given after k → KsTaken kind s C n q t at head target f after k
ks-taken {count = count} {places} {remainders = remainders} {given = given} {made = made} known j d gave took =
    record { count = count; places = places; remainders = remainders; known = known; can = j; fields = d; given = given; made = made; gave = gave; took = took }

-- and once the w count is read
pub record CountRead (kind : Kind) (s C : List ℕ) (n q t at : ℕ) (head : Head) (target : List ℤ) (f : Fields) (after : List ℤ) (k : Taken) (w : Field) : Type 0 where
  pub ks : KsTaken kind s C n q t at head target f after k
  pub read : field.Taken C two_at k.next.at 2 65536 w
  pub there : k.next.at + 2 ≤ length C

pub count-read : {kind : Kind} {s C : List ℕ} {n q t at : ℕ} {head : Head} {target : List ℤ} {f : Fields} {after : List ℤ} {k : Taken} {w : Field} → KsTaken kind s C n q t at head target f after k → field.Taken C two_at k.next.at 2 65536 w → k.next.at + 2 ≤ length C → CountRead kind s C n q t at head target f after k w
count-read ks read there = record { ks = ks; read = read; there = there }

-- and once the w entries are whole, and the targets ask what they ask
pub record TargetsAsk (kind : Kind) (s C : List ℕ) (n q t at : ℕ) (head : Head) (target : List ℤ) (f : Fields) (after : List ℤ) (k : Taken) (w : Field) (first : ℕ) (asked : List ℤ) (wanted : ℕ) : Type 0 where
  pub count : CountRead kind s C n q t at head target f after k w
  pub whole : w.next.at + 6 * w.value ≤ length C
  pub first-is : first ≡ w_departure_of kind f.action
  pub ask : Became (arrived (entries_of s q) (neg_ℤ (pos head.d)) 0 target) asked wanted

pub targets-ask : {kind : Kind} {s C : List ℕ} {n q t at : ℕ} {head : Head} {target : List ℤ} {f : Fields} {after : List ℤ} {k : Taken} {w : Field} {first : ℕ} {asked : List ℤ} {wanted : ℕ} → CountRead kind s C n q t at head target f after k w → w.next.at + 6 * w.value ≤ length C → first ≡ w_departure_of kind f.action → Became (arrived (entries_of s q) (neg_ℤ (pos head.d)) 0 target) asked wanted → TargetsAsk kind s C n q t at head target f after k w first asked wanted
targets-ask count whole first-is ask = record { count = count; whole = whole; first-is = first-is; ask = ask }

module _ {kind : Kind} {s C : List ℕ} {n q t at : ℕ} {head : Head} {target : List ℤ} {f : Fields} {after : List ℤ} {k : Taken} where
  module _ (g : KsTaken kind s C n q t at head target f after k) where
    passed : Passes (k_fault (rule_of kind s) (automaton_in s) C q t (k_count_at C at) (at + 8) 0)
    passed = pass_on (all-ks g.can refl) (g.took.passed q g.fields.action)

    middle : k.next.at ≡ after_k C at
    middle = g.took.next ∙ head-ends g.can.read

    pub middle-inside : k.next.at ≤ length C
    middle-inside = omega (arith, middle, g.can.stands.whole)

    pub count_cut : {rows : List ℕ} {rest aim : List ℤ} {z : rules.Fault} {y : Fault} → z ≡ fault 11 → PlacedAt z at y → length C < k.next.at + 2 → FlowJudged (rule_of kind s) s C n rows q t at rest aim (Err y)
    count_cut e p l =
        refused e p (λ R h. count-missing (rule_of kind s) (automaton_in s) R q t g.can.stands passed (omega (arith, middle)))

  -- the w count
  module _ {w : Field} where
    module _ (g : CountRead kind s C n q t at head target f after k w) where
      counted : w.value ≡ w_count_at C at
      unfolding w_count_at
      counted = taken_at g.read _ (middle g.ks)

      start : w.next.at ≡ after_k C at + 2
      start = omega (arith, g.read.next, middle g.ks)

      ws-end : w.next.at + 6 * w.value ≡ after_flow C at
      unfolding after_flow
      ws-end = omega (arith, counted, start)

      count-there : after_k C at + 2 ≤ length C
      count-there = omega (arith, middle g.ks, g.there)

      pub ws-cut : {rows : List ℕ} {rest aim : List ℤ} {z : rules.Fault} {y : Fault} → z ≡ fault 11 → PlacedAt z at y → length C < w.next.at + 6 * w.value → FlowJudged (rule_of kind s) s C n rows q t at rest aim (Err y)
      ws-cut e p l =
          refused e p (λ R h. ws-missing (rule_of kind s) (automaton_in s) R q t g.ks.can.stands (passed g.ks) count-there (omega (arith, ws-end)))

    module _ {first : ℕ} {asked : List ℤ} {wanted : ℕ} (g : TargetsAsk kind s C n q t at head target f after k w first asked wanted) where
      abbrev known : Known s n g.count.ks.count g.count.ks.places
      known = g.count.ks.known

      abbrev j : CanJudge kind s C n g.count.ks.count q t at head g.count.ks.remainders target
      j = g.count.ks.can

      abbrev ks : GoodKs (rule_of kind s) (cost_in kind s) s C f.action t head.first.at head.entries g.count.ks.given after k
      ks = g.count.ks.took

      pub can-take-ws : CanTakeWs C w.next.at w.value n f.denominator first after k.nonzero asked wanted
      can-take-ws =
          record {
            whole = g.whole;
            few = few-states known;
            light = g.count.ks.fields.small;
            layer = omega (arith, g.first-is, w-departure-most kind f.action);
            table = ks.became.counted;
            room = ks.room most_ws (given-room known j g.count.ks.gave);
            target_table = g.ask.counted;
            target_room = subst (λ (x : List ℤ). Room x most_ws) (sym g.ask.same) (arrived-room (can-ask known j) (room-fewer (omega arith) (room-for-flow j.target_zeros)));
          }

      flow-whole : after_flow C at ≤ length C
      flow-whole = omega (arith, ws-end g.count, g.whole)

      -- the w entries
      all-ws : (R : Pairs) {z : rules.Fault} → z ≡ w_fault (automaton_in s) C R w.value w.next.at 0 → z ≡ w_fault (automaton_in s) C R (w_count_at C at) (after_k C at + 2) 0
      all-ws R e =
          e
          ∙ ap (λ (x : ℕ). w_fault (automaton_in s) C R x w.next.at 0) (counted g.count)
          ∙ ap (λ (p : ℕ). w_fault (automaton_in s) C R (w_count_at C at) p 0) (start g.count)

      pub ws-stop : {rows : List ℕ} {rest aim : List ℤ} {z : rules.Fault} {y : Fault} → ((A : Automaton) (R : Pairs) → A.states ≡ n → HoldsPairs n R rows → fault 19 ≡ w_fault A C R w.value w.next.at 0) → z ≡ fault 19 → PlacedAt z at y → FlowJudged (rule_of kind s) s C n rows q t at rest aim (Err y)
      ws-stop bad e p =
          refused e p
          (λ R h.
          w-refused (rule_of kind s) (automaton_in s) R q t j.stands (passed g.count.ks) (count-there g.count) flow-whole
          (all-ws R (bad (automaton_in s) R (known-states known) h)) (λ z. omega arith))

      -- the remainders after them
      module _ {rows : List ℕ} {rest aim : List ℤ} {m : Matched} (ws : GoodWs C w.next.at w.value n rows f.denominator first after rest asked aim m) where
        rest-is : rest ≡ took_vs C (w_departure_of kind ((automaton_in s).action q)) (w_count_at C at) (after_k C at + 2) (took_ks s C (k_count_at C at) (at + 8) (added g.count.ks.remainders t 1 (pos (four_at C (at + 2)))))
        rest-is =
            ws.became.same
            ∙ ap (λ (x : ℕ). took_vs C x w.value w.next.at after) (g.first-is ∙ ap (w_departure_of kind) g.count.ks.fields.action)
            ∙ ap (λ (x : ℕ). took_vs C (w_departure_of kind ((automaton_in s).action q)) x w.next.at after) (counted g.count)
            ∙ ap (λ (x : ℕ). took_vs C (w_departure_of kind ((automaton_in s).action q)) (w_count_at C at) x after) (start g.count)
            ∙ ap (took_vs C (w_departure_of kind ((automaton_in s).action q)) (w_count_at C at) (after_k C at + 2))
            (ks.became.same
            ∙ ap (λ (x : ℕ). took_ks s C x head.first.at g.count.ks.given) j.read.entries
            ∙ ap (λ (x : ℕ). took_ks s C (k_count_at C at) x g.count.ks.given) j.read.first
            ∙ ap (took_ks s C (k_count_at C at) (at + 8)) (g.count.ks.gave.same ∙ ap (λ (x : ℕ). added g.count.ks.remainders t 1 (pos x)) j.read.d))

        aim-is : aim ≡ took_us C ((automaton_in s).denominator q) (w_count_at C at) (after_k C at + 2) (arrived (entries_of s q) (neg_ℤ (pos (four_at C (at + 2)))) 0 target)
        aim-is =
            ws.target_became.same
            ∙ ap (λ (x : ℕ). took_us C x w.value w.next.at asked) g.count.ks.fields.denominator
            ∙ ap (λ (x : ℕ). took_us C ((automaton_in s).denominator q) x w.next.at asked) (counted g.count)
            ∙ ap (λ (x : ℕ). took_us C ((automaton_in s).denominator q) (w_count_at C at) x asked) (start g.count)
            ∙ ap (took_us C ((automaton_in s).denominator q) (w_count_at C at) (after_k C at + 2))
            (g.ask.same ∙ ap (λ (x : ℕ). arrived (entries_of s q) (neg_ℤ (pos x)) 0 target) j.read.d)

        -- what was paid, and what is owed
        paid-is : k.paid ≡ cost_left (automaton_in s) C q t at (cost_in kind s)
        unfolding cost_left
        paid-is =
            ks.paid
            ∙ ap (λ (x : ℕ). k_sum C (cost_of_k (cost_in kind s) (automaton_in s)) x head.first.at) j.read.entries
            ∙ ap (k_sum C (cost_of_k (cost_in kind s) (automaton_in s)) (k_count_at C at)) j.read.first

        owed-is : {cost : ℕ} → CostIs kind s q cost → cost * head.d ≡ cost_right (automaton_in s) C q t at (cost_in kind s)
        unfolding cost_right
        owed-is c = ap (λ (x : ℕ). x * head.d) c.is ∙ ap (λ (x : ℕ). cost_in kind s q * x) j.read.d

        -- the equations' fault is the flow's
        flow-is : {cost : ℕ} → CostIs kind s q cost → (R : Pairs) → HoldsPairs n R rows → verdict_of n rest m.nonzero aim m.target k.paid (cost * head.d) ≡ flow_fault (rule_of kind s) (automaton_in s) C R q t at
        flow-is c R h =
            let no_k = passed g.count.ks in
            let no_w = pass_on (all-ws R refl) (ws.passed (automaton_in s) R (known-states known) h) in
            let all = ended kind known C R q t at j.challenger j.defender no_k no_w j.zeros j.target_zeros in
            let here = subst₂ (Ended (has_move kind ((automaton_in s).action q)) (automaton_in s) C n q t at) (sym rest-is) (sym aim-is) all in
            past-ws (rule_of kind s) (automaton_in s) R q t j.stands no_k (count-there g.count) flow-whole no_w
            (verdict-is (known-states known) (few-states known) here (decided kind s (automaton_in s) C R q t at (omega (arith, j.defender, known-states known)) no_k no_w) ws.became.counted ws.target_became.counted paid-is (owed-is c))

        pub breaks : {cost : ℕ} → CostIs kind s q cost → {T : Type 0} {x : Fault} → Placed {T = T} (verdict_of n rest m.nonzero aim m.target k.paid (cost * head.d)) at (Err x) → FlowJudged (rule_of kind s) s C n rows q t at rest aim (Err x)
        breaks c p = record { is = λ R h. p.is ∙ flow-is c R h; place = p.at; passed = tt }

        pub balances : {cost : ℕ} → CostIs kind s q cost → {T : Type 0} {x : T} → Placed (verdict_of n rest m.nonzero aim m.target k.paid (cost * head.d)) at (Ok x) → FlowJudged (rule_of kind s) s C n rows q t at rest aim (Ok m.next)
        balances {cost} c p =
            record {
              is = λ R h. p.is ∙ flow-is c R h;
              place = tt;
              passed =
                  record {
                    next = ws.next ∙ ws-end g.count;
                    inside = flow-whole;
                    zeros = verdict-zeros n k.paid (cost * head.d) ws.became.counted ws.target_became.counted (pass_on p.is refl);
                  };
            }
