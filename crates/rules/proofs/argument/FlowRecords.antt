-- A flow record without fault is the encoding of a flow that keeps document 01's rules, and the other way round.
use Rattle.std.specs.Prelude.{ℕ, zero, suc, ◌+◌, ◌*◌, ◌≤◌, ◌<◌, ◌≡◌, true, List, [], ◌∷◌, ◌++◌, eqb}
use Rattle.std.proofs.Math.Path.{refl, sym, ap, subst, fun_ext}
use Rattle.std.proofs.Common.{◌∙◌, ap₂, subst₂, length-append, arith}
use Rattle.std.proofs.Math.ListN.{length}
use Rattle.bisimulation.specs.definitions.Choice.{if_true, both}
use Rattle.bisimulation.proofs.argument.ChoiceLaws.{less, not_less, not_same, is_true}
use Rattle.bisimulation.specs.definitions.Automaton.{Automaton}
use Rattle.bisimulation.specs.definitions.Pairs.{Pairs}
use Rattle.rules.proofs.argument.AnyRule.{Decides, Narrow}
use Rattle.rules.specs.definitions.Bytes.{byte_at, two_at, three_at, four_at, two_bytes}
use Rattle.rules.proofs.argument.Standing.{Stands, IsBytes, stands-both, stands-first, stands-second, stands-cons, stands-byte, stands-rest, stands_at, mark-stands, after_two, after-four, rest-of-two, rest-of-four, two_is, two-stands, two-small, length_two, length-four, four_is, four-stands, four-small}
use Rattle.rules.specs.definitions.Certificate.{FileRule, k_count_at, after_k, w_count_at, after_flow, k_of, w_of, flow_at, k_fault, w_fault, flow_fault}
use Rattle.rules.specs.definitions.Faults.{Passes, certificate_record}
use Rattle.rules.specs.definitions.Judging.{Question}
use Rattle.rules.specs.definitions.Encoding.{KEntry, WEntry, FlowRecord, four_bytes, list_bytes, k_bytes, w_bytes, flow_bytes, k_in, w_in, flow_of}
use Rattle.rules.specs.definitions.CertificateAt.{entries_from, k_at, w_at, flow_record_at}
use Rattle.rules.specs.definitions.Accepted.{RuleSays, GoodK, GoodW, GoodFlow, k_key, w_key}
use Rattle.rules.proofs.argument.EntryFaults.{passed-k, passed-w}
use Rattle.rules.proofs.argument.EntryLists.{length-entries_from, length-list_bytes, entries-stand, entries-read, entries-good, entries-pass}
use Rattle.rules.proofs.argument.FaultLaws.{none_first, first-none, certificate-refuses, opened, opens, pass_on, pass-if_less, pass-if_same}

-- the k, the w and the flow of a record are those of its entries
k_of-is : (C : List ℕ) (left at layer r : ℕ) → k_of C left at layer r ≡ k_in (entries_from 7 (k_at C) left at) layer r
unfolding k_of k_in entries_from k_at
k_of-is C zero at layer r = refl
k_of-is C (suc left) at layer r =
    ap (if_true (both (eqb (byte_at C at) layer) (eqb (two_at C (at + 1)) r)) (four_at C (at + 3))) (k_of-is C left (at + 7) layer r)

w_of-is : (C : List ℕ) (left at v u : ℕ) → w_of C left at v u ≡ w_in (entries_from 6 (w_at C) left at) v u
unfolding w_of w_in entries_from w_at
w_of-is C zero at v u = refl
w_of-is C (suc left) at v u =
    ap (if_true (both (eqb (byte_at C at) v) (eqb (byte_at C (at + 1)) u)) (four_at C (at + 2))) (w_of-is C left (at + 6) v u)

pub flow-is : (C : List ℕ) (at : ℕ) → flow_at C at ≡ flow_of (flow_record_at C at)
unfolding flow_at flow_of flow_record_at
flow-is C at =
    λ i.
    record {
      D = four_at C (at + 2);
      k = fun_ext (λ layer. fun_ext (λ r. k_of-is C (k_count_at C at) (at + 8) layer r)) i;
      w = fun_ext (λ v. fun_ext (λ u. w_of-is C (w_count_at C at) (after_k C at + 2) v u)) i;
    }

-- the size of an entry
length-k : (e : KEntry) → length (k_bytes e) ≡ 7
unfolding k_bytes
length-k e = ap suc (length-append (two_bytes e.transition) (four_bytes e.k)) ∙ omega (arith, length_two e.transition, length-four e.k)

length-w : (e : WEntry) → length (w_bytes e) ≡ 6
unfolding w_bytes
length-w e = omega (arith, length-four e.w)

-- the bytes of what is read as an entry
k-stands : (C : List ℕ) → IsBytes C → (at : ℕ) → at + 7 ≤ length C → Stands C at (k_bytes (k_at C at))
unfolding k_bytes k_at
k-stands C b at h =
    stands-cons C at _ _ (omega arith) refl
    (after_two C (at + 1) _ _ (two-stands C (at + 1) b (omega arith))
    (stands_at (four-stands C (at + 3) b (omega arith)) (omega arith)))

w-stands : (C : List ℕ) → IsBytes C → (at : ℕ) → at + 6 ≤ length C → Stands C at (w_bytes (w_at C at))
unfolding w_bytes w_at
w-stands C b at h =
    stands-cons C at _ _ (omega arith) refl
    (stands-cons C (at + 1) _ _ (omega arith) refl
    (stands_at (four-stands C (at + 2) b (omega arith)) (omega arith)))

module _ (file : FileRule) (says : RuleSays) (decides : Decides file says) (A : Automaton) (narrow : Narrow A) (C : List ℕ) (R : Pairs) (q t : ℕ) where
  -- what is read where an entry's bytes stand
  k-reads : (at : ℕ) (e : KEntry) → GoodK says A q t e → Stands C at (k_bytes e) → k_at C at ≡ e
  unfolding k_bytes k_at
  k-reads at e g h =
      let tail = stands-rest C at e.layer _ h in
      λ i.
      record {
        layer = stands-byte C at e.layer _ h i;
        transition = two_is C (at + 1) e.transition (omega (arith, g.transition, narrow.transitions)) (stands-first C (at + 1) (two_bytes e.transition) _ tail) i;
        k = four_is C (at + 3) e.k g.fits (stands_at (rest-of-two C (at + 1) e.transition _ tail) (omega arith)) i;
      }

  w-reads : (at : ℕ) (e : WEntry) → GoodW A R e → Stands C at (w_bytes e) → w_at C at ≡ e
  unfolding w_bytes w_at
  w-reads at e g h =
      let second = stands-rest C at e.v _ h in
      λ i.
      record {
        v = stands-byte C at e.v _ h i;
        u = stands-byte C (at + 1) e.u _ second i;
        w = four_is C (at + 2) e.w g.fits (stands_at (stands-rest C (at + 1) e.u _ second) (omega arith)) i;
      }

  -- one entry judged
  k-turn : IsBytes C → (left at lowest : ℕ) → Passes (k_fault file A C q t (suc left) at lowest) → (lowest ≤ k_key (k_at C at)) × GoodK says A q t (k_at C at) × Passes (k_fault file A C q t left (at + 7) (k_key (k_at C at) + 1))
  unfolding k_key k_at three_at
  k-turn b left at lowest e =
      let p = passed-k file A C q t left at lowest e in (
        p.order,
        record {
          layer = b.small at;
          transition = p.transition;
          allowed = (decides.in_question A q t (byte_at C at) (two_at C (at + 1))).0 p.allowed;
          some = p.some;
          fits = four-small C (at + 3) b;
        },
        p.rest,
      )

  k-pass : (left at lowest : ℕ) (e : KEntry) → k_at C at ≡ e → lowest ≤ k_key e → GoodK says A q t e → Passes (k_fault file A C q t left (at + 7) (k_key e + 1)) → Passes (k_fault file A C q t (suc left) at lowest)
  unfolding k_fault k_key k_at three_at
  k-pass left at lowest e r l g h =
      let layer = ap (λ (x : KEntry). x.layer) r in
      let transition = ap (λ (x : KEntry). x.transition) r in
      let k = ap (λ (x : KEntry). x.k) r in
      pass_on
      (not_less _ (omega arith)
      (less _ (omega (arith, g.transition))
      (is_true _ (subst₂ (λ (x y : ℕ). file.in_question A q t x y ≡ true) (sym layer) (sym transition) ((decides.in_question A q t e.layer e.transition).1 g.allowed))
      (less _ (omega (arith, g.some))
      (ap (λ (x : KEntry). k_fault file A C q t left (at + 7) (k_key x + 1)) (sym r))))))
      h

  w-turn : IsBytes C → (left at lowest : ℕ) → Passes (w_fault A C R (suc left) at lowest) → (lowest ≤ w_key (w_at C at)) × GoodW A R (w_at C at) × Passes (w_fault A C R left (at + 6) (w_key (w_at C at) + 1))
  unfolding w_key w_at two_at
  w-turn b left at lowest e =
      let p = passed-w A C R left at lowest e in (
        p.order,
        record { from = p.from; to = p.to; related = p.related; some = p.some; fits = four-small C (at + 2) b },
        p.rest,
      )

  w-pass : (left at lowest : ℕ) (e : WEntry) → w_at C at ≡ e → lowest ≤ w_key e → GoodW A R e → Passes (w_fault A C R left (at + 6) (w_key e + 1)) → Passes (w_fault A C R (suc left) at lowest)
  unfolding w_fault w_key w_at two_at
  w-pass left at lowest e r l g h =
      let v = ap (λ (x : WEntry). x.v) r in
      let u = ap (λ (x : WEntry). x.u) r in
      let w = ap (λ (x : WEntry). x.w) r in
      pass_on
      (not_less _ (omega arith)
      (less _ (omega (arith, g.from))
      (less _ (omega (arith, g.to))
      (is_true _ (ap₂ R v u ∙ g.related)
      (less _ (omega (arith, g.some))
      (ap (λ (x : WEntry). w_fault A C R left (at + 6) (w_key x + 1)) (sym r)))))))
      h

pub length-flow : (f : FlowRecord) → length (flow_bytes f) ≡ 10 + 7 * length f.ks + 6 * length f.ws
unfolding flow_bytes
length-flow f =
    let ws = length-append (two_bytes (length f.ws)) (list_bytes w_bytes f.ws) in
    let ks = length-append (list_bytes k_bytes f.ks) (two_bytes (length f.ws) ++ list_bytes w_bytes f.ws) in
    let count = length-append (two_bytes (length f.ks)) (list_bytes k_bytes f.ks ++ (two_bytes (length f.ws) ++ list_bytes w_bytes f.ws)) in
    let all = length-append (four_bytes f.D) (two_bytes (length f.ks) ++ (list_bytes k_bytes f.ks ++ (two_bytes (length f.ws) ++ list_bytes w_bytes f.ws))) in
    omega (
      arith,
      ws,
      ks,
      count,
      all,
      length-four f.D,
      length_two (length f.ks),
      length_two (length f.ws),
      length-list_bytes KEntry 7 k_bytes length-k f.ks,
      length-list_bytes WEntry 6 w_bytes length-w f.ws,
    )

-- a flow ends where the next record begins
pub flow-after : (C : List ℕ) (at : ℕ) → after_flow C at ≡ at + length (flow_bytes (flow_record_at C at))
unfolding flow_record_at after_flow after_k
flow-after C at =
    omega (
      arith,
      length-flow (flow_record_at C at),
      length-entries_from 7 (k_at C) (k_count_at C at) (at + 8),
      length-entries_from 6 (w_at C) (w_count_at C at) (at + 8 + 7 * k_count_at C at + 2),
    )

-- what a flow without fault tells
module _ (file : FileRule) (A : Automaton) (C : List ℕ) (R : Pairs) (q t at : ℕ) where
  pub record Passed : Type 0 where
    pub mark : two_at C at ≡ 0x464C
    pub some : 1 ≤ four_at C (at + 2)
    pub ks : Passes (k_fault file A C q t (k_count_at C at) (at + 8) 0)
    pub whole : after_flow C at ≤ length C
    pub ws : Passes (w_fault A C R (w_count_at C at) (after_k C at + 2) 0)
    pub equations : Passes (file.equations_fault A q t (flow_at C at))

  pub passed : Passes (flow_fault file A C R q t at) → Passed
  unfolding flow_fault
  passed e =
      let a = none_first _ _ e in
      let b = opened certificate_record 0x464C 8 C at certificate-refuses a.0 in
      let d = pass-if_same _ _ _ _ a.1 (omega arith) in
      let f = pass-if_less _ _ _ _ d.1 (omega arith) in
      let g = none_first _ _ f.1 in
      let h = pass-if_less _ _ _ _ g.1 (omega arith) in
      let i = pass-if_less _ _ _ _ h.1 (omega arith) in
      let j = none_first _ _ i.1 in
      record { mark = b.marked; some = omega (arith, d.0); ks = g.0; whole = i.0; ws = j.0; equations = j.1 }

module _ (file : FileRule) (says : RuleSays) (decides : Decides file says) (A : Automaton) (narrow : Narrow A) (C : List ℕ) (R : Pairs) (x : Question) (at : ℕ) where
  pub flow-good : Passes (flow_fault file A C R x.challenger x.defender at) → IsBytes C → GoodFlow says A R x (flow_record_at C at)
  unfolding flow_record_at k_count_at w_count_at
  flow-good e b =
      let p = passed file A C R x.challenger x.defender at e in
      let ks = entries-good KEntry 7 k_bytes length-k C (k_at C) (GoodK says A x.challenger x.defender) (k-reads file says decides A narrow C R x.challenger x.defender) k_key (k_fault file A C x.challenger x.defender) (k-turn file says decides A narrow C R x.challenger x.defender b) (k_count_at C at) (at + 8) 0 p.ks in
      let ws = entries-good WEntry 6 w_bytes length-w C (w_at C) (GoodW A R) (w-reads file says decides A narrow C R x.challenger x.defender) w_key (w_fault A C R) (w-turn file says decides A narrow C R x.challenger x.defender b) (w_count_at C at) (after_k C at + 2) 0 p.ws in
      record {
        some = p.some;
        fits = four-small C (at + 2) b;
        k_few = subst (λ (n : ℕ). n < 65536) (sym (length-entries_from 7 (k_at C) (k_count_at C at) (at + 8))) (two-small C (at + 6) b);
        ks = ks.0;
        k_order = ks.1;
        w_few = subst (λ (n : ℕ). n < 65536) (sym (length-entries_from 6 (w_at C) (w_count_at C at) (after_k C at + 2))) (two-small C (after_k C at) b);
        ws = ws.0;
        w_order = ws.1;
        equations = (decides.equations A x.challenger x.defender (flow_of (flow_record_at C at))).0 (pass_on (ap (file.equations_fault A x.challenger x.defender) (flow-is C at)) p.equations);
      }

  pub flow-stands : Passes (flow_fault file A C R x.challenger x.defender at) → IsBytes C → Stands C at (flow_bytes (flow_record_at C at))
  unfolding flow_record_at flow_bytes two_bytes after_k after_flow
  flow-stands e b =
      let p = passed file A C R x.challenger x.defender at e in
      let w = p.whole in
      let ks = entries_from 7 (k_at C) (k_count_at C at) (at + 8) in
      let ws = entries_from 6 (w_at C) (w_count_at C at) (after_k C at + 2) in
      after_two C at 0x464C _ (mark-stands C at 0x464C b (omega arith) p.mark)
      (after-four C (at + 2) (four_at C (at + 2)) _ (four-stands C (at + 2) b (omega arith))
      (stands_at
      (after_two C (at + 6) (length ks) _ (mark-stands C (at + 6) (length ks) b (omega arith) k-count)
      (stands_at
      (stands-both C (at + 8) (list_bytes k_bytes ks) _ (entries-stand KEntry 7 k_bytes length-k C (k_at C) (k-stands C b) (k_count_at C at) (at + 8) (omega arith))
      (stands_at
      (after_two C (after_k C at) (length ws) _ (mark-stands C (after_k C at) (length ws) b (omega arith) w-count)
      (entries-stand WEntry 6 w_bytes length-w C (w_at C) (w-stands C b) (w_count_at C at) (after_k C at + 2) (omega arith)))
      after-ks))
      (omega arith)))
      (omega arith)))
    where
      k-count : two_at C (at + 6) ≡ length (entries_from 7 (k_at C) (k_count_at C at) (at + 8))
      k-count = unfold k_count_at in sym (length-entries_from 7 (k_at C) (two_at C (at + 6)) (at + 8))

      w-count : two_at C (after_k C at) ≡ length (entries_from 6 (w_at C) (w_count_at C at) (after_k C at + 2))
      w-count = unfold w_count_at in sym (length-entries_from 6 (w_at C) (two_at C (after_k C at)) (after_k C at + 2))

      after-ks : after_k C at ≡ at + 8 + length (list_bytes k_bytes (entries_from 7 (k_at C) (k_count_at C at) (at + 8)))
      after-ks =
          omega (
            arith,
            length-list_bytes KEntry 7 k_bytes length-k (entries_from 7 (k_at C) (k_count_at C at) (at + 8)),
            length-entries_from 7 (k_at C) (k_count_at C at) (at + 8),
          )

  -- where the encoding of a good flow stands, there is no fault
  module _ (f : FlowRecord) (good : GoodFlow says A R x f) (stands : Stands C at (flow_bytes f)) where
    after-mark : Stands C (at + 2) (four_bytes f.D ++ (two_bytes (length f.ks) ++ (list_bytes k_bytes f.ks ++ (two_bytes (length f.ws) ++ list_bytes w_bytes f.ws))))
    unfolding flow_bytes two_bytes
    after-mark = rest-of-two C at 0x464C _ stands

    after-D : Stands C (at + 6) (two_bytes (length f.ks) ++ (list_bytes k_bytes f.ks ++ (two_bytes (length f.ws) ++ list_bytes w_bytes f.ws)))
    after-D = stands_at (rest-of-four C (at + 2) f.D _ after-mark) (omega arith)

    after-count : Stands C (at + 8) (list_bytes k_bytes f.ks ++ (two_bytes (length f.ws) ++ list_bytes w_bytes f.ws))
    after-count = stands_at (rest-of-two C (at + 6) (length f.ks) _ after-D) (omega arith)

    mark-read : two_at C at ≡ 0x464C
    unfolding flow_bytes two_bytes
    mark-read = two_is C at 0x464C (omega arith) (stands-first C at (0x46 ∷ 0x4C ∷ []) _ stands)

    D-read : four_at C (at + 2) ≡ f.D
    D-read = four_is C (at + 2) f.D good.fits (stands-first C (at + 2) (four_bytes f.D) _ after-mark)

    k-count : k_count_at C at ≡ length f.ks
    unfolding k_count_at
    k-count = two_is C (at + 6) (length f.ks) good.k_few (stands-first C (at + 6) (two_bytes (length f.ks)) _ after-D)

    ks-there : Stands C (at + 8) (list_bytes k_bytes f.ks)
    ks-there = stands-first C (at + 8) (list_bytes k_bytes f.ks) _ after-count

    after-ks : Stands C (after_k C at) (two_bytes (length f.ws) ++ list_bytes w_bytes f.ws)
    unfolding after_k
    after-ks =
        stands_at (stands-second C (at + 8) (list_bytes k_bytes f.ks) _ after-count)
        (omega (arith, length-list_bytes KEntry 7 k_bytes length-k f.ks, k-count))

    w-count : w_count_at C at ≡ length f.ws
    unfolding w_count_at
    w-count = two_is C (after_k C at) (length f.ws) good.w_few (stands-first C (after_k C at) (two_bytes (length f.ws)) _ after-ks)

    ws-there : Stands C (after_k C at + 2) (list_bytes w_bytes f.ws)
    ws-there = rest-of-two C (after_k C at) (length f.ws) _ after-ks

    pub flow-read : flow_record_at C at ≡ f
    unfolding flow_record_at
    flow-read =
        λ i.
        record {
          D = D-read i;
          ks =
              (ap (λ (n : ℕ). entries_from 7 (k_at C) n (at + 8)) k-count
              ∙ entries-read KEntry 7 k_bytes length-k C (k_at C) (GoodK says A x.challenger x.defender) (k-reads file says decides A narrow C R x.challenger x.defender) f.ks (at + 8) good.ks ks-there)
              i;
          ws =
              (ap (λ (n : ℕ). entries_from 6 (w_at C) n (after_k C at + 2)) w-count
              ∙ entries-read WEntry 6 w_bytes length-w C (w_at C) (GoodW A R) (w-reads file says decides A narrow C R x.challenger x.defender) f.ws (after_k C at + 2) good.ws ws-there)
              i;
        }

    pub flow-end : after_flow C at ≡ at + length (flow_bytes f)
    flow-end = flow-after C at ∙ ap (λ (g : FlowRecord). at + length (flow_bytes g)) flow-read

    pub flow-passes : Passes (flow_fault file A C R x.challenger x.defender at)
    unfolding flow_fault
    flow-passes =
        let i = stands.inside in
        let l = flow-end in
        let k = after-ks.inside in
        pass_on
        (first-none _ _ (opens certificate_record 0x464C 8 C at (omega arith) mark-read (omega (arith, length-flow f)))
        (not_same _ (omega (arith, D-read, good.some))
        (not_less _ (omega arith)
        (first-none _ _
        (subst (λ (n : ℕ). Passes (k_fault file A C x.challenger x.defender n (at + 8) 0)) (sym k-count)
        (entries-pass KEntry 7 k_bytes length-k C (k_at C) (GoodK says A x.challenger x.defender) (k-reads file says decides A narrow C R x.challenger x.defender) k_key (k_fault file A C x.challenger x.defender) (λ at lowest. no-ks at lowest) (k-pass file says decides A narrow C R x.challenger x.defender) f.ks (at + 8) 0 good.ks good.k_order ks-there))
        (not_less _ (omega (arith, ws-there.inside))
        (not_less _ (omega arith)
        (first-none _ _
        (subst (λ (n : ℕ). Passes (w_fault A C R n (after_k C at + 2) 0)) (sym w-count)
        (entries-pass WEntry 6 w_bytes length-w C (w_at C) (GoodW A R) (w-reads file says decides A narrow C R x.challenger x.defender) w_key (w_fault A C R) (λ at lowest. no-ws at lowest) (w-pass file says decides A narrow C R x.challenger x.defender) f.ws (after_k C at + 2) 0 good.ws good.w_order ws-there))
        refl)))))))
        ((decides.equations A x.challenger x.defender (flow_at C at)).1
        (subst (says.equations A x.challenger x.defender) (ap flow_of (sym flow-read) ∙ sym (flow-is C at)) good.equations))
      where
        no-ks : (place lowest : ℕ) → Passes (k_fault file A C x.challenger x.defender 0 place lowest)
        no-ks place lowest = unfold k_fault in refl

        no-ws : (place lowest : ℕ) → Passes (w_fault A C R 0 place lowest)
        no-ws place lowest = unfold w_fault in refl
