-- Laws of the loops over the flows: the one that looks for a k too large, and the one that writes.
use Rattle.std.specs.Prelude.{ℕ, suc, ◌+◌, ◌*◌, ◌-◌, ◌≤◌, ◌<◌, ◌≡◌, true, false, take, get_or}
use Rattle.std.proofs.Math.Path.{refl, sym, ap, ap₂}
use Rattle.std.proofs.Common.{◌∙◌, subst, length-take-le, arith}
use mathlib.Core.List.{List, [], ◌∷◌, map}
use Rattle.std.proofs.Math.ListN.{length}
use Rattle.std.proofs.lemmas.List.{length-map}
use Rattle.bisimulation.proofs.argument.ChoiceLaws.{is_true, is_false}
use Rattle.rules.specs.definitions.Bytes.{two_at}
use Rattle.rules.specs.definitions.Model.{Model}
use Rattle.rules.specs.definitions.SoundModel.{Each}
use Rattle.rules.specs.definitions.Faults.{fault}
use Rattle.rules.specs.definitions.Certificate.{after_flow}
use Rattle.rules.specs.definitions.Encoding.{KEntry, FlowRecord, list_bytes, flow_bytes}
use Rattle.rules.specs.definitions.CertificateAt.{flow_record_at, flows_from}
use Rattle.rules.specs.definitions.Answers.{Outcome, refusal_in, unwritten}
use Rattle.rules.proofs.argument.FlowRecords.{length-flow, flow-after}
use Rattle.rules.proofs.argument.CertificateStands.{fill_begins}
use Rattle.rewriting.specs.definitions.Rewritten.{divisor_at, rewritten_k, rewritten_flow}
use Rattle.rewriting.specs.definitions.RewriteAnswer.{passes_k, refuse_large}
use Rattle.field.specs.declared.Field.{Field}
use Rattle.field.specs.Taken.{Taken}
use Rattle.writer.specs.Appends.{Appends}
use Rattle.writer.specs.AppendsLaws.{append-none, append-more}
use Rattle.rewritten_flows.specs.Flows.{multiplied_k, multiplied_ks, multiplied_flow, KsReady, FlowFits, FlowsLeft, FlowsStand, TableOf, LargeAt, NoneLarge, FlowsFit, FlowsWritten}
use Rattle.rewritten_flows.specs.FlowLaws.{flow-inside, behind-read, ks-read, large-read, end_read, after_k-inside, after_k-above, FlowFound, flow-found, left-next, left-some, left-none, flow-ready, flow-fits}

-- the table's divisors are the model's
module _ (N : Model) (table : List ℕ) {count : ℕ} (held : (r : ℕ) → r < count → get_or table r 0 ≡ divisor_at N r) where
  ks-rewritten : (es : List KEntry) → Each (λ (e : KEntry). e.transition < count) es → map (multiplied_k table) es ≡ map (rewritten_k N) es
  unfolding multiplied_k rewritten_k Each
  ks-rewritten [] named = refl
  ks-rewritten (e ∷ es) named =
      ap₂ (λ (x : ℕ) (l : List KEntry). record { layer = e.layer; transition = e.transition; k = e.k * x } ∷ l) (held e.transition named.0) (ks-rewritten es named.1)

  pub flow-rewritten : (f : FlowRecord) → Each (λ (e : KEntry). e.transition < count) f.ks → multiplied_flow table f ≡ rewritten_flow N f
  unfolding multiplied_flow rewritten_flow
  flow-rewritten f named = ap (λ (es : List KEntry). record { D = f.D; ks = es; ws = f.ws }) (ks-rewritten f.ks named)

-- the first flow at a place, or none
module _ {table C : List ℕ} {at : ℕ} where
  table-next : {N : Model} (left : ℕ) → TableOf N C table (suc left) at → TableOf N C table left (after_flow C at)
  unfolding flows_from Each
  table-next left t = record { count = t.count; held = t.held; named = t.named.1 }

  same-large : (N : Model) (left : ℕ) → TableOf N C table (suc left) at → passes_k (rewritten_flow N (flow_record_at C at)).ks ≡ passes_k (multiplied_flow table (flow_record_at C at)).ks
  unfolding flows_from Each
  same-large N left t = ap (λ (f : FlowRecord). passes_k f.ks) (sym (flow-rewritten N table t.held (flow_record_at C at) t.named.0))

  module _ (below : at < length C) where
    refused-here : passes_k (multiplied_flow table (flow_record_at C at)).ks ≡ true → (N : Model) (before : List (List ℕ)) (next : Outcome) (left : ℕ) → TableOf N C table (suc left) at → refuse_large N C before (suc left) at next ≡ unwritten (refusal_in (fault 35) 2 at (length C)) before
    unfolding refuse_large
    refused-here large N before next left t = sym (is_true (refuse_large N C before left (after_flow C at) next) (same-large N left t ∙ large) refl)

    passed_here : passes_k (multiplied_flow table (flow_record_at C at)).ks ≡ false → (N : Model) (before : List (List ℕ)) (next : Outcome) (left : ℕ) → TableOf N C table (suc left) at → refuse_large N C before (suc left) at next ≡ refuse_large N C before left (after_flow C at) next
    unfolding refuse_large
    passed_here small N before next left t = sym (is_false (unwritten (refusal_in (fault 35) 2 at (length C)) before) (same-large N left t ∙ small) refl)

    first-here : passes_k (multiplied_flow table (flow_record_at C at)).ks ≡ true → LargeAt table C at at
    first-here large =
        record {
          inside = below;
          large = λ left f N t before next.
              left-some (λ (n : ℕ). TableOf N C table n at → refuse_large N C before n at next ≡ unwritten (refusal_in (fault 35) 2 at (length C)) before) left f below
              (λ n g. refused-here large N before next n) t;
        }

    module _ (small : passes_k (multiplied_flow table (flow_record_at C at)).ks ≡ false) where
      large-later : {r : ℕ} → LargeAt table C (after_flow C at) r → LargeAt table C at r
      large-later {r} h =
          record {
            inside = h.inside;
            large = λ left f N t before next.
                left-some (λ (n : ℕ). TableOf N C table n at → refuse_large N C before n at next ≡ unwritten (refusal_in (fault 35) 2 r (length C)) before) left f below
                (λ n g u. passed_here small N before next n u ∙ h.large n (left-next n at g) N (table-next n u) before next) t;
          }

      none-later : NoneLarge table C (after_flow C at) → NoneLarge table C at
      unfolding flows_from Each
      none-later h =
          record {
            none = λ left f N t before next.
                left-some (λ (n : ℕ). TableOf N C table n at → refuse_large N C before n at next ≡ next) left f below
                (λ n g u. passed_here small N before next n u ∙ h.none n (left-next n at g) N (table-next n u) before next) t;
            fit = λ left f.
                left-some (λ (n : ℕ). Each (λ (x : FlowRecord). passes_k (multiplied_flow table x).ks ≡ false) (flows_from C n at)) left f below
                (λ n g. (small, h.fit n (left-next n at g)));
          }

  none-past : length C ≤ at → NoneLarge table C at
  unfolding refuse_large flows_from Each
  none-past past =
      record {
        none = λ left f N t before next. left-none (λ (n : ℕ). refuse_large N C before n at next ≡ next) left f past refl;
        fit = λ left f. left-none (λ (n : ℕ). Each (λ (x : FlowRecord). passes_k (multiplied_flow table x).ks ≡ false) (flows_from C n at)) left f past tt;
      }

-- what is known before each flow that is looked at: some number of them is left, and what is found from here on is what was asked for
pub record Searching (C table : List ℕ) (start at : ℕ) : Type 0 where
  pub stand : FlowsStand C table at
  pub large : (r : ℕ) → LargeAt table C at r → LargeAt table C start r
  pub none : NoneLarge table C at → NoneLarge table C start

pub search-start : {C table : List ℕ} {start : ℕ} → FlowsStand C table start → Searching C table start start
search-start h = record { stand = h; large = λ r f. f; none = λ f. f }

module _ {C table : List ℕ} {start at : ℕ} (s : Searching C table start at) where
  pub search-inside : at ≤ length C
  search-inside = fill_begins C s.stand.left at s.stand.flows.fill

  pub search-end : length C ≤ at → NoneLarge table C start
  search-end past = s.none (none-past past)

  module _ (below : at < length C) where
    found : FlowFound C at
    found = flow-found s.stand.left s.stand.flows below

    pub search-first : at + 8 ≤ length C
    search-first = omega (arith, flow-inside found.stand, after_k-inside C at, after_k-above C at)

    module _ {place : ℕ} {p : Field} (t : Taken C two_at place 2 65536 p) (e : place ≡ at + 6) where
      pub search-asks : KsReady C table p.value p.next.at
      search-asks = ks-read at t e (KsReady C table) (flow-ready found s.stand.divisors)

      pub search-behind : at + 8 + 7 * p.value + 2 ≤ length C
      search-behind = omega (arith, behind-read at t e, flow-inside found.stand, after_k-inside C at)

      pub search-large : true ≡ passes_k (multiplied_ks table C p.value p.next.at) → LargeAt table C start at
      search-large large = s.large at (first-here below (large-read at t e table large))

      module _ {later : ℕ} {q : Field} (u : Taken C two_at later 2 65536 q) (f : later ≡ at + 8 + 7 * p.value) where
        end_is : at + 8 + 7 * p.value + 2 + 6 * q.value ≡ after_flow C at
        end_is = ap (λ (n : ℕ). n + 2 + 6 * q.value) (behind-read at t e) ∙ end_read at u (f ∙ behind-read at t e)

        pub search-past : at + 8 + 7 * p.value + 2 + 6 * q.value ≤ length C
        search-past = omega (arith, end_is, flow-inside found.stand)

        pub search-turn : false ≡ passes_k (multiplied_ks table C p.value p.next.at) → Searching C table start (at + 8 + 7 * p.value + 2 + 6 * q.value)
        search-turn few =
            let small = large-read at t e table few in
            subst (Searching C table start) (sym end_is)
            (left-some (λ (n : ℕ). Searching C table start (after_flow C at)) s.stand.left s.stand.flows below
            (λ n g.
            record {
              stand = record { divisors = s.stand.divisors; left = n; flows = left-next n at g };
              large = λ r h. s.large r (large-later below small h);
              none = λ h. s.none (none-later below small h);
            }))

-- the flows left are written behind what stands before them
pub record FlowsAppended (table C : List ℕ) (at : ℕ) (before after : List ℕ) : Type 0 where
  pub flows : (left : ℕ) → FlowsLeft C left at → Appends (list_bytes flow_bytes (map (multiplied_flow table) (flows_from C left at))) at before after (length C)

-- what is known before each flow that is written, at its own place
pub record Writing (C table : List ℕ) (start : ℕ) (before : List ℕ) (at : ℕ) (out : List ℕ) : Type 0 where
  pub fits : FlowsFit C table at
  pub room : length C ≤ length out
  pub size : length out ≡ length before
  pub rest : (after : List ℕ) → FlowsAppended table C at out after → FlowsAppended table C start before after

multiplied-length : (table : List ℕ) (f : FlowRecord) → length (flow_bytes (multiplied_flow table f)) ≡ length (flow_bytes f)
unfolding multiplied_flow
multiplied-length table f = omega (arith, length-flow f, length-flow (multiplied_flow table f), length-map f.ks (multiplied_k table))

-- the flows begin inside the file
pub start-inside : {C table : List ℕ} {start : ℕ} → FlowsFit C table start → start ≤ length C
start-inside {C} {start = start} h = fill_begins C h.stand.left start h.stand.flows.fill

pub start-length : {C table : List ℕ} {start : ℕ} → FlowsFit C table start → length (take start C) ≡ start
start-length {C} {start = start} h = length-take-le start C (start-inside h)

module _ {C table : List ℕ} where
  -- what stands before the flows is written first
  module _ {start next : ℕ} {before out : List ℕ} (h : FlowsFit C table start) (a : Appends (take start C) 0 before out next) where
    next-is : next ≡ start
    next-is = omega (arith, a.place, start-length h)

    pub writing_start : length C ≤ length before → Writing C table next out next out
    writing_start room = record { fits = subst (FlowsFit C table) (sym next-is) h; room = omega (arith, a.size); size = refl; rest = λ after f. f }

    pub file-written : {after : List ℕ} → FlowsAppended table C next out after → FlowsWritten table C start before after
    file-written {after} f =
        let g : FlowsAppended table C start out after = subst (λ (n : ℕ). FlowsAppended table C n out after) next-is f in
        record { file = λ left flows. (append-more (subst (Appends (take start C) 0 before out) next-is a) (g.flows left flows)).written }

  module _ {start at : ℕ} {before out : List ℕ} (w : Writing C table start before at out) where
    pub writing-end : length C ≤ at → FlowsAppended table C start before out
    unfolding flows_from list_bytes
    writing-end past =
        let e : at ≡ length C = omega (arith, fill_begins C w.fits.stand.left at w.fits.stand.flows.fill) in
        w.rest out
        (record {
          flows = λ left f.
              left-none (λ (n : ℕ). Appends (list_bytes flow_bytes (map (multiplied_flow table) (flows_from C n at))) at out out (length C)) left f past
              (subst (Appends [] at out out) e (append-none out at (omega (arith, w.room))));
        })

    module _ (below : at < length C) where
      pub writing-asks : FlowFits C table at
      unfolding flows_from Each
      writing-asks =
          flow-fits (flow-found w.fits.stand.left w.fits.stand.flows below) w.fits.stand.divisors
          (left-some (λ (n : ℕ). Each (λ (f : FlowRecord). passes_k (multiplied_flow table f).ks ≡ false) (flows_from C n at) → passes_k (multiplied_flow table (flow_record_at C at)).ks ≡ false)
          w.fits.stand.left w.fits.stand.flows below (λ n g f. f.0) w.fits.fit)

      module _ {more : List ℕ} {past : ℕ} (a : Appends (flow_bytes (multiplied_flow table (flow_record_at C at))) at out more past) where
        past_is : past ≡ after_flow C at
        past_is = omega (arith, a.place, multiplied-length table (flow_record_at C at), flow-after C at)

        pub writing-less : length C - past < length C - at
        writing-less = omega (arith, a.place, length-flow (multiplied_flow table (flow_record_at C at)))

        after-flow : Writing C table start before (after_flow C at) more
        unfolding flows_from list_bytes Each
        after-flow =
            record {
              fits =
                  left-some (λ (n : ℕ). Each (λ (f : FlowRecord). passes_k (multiplied_flow table f).ks ≡ false) (flows_from C n at) → FlowsFit C table (after_flow C at))
                  w.fits.stand.left w.fits.stand.flows below
                  (λ n g f. record { stand = record { divisors = w.fits.stand.divisors; left = n; flows = left-next n at g }; fit = f.1 }) w.fits.fit;
              room = omega (arith, w.room, a.size);
              size = a.size ∙ w.size;
              rest = λ after f.
                  w.rest after
                  (record {
                    flows = λ left h.
                        left-some (λ (n : ℕ). Appends (list_bytes flow_bytes (map (multiplied_flow table) (flows_from C n at))) at out after (length C)) left h below
                        (λ n g. append-more (subst (Appends (flow_bytes (multiplied_flow table (flow_record_at C at))) at out more) past_is a) (f.flows n (left-next n at g)));
                  });
            }

        pub writing-turn : Writing C table start before past more
        writing-turn = subst (λ (n : ℕ). Writing C table start before n more) (sym past_is) after-flow
