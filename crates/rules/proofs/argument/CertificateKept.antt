-- Demand 2 of the certificate file: judging accepts it exactly when it is the encoding of a certificate that keeps every rule.
use Prim.Native.Nat.{ℕ, zero, suc, ◌+◌, ◌≤◌, ◌<◌}
use Rattle.std.specs.Prelude.{◌≡◌}
use Rattle.std.proofs.Math.Path.{refl, ap, subst}
use Rattle.std.proofs.Common.{sym, ◌∙◌}
use mathlib.Core.List.{List, [], ◌∷◌, ◌++◌}
use Rattle.std.proofs.Math.ListN.{length, length-append}
use native.Mathlib.Omega.{arith}
use Rattle.bisimulation.proofs.argument.ChoiceLaws.{not_less, same, past_less, kept_same}
use Rattle.bisimulation.specs.definitions.Automaton.{Automaton}
use Rattle.bisimulation.specs.definitions.Pairs.{Pairs, equal_labels, removed}
use Rattle.rules.proofs.argument.AnyRule.{Decides, Narrow}
use Rattle.rules.specs.definitions.Limits.{Limits}
use Rattle.rules.specs.definitions.Bytes.{two_at, two_bytes}
use Rattle.rules.proofs.argument.Standing.{Stands, IsBytes, stands-nothing, stands-all, stands-is, stands-both, stands-first, stands-second, stands_at, mark-stands, after_two, rest-of-two, two_is, length_two}
use Rattle.rules.specs.definitions.Certificate.{FileRule, refutation_count, certificate_head_fault, after_refutation, pairs_after, blocks_at, after_flow}
use Rattle.rules.specs.definitions.Faults.{Fault, fault, Passes, certificate_record}
use Rattle.rules.specs.definitions.Judging.{Judgement, accepted, refused_in, refuse_record_at, Question, questions, judge_flows, judge_blocks, judge_refutations, judge_certificate}
use Rattle.rules.specs.definitions.Encoding.{Refutation, FlowRecord, Certificate, list_bytes, refutation_bytes, blocks_bytes, flow_bytes, certificate_bytes}
use Rattle.rules.specs.definitions.CertificateAt.{refutation_at, flow_record_at, refutations_from, after_refutations, blocks_place, flows_place, flows_from, certificate_at}
use Rattle.rules.specs.definitions.Accepted.{RuleSays, Kept, GoodRefutations, GoodBlocks, GoodFlows, KeepsRules}
use Rattle.rules.proofs.argument.QuestionsLaws.{questions-asked, questions-only}
use Rattle.rules.proofs.argument.RefutationRecords.{refutation-good, refutation-stands, refutation-after, challenger-read, defender-read, after_read, refutation-passes}
use Rattle.rules.proofs.argument.FaultLaws.{none_first, first-none, certificate-refuses, opened, opens, pass_on, pass-if_less}
use Rattle.rules.proofs.argument.BlocksRecord.{blocks-good, blocks-stand, blocks-read, blocks-pass}
use Rattle.rules.proofs.argument.CertificateStands.{FlowsFill}
use Rattle.rules.proofs.argument.FlowRecords.{flow-good, flow-stands, flow-after, flow-end, flow-passes}

-- acceptance is no refusal, so a record before it has no fault
pub not-refused : (blocks : List ℕ) (f : Fault) (file place : ℕ) → accepted blocks ≡ refused_in f file place → ⊥
not-refused blocks f file place e = let z : ◌≡◌ {A = ℕ} 0 1 = cc in omega arith

pub none-refused : (blocks : List ℕ) (f : Fault) (place : ℕ) (next : Judgement) → accepted blocks ≡ refuse_record_at f place next → Passes f × (accepted blocks ≡ next)
unfolding refuse_record_at
none-refused blocks f place next e =
    let k = kept_same next (refused_in f 2 place) f.number 0 (not-refused blocks f 2 place) e in
    (k.0, k.1)

go_on : (blocks : List ℕ) (f : Fault) (place : ℕ) (next : Judgement) → Passes f → accepted blocks ≡ next → accepted blocks ≡ refuse_record_at f place next
unfolding refuse_record_at
go_on blocks f place next e h = same (refused_in f 2 place) e h

module _ (L : Limits) (file : FileRule) (says : RuleSays) (decides : Decides file says) (A : Automaton) (narrow : Narrow A) (C : List ℕ) where
  -- the flows that stand from a place to the file's end
  record FlowsFound (R : Pairs) (xs : List Question) (at : ℕ) (named blocks : List ℕ) : Type 0 where
    pub good : GoodFlows says A R xs (flows_from C (length xs) at)
    pub stand : Stands C at (list_bytes flow_bytes (flows_from C (length xs) at))
    pub last : at + length (list_bytes flow_bytes (flows_from C (length xs) at)) ≡ length C
    pub named-is : named ≡ blocks

  flows-found : IsBytes C → (R : Pairs) (named blocks : List ℕ) (xs : List Question) (at : ℕ) → at ≤ length C → accepted named ≡ judge_flows L file A C R blocks xs at → FlowsFound R xs at named blocks
  unfolding judge_flows list_bytes flows_from
  flows-found b R named blocks [] at inside e =
      let p = past_less (refused_in (fault 22) 2 at) (accepted blocks) at (length C) (not-refused named (fault 22) 2 at) e in
      record { good = GoodFlows.done; stand = stands-nothing C at inside; last = omega (arith, p.0); named-is = let q = p.1 in cc }
  flows-found b R named blocks (x ∷ xs) at inside e =
      let p = none-refused named _ at _ e in
      let stands = flow-stands file says decides A narrow C R x at p.0 b in
      let after = flow-after C at in
      let r = flows-found b R named blocks xs (after_flow C at) (omega (arith, stands.inside)) p.1 in
      let rest = list_bytes flow_bytes (flows_from C (length xs) (after_flow C at)) in
      record {
        good = GoodFlows.flow (flow-good file says decides A narrow C R x at p.0 b) r.good;
        stand = stands-both C at (flow_bytes (flow_record_at C at)) rest stands (stands_at r.stand after);
        last = omega (arith, after, r.last, length-append (flow_bytes (flow_record_at C at)) rest);
        named-is = r.named-is;
      }

  flows-accepted : (R : Pairs) (blocks : List ℕ) (xs : List Question) (fs : List FlowRecord) (at : ℕ) → GoodFlows says A R xs fs → Stands C at (list_bytes flow_bytes fs) → at + length (list_bytes flow_bytes fs) ≡ length C → accepted blocks ≡ judge_flows L file A C R blocks xs at
  unfolding judge_flows list_bytes
  flows-accepted R blocks xs fs at GoodFlows.done h e = not_less _ (omega arith) refl
  flows-accepted R blocks xs fs at (GoodFlows.flow {x = x} {f = f} {xs = more} {fs = rest} g gs) h e =
      let stands = stands-first C at (flow_bytes f) (list_bytes flow_bytes rest) h in
      let after = flow-end file says decides A narrow C R x at f g stands in
      go_on blocks _ at _ (flow-passes file says decides A narrow C R x at f g stands)
      (flows-accepted R blocks more rest (after_flow C at) gs
      (stands_at (stands-second C at (flow_bytes f) (list_bytes flow_bytes rest) h) (sym after))
      (omega (arith, length-append (flow_bytes f) (list_bytes flow_bytes rest))))

  -- the refutations that stand from a place on, and the pairs that they leave
  record RefutationsFound (left : ℕ) (R : Pairs) (at : ℕ) (named : List ℕ) : Type 0 where
    pub pairs : Pairs
    pub good : GoodRefutations says A R (refutations_from file A C left at) pairs
    pub count : length (refutations_from file A C left at) ≡ left
    pub stand : Stands C at (list_bytes refutation_bytes (refutations_from file A C left at))
    pub after : after_refutations file A C left at ≡ at + length (list_bytes refutation_bytes (refutations_from file A C left at))
    pub rest : accepted named ≡ judge_blocks L file A C pairs (after_refutations file A C left at)

  refutations-found : IsBytes C → (named : List ℕ) (left : ℕ) (R : Pairs) (at : ℕ) → at ≤ length C → accepted named ≡ judge_refutations L file A C left R at → RefutationsFound left R at named
  unfolding judge_refutations list_bytes pairs_after refutation_at refutations_from after_refutations
  refutations-found b named zero R at inside e =
      record {
        pairs = R;
        good = GoodRefutations.done;
        count = refl;
        stand = stands-nothing C at inside;
        after = omega arith;
        rest = e;
      }
  refutations-found b named (suc left) R at inside e =
      let p = none-refused named _ at _ e in
      let stands = refutation-stands file says decides A narrow C R at p.0 b in
      let after = refutation-after file says decides A narrow C R at p.0 in
      let x = refutation_at file A C at in
      let r = refutations-found b named left (pairs_after A C R at) (after_refutation file A C at) (omega (arith, stands.inside)) p.1 in
      let rest = list_bytes refutation_bytes (refutations_from file A C left (after_refutation file A C at)) in
      record {
        pairs = r.pairs;
        good = GoodRefutations.refute (refutation-good file says decides A narrow C R at p.0 b) r.good;
        count = ap suc r.count;
        stand = stands-both C at (refutation_bytes x) rest stands (stands_at r.stand after);
        after = omega (arith, after, r.after, length-append (refutation_bytes x) rest);
        rest = r.rest;
      }

  refutations-accepted : (named : List ℕ) (R pairs : Pairs) (xs : List Refutation) (at : ℕ) → GoodRefutations says A R xs pairs → Stands C at (list_bytes refutation_bytes xs) → accepted named ≡ judge_blocks L file A C pairs (at + length (list_bytes refutation_bytes xs)) → accepted named ≡ judge_refutations L file A C (length xs) R at
  unfolding judge_refutations list_bytes pairs_after
  refutations-accepted named R pairs xs at GoodRefutations.done h e = let z : at + 0 ≡ at = omega arith in e ∙ ap (judge_blocks L file A C R) z
  refutations-accepted named R pairs xs at (GoodRefutations.refute {x = x} {xs = rest} g gs) h e =
      let stands = stands-first C at (refutation_bytes x) (list_bytes refutation_bytes rest) h in
      let after = after_read file says decides A narrow C R at x g stands in
      let q = challenger-read file says decides A narrow C R at x g stands in
      let t = defender-read file says decides A narrow C R at x g stands in
      let z : at + length (refutation_bytes x ++ list_bytes refutation_bytes rest) ≡ at + length (refutation_bytes x) + length (list_bytes refutation_bytes rest) =
      omega (arith, length-append (refutation_bytes x) (list_bytes refutation_bytes rest))
      in
      go_on named _ at _ (refutation-passes file says decides A narrow C R at x g stands)
      (refutations-accepted named (removed (A.source x.challenger) x.defender R) pairs rest (at + length (refutation_bytes x)) gs
      (stands-second C at (refutation_bytes x) (list_bytes refutation_bytes rest) h)
      (e ∙ ap (judge_blocks L file A C pairs) z)
      ∙ λ i. judge_refutations L file A C (length rest) (removed (A.source (sym q i)) (sym t i) R) (sym after i))

  -- the blocks and the flows after them
  record BlocksFound (R : Pairs) (at : ℕ) (named : List ℕ) : Type 0 where
    pub is : blocks_at A C at ≡ named
    pub good : GoodBlocks A R named
    pub flows : GoodFlows says A R (questions A named) (flows_from C (length (questions A named)) (at + 2 + A.states))
    pub stand : Stands C at (blocks_bytes named ++ list_bytes flow_bytes (flows_from C (length (questions A named)) (at + 2 + A.states)))
    pub last : at + 2 + A.states + length (list_bytes flow_bytes (flows_from C (length (questions A named)) (at + 2 + A.states))) ≡ length C

  length-blocks_bytes : (blocks : List ℕ) → length (blocks_bytes blocks) ≡ 2 + length blocks
  unfolding blocks_bytes
  length-blocks_bytes blocks = omega arith

  blocks-found : IsBytes C → (R : Pairs) (at : ℕ) (named : List ℕ) → accepted named ≡ judge_blocks L file A C R at → BlocksFound R at named
  unfolding judge_blocks
  blocks-found b R at named e =
      let p = none-refused named _ at _ e in
      let blocks = blocks_at A C at in
      let good = blocks-good A C R at p.0 in
      let stands = blocks-stand A C R at p.0 b in
      let l = length-blocks_bytes blocks in
      let r = flows-found b R named blocks (questions A blocks) (at + 2 + A.states) (omega (arith, good.whole, stands.inside)) p.1 in
      let z : at + 2 + A.states ≡ at + length (blocks_bytes blocks) = omega (arith, good.whole) in
      subst (BlocksFound R at) (sym r.named-is)
      (record {
        is = refl;
        good = good;
        flows = r.good;
        stand = stands-both C at (blocks_bytes blocks) (list_bytes flow_bytes (flows_from C (length (questions A blocks)) (at + 2 + A.states))) stands (stands_at r.stand z);
        last = r.last;
      })

  blocks-accepted : (R : Pairs) (at : ℕ) (named : List ℕ) (fs : List FlowRecord) → GoodBlocks A R named → GoodFlows says A R (questions A named) fs → Stands C at (blocks_bytes named ++ list_bytes flow_bytes fs) → at + length (blocks_bytes named ++ list_bytes flow_bytes fs) ≡ length C → accepted named ≡ judge_blocks L file A C R at
  unfolding judge_blocks
  blocks-accepted R at named fs good flows h e =
      let stands = stands-first C at (blocks_bytes named) (list_bytes flow_bytes fs) h in
      let is_blocks = blocks-read A C R at named good stands in
      let l = length-blocks_bytes named in
      let z : at + length (blocks_bytes named) ≡ at + 2 + A.states = omega (arith, good.whole) in
      go_on named _ at _ (blocks-pass A C R at named good stands)
      (flows-accepted R named (questions A named) fs (at + 2 + A.states) flows
      (stands_at (stands-second C at (blocks_bytes named) (list_bytes flow_bytes fs) h) z)
      (omega (arith, length-append (blocks_bytes named) (list_bytes flow_bytes fs)))
      ∙ ap (λ (bs : List ℕ). judge_flows L file A C R bs (questions A bs) (at + 2 + A.states)) (sym is_blocks))

  record HeadPassed : Type 0 where
    pub mark : two_at C 0 ≡ file.mark
    pub whole : 4 ≤ length C
    pub few : refutation_count C ≤ L.refutations

  head_passed : Passes (certificate_head_fault L file C) → HeadPassed
  unfolding certificate_head_fault
  head_passed e =
      let a = none_first _ _ e in
      let b = opened certificate_record file.mark 4 C 0 certificate-refuses a.0 in
      let d = pass-if_less _ _ _ _ a.1 (omega arith) in
      record { mark = b.marked; whole = b.whole; few = d.0 }

  -- accepted with these blocks, so the certificate that stands in the file is what the file encodes, and keeps every rule
  pub record CertificateStands (blocks : List ℕ) : Type 0 where
    pub encoded : C ≡ certificate_bytes file.mark (certificate_at file A C)
    pub keeps : KeepsRules L says A (certificate_at file A C)
    pub named : (certificate_at file A C).blocks ≡ blocks
    -- its flows stand to the end of the file
    pub last : FlowsFill C (length (questions A blocks)) (flows_place file A C)

  pub certificate-stands : IsBytes C → (blocks : List ℕ) → accepted blocks ≡ judge_certificate L file A C → CertificateStands blocks
  unfolding judge_certificate certificate_bytes refutation_count certificate_at blocks_place flows_place FlowsFill
  certificate-stands b blocks e =
      let p = none-refused blocks _ 0 _ e in
      let head = head_passed p.0 in
      let r = refutations-found b blocks (two_at C 2) (equal_labels A) 4 head.whole p.1 in
      let xs = refutations_from file A C (two_at C 2) 4 in
      let place = after_refutations file A C (two_at C 2) 4 in
      let f = blocks-found b r.pairs place blocks r.rest in
      let named = blocks_at A C place in
      let fs = flows_from C (length (questions A named)) (place + 2 + A.states) in
      let g : BlocksFound r.pairs place named = subst (BlocksFound r.pairs place) (sym f.is) f in
      let tail = list_bytes refutation_bytes xs ++ (blocks_bytes named ++ list_bytes flow_bytes fs) in
      let body : Stands C 4 tail =
      stands-both C 4 (list_bytes refutation_bytes xs) (blocks_bytes named ++ list_bytes flow_bytes fs) r.stand (stands_at g.stand r.after) in
      let whole : Stands C 0 (two_bytes file.mark ++ (two_bytes (length xs) ++ tail)) =
      after_two C 0 file.mark _ (mark-stands C 0 file.mark b (omega (arith, head.whole)) head.mark)
      (after_two C 2 (length xs) _ (mark-stands C 2 (length xs) b (omega (arith, head.whole)) (sym r.count)) body)
      in
      record {
        encoded =
            stands-is C (two_bytes file.mark ++ (two_bytes (length xs) ++ tail)) whole
            (omega (
              arith,
              g.last,
              g.good.whole,
              r.after,
              length-blocks_bytes named,
              length-append (two_bytes file.mark) (two_bytes (length xs) ++ tail),
              length-append (two_bytes (length xs)) tail,
              length-append (list_bytes refutation_bytes xs) (blocks_bytes named ++ list_bytes flow_bytes fs),
              length-append (blocks_bytes named) (list_bytes flow_bytes fs),
              length_two file.mark,
              length_two (length xs),
            ));
        keeps =
            record {
              left = r.pairs;
              few = omega (arith, head.few, r.count);
              refutations = r.good;
              blocks = g.good;
              asked = questions A named;
              is_asked = questions-asked A named;
              flows = g.flows;
            };
        named = f.is;
        last = f.last;
      }

  -- accepted, so kept
  pub accepted-kept : IsBytes C → (blocks : List ℕ) → accepted blocks ≡ judge_certificate L file A C → Kept L says file.mark A C blocks
  accepted-kept b blocks e =
      let s = certificate-stands b blocks e in
      record { certificate = certificate_at file A C; encoded = s.encoded; keeps = s.keeps; named = s.named }

  -- kept, so accepted, where the mark and the limit fit their fields
  pub kept-accepted : file.mark < 65536 → L.refutations < 65536 → (K : Certificate) → C ≡ certificate_bytes file.mark K → KeepsRules L says A K → accepted K.blocks ≡ judge_certificate L file A C
  unfolding judge_certificate certificate_head_fault certificate_bytes refutation_count
  kept-accepted small few K e keeps =
      let tail = list_bytes refutation_bytes K.refutations ++ (blocks_bytes K.blocks ++ list_bytes flow_bytes K.flows) in
      let whole : Stands C 0 (two_bytes file.mark ++ (two_bytes (length K.refutations) ++ tail)) = subst (Stands C 0) e (stands-all C) in
      let second : Stands C 2 (two_bytes (length K.refutations) ++ tail) = rest-of-two C 0 file.mark _ whole in
      let body : Stands C 4 tail = rest-of-two C 2 (length K.refutations) _ second in
      let mark : two_at C 0 ≡ file.mark = two_is C 0 file.mark small (stands-first C 0 (two_bytes file.mark) _ whole) in
      let count : two_at C 2 ≡ length K.refutations = two_is C 2 (length K.refutations) (omega (arith, keeps.few)) (stands-first C 2 (two_bytes (length K.refutations)) _ second) in
      go_on K.blocks _ 0 _
      (pass_on (first-none _ _ (opens certificate_record file.mark 4 C 0 (omega arith) mark (omega (arith, body.inside))) (not_less _ (omega (arith, keeps.few)) refl)) refl)
      (subst (λ (n : ℕ). accepted K.blocks ≡ judge_refutations L file A C n (equal_labels A) 4) (sym count)
      (refutations-accepted K.blocks (equal_labels A) keeps.left K.refutations 4 keeps.refutations
      (stands-first C 4 (list_bytes refutation_bytes K.refutations) _ body)
      (blocks-accepted keeps.left (4 + length (list_bytes refutation_bytes K.refutations)) K.blocks K.flows keeps.blocks (subst (λ (xs : List Question). GoodFlows says A keeps.left xs K.flows) (questions-only A K.blocks keeps.asked keeps.is_asked) keeps.flows)
      (stands-second C 4 (list_bytes refutation_bytes K.refutations) _ body)
      (omega (
        arith,
        ap length e,
        length-append (two_bytes file.mark) (two_bytes (length K.refutations) ++ tail),
        length-append (two_bytes (length K.refutations)) tail,
        length-append (list_bytes refutation_bytes K.refutations) (blocks_bytes K.blocks ++ list_bytes flow_bytes K.flows),
        length_two file.mark,
        length_two (length K.refutations),
      )))))
