-- What is known before each refutation record, and before the blocks record, for any step rule.
use Prim.Native.Nat.{ℕ, zero, suc, ◌+◌, ◌-◌, ◌≤◌, ◌<◌}
use Rattle.std.specs.Prelude.{◌≡◌, Bool, true, false, ◌↔◌, List, eqb, length, take, drop, Result, Ok, Err, IfOk, IfErr, ℤ}
use Rattle.std.proofs.Math.Path.{refl, sym, ap, ap₂, subst}
use Rattle.std.proofs.Common.{◌∙◌, eq-eqb, ne_eqb}
use Rattle.std.proofs.Math.ListN.{get_or}
use native.Mathlib.Omega.{arith}
use Rattle.bisimulation.proofs.argument.ChoiceLaws.{false-not}
use Rattle.bisimulation.specs.definitions.Automaton.{Automaton}
use Rattle.bisimulation.specs.definitions.Pairs.{Pairs, equal_labels, removed}
use Rattle.rules.specs.definitions.Limits.{limits}
use Rattle.rules.specs.definitions.Faults as rules
use Rattle.rules.specs.definitions.Faults.{no_fault, certificate_record}
use Rattle.rules.specs.definitions.Certificate.{FileRule, refutation_count, certificate_head_fault, challenger_at, defender_at, after_refutation, refutation_fault, pairs_after, blocks_at, same_block}
use Rattle.rules.specs.definitions.CertificateAt.{after_refutations, blocks_place}
use Rattle.rules.specs.definitions.Judging.{Judgement, refused_in, refuse_record_at, questions, judge_flows, judge_blocks, judge_refutations, judge_certificate}
use Rattle.rules.proofs.argument.BlocksRecord.{blocks-good}
use Rattle.rules.proofs.argument.FaultLaws.{pass_on, none_first, certificate-refuses, opened}
use Rattle.field.specs.declared.Cursor.{Cursor}
use Rattle.fault.specs.declared.Fault.{Fault}
use Rattle.fault.specs.Faults.{fault_of, Placed}
use Rattle.fault.specs.FaultsLaws.{refuses}
use Rattle.pairs.specs.Rows.{HoldsPairs, removed_rows}
use Rattle.pairs.specs.RowsLaws.{holds-removed}
use Rattle.transition.specs.Known.{automaton_in, Known}
use Rattle.transition.specs.KnownLaws.{known-states}
use Rattle.rule_kind.specs.declared.Kind.{Kind}
use Rattle.rule_kind.specs.Kinds.{KindStands}
use Rattle.blocks.specs.Blocks.{BlocksJudged}
use Rattle.refutation.specs.declared.Refuted.{Refuted}
use Rattle.refutation.specs.RefutationJudged.{RefutationJudged}
use Rattle.flows.specs.FlowsJudged.{InFile, Judges, judges, BlocksAgree, JudgesFlows}
use Rattle.rules.proofs.argument.JudgingLaws.{record-stops, record-passes}
use Rattle.certificate.specs.CertificateJudged.{JudgesBlocks}

-- a record's fault refuses at its place
record-refused : {f : rules.Fault} {at : ℕ} (r : Fault) (next : Judgement) → fault_of r ≡ f → r.place ≡ at → refused_in (fault_of r) 2 r.place ≡ refuse_record_at f at next
record-refused {f} {at} r next e place = ap (refused_in (fault_of r) 2) place ∙ record-stops (fault_of r) at next e (refuses r.refusal)

-- what a head without fault tells
pub head-whole : (rule : FileRule) (C : List ℕ) → no_fault ≡ certificate_head_fault limits rule C → 4 ≤ length C
unfolding certificate_head_fault
head-whole rule C e = omega (arith, (opened certificate_record rule.mark 4 C 0 certificate-refuses (none_first _ _ (pass_on e refl)).0).whole)

-- the blocks record at a place
module _ {s C table : List ℕ} {n count : ℕ} (k : Known s n count table) {rows : List ℕ} {at : ℕ} {T : Type 0} where
  pub blocks-stops : (rule : FileRule) {f : Fault} → BlocksJudged {T = T} C at n rows (Err f) → at ≤ length C → JudgesBlocks rule s C n rows at (Err f)
  unfolding judge_blocks
  blocks-stops rule {f} j inside =
      record { answer = λ R h. record-refused f _ (j.is (automaton_in s) (known-states k) R h) j.place; inside = omega (arith, inside, j.place) }

  module _ {v : T} (j : BlocksJudged C at n rows (Ok v)) where
    pub blocks-agree : BlocksAgree C n rows (at + 2)
    unfolding blocks_at same_block
    blocks-agree =
        record { shared = λ R h v u l m. go R (related R h v u l m) (R v u) refl }
      where
        related : (R : Pairs) → HoldsPairs n R rows → (v u : ℕ) → v < n → u < n → (get_or (take n (drop (at + 2) C)) v 0 ≡ get_or (take n (drop (at + 2) C)) u 0) ↔ (R v u ≡ true)
        related R h v u l m =
            subst (λ (k : ℕ). (get_or (take k (drop (at + 2) C)) v 0 ≡ get_or (take k (drop (at + 2) C)) u 0) ↔ (R v u ≡ true)) (known-states k)
            ((blocks-good (automaton_in s) C R at (pass_on (j.is (automaton_in s) (known-states k) R h) refl)).as_related v u (omega (arith, known-states k)) (omega (arith, known-states k)))

        go : (R : Pairs) {x y v u : ℕ} → (x ≡ y) ↔ (R v u ≡ true) → (b : Bool) → R v u ≡ b → eqb x y ≡ R v u
        go R {x} {y} iff true e = eq-eqb x y (iff.1 e) ∙ sym e
        go R {x} {y} iff false e = ne_eqb x y (λ q. false-not (sym e ∙ iff.0 q)) ∙ sym e

    -- the flows may be judged, by the kind that it is
    pub flows-asked : {kind named : Kind} → KindStands kind s → kind ≡ named → (at + 2 + n ≤ length C) × KindStands named s × BlocksAgree C n rows (at + 2)
    flows-asked stands e = (j.inside, subst (λ (x : Kind). KindStands x s) e stands, blocks-agree)

    pub blocks-passes : (rule : FileRule) {r : Result ℕ Fault} → JudgesFlows rule s C n rows (at + 2) r → JudgesBlocks rule s C n rows at r
    unfolding judge_blocks blocks_at
    blocks-passes rule flows =
        record {
          answer = λ R h.
              record-passes at (j.is (automaton_in s) (known-states k) R h) refl
              (flows.answer R h
              ∙ ap (λ (m : ℕ). judge_flows limits rule (automaton_in s) C R (take m (drop (at + 2) C)) (questions (automaton_in s) (take m (drop (at + 2) C))) (at + 2 + m)) (sym (known-states k)));
          inside = flows.inside;
        }

-- the whole file is judged; accepted blocks stand past the two bytes that begin their record
abbrev pub JudgesFile : FileRule → (s C : List ℕ) → ℕ → Result ℕ Fault → Type 0
JudgesFile rule s C n = Judges C n (blocks_place rule (automaton_in s) C + 2) (judge_certificate limits rule (automaton_in s) C)

-- before a refutation, with so many left: the rows hold the pairs left, the rest is judged as all is, and the blocks record stands after it
pub record Refuting (rule : FileRule) (s C : List ℕ) (n : ℕ) (rows : List ℕ) (left at : ℕ) : Type 0 where
  pub pairs : Pairs
  pub held : HoldsPairs n pairs rows
  pub judged : judge_refutations limits rule (automaton_in s) C left pairs at ≡ judge_certificate limits rule (automaton_in s) C
  pub inside : at ≤ length C
  pub ends : after_refutations rule (automaton_in s) C left at ≡ blocks_place rule (automaton_in s) C

-- one of the refutations is refused, or none is: then none is left
pub record RefutationsJudged (rule : FileRule) (s C : List ℕ) (n : ℕ) (rows : List ℕ) (r : Result Cursor Fault) : Type 0 where
  pub stops : IfErr r (λ (f : Fault). JudgesFile rule s C n (Err f))
  pub passes : IfOk r (λ (next : Cursor). Refuting rule s C n rows 0 next.at)

module _ (rule : FileRule) (A : Automaton) (C : List ℕ) (R : Pairs) where
  some_left : (left at : ℕ) → 0 < left → judge_refutations limits rule A C left R at ≡ refuse_record_at (refutation_fault rule A C R at) at (judge_refutations limits rule A C (left - 1) (pairs_after A C R at) (after_refutation rule A C at))
  unfolding judge_refutations
  some_left zero at some = absurd (omega arith)
  some_left (suc left) at some =
      let one : left ≡ suc left - 1 = omega arith in
      ap (λ (m : ℕ). refuse_record_at (refutation_fault rule A C R at) at (judge_refutations limits rule A C m (pairs_after A C R at) (after_refutation rule A C at))) one

  none_left : (left at : ℕ) → left ≤ 0 → judge_refutations limits rule A C left R at ≡ judge_blocks limits rule A C R at
  unfolding judge_refutations
  none_left zero at none = refl
  none_left (suc left) at none = absurd (omega arith)

module _ (rule : FileRule) (A : Automaton) (C : List ℕ) where
  after-some : (left at : ℕ) → 0 < left → after_refutations rule A C left at ≡ after_refutations rule A C (left - 1) (after_refutation rule A C at)
  unfolding after_refutations
  after-some zero at some = absurd (omega arith)
  after-some (suc left) at some =
      let one : left ≡ suc left - 1 = omega arith in
      ap (λ (m : ℕ). after_refutations rule A C m (after_refutation rule A C at)) one

  after_none : (left at : ℕ) → left ≤ 0 → after_refutations rule A C left at ≡ at
  unfolding after_refutations
  after_none zero at none = refl
  after_none (suc left) at none = absurd (omega arith)

module _ (rule : FileRule) (s C : List ℕ) (n : ℕ) where
  -- the head
  pub head-stops : {T : Type 0} {f : Fault} → Placed {T = T} (certificate_head_fault limits rule C) 0 (Err f) → JudgesFile rule s C n (Err f)
  unfolding judge_certificate
  head-stops {f = f} p = judges (Err f) (record-refused f _ p.is p.at) (omega (arith, p.at))

  pub refuting-start : {T : Type 0} {v : T} {rows : List ℕ} {left at : ℕ} → Placed (certificate_head_fault limits rule C) 0 (Ok v) → left ≡ refutation_count C → at ≡ 4 → HoldsPairs n (equal_labels (automaton_in s)) rows → Refuting rule s C n rows left at
  unfolding judge_certificate blocks_place
  refuting-start {left = left} {at = at} p many place held =
      record {
        pairs = equal_labels (automaton_in s);
        held = held;
        judged =
            ap₂ (λ (m k : ℕ). judge_refutations limits rule (automaton_in s) C m (equal_labels (automaton_in s)) k) many place
            ∙ record-passes 0 p.is refl refl;
        inside = omega (arith, place, head-whole rule C p.is);
        ends = ap₂ (after_refutations rule (automaton_in s) C) many place;
      }

  module _ {rows : List ℕ} {left at : ℕ} (going : Refuting rule s C n rows left at) where
    module _ (some : 0 < left) {x y g : List ℤ} where
      -- a refutation that is refused
      pub refuting-stops : {f : Fault} → RefutationJudged rule s C n rows at x y g (Err f) → JudgesFile rule s C n (Err f)
      refuting-stops {f} j =
          judges (Err f)
          (record-refused f _ (j.is going.pairs going.held) j.place ∙ sym (some_left rule (automaton_in s) C going.pairs left at some) ∙ going.judged)
          (omega (arith, j.place, going.inside))

      -- one that is not, with so many left after it
      pub refuting-passes : {r : Refuted} → RefutationJudged rule s C n rows at x y g (Ok r) → n ≤ limits.states → {after : List ℕ} → after ≡ removed_rows r.source r.defender rows → (rest : ℕ) → left - 1 ≡ rest → Refuting rule s C n after rest r.next.at
      unfolding pairs_after
      refuting-passes {r} j few {after} e rest one =
          let p = j.refutes in
          subst (λ (k : ℕ). Refuting rule s C n after k r.next.at) one
          (record {
            pairs = removed r.source r.defender going.pairs;
            held = holds-removed going.held r.source r.defender e (omega (arith, p.first, few)) (omega (arith, p.second, few));
            judged =
                ap₂ (λ (v u : ℕ). judged-from v u r.next.at) p.source p.defender
                ∙ ap (judged-from ((automaton_in s).source (challenger_at C at)) (defender_at C at)) p.next
                ∙ record-passes at (j.is going.pairs going.held) refl refl
                ∙ sym (some_left rule (automaton_in s) C going.pairs left at some)
                ∙ going.judged;
            inside = p.inside;
            ends = ap (after_refutations rule (automaton_in s) C (left - 1)) p.next ∙ sym (after-some rule (automaton_in s) C left at some) ∙ going.ends;
          })
        where
          judged-from : (v u place : ℕ) → Judgement
          judged-from v u place = judge_refutations limits rule (automaton_in s) C (left - 1) (removed v u going.pairs) place

    -- after the last one
    pub refuting-ends : left ≤ 0 → {r : Result ℕ Fault} → JudgesBlocks rule s C n rows at r → JudgesFile rule s C n r
    refuting-ends none {r} b =
        judges r (b.answer going.pairs going.held ∙ sym (none_left rule (automaton_in s) C going.pairs left at none) ∙ going.judged)
        (subst (λ (place : ℕ). InFile C n (place + 2) r) (sym (after_none rule (automaton_in s) C left at none) ∙ going.ends) b.inside)

-- so many are left, from a place on, by other names
pub refuting-as : {rule : FileRule} {s C : List ℕ} {n : ℕ} {rows : List ℕ} {left first : ℕ} → Refuting rule s C n rows left first → (rest at : ℕ) → left ≡ rest → first ≡ at → Refuting rule s C n rows rest at
refuting-as {rule} {s} {C} {n} {rows} going rest at e f = rw (sym e, sym f) going
