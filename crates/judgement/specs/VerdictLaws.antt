-- What the cases of a verdict come to, as the outcome of a pair.
use Rattle.std.specs.Prelude.{ℕ, ◌+◌, ◌-◌, ◌≤◌, ◌<◌, ◌≡◌, length, take, drop, Result, Ok, Err}
use Rattle.std.proofs.Common.{sym, ◌∙◌, subst, length-drop, length-take-le, arith}
use Rattle.std.proofs.Math.Path.{ap}
use mathlib.Core.List.{List, [], ◌∷◌}
use Rattle.std.proofs.Math.Nat.{add-sub_cancel_left}
use Rattle.std.proofs.Math.Decide.{dec_lt}
use Rattle.rules.specs.definitions.Limits.{limits}
use Rattle.rules.specs.definitions.Model.{automaton_of}
use Rattle.rules.specs.definitions.Reading.{Reading, model_at, head_fault, no_model}
use Rattle.rules.specs.definitions.Judging.{judge_certificate, judge_reading, judge}
use Rattle.rules.specs.definitions.Answers as rules
use Rattle.rules.specs.definitions.Faults as rules-faults
use Rattle.rules.specs.definitions.Answers.{Outcome, refusal_in, answer_without_place, file_of, unwritten, Follows, first_lent}
use Rattle.rules.specs.definitions.Demands.{outcome_by}
use Rattle.rules.specs.definitions.CertificateAt.{blocks_place}
use Rattle.rules.proofs.argument.JudgingLaws.{certificate-terms}
use Rattle.limits.specs.TermsBy.{terms_of, limits_by}
use Rattle.limits.specs.declared.Terms.{Terms}
use Rattle.rules.proofs.argument.PairOutcome.{outcome-refused, outcome-short, outcome-unaccepted, outcome-accepted}
use Rattle.fault.specs.Faults.{fault_of, Placed}
use Rattle.fault.specs.FaultsLaws.{refuses}
use Rattle.fault.specs.declared.Fault.{Fault}
use Rattle.transition.specs.Known.{automaton_in, Known}
use Rattle.transition.specs.KnownLaws.{known-states, few-states}
use Rattle.flows.specs.FlowsJudged.{Judges}
use Rattle.answer.specs.declared.Answer.{Answer}
use Rattle.answer.specs.Answered.{Says}
use Rattle.answer.specs.AnsweredLaws.{gives-unwritten, without-stretch, with-stretch}
use Rattle.rule_kind.specs.Kinds.{pairs_by, rule_of}
use Rattle.rule_kind.specs.declared.Kind.{Kind}
use Rattle.judgement.specs.declared.Accepted.{Accepted}
use Rattle.judgement.specs.KindsRead.{head-by}
use Rattle.judgement.specs.Verdicts.{ReadsBy, HeadIs, AcceptedAt, RoomFor, RefusedAs, VerdictSays, judges_only, VerdictIs}

-- a verdict that refuses: whatever follows acceptance, and so where nothing does
refuses-only : {kind : Kind} {terms : Terms} {M C : List ℕ} {room : ℕ} {r : Answer} → RefusedAs kind terms M C room r → VerdictIs kind terms M C room (Err r)
refuses-only {M = M} {C} {room = room} {r} a =
    record {
      says = a;
      answers = λ before l. (a.refuses judges_only (before ∷ []) (λ N few. (λ h. omega (arith, h, l), λ h. omega (arith, h, l)))).gives.answer;
    }

-- a refusal has its fault's number
refusal-some : (f : Fault) (file size : ℕ) {r : Answer} → Says (refusal_in (fault_of f) file f.place size) 0 r → r.number ≡ 0 → ⊥
unfolding refusal_in
refusal-some f file size s z = refuses f.refusal (sym (ap (λ (a : rules.Answer). a.number) s.answer) ∙ z)

-- the model is refused
pub refused_as : (kind : Kind) (terms : Terms) (M C : List ℕ) (room : ℕ) (f : Fault) {r : Answer} → (pairs_by kind terms).read M ≡ no_model (fault_of f) f.place → f.place ≤ length M → Says (refusal_in (fault_of f) 1 f.place (length M)) 0 r → VerdictIs kind terms M C room (Err r)
unfolding file_of
refused_as kind terms M C room f q h e =
    refuses-only
    (record {
      some = refusal-some f 1 _ e;
      refuses = λ follows before fit. with-stretch (M ∷ C ∷ []) before (fault_of f) 1 f.place e (outcome-refused _ _ _ follows M C before (fault_of f) f.place q) (omega arith) h;
    })

pub labels-are : {M table : List ℕ} {n count : ℕ} → Known M n count table → length (model_at M).labels ≡ n
unfolding automaton_of
labels-are k = known-states k

labels-few : {M table : List ℕ} {n count : ℕ} → Known M n count table → length (model_at M).labels ≤ limits.states
labels-few k = omega (arith, labels-are k, few-states k)

-- 10
pub short-as : (kind : Kind) (terms : Terms) (M C : List ℕ) (room : ℕ) {table : List ℕ} {n count : ℕ} {r : Answer} → Known M n count table → ReadsBy kind terms M → room < n → Says (answer_without_place 10) 0 r → VerdictIs kind terms M C room (Err r)
unfolding answer_without_place
short-as kind terms M C room k m h e =
    refuses-only
    (record {
      some = λ z. omega (arith, ap (λ (a : rules.Answer). a.number) e.answer, z);
      refuses = λ follows before fit.
          without-stretch 10 e.answer (gives-unwritten before _ e (outcome-short _ _ _ follows M C before m.reads ((fit (model_at M) (labels-few k)).1 (omega (arith, labels-are k, h)))));
    })

-- what a judge's answer is for a sound model
abbrev pub Judgment : Kind → List ℕ → List ℕ → ℕ → Result ℕ Fault → Type 0
Judgment kind M C n = Judges C n (blocks_place (rule_of kind M) (automaton_in M) C + 2) (judge_certificate limits (rule_of kind M) (automaton_in M) C)

-- the terms are nothing to it
limits-by : (kind : Kind) (terms : Terms) (M C : List ℕ) → judge_certificate limits (rule_of kind M) (automaton_in M) C ≡ judge_certificate (limits_by terms) (rule_of kind M) (automaton_in M) C
limits-by kind terms M C = sym (certificate-terms (terms_of terms) limits (rule_of kind M) (automaton_in M) C)

-- room for the blocks, whatever follows
pub enough : {M table : List ℕ} {n count room : ℕ} (follows : Follows) (before : List (List ℕ)) → Known M n count table → RoomFor follows before room → n ≤ room → follows.block_room (model_at M) ≤ length (first_lent before)
enough {M} {room = room} follows before k fit h = go (dec_lt (length (first_lent before)) (follows.block_room (model_at M)))
  where
    go : Dec (length (first_lent before) < follows.block_room (model_at M)) → follows.block_room (model_at M) ≤ length (first_lent before)
    go (yes l) = absurd (omega (arith, (fit (model_at M) (labels-few k)).0 l, labels-are k, h))
    go (no l) = omega arith

-- the certificate is refused
pub unaccepted-as : (kind : Kind) (terms : Terms) (M C : List ℕ) (room : ℕ) {table : List ℕ} {n count : ℕ} {j : Result ℕ Fault} (f : Fault) {r : Answer} → Known M n count table → ReadsBy kind terms M → j ≡ Err f → Judgment kind M C n j → n ≤ room → Says (refusal_in (fault_of f) 2 f.place (length C)) 0 r → VerdictIs kind terms M C room (Err r)
unfolding file_of
unaccepted-as kind terms M C room {n = n} f k m e g h a =
    let told = subst (Judgment kind M C n) e g in
    refuses-only
    (record {
      some = refusal-some f 2 _ a;
      refuses = λ follows before fit.
          with-stretch (M ∷ C ∷ []) before (fault_of f) 2 f.place a
          (outcome-unaccepted _ _ _ follows M C before m.reads (fault_of f) f.place (enough follows before k fit h) (told.answer ∙ limits-by kind terms M C)) (omega arith) told.inside;
    })

-- its place lies in the certificate
pub unaccepted-inside : (kind : Kind) (M C : List ℕ) {n : ℕ} {j : Result ℕ Fault} (f : Fault) → j ≡ Err f → Judgment kind M C n j → f.place ≤ length C
unaccepted-inside kind M C {n} f e g = (subst (Judgment kind M C n) e g).inside

-- it is accepted
pub accepted-as : (kind : Kind) (terms : Terms) (M C : List ℕ) (room : ℕ) {table : List ℕ} {n count at : ℕ} {j : Result ℕ Fault} → Known M n count table → ReadsBy kind terms M → j ≡ Ok at → Judgment kind M C n j → n ≤ room → VerdictIs kind terms M C room (Ok (record { states = n; transitions = count; blocks = at }))
unfolding judge judge_reading unwritten
accepted-as kind terms M C room {n = n} {at = at} k m e g h =
    let given = subst (Judgment kind M C n) e g in
    record {
      says =
          record {
            known = record { table = _; known = k };
            model = m;
            judged = record { answers = ap (λ (x : Reading). judge_reading (limits_by terms) (rule_of kind M) x C) m.reads ∙ sym (given.answer ∙ limits-by kind terms M C) };
            stands = given.inside.0;
            inside = given.inside.1;
            fits = h;
          };
      answers = λ before l. ap (λ (o : Outcome). o.answer) (outcome-accepted _ _ _ judges_only M C (before ∷ []) m.reads (take n (drop at C)) (omega (arith, labels-are k, h, l)) (given.answer ∙ limits-by kind terms M C));
    }

-- the head is refused, or good
pub head-refused : (M : List ℕ) (f : Fault) → Placed {T = Unit {0}} (head_fault limits M) 0 (Err f) → {r : Answer} → Says (refusal_in (fault_of f) 1 f.place (length M)) 0 r → HeadIs M (Err r)
head-refused M f p e =
    record { good = tt; refused = λ kind terms C room. let told = head-by terms M f kind p in (refused_as kind terms M C room f told.0 told.1 e).says }

pub head-good : (M : List ℕ) {u v : Unit {0}} → Placed {T = Unit {0}} (head_fault limits M) 0 (Ok u) → HeadIs M (Ok v)
head-good M p = record { good = ap (λ (x : rules-faults.Fault). x.number) (sym p.is); refused = tt }

-- what a verdict says in its two cases
module _ {kind : Kind} {terms : Terms} {M C : List ℕ} {room : ℕ} {r : Result Accepted Answer} (v : VerdictIs kind terms M C room r) where
  pub found-accepted : {a : Accepted} → r ≡ Ok a → AcceptedAt kind terms M C room a.states a.transitions a.blocks
  found-accepted e = subst (VerdictSays kind terms M C room) e v.says

  pub found-refused : {a : Answer} → r ≡ Err a → RefusedAs kind terms M C room a
  found-refused e = subst (VerdictSays kind terms M C room) e v.says

-- accepted blocks, as the part of the certificate that holds them
module _ {kind : Kind} {terms : Terms} {M C : List ℕ} {room n count at : ℕ} (a : AcceptedAt kind terms M C room n count at) where
  pub part-is : take (at + n - at) (drop at C) ≡ take n (drop at C)
  part-is = ap (λ (x : ℕ). take x (drop at C)) (add-sub_cancel_left at n)

  pub part-size : length (take (at + n - at) (drop at C)) ≡ n
  part-size = ap length part-is ∙ length-take-le n (drop at C) (omega (arith, a.inside, length-drop at C))

  -- what follows them is the outcome
  pub part-follows : (follows : Follows) (before : List (List ℕ)) → RoomFor follows before room → follows.outcome (model_at M) (take (at + n - at) (drop at C)) before ≡ outcome_by (pairs_by kind terms) follows M C before
  unfolding judge judge_reading
  part-follows follows before fit =
      ap (λ (l : List ℕ). follows.outcome (model_at M) l before) part-is
      ∙ outcome-accepted _ _ _ follows M C before a.model.reads (take n (drop at C)) (enough follows before a.known.known fit a.fits)
      (sym a.judged.answers ∙ ap (λ (x : Reading). judge_reading (limits_by terms) (rule_of kind M) x C) a.model.reads)
